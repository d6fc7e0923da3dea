-- What a line asks: nothing where it is silent, and else what is read of its words.
use Rattle.std.specs.Prelude.{ℕ, cond, List, Some, None, Ok, Option, Result}
use Rattle.std.specs.Result.{result_map_both}
use Rattle.lines.specs.Words.{silent, words}
use Rattle.lines.specs.declared.unreadable.Unreadable.{Unreadable}

abbrev pub asked_of : {A : Type 0} → (List (List ℕ) → Result A Unreadable) → List ℕ → Result (Option A) Unreadable
asked_of read bs = cond (silent bs) (Ok None) (result_map_both Some (λ e. e) (read (words bs)))
