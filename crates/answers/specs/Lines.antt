-- What comes of a line that asks for one thing, or for nothing where it is silent.
use Rattle.std.specs.Prelude.{◌≡◌, Some, None, Ok, Err, Option, Result}
use Rattle.std.specs.Result.{result_map_both}
use Rattle.lines.specs.declared.unreadable.Unreadable.{Unreadable}
use Rattle.answers.specs.declared.fault.Fault.{Fault}
use Rattle.answers.specs.declared.fault.Fault.TheVariants as fault

-- Of a line that asks so, by what comes of one question; s was asked, r came of it, and t is who has answered. A line that
-- asks for nothing, or that cannot be read, changes nothing.
abbrev pub LineAnswered : {S Q A : Type 0} → (S → Q → Result A Fault → S → Type 0) → Result (Option Q) Unreadable → S → Result (Option A) Fault → S → Type 0
LineAnswered Answers (Err e) s r t = (r ≡ Err fault.Unreadable) × (t ≡ s)
LineAnswered Answers (Ok None) s r t = (r ≡ Ok None) × (t ≡ s)
LineAnswered {A = A} Answers (Ok (Some q)) s r t = (answer : Result A Fault) × Answers s q answer t × (r ≡ result_map_both Some (λ e. e) answer)
