-- A line with the text of what came of it.
use Rattle.std.specs.Prelude.{ℕ, List, ◌++◌, codes}

abbrev pub answer_text : List ℕ → List ℕ → List ℕ
answer_text line reply = line ++ (codes " => " ++ reply)
