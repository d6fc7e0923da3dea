-- The end of a line.
use Rattle.std.specs.Prelude.{ℕ, cond, List, [], ◌∷◌, ◌==◌}

-- Without one carriage return (13) at the end.
abbrev pub without_return : List ℕ → List ℕ
without_return [] = []
without_return (c ∷ []) = cond (c == 13) [] (c ∷ [])
without_return (c ∷ d ∷ cs) = c ∷ without_return (d ∷ cs)
