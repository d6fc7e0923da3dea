-- Lists of any kind.
use Rattle.std.specs.Prelude.{Bool, cond, List, [], ◌∷◌}
pub use Rattle.std.specs.Prelude.{find}

-- The list without the first element that passes the test; those behind it move up.
abbrev pub without : {A : Type 0} → (A → Bool) → List A → List A
without p [] = []
without p (x ∷ xs) = cond (p x) xs (x ∷ without p xs)
