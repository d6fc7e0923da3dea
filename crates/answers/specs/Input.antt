-- Lines answered one after the other.
use Rattle.std.specs.Prelude.{ℕ, List, [], ◌∷◌}

-- From s on all texts, the newest first, were answered, one after the other, and t is who has answered them.
pub data AnswersAll {S : Type 0} (Answers : S → List ℕ → S → Type 0) (s : S) : List (List ℕ) → S → Type 0 where
  none : AnswersAll Answers s [] s
  more : {t u : S} {texts : List (List ℕ)} (text : List ℕ) → AnswersAll Answers s texts t → Answers t text u → AnswersAll Answers s (text ∷ texts) u

-- Nothing came between s and t but texts that were answered.
abbrev pub OnlyAnswers : {S : Type 0} → (S → List ℕ → S → Type 0) → S → S → Type 0
OnlyAnswers Answers s t = (texts : List (List ℕ)) × AnswersAll Answers s texts t
