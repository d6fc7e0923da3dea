-- The words of a line, and which lines ask nothing.
use Rattle.std.specs.Prelude.{◌≡◌, drop, ℕ, Bool, cond, ◌||◌, List, [], ◌∷◌, length, Some, None, Option, ◌==◌, slice_index}
use Rattle.std.specs.Option.{option_map}
use Rattle.std.specs.Borrow.{Bor}
use Rattle.lines.specs.declared.words.Words.{Words}

-- A silent line asks nothing: it is empty, or a comment, whose first byte is # (35).
abbrev pub silent : List ℕ → Bool
silent bs = length bs == 0 || slice_index bs 0 == 35

-- The pieces between single spaces (32).
abbrev pub onto : ℕ → List (List ℕ) → List (List ℕ)
onto c [] = (c ∷ []) ∷ []
onto c (w ∷ ws) = (c ∷ w) ∷ ws

abbrev pub words : List ℕ → List (List ℕ)
words [] = [] ∷ []
words (c ∷ cs) = cond (c == 32) ([] ∷ words cs) (onto c (words cs))

abbrev pub first : List (List ℕ) → Option (List ℕ)
first [] = None
first (w ∷ ws) = Some w

-- The words that are still to come.
abbrev pub of_rest : Option (Bor (List ℕ)) → List (List ℕ)
of_rest None = []
of_rest (Some rest) = words rest.now

abbrev pub words_left : Words → List (List ℕ)
words_left w = of_rest w.rest

-- What `next` gives: the first of the words that are left, which then are those behind it.
abbrev pub NextWord : Words → Option (Bor (List ℕ)) → Words → Type 0
NextWord w word v = (option_map (λ x. x.now) word ≡ first (words_left w)) × (words_left v ≡ drop 1 (words_left w))
