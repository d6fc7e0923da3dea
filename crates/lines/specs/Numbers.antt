-- The numbers that words write.
use Rattle.std.specs.Prelude.{ℕ, ◌+◌, ◌-◌, ◌*◌, ◌^◌, cond, ◌&&◌, List, [], ◌∷◌, length, Some, None, Option, ◌==◌, nat_lt}
use Rattle.std.specs.Str.{all_ascii_digits}

-- The number that decimal digits (48 to 57) write after those of n.
abbrev pub value_after : ℕ → List ℕ → ℕ
value_after n [] = n
value_after n (c ∷ cs) = value_after (10 * n + (c - 48)) cs

-- The number of a word: digits alone, at least one, and below 2 ^ 32.
abbrev pub number_of : List ℕ → Option ℕ
number_of w = cond (nat_lt 0 (length w) && (all_ascii_digits w && nat_lt (value_after 0 w) (2 ^ 32))) (Some (value_after 0 w)) None

-- The numbers of all words, where each is one.
abbrev pub before : Option ℕ → Option (List ℕ) → Option (List ℕ)
before None ns = None
before (Some n) None = None
before (Some n) (Some ns) = Some (n ∷ ns)

abbrev pub numbers_of : List (List ℕ) → Option (List ℕ)
numbers_of [] = Some []
numbers_of (w ∷ ws) = before (number_of w) (numbers_of ws)

-- Just n numbers.
abbrev pub exactly : ℕ → Option (List ℕ) → Option (List ℕ)
exactly n None = None
exactly n (Some ns) = cond (length ns == n) (Some ns) None
