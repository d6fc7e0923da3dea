-- Lemmas on words and the numbers that they write.
use Rattle.std.proofs.Common.{◌≡◌, ℕ, suc, ◌^◌, ◌<◌, Bool, true, false, cond, ◌&&◌, eqb, ltb, List, [], ◌∷◌, ◌++◌, length, get_or, Some, None, Ok, Err, MatchBool, Result, sym, refl, ap, ◌∙◌, ⊎_elim, arith, lit<, Bor, rules}
use Rattle.std.proofs.lemmas.Str.Pattern.{IsSplitOnceResult, split_parts, starts_char}
use Rattle.std.proofs.lemmas.Bool.{both_ways, and_from, and_parts, lt-ltb, ltb-true, ne_eqb, cases_Bool, cond-true, cond-false}
use Rattle.std.proofs.lemmas.Str.Parse.{IsNumeralModel, numerals_by_fold}
use Rattle.std.specs.Str.Pattern.{FindsCharPrefix}
use Rattle.std.specs.Result.{OkIff, result_ok}
use Rattle.std.specs.Str.Iter.{LacksByte}
use Rattle.std.specs.Str.{IsCharBoundary, all_ascii_digits}
use Rattle.lines.specs.Numbers.{value_after, number_of}
use Rattle.lines.specs.Words.{onto, words}

-- A text with no space in it is one word, and one that a space follows is the first.
lacks_rest : (c : ℕ) (cs : List ℕ) → LacksByte 32 (c ∷ cs) → LacksByte 32 cs
lacks_rest c cs h = λ k below is. h (suc k) (omega arith) is

letter : (c : ℕ) (cs : List ℕ) (ws : List (List ℕ)) → LacksByte 32 (c ∷ cs) → cond (eqb c 32) ([] ∷ ws) (onto c ws) ≡ onto c ws
letter c cs ws h = cond-false _ _ _ (ne_eqb c 32 (h 0 (omega arith)))

one_word : (w : List ℕ) → LacksByte 32 w → words w ≡ w ∷ []
one_word [] h = refl
one_word (c ∷ cs) h = letter c cs _ h ∙ ap (onto c) (one_word cs (lacks_rest c cs h))

first_word : (w rest : List ℕ) → LacksByte 32 w → words (w ++ (32 ∷ rest)) ≡ w ∷ words rest
first_word [] rest h = refl
first_word (c ∷ cs) rest h = letter c cs _ h ∙ ap (onto c) (first_word cs rest (lacks_rest c cs h))

-- `split_once` at a space cuts the first word off; where it finds none, the text is one word.
pub cut_word : (bs : List ℕ) (word rest : Bor (List ℕ)) → IsSplitOnceResult 32 bs (Some (word, rest)) → words bs ≡ word.now ∷ words rest.now
cut_word bs word rest h =
    let parts = split_parts 32 bs (Some (word, rest)) h (lit< tt) in
    ap words parts.0 ∙ first_word word.now rest.now parts.1

pub last_word : (bs : List ℕ) → IsSplitOnceResult 32 bs None → words bs ≡ bs ∷ []
last_word bs h = one_word bs (split_parts 32 bs None h (lit< tt))

-- What `starts_with` says of the ASCII character b where it is false.
pub not_first : (b : ℕ) → b < 128 → 0 < b → (bs : List ℕ) (r : Bool) → MatchBool r ((n : ℕ) × FindsCharPrefix b bs (Some n) × IsCharBoundary bs n) (FindsCharPrefix b bs None) → r ≡ false → get_or bs 0 0 ≡ b → ⊥
not_first b ascii some bs r says left is = both_ways r left ((starts_char b bs r says ascii some).1 is)

-- What `parse` reads of a word with no sign.
pub decimal : IsNumeralModel (λ ds. all_ascii_digits ds ≡ true) (value_after 0)
decimal = numerals_by_fold _ (search rules) value_after (search rules)

pub number_read : {E : Type 0} (w : List ℕ) (r : Result ℕ E) → OkIff r ((all_ascii_digits w ≡ true) × (0 < length w) × (value_after 0 w < 2 ^ 32)) (value_after 0 w) → result_ok r ≡ number_of w
number_read w (Ok x) h =
    ap Some h.1 ∙ sym (cond-true _ (Some (value_after 0 w)) None (and_from _ _ (lt-ltb _ _ h.0.1) (and_from _ _ h.0.0 (lt-ltb _ _ h.0.2))))
number_read w (Err e) h =
    ⊎_elim
    (λ t. let p = and_parts (ltb 0 (length w)) (all_ascii_digits w && ltb (value_after 0 w) (2 ^ 32)) t in
    let q = and_parts (all_ascii_digits w) (ltb (value_after 0 w) (2 ^ 32)) p.1 in
    absurd (h (q.0, ltb-true _ _ p.0, ltb-true _ _ q.1)))
    (λ t. sym (cond-false _ (Some (value_after 0 w)) None t))
    (cases_Bool (ltb 0 (length w) && (all_ascii_digits w && ltb (value_after 0 w) (2 ^ 32))))
