-- Just n numbers, read one word at a time.
use Rattle.std.proofs.Common.{◌≡◌, ℕ, ◌<◌, List, [], ◌∷◌, ◌++◌, length, drop, Some, None, Option, MatchOption, sym, refl, ap, ◌∙◌, append_assoc, append-nil, arith, length-append}
use Rattle.std.specs.Option.{option_map, option_and_then}
use Rattle.std.proofs.lemmas.Bool.{ne_eqb, eq-eqb, cond-true, cond-false}
use Rattle.lines.specs.Numbers.{number_of, before, numbers_of, exactly}
use Rattle.lines.specs.Words.{first}

-- Numbers read so far, then those of the words that are left.
abbrev pub then_read : List ℕ → Option (List ℕ) → Option (List ℕ)
then_read ns None = None
then_read ns (Some ms) = Some (ns ++ ms)

-- The number of the next word.
abbrev pub next_number : List (List ℕ) → Option ℕ
next_number ws = option_and_then number_of (first ws)

pub none_read : (rest : Option (List ℕ)) → rest ≡ then_read [] rest
none_read None = refl
none_read (Some ms) = refl

other_length : (n : ℕ) (ns : List ℕ) → (length ns ≡ n → ⊥) → exactly n (Some ns) ≡ None
other_length n ns differs = cond-false _ (Some ns) None (ne_eqb (length ns) n differs)

-- what `and_then` gave of the next word is its number
pub is_next : {A : Type 0} (word : A → List ℕ) (r : Option A) (o : Option ℕ) (ws : List (List ℕ)) → option_map word r ≡ first ws → MatchOption r (o ≡ None) (λ x. o ≡ number_of (word x)) → o ≡ next_number ws
is_next word None o ws is read = read ∙ ap (option_and_then number_of) is
is_next word (Some x) o ws is read = read ∙ ap (option_and_then number_of) is

push_read : (ns : List ℕ) (x : ℕ) (rest : Option (List ℕ)) → then_read ns (before (Some x) rest) ≡ then_read (ns ++ x ∷ []) rest
push_read ns x None = refl
push_read ns x (Some ms) = ap Some (sym (append_assoc ns (x ∷ []) ms))

pub one_more : (ns ms : List ℕ) (ws vs : List (List ℕ)) (x : ℕ) → next_number ws ≡ Some x → vs ≡ drop 1 ws → ms ≡ ns ++ x ∷ [] → then_read ns (numbers_of ws) ≡ then_read ms (numbers_of vs)
one_more ns ms [] vs x is behind more = let z : ◌≡◌ {A = ℕ} 0 1 = cc in absurd (omega arith)
one_more ns ms (w ∷ ws) vs x is behind more =
    rw (behind, more) (ap (λ (o : Option ℕ). then_read ns (before o (numbers_of ws))) is ∙ push_read ns x (numbers_of ws))

pub no_number : (n : ℕ) (ns : List ℕ) (ws : List (List ℕ)) → length ns < n → next_number ws ≡ None → exactly n (then_read ns (numbers_of ws)) ≡ None
no_number n ns [] few is = ap (exactly n) (ap Some (append-nil ns)) ∙ other_length n ns (λ e. omega (arith, e))
no_number n ns (w ∷ ws) few is = ap (λ (o : Option ℕ). exactly n (then_read ns (before o (numbers_of ws)))) is

-- no word is left: the numbers so far are all
pub all_read : (n : ℕ) (ns : List ℕ) (ws : List (List ℕ)) → length ns ≡ n → None ≡ first ws → exactly n (then_read ns (numbers_of ws)) ≡ Some ns
all_read n ns [] same none = ap (exactly n) (ap Some (append-nil ns)) ∙ cond-true _ (Some ns) None (eq-eqb (length ns) n same)
all_read n ns (w ∷ ws) same none = let z : ◌≡◌ {A = ℕ} 0 1 = cc in absurd (omega arith)

-- a word is left
more_than : (n : ℕ) (ns : List ℕ) (x : Option ℕ) (rest : Option (List ℕ)) → length ns ≡ n → exactly n (then_read ns (before x rest)) ≡ None
more_than n ns None rest same = refl
more_than n ns (Some x) None same = refl
more_than n ns (Some x) (Some ms) same = other_length n (ns ++ (x ∷ ms)) (λ e. omega (arith, e, same, length-append ns (x ∷ ms)))

pub too_many : (n : ℕ) (ns : List ℕ) (ws : List (List ℕ)) (w : List ℕ) → length ns ≡ n → Some w ≡ first ws → exactly n (then_read ns (numbers_of ws)) ≡ None
too_many n ns [] w same some = let z : ◌≡◌ {A = ℕ} 0 1 = cc in absurd (omega arith)
too_many n ns (v ∷ ws) w same some = more_than n ns (number_of v) (numbers_of ws) same
