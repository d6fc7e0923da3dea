-- The list without the first element that passes a test.
use Rattle.std.proofs.Common.{◌≡◌, ℕ, suc, ◌+◌, ◌≤◌, Bool, true, false, not, cond, List, [], ◌∷◌, length, Some, None, sym, refl, ap, ◌∙◌, arith}
use Rattle.std.proofs.lemmas.Bool.Decides.{nat_tests}
use Rattle.std.specs.List.{remove, position, position_or_len}
use Rattle.std.proofs.lemmas.List.{take_all, drop_all, append-nil}
use Rattle.accounts.specs.Lists.{without}

module _ {X : Type 0} (p : X → Bool) where
  pub without_first : (xs : List X) → remove xs (position_or_len p xs) ≡ without p xs
  without_first [] = refl
  without_first (x ∷ xs) = by_head (p x) (without_first xs) where
    by_head : (b : Bool) → remove xs (position_or_len p xs) ≡ without p xs → remove (x ∷ xs) (cond (not b) (1 + position_or_len p xs) 0) ≡ cond b xs (x ∷ without p xs)
    by_head true e = refl
    by_head false e = let k : 1 + position_or_len p xs ≡ suc (position_or_len p xs) = omega arith in rw k (ap (◌∷◌ x) e)

  pub without_at : (xs : List X) (k : ℕ) → Some k ≡ position p xs → remove xs k ≡ without p xs
  without_at xs k e = let h : position_or_len p xs ≡ k = grind (arith, nat_tests) in ap (remove xs) (sym h) ∙ without_first xs

  pub without_none : (xs : List X) → None ≡ position p xs → xs ≡ without p xs
  without_none xs e =
      let h : length xs ≤ position_or_len p xs = grind (arith, nat_tests) in
      sym (rw (take_all _ xs h, drop_all (suc (position_or_len p xs)) xs (omega arith)) (append-nil xs)) ∙ without_first xs
