-- Lemmas on the end of a line.
use Rattle.std.proofs.Common.{◌≡◌, ℕ, List, [], ◌∷◌, ◌++◌, Some, None, Option, MatchOption, Bor, unwrap_or, sym, refl, ap, ◌∙◌}
use Rattle.std.proofs.lemmas.Bool.{ne_eqb, cond-false}
use Rattle.lines.specs.Ends.{without_return}

return_stripped : (front : List ℕ) → without_return (front ++ (13 ∷ [])) ≡ front
return_stripped [] = refl
return_stripped (c ∷ []) = refl
return_stripped (c ∷ d ∷ cs) = ap (λ (bs : List ℕ). c ∷ bs) (return_stripped (d ∷ cs))

none_stripped : (line : List ℕ) → ((front : List ℕ) → line ≡ front ++ (13 ∷ []) → ⊥) → without_return line ≡ line
none_stripped [] absent = refl
none_stripped (c ∷ []) absent = cond-false _ [] (c ∷ []) (ne_eqb c 13 (λ e. absent [] (ap (λ (x : ℕ). x ∷ []) e)))
none_stripped (c ∷ d ∷ cs) absent = ap (λ (bs : List ℕ). c ∷ bs) (none_stripped (d ∷ cs) (λ front e. absent (c ∷ front) (ap (λ (bs : List ℕ). c ∷ bs) e)))

pub without_suffix : (line : Bor (List ℕ)) (r : Option (Bor (List ℕ))) → MatchOption r ((front : List ℕ) → line.now ≡ front ++ (13 ∷ []) → ⊥) (λ front. line.now ≡ front.now ++ (13 ∷ [])) → (unwrap_or r line).now ≡ without_return line.now
without_suffix line None absent = sym (none_stripped line.now absent)
without_suffix line (Some front) whole = sym (ap without_return whole ∙ return_stripped front.now)
