-- Lemmas on what a line asks.
use Rattle.std.proofs.Common.{◌≡◌, ℕ, false, eqb, List, [], ◌∷◌, length, get_or, drop, Some, None, Ok, Err, Option, Result, sym, refl, ap, ◌∙◌, ⊎_elim, arith}
use Rattle.std.proofs.lemmas.Slice.Eq.{bytes_eq-Decides}
use Rattle.std.proofs.lemmas.Bool.{cases_Bool, or_from, ne_eqb, cond-false}
use Rattle.std.specs.Result.{result_map_both}
use Rattle.std.specs.Str.{bytes_eq}
use Rattle.lines.specs.declared.unreadable.Unreadable.{Unreadable}
use Rattle.lines.specs.Asked.{asked_of}
use Rattle.lines.specs.Unreadables.{unreadable}
use Rattle.lines.specs.Words.{silent, words, first}
use Rattle.desk.specs.Requests.{asked_by}
use Rattle.desk.specs.declared.request.Request.{Request}

pub not_same : (w k : List ℕ) → (w ≡ k → ⊥) → bytes_eq w k ≡ false
not_same w k differs = ⊎_elim (λ t. absurd (differs ((bytes_eq-Decides w k).0 t))) (λ f. f) (cases_Bool (bytes_eq w k))

-- the first word decides, with the words that are left then
pub first_asked : (ws rest : List (List ℕ)) (word : List ℕ) → Some word ≡ first ws → rest ≡ drop 1 ws → asked_by (word ∷ rest) ≡ asked_by ws
first_asked [] rest word some behind = let z : ◌≡◌ {A = ℕ} 0 1 = cc in absurd (omega arith)
first_asked (w ∷ ws) rest word some behind =
    let same : word ≡ w = cc in
    ap (λ (x : List ℕ). asked_by (x ∷ rest)) same ∙ ap (λ (xs : List (List ℕ)). asked_by (w ∷ xs)) behind

pub none_asked : (ws : List (List ℕ)) → None ≡ first ws → Err unreadable ≡ asked_by ws
none_asked [] none = refl
none_asked (w ∷ ws) none = let z : ◌≡◌ {A = ℕ} 0 1 = cc in absurd (omega arith)

-- a line that is neither empty nor a comment
pub spoken : (line : List ℕ) → eqb (length line) 0 ≡ false → (get_or line 0 0 ≡ 35 → ⊥) → result_map_both Some (λ e. e) (asked_by (words line)) ≡ asked_of asked_by line
spoken line some plain =
    let read : Result (Option Request) Unreadable = result_map_both Some (λ e. e) (asked_by (words line)) in
    sym (cond-false (silent line) (Ok None) read (or_from _ _ some (ne_eqb (get_or line 0 0) 35 plain)))
