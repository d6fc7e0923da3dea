-- One call more of a list.
use Rattle.std.proofs.Common.{◌≡◌, ℕ, ◌+◌, ◌<◌, ◌≤◌, List, [], ◌∷◌, ◌++◌, length, get_or, drop, sym, ap, ◌∙◌}
use Rattle.std.proofs.lemmas.List.{drop_more, drop_all, append_assoc, append-nil}
use Rattle.calls.specs.declared.call.Call.{Call}
use Rattle.calls.specs.Answers.{Answer}
use Rattle.accounts.specs.States.{State}
use Rattle.accounts.specs.Refusals.{refusal}
use Rattle.accounts.specs.Counting.{Rule}
use Rattle.accounts.specs.Steps.{step, answers, run}

rest_is : (cs : List Call) (i : ℕ) (d : Call) → i < length cs → get_or cs i d ∷ drop (i + 1) cs ≡ drop i cs
rest_is cs i d lt = sym (drop_more cs i d lt)

module _ (rule : Rule) (s t : State) (cs : List Call) (i : ℕ) (d : Call) (lt : i < length cs) (moved : t ≡ step rule s (get_or cs i d)) where
  pub answers_more : (out more all : List Answer) (r : Answer) → r ≡ refusal s (get_or cs i d) → more ≡ out ++ r ∷ [] → out ++ answers rule s (drop i cs) ≡ all → more ++ answers rule t (drop (i + 1) cs) ≡ all
  answers_more out more all r told pushed was =
      ap (λ l. l ++ answers rule t (drop (i + 1) cs)) pushed
      ∙ append_assoc out (r ∷ []) (answers rule t (drop (i + 1) cs))
      ∙ ap (λ a. out ++ (a ∷ answers rule t (drop (i + 1) cs))) told
      ∙ ap (λ u. out ++ (refusal s (get_or cs i d) ∷ answers rule u (drop (i + 1) cs))) moved
      ∙ ap (λ l. out ++ answers rule s l) (rest_is cs i d lt)
      ∙ was

  pub run_more : (end : State) → run rule s (drop i cs) ≡ end → run rule t (drop (i + 1) cs) ≡ end
  run_more end was = ap (λ u. run rule u (drop (i + 1) cs)) moved ∙ ap (run rule s) (rest_is cs i d lt) ∙ was

pub answers_all : (rule : Rule) (s : State) (cs : List Call) (i : ℕ) (out all : List Answer) → length cs ≤ i → out ++ answers rule s (drop i cs) ≡ all → out ≡ all
answers_all rule s cs i out all le was = sym (ap (λ l. out ++ answers rule s l) (drop_all i cs le) ∙ append-nil out) ∙ was

pub run_all : (rule : Rule) (s end : State) (cs : List Call) (i : ℕ) → length cs ≤ i → run rule s (drop i cs) ≡ end → s ≡ end
run_all rule s end cs i le was = sym (ap (run rule s) (drop_all i cs le)) ∙ was
