-- How the bounds of every account last from call to call.
use Rattle.std.proofs.Common.{◌≡◌, ℕ, suc, ◌+◌, ◌≤◌, Bool, List, map, take, drop, All, sym, ◌∙◌, arith}
use Rattle.std.specs.List.{remove, position_or_len}
use Rattle.std.proofs.lemmas.Grind.{common_steps}
use Rattle.std.proofs.lemmas.List.Elements.{All-same, All-map, All-weaker, All-append, All-take, All-drop}
use Rattle.accounts.specs.declared.account.Account.{Account}
use Rattle.calls.specs.declared.change.Change.{Change}
use Rattle.accounts.specs.Lists.{without}
use Rattle.accounts.specs.Settings.{Trading}
use Rattle.accounts.specs.Counting.{Rule}
use Rattle.accounts.specs.Accounts.{settled, touched, ended, account_turned}
use Rattle.accounts.specs.Bounds.{DayBounds, MonthBounds}
use Rattle.accounts.proofs.Positions.{without_first}

pub all_map : {X : Type 0} (P Q : X → Type 0) (f : X → X) → ((x : X) → P x → Q (f x)) → (xs ys : List X) → ys ≡ map f xs → All P xs → All Q ys
all_map P Q f one xs ys e all = All-same Q ys (map f xs) e (All-map Q f xs (All-weaker P (λ x. Q (f x)) one xs all))

pub all_without : {X : Type 0} (P : X → Type 0) (p : X → Bool) (xs ys : List X) → ys ≡ without p xs → All P xs → All P ys
all_without P p xs ys e all =
    let n = position_or_len p xs in
    All-same P ys (remove xs n) (e ∙ sym (without_first p xs)) (All-append P (take n xs) (drop (suc n) xs) (All-take P n xs all) (All-drop P (suc n) xs all))

module _ (rule : Rule) (m : Trading) (span clock to : ℕ) (e : clock + span ≡ to) where
  day_settled : (a : Account) → DayBounds clock a → DayBounds to (settled rule m span a)
  day_settled a h = (h.0, h.1, grind (arith, common_steps), grind (arith, common_steps))

  pub day_touched : (c : Change) (a : Account) → DayBounds clock a → DayBounds to (touched rule m span c a)
  day_touched c a h = day_settled a h

  pub day_ended : (a : Account) → DayBounds clock a → DayBounds 0 (ended rule m span a)
  day_ended a h = (h.0, h.1, omega arith, omega arith)

  pub month_ended : (closed : ℕ) → to ≤ 86_400_000 → (a : Account) → DayBounds clock a → MonthBounds closed a → MonthBounds (closed + 1) (ended rule m span a)
  month_ended closed small a day h =
      let d = day_settled a day in
      (omega (arith, h.0, d.2), omega (arith, h.1, d.3), grind (arith, common_steps), omega (arith, h.3))

pub month_turned : (closed : ℕ) (a : Account) → MonthBounds closed a → MonthBounds 0 (account_turned a)
month_turned closed a h = (omega arith, omega arith, omega arith, omega arith)
