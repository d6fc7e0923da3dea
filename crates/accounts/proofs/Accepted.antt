-- What an acceptance says of the conditions.
use Rattle.std.proofs.Common.{◌≡◌, ℕ, ◌≤◌, true, false, List, arith}
use Rattle.std.proofs.lemmas.Grind.{common_steps}
use Rattle.accounts.specs.declared.account.Account.{Account}
use Rattle.calls.specs.declared.account_key.AccountKey.{AccountKey}
use Rattle.calls.specs.declared.call.Call.{Call}
use Rattle.calls.specs.Answers.{Answer, accepted, first_of}
use Rattle.calls.specs.Calls.{call_in_range, value_refusal, field_refusal}
use Rattle.accounts.specs.States.{Frame, State}
use Rattle.accounts.specs.Refusals.{between_days, within_day, day_refusal, enrolled, room_refusal, table_refusal, month_refusal, refusal}

-- No place has anything against an accepted call.
pub record Unopposed (s : State) (c : Call) : Type 0 where
  pub in_range : call_in_range c ≡ true
  pub values : value_refusal c ≡ accepted
  pub day : day_refusal s.frame c ≡ accepted
  pub table : table_refusal s.accounts c ≡ accepted
  pub month : month_refusal s.frame s.accounts c ≡ accepted

four_accepted : (w x y z : Answer) → first_of w (first_of x (first_of y z)) ≡ accepted → (w ≡ accepted) × (x ≡ accepted) × (y ≡ accepted) × (z ≡ accepted)
four_accepted w x y z e = (grind (arith, common_steps), grind (arith, common_steps), grind (arith, common_steps), grind (arith, common_steps))

pub unopposed : (s : State) (c : Call) → refusal s c ≡ accepted → Unopposed s c
unopposed s c e =
    let h = four_accepted (field_refusal c) (day_refusal s.frame c) (table_refusal s.accounts c) (month_refusal s.frame s.accounts c) e in
    record { in_range = in_range c h.0; values = values c h.0; day = h.1; table = h.2; month = h.3 }
  where
    in_range : (c : Call) → field_refusal c ≡ accepted → call_in_range c ≡ true
    in_range c e = grind (arith, common_steps)

    values : (c : Call) → field_refusal c ≡ accepted → value_refusal c ≡ accepted
    values c e = grind (arith, common_steps)

-- A stamp within the open day.
pub in_day : (f : Frame) (n : ℕ) → within_day f n ≡ accepted → (f.day_open ≡ true) × (f.clock ≤ n)
in_day f n e = (grind (arith, common_steps), grind (arith, common_steps))

pub shut : (f : Frame) → between_days f ≡ accepted → f.day_open ≡ false
shut f e = grind (arith, common_steps)

-- The key of an accepted enrolment is free.
pub free : (accounts : List Account) (k : AccountKey) → room_refusal accounts k ≡ accepted → enrolled k accounts ≡ false
free accounts k e = grind (arith, common_steps)
