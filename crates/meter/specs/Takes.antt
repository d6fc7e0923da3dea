-- What one call does to a meter.
use Rattle.std.specs.Prelude.{◌≡◌, true, is_err}
use Rattle.calls.specs.declared.call.Call.{Call}
use Rattle.calls.specs.Answers.{Answer}
use Rattle.accounts.specs.States.{State}
use Rattle.accounts.specs.Refusals.{refusal}
use Rattle.accounts.specs.Counting.{Rule}
use Rattle.accounts.specs.Steps.{step}
use Rattle.book.specs.View.{view}
use Rattle.meter.specs.declared.meter.Meter.{Meter}

-- Of a meter at s the call has the answer r, and leaves it at t.
pub record Took (rule : Rule) (s : State) (c : Call) (r : Answer) (t : State) : Type 0 where
  pub answer : r ≡ refusal s c
  pub left : t ≡ step rule s c

-- The meter m takes the call, answers r and is n then: its rulebook stays, and a refused call leaves all of it.
pub record Takes {Q M : Type 0} (rule : Rule) (m : Meter Q M) (c : Call) (r : Answer) (n : Meter Q M) : Type 0 where
  pub took : Took rule (view m.book) c r (view n.book)
  pub rulebook : n.rulebook ≡ m.rulebook
  pub refused : is_err r ≡ true → n ≡ m
