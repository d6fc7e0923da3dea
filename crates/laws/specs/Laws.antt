-- The laws over two runs.
use Rattle.std.specs.Prelude.{◌≡◌}
use Rattle.laws.specs.Runs.{Outcome}
use Rattle.laws.specs.Tighter.{TighterNeverCosts}
use Rattle.laws.specs.Exchange.{OrderNeverMatters}
use Rattle.laws.specs.Milliseconds.{MillisecondsTell}

-- Meters are made alike where their rules mean the same.
pub record LawsHold (one two : Outcome) : Type 0 where
  pub tighter : one.meets ≡ two.meets → one.judge ≡ two.judge →
      TighterNeverCosts one.better one.judge one.calls two.calls one.answers two.answers one.left two.left
  pub order : one.meets ≡ two.meets → one.judge ≡ two.judge →
      OrderNeverMatters one.judge one.calls two.calls one.answers two.answers one.left two.left
  pub first_time : MillisecondsTell one.meets one.judge one.calls one.answers one.left
  pub second_time : MillisecondsTell two.meets two.judge two.calls two.answers two.left
