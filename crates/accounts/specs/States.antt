-- A meter as plain data.
use Rattle.std.specs.Prelude.{ℕ, Bool, List, Option}
use Rattle.calls.specs.declared.date.Date.{Date}
use Rattle.accounts.specs.declared.account.Account.{Account}
use Rattle.accounts.specs.Settings.{Trading}

-- What a meter holds besides its accounts.
pub record Frame : Type 0 where
  pub trading : Trading
  pub day_open : Bool
  pub clock : ℕ
  pub last : Option Date
  pub closed : ℕ

-- A meter: its accounts stand in the order of their enrolment.
pub record State : Type 0 where
  pub frame : Frame
  pub accounts : List Account
