-- What every account keeps, so that no figure overruns its type.
use Rattle.std.specs.Prelude.{ℕ, ◌*◌, ◌≤◌, Bool, true, false}
use Rattle.accounts.specs.declared.account.Account.{Account}

-- How far today's time can have come: to the clock of an open day.
abbrev pub reach : Bool → ℕ → ℕ
reach true clock = clock
reach false clock = 0

abbrev pub DayBounds : ℕ → Account → Type 0
DayBounds most a = (1 ≤ a.key.instrument) × (a.key.instrument ≤ 32) × (a.today.qualified ≤ a.today.obliged) × (a.today.obliged ≤ most)

abbrev pub MonthBounds : ℕ → Account → Type 0
MonthBounds closed a = (a.month.qualified ≤ a.month.obliged) × (a.month.obliged ≤ a.month.days * 86_400_000) × (a.month.kept_days ≤ a.month.days) × (a.month.days ≤ closed)
