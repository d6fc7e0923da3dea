-- The Gregorian calendar.
use Rattle.std.specs.Prelude.{ℕ, ◌%◌, Bool, cond, not, ◌&&◌, ◌||◌, ◌==◌, nat_lt}
use Rattle.rules.specs.Ranges.{within}
use Rattle.calls.specs.declared.date.Date.{Date}

abbrev pub leap : ℕ → Bool
leap y = y % 4 == 0 && (not (y % 100 == 0) || y % 400 == 0)

abbrev pub month_length : ℕ → ℕ → ℕ
month_length y m = cond (m == 2) (cond (leap y) 29 28) (cond (m == 4 || (m == 6 || (m == 9 || m == 11))) 30 31)

abbrev pub is_date : Date → Bool
is_date d = within 1 9999 d.year && (within 1 12 d.month && within 1 (month_length d.year d.month) d.day)

-- d is later than e
abbrev pub later : Date → Date → Bool
later d e = nat_lt e.year d.year || (d.year == e.year && (nat_lt e.month d.month || (d.month == e.month && nat_lt e.day d.day)))

abbrev pub same_month : Date → Date → Bool
same_month d e = d.year == e.year && d.month == e.month
