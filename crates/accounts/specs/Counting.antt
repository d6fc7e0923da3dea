-- How time is counted.
use Rattle.std.specs.Prelude.{ℕ, zero, suc, ◌+◌, ◌*◌, Bool, false, cond, ◌&&◌, Some, None, Option, nat_le, nat_lt}
use Rattle.rules.specs.declared.quote.Quote.{Quote}
use Rattle.rules.specs.declared.terms.Terms.{Terms}
use Rattle.rules.specs.declared.month_figures.MonthFigures.{MonthFigures}
use Rattle.accounts.specs.declared.day_figures.DayFigures.{DayFigures}
use Rattle.accounts.specs.Settings.{Setting, obliged}

-- A quote rule, by which quotes meet which terms.
abbrev pub Rule : Type 0
Rule = Quote → Terms → Bool

-- How many milliseconds t, t < n, pass the test.
abbrev pub count : (ℕ → Bool) → ℕ → ℕ
count p zero = 0
count p (suc n) = count p n + cond (p n) 1 0

abbrev pub no_time : DayFigures
no_time = record { obliged = 0; qualified = 0 }

abbrev pub added : DayFigures → DayFigures → DayFigures
added x y = record { obliged = x.obliged + y.obliged; qualified = x.qualified + y.qualified }

module _ (rule : Rule) where
  abbrev pub stands : Terms → Option Quote → Bool
  stands t None = false
  stands t (Some q) = rule q t

  -- An account qualifies while it is obliged and its standing quote meets its terms.
  abbrev pub qualified : Terms → Setting → Bool
  qualified t s = obliged s && stands t s.quote

  -- Both times, each counted by f.
  abbrev pub tally : ((Setting → Bool) → ℕ) → Terms → DayFigures
  tally f t = record { obliged = f obliged; qualified = f (qualified t) }

  -- d milliseconds more under one setting.
  abbrev pub spent : ℕ → Terms → Setting → DayFigures → DayFigures
  spent d t s x = added x (tally (λ test. cond (test s) d 0) t)

-- A day is kept where there was obliged time and the qualified time reaches the threshold's share of it.
abbrev pub kept_day : Terms → DayFigures → Bool
kept_day t x = nat_lt 0 x.obliged && nat_le (t.threshold * x.obliged) (x.qualified * 10_000)

abbrev pub no_month : MonthFigures
no_month = record { obliged = 0; qualified = 0; days = 0; kept_days = 0 }

-- A month with one closed day more.
abbrev pub month_with : Terms → DayFigures → MonthFigures → MonthFigures
month_with t x m = record {
  obliged = m.obliged + x.obliged;
  qualified = m.qualified + x.qualified;
  days = m.days + 1;
  kept_days = m.kept_days + cond (kept_day t x) 1 0;
}
