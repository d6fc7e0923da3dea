-- The rules of each exchange.
use Rattle.std.specs.Prelude.{ℕ, Bool}
use Rattle.rules.specs.declared.quote.Quote.{Quote}
use Rattle.rules.specs.declared.terms.Terms.{Terms}
use Rattle.rules.specs.declared.month_figures.MonthFigures.{MonthFigures}
use Rattle.rules.specs.declared.verdict.Verdict.{Verdict}
use Rattle.rules.specs.Vienna.{vienna_meets, vienna_better}
use Rattle.rules.specs.Zagreb.{zagreb_meets, zagreb_better}
use Rattle.rules.specs.Beta.{beta_meets, beta_better}
use Rattle.rules.specs.Months.{ratio_verdict, majority_verdict}
use Rattle.exchanges.specs.declared.exchange.Exchange.{Exchange}
use Rattle.exchanges.specs.declared.exchange.Exchange.TheVariants.{Vienna, Zagreb, Beta}

-- Which quotes meet which terms there.
abbrev pub meets_at : Exchange → Quote → Terms → Bool
meets_at Vienna = vienna_meets
meets_at Zagreb = zagreb_meets
meets_at Beta = beta_meets

-- Which quotes are better than which there.
abbrev pub better_at : Exchange → Quote → Quote → Bool
better_at Vienna = vienna_better
better_at Zagreb = zagreb_better
better_at Beta = beta_better

-- The verdict on a month there.
abbrev pub verdict_at : Exchange → MonthFigures → ℕ → Verdict
verdict_at Vienna = ratio_verdict
verdict_at Zagreb = ratio_verdict
verdict_at Beta = majority_verdict
