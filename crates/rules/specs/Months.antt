-- The verdict of each month rule, and when one month is no worse than another.
use Rattle.std.specs.Prelude.{◌≡◌, ℕ, ◌*◌, ◌<◌, ◌≤◌, Bool, true, false, nat_le, nat_lt}
use Rattle.rules.specs.declared.month_figures.MonthFigures.{MonthFigures}
use Rattle.rules.specs.declared.verdict.Verdict.{Verdict}
use Rattle.rules.specs.declared.verdict.Verdict.TheVariants.{Kept, Breach}

abbrev pub kept_when : Bool → Verdict
kept_when true = Kept
kept_when false = Breach

-- Ratio: the qualified time is at least the threshold's share, in basis points, of the obliged time.
abbrev pub ratio_verdict : MonthFigures → ℕ → Verdict
ratio_verdict f threshold = kept_when (nat_le (threshold * f.obliged) (f.qualified * 10_000))

-- Majority: more than half of the days were kept. The threshold is not read.
abbrev pub majority_verdict : MonthFigures → ℕ → Verdict
majority_verdict f threshold = kept_when (nat_lt f.days (2 * f.kept_days))

-- The same in plain order: a verdict is kept just where the rule's condition holds.
abbrev pub KeptJustWhere : Verdict → Type 0 → Type 0
KeptJustWhere Kept P = P
KeptJustWhere Breach P = P → ⊥

abbrev pub KeepsRatio : MonthFigures → ℕ → Type 0
KeepsRatio f threshold = threshold * f.obliged ≤ f.qualified * 10_000

abbrev pub KeepsMajority : MonthFigures → Type 0
KeepsMajority f = f.days < 2 * f.kept_days

-- g has the obliged time and the days of f, no less qualified time and no fewer kept days.
abbrev pub NoWorse : MonthFigures → MonthFigures → Type 0
NoWorse g f = (g.obliged ≡ f.obliged) × (g.days ≡ f.days) × (f.qualified ≤ g.qualified) × (f.kept_days ≤ g.kept_days)
