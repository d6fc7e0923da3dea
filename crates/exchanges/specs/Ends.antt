-- How a program ends, by the exchange that it was run for.
use Rattle.std.specs.Prelude.{◌≡◌, ℕ, Bool, Some, None, Ok, Err, Option, Result}
use Rattle.rules.specs.declared.quote.Quote.{Quote}
use Rattle.rules.specs.declared.terms.Terms.{Terms}
use Rattle.rules.specs.declared.month_figures.MonthFigures.{MonthFigures}
use Rattle.rules.specs.declared.verdict.Verdict.{Verdict}
use Rattle.exchanges.specs.declared.exchange.Exchange.{Exchange}
use Rattle.exchanges.specs.Rules.{meets_at, better_at, verdict_at}

abbrev pub status_of : {E : Type 0} → Result (Unit {0}) E → ℕ
status_of (Ok u) = 0
status_of (Err e) = 1

-- With 1 where no exchange is named, and else by what came of the work by its rules.
abbrev pub Ends : {E : Type 0} → ((Quote → Terms → Bool) → (Quote → Quote → Bool) → (MonthFigures → ℕ → Verdict) → Result (Unit {0}) E → Type 0) → Option Exchange → ℕ → Type 0
Ends Comes None status = status ≡ 1
Ends {E = E} Comes (Some x) status = (r : Result (Unit {0}) E) × Comes (meets_at x) (better_at x) (verdict_at x) r × (status ≡ status_of r)
