use Rattle.laws.proofs.Compared.{laws_hold}
use Rattle.laws.proofs.compare.compare.Goals as goal

pub returns-clause-laws : goal.returns-clause-laws
returns-clause-laws g c = laws_hold _ _ c.in_ok-one.ensures.ran c.in_ok-two.ensures.ran (g.met.Q.QuoteRule.upward _) (g.met.M.MonthRule.upward _)
