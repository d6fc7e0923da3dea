use Rattle.relation.proofs.Same.{same_calls}
use Rattle.relation.proofs.relation.relation.Goals as goal

pub returns-then-eq : goal.returns-then-eq
returns-then-eq g c = (same_calls _ _ _ c.eq.ensures).0 c.if-eq.true
