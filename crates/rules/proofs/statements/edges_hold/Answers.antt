use Rattle.rules.proofs.EdgeCases.{edges_hold}
use Rattle.rules.proofs.statements.edges_hold.Goals as goal

pub returns : goal.returns
returns c = edges_hold
