use Rattle.laws.proofs.Examples.{tighter_turns_breach_into_kept, exchanged_pairs}
use Rattle.laws.proofs.statements.instances_hold.Goals as goal

pub returns-clause-tighter : goal.returns-clause-tighter
returns-clause-tighter c = tighter_turns_breach_into_kept

pub returns-clause-order : goal.returns-clause-order
returns-clause-order c = exchanged_pairs
