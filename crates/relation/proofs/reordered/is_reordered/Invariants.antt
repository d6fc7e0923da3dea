use Rattle.std.proofs.Common.{vec_items}
use Rattle.relation.specs.Related.{Rearranged}
use Rattle.relation.proofs.reordered.is_reordered.Given as goal

abbrev pub invariant-loop-place : goal.invariant-loop-place
invariant-loop-place l = Rearranged l.first (vec_items l.calls)
