use Rattle.std.proofs.Common.{sym, ◌∙◌}
use Rattle.laws.specs.Tighter.{same}
use Rattle.relation.proofs.Same.{same_call}
use Rattle.relation.proofs.bettered.betters.Goals as goal

pub returns-then-eq : goal.returns-then-eq
returns-then-eq g c = λ e. rw ((same_call c.args.old.now c.args.new.now).0 (sym c.eq.ensures ∙ e)) (same c.args.new.now)
