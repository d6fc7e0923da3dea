use Rattle.std.proofs.Common.{sym, ◌∙◌}
use Rattle.laws.specs.Tighter.{tightened}
use Rattle.relation.proofs.bettered.is_tighter.Goals as goal

pub returns-in-Ok-Ok : goal.returns-in-Ok-Ok
returns-in-Ok-Ok g c = λ e n k.
    let w = c.in-Ok-Ok in
    rw (sym (rw w.is-0 at c.try_from.ensures.1), sym (rw w.is-1 at c.try_from-2.ensures.1))
    (tightened n k w.old w.new (sym c.is_better.ensures ∙ e))
