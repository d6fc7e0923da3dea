use Rattle.std.proofs.Common.{sym}
use Rattle.laws.specs.Tighter.{quoted}
use Rattle.laws.proofs.Keys.{same_keys}
use Rattle.relation.proofs.bettered.betters_change.Goals as goal

pub returns-then-eq : goal.returns-then-eq
returns-then-eq g c = λ e n.
    let w = c.in-Quote-Quote in
    rw (w.is-0, w.is-1, same_keys w.k w.l (sym c.if-eq.ensures)) (c.is_tighter.ensures e n w.l)

pub returns-then-eq-2 : goal.returns-then-eq-2
returns-then-eq-2 g c = λ e n.
    let w = c.in-Withdraw-Quote in
    let q = c.is_lawful.ensures.0 e in
    rw (w.is-0, w.is-1, same_keys w.k w.l (sym c.if-eq-2.ensures), sym q.1) (quoted n w.l q.0)
