use Rattle.std.proofs.Common.{◌≡◌, length, sym, ◌∙◌, arith}
use Rattle.std.proofs.lemmas.List.{with_items_is}
use Rattle.relation.proofs.Rearranging.{unmoved, further}
use Rattle.relation.proofs.Same.{same_calls}
use Rattle.relation.proofs.reordered.is_reordered.Goals as goal

pub loop-place-init : goal.loop-place-init
loop-place-init c = rw c.in_ok-calls.ensures.items (unmoved c.args.first.now)

pub loop-place-preserved : goal.loop-place-preserved
loop-place-preserved c =
    let cs = c.bring_forward.new.calls in
    let len : length cs ≡ c.loop-place.calls.len = omega arith in
    let brought = rw c.deref_mut.ensures.value at c.bring_forward.ensures in
    rw (with_items_is c.loop-place.calls cs len) (further c.args.first.now c.loop-place.calls.items cs c.loop-place.invariant brought)

pub returns : goal.returns
returns c = λ e.
    let all = (same_calls _ _ _ c.eq.ensures).0 e in
    rw (sym all ∙ c.as_slice.ensures.value) c.loop-place.invariant
