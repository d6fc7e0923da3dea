use Rattle.std.proofs.Common.{get_or, drop, take, ◌-◌, ◌+◌, rules, arith}
use Rattle.std.proofs.lemmas.Iterator.{YieldsList-from_slice, cases_from_all}
use Rattle.std.proofs.lemmas.List.Elements.{All-from_all_within}
use Rattle.calls.specs.declared.call.Call.{Call}
use Rattle.calls.specs.declared.call.Call.TheVariants.{Enrol}
use Rattle.laws.specs.Exchange.{Exchangeable}
use borrow.Author.Tests.{tests}
use Rattle.relation.proofs.Rearranging.{unmoved, rotated}
use Rattle.relation.proofs.reordered.bring_forward.Goals as goal

-- what a read beyond the list would give
abbrev beyond : Call
beyond = Enrol (record { maker = 0; instrument = 0 }) (record { class = 0; tier = 0; threshold = 0; limit = 0; minimum = 0 })

pub returns : goal.returns
returns c =
    let cs = c.args.calls.now in
    let to = c.args.to in
    let from = c.args.from in
    let n = from - to in
    let may : Call → Type 0 = λ b. Exchangeable b (get_or cs from beyond) in
    let told = cases_from_all c.all.new.self _ c.all.result may (λ p. Unit {0}) c.all.ensures.ran
    (YieldsList-from_slice (take n (drop to cs)) c.iter.ensures.rest) (λ x q k. search (rules, tests)) (λ x q k. tt) in
    rotated to n from (from + 1 - to) cs c.rotate_right.new.self beyond (omega arith) (omega arith) (omega arith)
    (All-from_all_within may _ (rw c.if-not-all.false at told)) c.rotate_right.ensures.after

pub returns-then-not-all : goal.returns-then-not-all
returns-then-not-all c = unmoved c.args.calls.now
