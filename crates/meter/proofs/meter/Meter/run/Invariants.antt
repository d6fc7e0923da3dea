use Rattle.std.proofs.Common.{◌≡◌, ◌++◌, take, drop}
use Rattle.accounts.specs.Steps.{answers, run}
use Rattle.book.specs.View.{view}
use Rattle.meter.proofs.meter.Meter.run.Given as goal

-- What is left of the calls gives the rest of the answers, and the end.
abbrev pub invariant-loop-place : goal.invariant-loop-place
invariant-loop-place g l =
    let rule = g.Q.QuoteRule.meets l.initial.self.rulebook.quote_rule in
    let start = view l.initial.self.book in
    let calls = take l.count l.calls in
    (l.self.rulebook ≡ l.initial.self.rulebook)
    × (drop l.count l.told ≡ drop l.count l.initial.told)
    × (take l.place l.told ++ answers rule (view l.self.book) (drop l.place calls) ≡ answers rule start calls)
    × (run rule (view l.self.book) (drop l.place calls) ≡ run rule start calls)
