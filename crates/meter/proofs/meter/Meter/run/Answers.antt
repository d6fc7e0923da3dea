use Rattle.std.proofs.Common.{◌≡◌, ◌<◌, ◌++◌, length, get_or, take, sym, ap, ◌∙◌, ap₂, arith}
use Rattle.std.proofs.lemmas.List.{take_more_set, drop-set-lt, length-take-le, take-append-drop}
use Rattle.calls.specs.declared.call.Call.{Call}
use Rattle.calls.specs.declared.call.Call.TheVariants.{Enrol}
use Rattle.accounts.specs.Steps.{step}
use Rattle.book.specs.View.{view}
use Rattle.meter.proofs.Runs.{answers_more, run_more, answers_all, run_all}
use Rattle.meter.proofs.meter.Meter.run.Goals as goal

-- what a read beyond the list would give
abbrev beyond : Call
beyond = Enrol (record { maker = 0; instrument = 0 }) (record { class = 0; tier = 0; threshold = 0; limit = 0; minimum = 0 })

pub loop-place-preserved : goal.loop-place-preserved
loop-place-preserved g c =
    let was = c.loop-place.invariant in
    let rule = g.Q.QuoteRule.meets c.args.self.now.rulebook.quote_rule in
    let s = view c.loop-place.self.book in
    let t = view c.apply.new.self.book in
    let n = c.min-count.result in
    let i = c.loop-place.place in
    let cs = take n c.args.calls.now in
    let l = c.loop-place.told in
    let x = get_or cs i beyond in
    let r = c.apply.result in
    let long : length cs ≡ n = length-take-le n c.args.calls.now (omega (arith, c.min-count.ensures)) in
    let below : i < n = omega (arith, c.loop-place-test.true, long) in
    let room : i < length l = omega (arith, below, c.min-count.ensures, c.loop-place.auto.told) in
    let moved : t ≡ step rule s x = c.apply.ensures.took.left ∙ ap (λ q. step (g.Q.QuoteRule.meets q.quote_rule) s x) was.0 in (
      c.apply.ensures.rulebook ∙ was.0,
      drop-set-lt n l i r below ∙ was.1,
      answers_more rule s t cs i beyond c.loop-place-test.true moved (take i l) _ _ r c.apply.ensures.took.answer (take_more_set l i r room) was.2,
      run_more rule s t cs i beyond c.loop-place-test.true moved _ was.3,
    )

pub returns : goal.returns
returns g c =
    let was = c.loop-place.invariant in
    let rule = g.Q.QuoteRule.meets c.args.self.now.rulebook.quote_rule in
    let s = view c.loop-place.self.book in
    let n = c.min-count.result in
    let cs = take n c.args.calls.now in
    let l = c.loop-place.told in
    let long : length cs ≡ n = length-take-le n c.args.calls.now (omega (arith, c.min-count.ensures)) in
    let at_end : c.loop-place.place ≡ n = omega (arith, c.loop-place-test.false, c.loop-place.auto.place-end, long) in
    let front = answers_all rule s cs c.loop-place.place _ _ c.loop-place-test.false was.2 in
    record {
      count = c.min-count.ensures;
      answers = sym (take-append-drop n l) ∙ ap₂ ◌++◌ (ap (λ k. take k l) (sym at_end) ∙ front) was.1;
      left = run_all rule s _ cs c.loop-place.place c.loop-place-test.false was.3;
      rulebook = was.0;
    }
