use Rattle.std.proofs.Common.{◌≡◌, ◌+◌, ◌≤◌, true, arith}
use Rattle.std.proofs.lemmas.Grind.{common_steps}
use Rattle.accounts.specs.Accounts.{ended}
use Rattle.accounts.specs.Bounds.{DayBounds, MonthBounds}
use Rattle.accounts.specs.Views.{trading_in}
use Rattle.accounts.proofs.Accepted.{in_day, unopposed}
use Rattle.calls.specs.declared.call.Call.TheVariants.{Close}
use Rattle.book.specs.View.{view}
use Rattle.book.proofs.Bounds.{all_map, day_ended, month_ended}
use Rattle.book.proofs.book.Book.close_day.Goals as goal

pub invariant_of-self-clause-today : goal.invariant_of-self-clause-today
invariant_of-self-clause-today g c =
    let b = c.args.self.now in
    let to = c.args.stamp in
    let rest = c.between-rest.result in
    let rule = g.Q.QuoteRule.meets rest.rule.now in
    let m = trading_in rest.market.now in
    let day : (b.day_open ≡ true) × (b.clock ≤ to) = in_day (view b).frame to (unopposed (view b) (Close to) c.requires).day in
    let e : b.clock + rest.length ≡ to = omega (arith, day.1, c.between-rest.ensures.length) in
    let was = rw day.0 at b.today in
    all_map (DayBounds b.clock) (DayBounds 0) (ended rule m rest.length) (day_ended rule m rest.length b.clock to e) _ _ c.end.ensures was

pub invariant_of-self-clause-month : goal.invariant_of-self-clause-month
invariant_of-self-clause-month g c =
    let b = c.args.self.now in
    let to = c.args.stamp in
    let rest = c.between-rest.result in
    let rule = g.Q.QuoteRule.meets rest.rule.now in
    let m = trading_in rest.market.now in
    let day : (b.day_open ≡ true) × (b.clock ≤ to) = in_day (view b).frame to (unopposed (view b) (Close to) c.requires).day in
    let e : b.clock + rest.length ≡ to = omega (arith, day.1, c.between-rest.ensures.length) in
    let was = rw day.0 at b.today in
    let small : to ≤ 86_400_000 = grind (arith, common_steps) in
    all_map (λ a. DayBounds b.clock a × MonthBounds b.closed a) (MonthBounds (b.closed + 1)) (ended rule m rest.length)
    (λ a h. month_ended rule m rest.length b.clock to e b.closed small a h.0 h.1) _ _ c.end.ensures (λ k d h. (was k d h, b.month k d h))
