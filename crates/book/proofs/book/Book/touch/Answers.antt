use Rattle.std.proofs.Common.{◌≡◌, ◌+◌, ◌≤◌, true, arith}
use Rattle.accounts.specs.Accounts.{touched}
use Rattle.accounts.specs.Bounds.{DayBounds, MonthBounds}
use Rattle.accounts.specs.Views.{trading_in}
use Rattle.accounts.proofs.Accepted.{in_day, unopposed}
use Rattle.calls.specs.declared.call.Call.TheVariants.{At}
use Rattle.book.specs.View.{view}
use Rattle.book.proofs.Bounds.{all_map, day_touched}
use Rattle.book.proofs.book.Book.touch.Goals as goal

pub invariant_of-self-clause-today : goal.invariant_of-self-clause-today
invariant_of-self-clause-today g c =
    let b = c.args.self.now in
    let to = c.args.stamp in
    let span = c.between-span.result in
    let rule = g.Q.QuoteRule.meets span.rule.now in
    let m = trading_in span.market.now in
    let day : (b.day_open ≡ true) × (b.clock ≤ to) = in_day (view b).frame to (unopposed (view b) (At to c.args.change.now) c.requires).day in
    let e : b.clock + span.length ≡ to = omega (arith, day.1, c.between-span.ensures.length) in
    let was = rw day.0 at b.today in
    rw day.0 (all_map (DayBounds b.clock) (DayBounds to) (touched rule m span.length c.args.change.now) (day_touched rule m span.length b.clock to e c.args.change.now) _ _ c.touch.ensures was)

pub invariant_of-self-clause-month : goal.invariant_of-self-clause-month
invariant_of-self-clause-month g c =
    let bounds = MonthBounds c.args.self.now.closed in
    let span = c.between-span.result in
    let f = touched (g.Q.QuoteRule.meets span.rule.now) (trading_in span.market.now) span.length c.args.change.now in
    all_map bounds bounds f (λ a h. h) _ _ c.touch.ensures c.args.self.now.month
