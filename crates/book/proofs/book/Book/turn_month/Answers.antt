use Rattle.accounts.specs.Accounts.{account_turned}
use Rattle.accounts.specs.Bounds.{DayBounds, MonthBounds, reach}
use Rattle.book.proofs.Bounds.{all_map, month_turned}
use Rattle.book.proofs.book.Book.turn_month.Goals as goal

pub invariant_of-self-clause-today : goal.invariant_of-self-clause-today
invariant_of-self-clause-today c =
    let b = c.args.self.now in
    let most = DayBounds (reach b.day_open b.clock) in
    all_map most most account_turned (λ a h. h) _ _ c.turn_month.ensures b.today

pub invariant_of-self-clause-month : goal.invariant_of-self-clause-month
invariant_of-self-clause-month c =
    let b = c.args.self.now in
    all_map (MonthBounds b.closed) (MonthBounds 0) account_turned (month_turned b.closed) _ _ c.turn_month.ensures b.month
