use Rattle.accounts.specs.Accounts.{is}
use Rattle.accounts.specs.Bounds.{DayBounds, MonthBounds, reach}
use Rattle.book.proofs.Bounds.{all_without}
use Rattle.book.proofs.book.Book.strike.Goals as goal

pub invariant_of-self-clause-today : goal.invariant_of-self-clause-today
invariant_of-self-clause-today c =
    let b = c.args.self.now in
    all_without (DayBounds (reach b.day_open b.clock)) (is c.args.key.now) _ _ c.strike.ensures b.today

pub invariant_of-self-clause-month : goal.invariant_of-self-clause-month
invariant_of-self-clause-month c =
    let b = c.args.self.now in
    all_without (MonthBounds b.closed) (is c.args.key.now) _ _ c.strike.ensures b.month
