use Rattle.std.proofs.Common.{◌≡◌, false, arith}
use Rattle.std.proofs.lemmas.Grind.{common_steps}
use Rattle.accounts.specs.Accounts.{account_opened}
use Rattle.accounts.specs.Bounds.{DayBounds, MonthBounds}
use Rattle.book.proofs.Bounds.{all_map}
use Rattle.book.proofs.book.Book.open_day.Goals as goal

pub invariant_of-self-clause-today : goal.invariant_of-self-clause-today
invariant_of-self-clause-today c =
    let b = c.args.self.now in
    let shut : b.day_open ≡ false = grind (arith, common_steps) in
    let none = rw shut at b.today in
    all_map (DayBounds 0) (DayBounds 0) account_opened (λ a h. h) _ _ c.open_day.ensures none

pub invariant_of-self-clause-month : goal.invariant_of-self-clause-month
invariant_of-self-clause-month c =
    let b = c.args.self.now in
    all_map (MonthBounds b.closed) (MonthBounds b.closed) account_opened (λ a h. h) _ _ c.open_day.ensures b.month
