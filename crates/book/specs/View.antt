-- The state that a book stands for.
use Rattle.accounts.specs.States.{State}
use Rattle.accounts.specs.Views.{enrolled_in, trading_in}
use Rattle.book.specs.declared.book.Book.{Book}

abbrev pub view : Book → State
view b = record {
  frame = record { trading = trading_in b.market; day_open = b.day_open; clock = b.clock; last = b.last; closed = b.closed };
  accounts = enrolled_in b.table;
}
