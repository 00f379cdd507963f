-- `printout::book::put_book` meets its contract. Assumes nothing.
use Rattle.printout.specs.Book.{printed_book}
use Rattle.printout.proofs.book.put_book.Goals as goal

pub returns : goal.returns
unfolding printed_book
returns c = c.put_by.ensures
