-- A mark that opens the definitions of this crate and of those below: `unfolding evaluating` under a signature lets antt compute them.
use Rattle.sweep_book.specs.Book
use Rattle.sweep.specs.Evaluating as Below

unfoldable pub evaluating : Unit {0}
unfolding Below.evaluating Book.book_of Book.over Book.holds Book.book_holds Book.later Book.asked_book Book.book_after Book.end_book Book.call_book
evaluating = tt
