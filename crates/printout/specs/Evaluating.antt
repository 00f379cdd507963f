-- A mark that opens the definitions of this crate and of those below: `unfolding evaluating` under a signature lets antt compute them.
use Rattle.printout.specs.Text
use Rattle.printout.specs.Unfold
use Rattle.printout.specs.Book
use Rattle.files.specs.Evaluating as Below
use Rattle.sweep_book.specs.Evaluating as Books

unfoldable pub evaluating : Unit {0}
unfolding Below.evaluating Books.evaluating Text.decimal_by Text.decimal Text.count_text Text.parted Text.line Text.ray_lines Unfold.file_gates Unfold.lent_for Unfold.file_outcome Unfold.printed_of
    Unfold.printed_with Unfold.printed Book.book_text Book.file_book Book.printed_book
evaluating = tt
