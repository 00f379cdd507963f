-- `printout::book::print_book` meets its contract: the text does not depend on the counts. Assumes nothing.
use Rattle.printout.specs.Book.{book_text, file_book}
use Rattle.printout.proofs.book.print_book.Given as goal

abbrev pub ghost-print_by : goal.ghost-print_by
ghost-print_by a = λ counts. book_text (file_book a.file.now)
