-- `printout::book::put_book` meets its contract: the text does not depend on the counts. Assumes nothing.
use Rattle.printout.specs.Book.{book_text, file_book}
use Rattle.printout.proofs.book.put_book.Given as goal

abbrev pub ghost-put_by : goal.ghost-put_by
ghost-put_by a = λ counts. book_text (file_book a.file.now)
