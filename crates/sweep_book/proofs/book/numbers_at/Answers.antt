-- `sweep_book::book::numbers_at` meets its contract. Assumes nothing.
use Rattle.sweep_book.proofs.EnterLaws.{numbers_done}
use Rattle.sweep_book.proofs.book.numbers_at.Goals as goal

pub returns : goal.returns
returns c = numbers_done c.args.w.now c.args.at c.requires.low c.requires.gain _ c.folds_of.ensures
