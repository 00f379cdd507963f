-- `sweep_book::book::folds_of` meets its contract. Assumes nothing.
use Rattle.sweep.proofs.SignedLaws.{first_fits, unbiased}
use Rattle.sweep_book.proofs.book.folds_of.Goals as goal

pub overflow_sub-result : goal.overflow_sub-result
overflow_sub-result c = first_fits c.args.g c.requires

pub returns : goal.returns
returns c = unbiased c.args.g c.requires
