-- `sweep::sweep::write_pair` meets its contract. Assumes nothing.
use Rattle.sweep.proofs.FinishLaws.{two_set}
use Rattle.sweep.proofs.sweep.write_pair.Goals as goal

pub returns : goal.returns
returns c = two_set c.args.pair.now c.args.regions c.args.merges c.requires.0
