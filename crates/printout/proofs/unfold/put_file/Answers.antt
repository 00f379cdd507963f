-- `printout::unfold::put_file` meets its contract. Assumes nothing.
use Rattle.printout.specs.Unfold.{printed}
use Rattle.printout.proofs.unfold.put_file.Goals as goal

pub returns : goal.returns
unfolding printed
returns c = c.put_by.ensures
