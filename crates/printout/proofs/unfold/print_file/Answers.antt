-- `printout::unfold::print_file` meets its contract. Assumes nothing.
use Rattle.printout.specs.Unfold.{printed}
use Rattle.printout.proofs.unfold.print_file.Goals as goal

pub returns : goal.returns
unfolding printed
returns c = c.print_by.ensures
