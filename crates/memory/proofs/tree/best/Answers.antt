-- `memory::tree::best` meets its contract. Assumes nothing.
use Rattle.memory.proofs.TreeLaws.{best_of}
use Rattle.memory.proofs.tree.best.Goals as goal

pub returns : goal.returns
returns c = best_of c.args.m c.args.w.now c.requires.tree c.requires.m_nonzero
