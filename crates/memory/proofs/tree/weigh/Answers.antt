-- `memory::tree::weigh` meets its contract. Assumes nothing.
use Rattle.memory.proofs.TreeLaws.{weight_set}
use Rattle.memory.proofs.tree.weigh.Goals as goal

pub play-requires-clause-dirty : goal.play-requires-clause-dirty
play-requires-clause-dirty c = weight_set c.args.m c.args.w.now c.args.e c.args.v c.requires.tree c.requires.e_lt_m
