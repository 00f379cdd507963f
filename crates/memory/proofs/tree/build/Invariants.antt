-- `memory::tree::build` meets its contract. Assumes nothing.
use Rattle.memory.proofs.TreeLaws.{Playing}
use Rattle.memory.proofs.tree.build.Given as goal

abbrev pub invariant-loop-k : goal.invariant-loop-k
invariant-loop-k l = Playing l.m l.initial.w l.w l.k 0
