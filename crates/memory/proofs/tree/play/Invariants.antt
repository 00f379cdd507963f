-- `memory::tree::play` meets its contract. Assumes nothing.
use Rattle.memory.proofs.TreeLaws.{Playing}
use Prim.Native.Nat.{◌<◌}
use Rattle.memory.proofs.tree.play.Given as goal

abbrev pub invariant-loop-k : goal.invariant-loop-k
invariant-loop-k l = record { below : l.k < l.m; playing : Playing l.m l.initial.w l.w 1 l.k }

abbrev pub decreases-loop-k : goal.decreases-loop-k
decreases-loop-k l = l.k
