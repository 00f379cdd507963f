-- `edges::edges::count_runs` meets its contract. Assumes nothing.
use Rattle.edges.proofs.RunCount.{Counting}
use Rattle.edges.proofs.edges.count_runs.Given as goal

abbrev pub invariant-loop-i : goal.invariant-loop-i
invariant-loop-i l = Counting l.w l.n l.m l.p.0 l.p.1 l.e l.i
