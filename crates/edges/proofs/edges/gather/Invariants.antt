-- `edges::edges::gather` meets its contract. Assumes nothing.
use Rattle.edges.proofs.Going.{Going}
use Rattle.edges.proofs.edges.gather.Given as goal

abbrev pub invariant-loop-i : goal.invariant-loop-i
invariant-loop-i l = Going l.two_nyquist l.initial.w l.initial.d l.vel l.n l.m l.t l.c l.w l.d l.s l.e l.i
