-- `merge::merge::seek` meets its contract. Assumes nothing.
use Rattle.merge.proofs.Walks.{Seeking}
use Rattle.merge.specs.Inside.Steps.{seek_all}
use Rattle.merge.specs.Inside.Tables.{view}
use Rattle.merge.proofs.merge.seek.Given as goal

abbrev pub invariant-loop : goal.invariant-loop
invariant-loop l = Seeking l.at.edges l.at.nodes l.b l.c l.w l.d l.l l.x l.counter (seek_all l.at.edges l.b l.c (view l.at.edges l.at.nodes l.w l.d) l.h)
