-- `merge::mark::walk_mark` meets its contract. Assumes nothing.
use Rattle.merge.proofs.Marks.{MarkWalk}
use Rattle.merge.specs.Inside.Steps.{marked_all}
use Rattle.merge.specs.Inside.Tables.{view}
use Rattle.merge.proofs.mark.walk_mark.Given as goal

abbrev pub invariant-loop : goal.invariant-loop
invariant-loop l = MarkWalk l.at.edges l.at.nodes l.initial.w l.w l.d l.l l.x l.counter (marked_all l.v (view l.at.edges l.at.nodes l.initial.w l.d))
