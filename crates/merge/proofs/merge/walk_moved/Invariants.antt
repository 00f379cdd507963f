-- `merge::merge::walk_moved` meets its contract. Assumes nothing.
use Rattle.merge.proofs.Walks.{Walk}
use Rattle.merge.specs.Inside.Steps.{moved_all}
use Rattle.merge.specs.Inside.Tables.{view}
use Rattle.merge.proofs.merge.walk_moved.Given as goal

abbrev pub invariant-loop : goal.invariant-loop
invariant-loop l =
    let p = l.step in
    Walk l.at.edges l.at.nodes p.base p.moved p.gain l.w l.d l.l l.x l.counter (moved_all l.at.edges p.base p.moved p.gain (view l.at.edges l.at.nodes l.initial.w l.initial.d))
