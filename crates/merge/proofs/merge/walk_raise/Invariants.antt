-- `merge::merge::walk_raise` meets its contract. Assumes nothing.
use Rattle.merge.proofs.Walks.{Raise}
use Rattle.merge.specs.Inside.Steps.{walk_raise}
use Rattle.merge.specs.Inside.Tables.{view}
use Rattle.merge.specs.Inside.Table.{rlen}
use Rattle.std.proofs.Common.{get_or}
use Rattle.merge.proofs.merge.walk_raise.Given as goal

abbrev pub invariant-loop : goal.invariant-loop
invariant-loop l =
    let s = view l.at.edges l.at.nodes l.initial.w l.d in
    Raise l.at.edges l.at.nodes l.g l.w l.d l.l l.x l.counter (walk_raise (get_or (s.at rlen) l.v 0) l.g s l.v)
