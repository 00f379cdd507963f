-- `merge::merge::prune` meets its contract. Assumes nothing.
use Rattle.merge.proofs.Passing.{Pass}
use Rattle.merge.specs.Inside.Steps.{pruned}
use Rattle.merge.specs.Inside.Tables.{view}
use Rattle.merge.proofs.merge.prune.Given as goal

abbrev pub invariant-loop : goal.invariant-loop
invariant-loop l = Pass l.at.edges l.at.nodes l.b l.w l.d l.l l.p l.x l.counter (pruned l.at.edges l.b (view l.at.edges l.at.nodes l.initial.w l.initial.d))
