-- `network::network::fill_regions` meets its contract. Assumes nothing.
use Rattle.network.proofs.BeginDoes.{Going}
use Rattle.network.specs.Inside.Begin.{regions_from}
use Rattle.merge.specs.Inside.Tables.{view}
use Rattle.network.proofs.network.fill_regions.Given as goal

abbrev pub invariant-loop-x : goal.invariant-loop-x
invariant-loop-x l = let m = l.at.edges in let n = l.at.nodes in Going m n regions_from l.w l.d n l.x (regions_from n (view m n l.initial.w l.d) 0)
