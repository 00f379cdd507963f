-- `network::network::link_all` meets its contract. Assumes nothing.
use Rattle.network.proofs.BeginDoes.{Linking}
use Rattle.network.specs.Inside.Begin.{link_from}
use Rattle.merge.specs.Inside.Tables.{view}
use Rattle.network.proofs.network.link_all.Given as goal

abbrev pub invariant-loop-j : goal.invariant-loop-j
invariant-loop-j l = let m = l.at.edges in let n = l.at.nodes in Linking m n l.w l.d l.j (link_from m m (view m n l.initial.w l.initial.d) 0)
