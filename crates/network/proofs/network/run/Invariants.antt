-- `network::network::run` meets its contract. Assumes nothing.
use Rattle.network.proofs.Runs.{Running}
use Rattle.network.proofs.network.run.Given as goal

abbrev pub invariant-loop-k : goal.invariant-loop-k
invariant-loop-k l = Running l.at.edges l.at.nodes l.initial.w l.initial.d l.w l.d l.k
