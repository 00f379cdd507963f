-- `edges::pairs::pair_all` meets its contract. Assumes nothing.
use Rattle.std.proofs.Common.{◌*◌, ◌≤◌}
use Rattle.edges.specs.Inside.GatePairs.{AddsPairs, gate_pairs_at}
use Rattle.lists.specs.Inside.Seg.{seg}
use Rattle.lists.specs.Seq.{upto, each}
use Rattle.edges.proofs.pairs.pair_all.Given as goal

abbrev pub invariant-loop-g : goal.invariant-loop-g
invariant-loop-g l = (l.c ≤ 4 * l.g) × AddsPairs l.n l.initial.w l.w 0 l.c (each (gate_pairs_at l.f (seg l.initial.w 0 l.n)) (upto l.g 0))
