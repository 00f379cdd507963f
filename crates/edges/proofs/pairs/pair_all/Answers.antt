-- `edges::pairs::pair_all` meets its contract. Assumes nothing.
use Rattle.std.proofs.Common.{arith}
use Rattle.edges.proofs.PairTurn.{scan_begin, scan_place, scan_on, scan_end}
use Rattle.edges.proofs.pairs.pair_all.Goals as goal

pub loop-g-init : goal.loop-g-init
loop-g-init c = (omega arith, scan_begin c.requires)

pub pair_gate-c-requires : goal.pair_gate-c-requires
pair_gate-c-requires c = let l = c.loop-g in scan_place c.requires l.invariant.1 l.invariant.0 c.loop-g-test.true

pub loop-g-preserved : goal.loop-g-preserved
loop-g-preserved c = let l = c.loop-g in scan_on c.requires l.invariant.1 l.invariant.0 c.loop-g-test.true c.pair_gate-c.ensures

pub returns : goal.returns
returns c = let l = c.loop-g in record { adds_pairs = scan_end c.requires l.invariant.1 l.auto.g-end c.loop-g-test.false; upper_bound = omega (arith, l.invariant.0, l.auto.g-end) }
