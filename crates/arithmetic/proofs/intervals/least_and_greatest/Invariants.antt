-- `arithmetic::intervals::least_and_greatest` meets its contract. Assumes nothing.
use Rattle.std.proofs.Common.{◌≡◌, length}
use Rattle.arithmetic.proofs.IntervalLaws.{up_to}
use Rattle.arithmetic.proofs.intervals.least_and_greatest.Given as goal

abbrev pub invariant-loop-v : goal.invariant-loop-v
invariant-loop-v l = l.e ≡ up_to l.velocity l.valid (length l.yielded)
