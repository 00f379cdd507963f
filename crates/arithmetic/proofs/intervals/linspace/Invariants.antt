-- `arithmetic::intervals::linspace` meets its contract. Assumes nothing.
use Rattle.std.proofs.Common.{◌≡◌}
use Rattle.arithmetic.specs.Intervals.{limit_at}
use Rattle.arithmetic.specs.Inside.Asked.{front}
use Rattle.lists.specs.Seq.{tabulate}
use Rattle.arithmetic.proofs.intervals.linspace.Given as goal

abbrev pub invariant-loop-i : goal.invariant-loop-i
invariant-loop-i l = l.out ≡ front (tabulate l.i (limit_at l.start l.step)) l.initial.out
