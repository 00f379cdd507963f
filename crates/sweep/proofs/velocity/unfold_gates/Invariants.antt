-- `sweep::velocity::unfold_gates` meets its contract. The invariant: the first i gates are written, and the rest is as it was. Assumes nothing.
use Rattle.lists.specs.Seq.{tabulate}
use Rattle.arithmetic.specs.Inside.Asked.{front}
use Rattle.sweep.specs.Velocity.{counted_in}
use Rattle.sweep.proofs.VelocityLaws.{gate_velocity}
use Rattle.std.proofs.Common.{◌≡◌}
use Rattle.sweep.proofs.velocity.unfold_gates.Given as goal

abbrev pub invariant-loop-i : goal.invariant-loop-i
invariant-loop-i l = l.unfolded ≡ front (tabulate l.i (gate_velocity (counted_in l.u))) l.initial.unfolded
