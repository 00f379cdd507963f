-- `test_sweep::generator::fill_gates` meets its contract. The invariant: the first g gates are written, the rest is as it was. Assumes nothing.
use Rattle.std.proofs.Common.{◌≡◌, ℕ}
use lib.Ieee.{Float}
use Rattle.lists.specs.Inside.Seg.{put}
use Rattle.lists.specs.Seq.{tabulate}
use Rattle.test_sweep.specs.Generator.{state_after, gate_at}
use Rattle.test_sweep.proofs.generator.fill_gates.Given as goal

-- gate g's velocity and mask byte
abbrev pub velocity_at : ℕ → ℕ → Float
velocity_at state g = (gate_at state g).velocity

abbrev pub valid_at : ℕ → ℕ → ℕ
valid_at state g = (gate_at state g).valid

abbrev pub invariant-loop-g : goal.invariant-loop-g
invariant-loop-g l = record {
  state : l.here ≡ state_after l.g l.state;
  speeds : l.velocity ≡ put l.initial.velocity 0 (tabulate l.g (velocity_at l.state));
  marks : l.valid ≡ put l.initial.valid 0 (tabulate l.g (valid_at l.state));
}
