-- `replay::gates::gates_of` meets its contract. The invariant: the first i mask bytes and velocities are those of their numbers. Assumes nothing.
use Rattle.std.proofs.Common.{◌≡◌, ℕ, ◌+◌, ◌*◌, ◌<◌, get_or}
use Rattle.std.specs.Float.{nan, binary32}
use Rattle.std.specs.Float.Ieee.{of_bits}
use Rattle.replay.proofs.gates.gates_of.Given as goal

abbrev pub invariant-loop-i : goal.invariant-loop-i
invariant-loop-i l = record {
  mask : (g : ℕ) → g < l.i → get_or l.valid g 0 ≡ get_or l.numbers (2 * g) 0;
  speed : (g : ℕ) → g < l.i → get_or l.velocity g nan ≡ of_bits binary32 (get_or l.numbers (2 * g + 1) 0);
}
