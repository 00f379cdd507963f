-- `files::bits::velocities_of` meets its contract: the first i velocities are written. Assumes nothing.
use Rattle.std.proofs.Common.{◌≡◌, ℕ, List, get_or}
use lib.Ieee.{Float, binary32, of_bits}
use Rattle.lists.specs.Inside.Seg.{put}
use Rattle.lists.specs.Seq.{tabulate}
use Rattle.files.proofs.bits.velocities_of.Given as goal

-- the velocity of pattern i
abbrev pub velocity_at : List ℕ → ℕ → Float
velocity_at bits i = of_bits binary32 (get_or bits i 0)

abbrev pub invariant-loop-i : goal.invariant-loop-i
invariant-loop-i l = l.velocity ≡ put l.initial.velocity 0 (tabulate l.i (velocity_at l.bits))
