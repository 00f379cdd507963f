-- `merge::merge::scaled` meets its contract. Assumes nothing.
use Rattle.merge.proofs.Bias.{times_back}
use Rattle.std.proofs.Common.{ℤ, ap, ◌∙◌}
use lib.Ieee.{binary32, of_int}
use Rattle.arithmetic.specs.Rounding.{scale}
use Rattle.merge.proofs.merge.scaled.Goals as goal

pub returns : goal.returns
unfolding scale
returns c = c.nearest_i64_to_f32.ensures ∙ rw (c.from.ensures, c.from-2.ensures, c.from-3.ensures) (ap (λ (z : ℤ). of_int binary32 z) (times_back c.args.w c.args.g c.ranges.w.fits c.requires))
