-- `arithmetic::intervals::width` meets its contract. Assumes nothing.
use lib.Ieee.{of_bits, of_int}
use Rattle.arithmetic.specs.Intervals.{width, two_nyquist}
use Rattle.std.proofs.Common.{refl}
use Rattle.arithmetic.specs.Rounding.{real}
use Rattle.arithmetic.proofs.intervals.width.Goals as goal

pub returns : goal.returns
unfolding width two_nyquist real of_bits of_int
returns c = refl
