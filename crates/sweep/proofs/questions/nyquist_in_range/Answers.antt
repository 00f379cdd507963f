-- `sweep::questions::nyquist_in_range` meets its contract. Assumes nothing.
use Rattle.arithmetic.specs.Intervals.{nyquist_in_range}
use lib.Ieee.{of_bits}
use Rattle.std.proofs.Common.{refl}
use Rattle.sweep.proofs.questions.nyquist_in_range.Goals as goal

pub returns-then-nyquist : goal.returns-then-nyquist
unfolding nyquist_in_range of_bits
returns-then-nyquist c = rw c.if-nyquist.true refl

pub returns-else-nyquist : goal.returns-else-nyquist
unfolding nyquist_in_range of_bits
returns-else-nyquist c = rw c.if-nyquist.false refl
