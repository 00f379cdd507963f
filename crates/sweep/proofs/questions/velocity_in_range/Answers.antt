-- `sweep::questions::velocity_in_range` meets its contract. Assumes nothing.
use Rattle.arithmetic.specs.Intervals.{velocity_in_range}
use lib.Ieee.{of_bits, neg}
use Rattle.std.proofs.Common.{refl}
use Rattle.sweep.proofs.questions.velocity_in_range.Goals as goal

pub returns-then-v : goal.returns-then-v
unfolding velocity_in_range of_bits neg
returns-then-v c = rw c.if-v.true refl

pub returns-else-v : goal.returns-else-v
unfolding velocity_in_range of_bits neg
returns-else-v c = rw c.if-v.false refl
