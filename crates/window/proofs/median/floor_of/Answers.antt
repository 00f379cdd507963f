-- `window::median::floor_of` meets its contract. Assumes nothing.
use lib.Ieee.{of_bits}
use Rattle.std.proofs.Common.{arith}
use Rattle.std.proofs.lemmas.Bool.Decides.{nat_tests}
use Rattle.window.specs.Inside.Drawing.{floor_of}
use Rattle.window.proofs.median.floor_of.Goals as goal

pub returns-then-byte-eq1 : goal.returns-then-byte-eq1
unfolding floor_of of_bits
returns-then-byte-eq1 c = grind (arith, nat_tests)

pub returns-else-byte-eq1 : goal.returns-else-byte-eq1
unfolding floor_of of_bits
returns-else-byte-eq1 c = grind (arith, nat_tests)
