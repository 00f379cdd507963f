-- `sweep::sweep::clear` meets its contract. Assumes nothing.
use Rattle.std.proofs.Common.{rules}
use lib.Ieee.{of_int, of_bits}
use Rattle.arithmetic.specs.Rounding.{real}
use Rattle.sweep.proofs.sweep.clear.Goals as goal

pub returns : goal.returns
unfolding real of_int of_bits
returns c = record { words_after = search rules; floats_after = c.fill-2.ensures.after (λ y e. e) }
