-- `test_sweep::generator::velocity_of` meets its contract. Assumes nothing.
use Rattle.std.proofs.Common.{ℤ, pos, ap}
use lib.Ieee.{div, binary32, of_int, of_bits}
use Rattle.test_sweep.specs.Generator.{velocity_of}
use Rattle.test_sweep.proofs.StateLaws.{minus_fits, minus_in, minus_is}
use Rattle.test_sweep.proofs.generator.velocity_of.Goals as goal

pub overflow_sub-units : goal.overflow_sub-units
overflow_sub-units c = minus_fits c.args.k c.requires

pub int_to_float-result : goal.int_to_float-result
int_to_float-result c = minus_in c.args.k c.requires

pub returns : goal.returns
unfolding velocity_of of_bits of_int
returns c = ap (λ (z : ℤ). div binary32 (of_int binary32 z) (of_int binary32 (pos 128))) (minus_is c.args.k c.requires)
