-- `merge::merge::single` meets its contract. Assumes nothing.
use lib.Ieee.Fits.{and_i}
use lib.Ieee.{Float, nan, inf, fin, binary32, of_bits, fits, is_nan}
use Rattle.std.proofs.Common.{◌≡◌, true, not, refl}
use Rattle.merge.proofs.merge.single.Goals as goal

the_nan : (x : Float) → true ≡ is_nan x → of_bits binary32 0x7fc0_0000 ≡ x
unfolding is_nan of_bits
the_nan nan e = refl
the_nan (inf s) e = cc
the_nan (fin s m k) e = cc

pub returns-then-is_nan : goal.returns-then-is_nan
returns-then-is_nan c = the_nan c.args.x (c.if-is_nan.ensures).value

pub float_to_float-result : goal.float_to_float-result
float_to_float-result c = and_i (fits binary32 c.args.x) (not (is_nan c.args.x)) c.requires (rw (← c.if-is_nan.ensures.value) tt)
