-- `files::bits::nyquist_in_range` meets its contract. Assumes nothing.
use borrow.Author.Tests.{le-leb, lt-leb}
use Rattle.files.proofs.BitLaws.{nyquist_bits}
use native.Mathlib.Omega.{arith}
use mathlib.Core.Path.{refl}
use Rattle.files.proofs.bits.nyquist_in_range.Goals as goal

pub returns-then-bits-ge1040187392 : goal.returns-then-bits-ge1040187392
returns-then-bits-ge1040187392 c = rw (← nyquist_bits c.args.bits (omega arith), le-leb _ _ c.if-bits-ge1040187392.true) refl

pub returns-else-bits-ge1040187392 : goal.returns-else-bits-ge1040187392
returns-else-bits-ge1040187392 c = rw (← nyquist_bits c.args.bits (omega arith), lt-leb _ _ c.if-bits-ge1040187392.false) refl
