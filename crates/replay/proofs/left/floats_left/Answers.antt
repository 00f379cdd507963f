-- `replay::left::floats_left` meets its contract. Assumes nothing.
use lib.Ieee.{nan, eq, of_int, of_bits}
use Rattle.arithmetic.specs.Rounding.{real}
use Rattle.std.proofs.Common.{pos}
use Rattle.replay.specs.Left.{due_float, floats_left}
use Rattle.replay.proofs.LeftLaws.{due_by}
use Rattle.replay.proofs.left.floats_left.Goals as goal

pub returns : goal.returns
unfolding floats_left due_float real of_int of_bits
returns c = due_by eq c.args.floats.now (real (pos 7)) nan (due_float c.args.k) c.holds_due.result c.holds_due.ensures
