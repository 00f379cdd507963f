-- `arithmetic::rounding::if_within` meets its contract: the test is that of the size of x. Assumes nothing.
use Rattle.std.proofs.Common.{Bool, true, false, Some, sym, ap, ◌∙◌, w32}
use mir.ValLaws.{to_z-of_z}
use lib.Ieee.{of_bits}
use Rattle.std.specs.Float.{float_to_signed}
use Rattle.arithmetic.specs.Rounding.{if_within}
use Rattle.arithmetic.proofs.RangeLaws.{abs_within}
use Rattle.arithmetic.proofs.rounding.if_within.Goals as goal

pub returns-then-abs : goal.returns-then-abs
unfolding of_bits
returns-then-abs c =
    let r = c.saturating_f64_to_i32 in
    ap Some (to_z-of_z w32 r.result (record { sfits = r.type_inv }) ∙ r.ensures)
    ∙ ap (λ (b : Bool). if_within b (float_to_signed w32 c.args.whole)) (sym (abs_within c.args.x c.abs.result true c.abs.ensures.value c.if-abs.true))

pub returns-else-abs : goal.returns-else-abs
unfolding of_bits
returns-else-abs c = ap (λ (b : Bool). if_within b (float_to_signed w32 c.args.whole)) (sym (abs_within c.args.x c.abs.result false c.abs.ensures.value c.if-abs.false))
