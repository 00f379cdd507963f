-- `arithmetic::intervals::widened` meets its contract. Assumes nothing.
use Rattle.std.proofs.Common.{T, sym, ◌∙◌, subst, w32, w64, to_z, of_z, rules}
use lib.Ieee.{Float, binary64, div, fits}
use mir.ValLaws.{to_z-of_z}
use Rattle.arithmetic.specs.Rounding.{within}
use Rattle.arithmetic.specs.Intervals.{over_start, over_end}
use Rattle.arithmetic.proofs.Plans.{start_within, end_within, plan_is}
use Rattle.arithmetic.proofs.intervals.widened.Goals as goal

pub ceil_of-a-requires : goal.ceil_of-a-requires
unfolding over_start
ceil_of-a-requires c =
    let f : T (fits binary64 c.args.nyquist) = search rules in
    let g : T (fits binary64 c.args.e.greatest) = search rules in
    subst (λ (w : Float). T (within (div binary64 (over_start c.args.nyquist c.args.e.greatest) w))) (sym c.width-w.ensures)
    (start_within c.args.nyquist c.args.e.greatest c.args.splits f g c.requires.asked c.requires.extremes_in_range.1)

pub ceil_of-b-requires : goal.ceil_of-b-requires
unfolding over_end
ceil_of-b-requires c =
    let f : T (fits binary64 c.args.nyquist) = search rules in
    let g : T (fits binary64 c.args.e.least) = search rules in
    subst (λ (w : Float). T (within (div binary64 (over_end c.args.nyquist c.args.e.least) w))) (sym c.width-w.ensures)
    (end_within c.args.nyquist c.args.e.least c.args.splits f g c.requires.asked c.requires.extremes_in_range.0)

pub returns : goal.returns
unfolding over_start over_end
returns c =
    let w = c.width-w in
    let a = c.ceil_of-a in
    let b = c.ceil_of-b in
    let n = c.count in
    let ea = to_z-of_z w32 a.result (search rules) in
    let eb = to_z-of_z w32 b.result (search rules) in
    let en = to_z-of_z w64 n.result (search rules) in
    plan_is c.args.nyquist c.args.e.least c.args.e.greatest w.result c.args.splits (to_z w32 (of_z w32 a.result)) (to_z w32 (of_z w32 b.result)) (to_z w64 (of_z w64 n.result)) w.ensures (ea ∙ a.ensures) (eb ∙ b.ensures)
    (en ∙ n.ensures)
