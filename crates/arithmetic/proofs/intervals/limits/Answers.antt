-- `arithmetic::intervals::limits` meets its contract. Assumes nothing.
use Rattle.std.proofs.Common.{◌∙◌, w32, to_z, of_z, rules}
use mir.ValLaws.{to_z-of_z}
use Rattle.arithmetic.proofs.Plans.{limits_are}
use Rattle.arithmetic.proofs.intervals.limits.Goals as goal

pub returns : goal.returns
returns c =
    let p = c.args.p in
    let ea = to_z-of_z w32 p.add_start (search rules) in
    let eb = to_z-of_z w32 p.add_end (search rules) in
    c.linspace.ensures
    ∙ limits_are c.args.nyquist c.width-w.result c.args.splits p.add_start p.add_end p.number (to_z w32 (of_z w32 p.add_start)) (to_z w32 (of_z w32 p.add_end)) c.how_many.result
    c.args.out.now c.width-w.ensures ea eb c.how_many.ensures
