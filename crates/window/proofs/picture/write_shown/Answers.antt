-- `window::picture::write_shown` meets its contract. The invariant: the first g bytes are written, and the rest is as it was. Assumes nothing.
use Rattle.std.proofs.Common.{arith}
use Rattle.std.proofs.lemmas.Bool.Decides.{nat_tests}
use Rattle.sweep.proofs.FillLaws.{part_begin, part_on}
use Rattle.window.proofs.picture.write_shown.Invariants.{byte_from}
use Rattle.window.proofs.picture.write_shown.Goals as goal

pub loop-g-init : goal.loop-g-init
loop-g-init c = let a = c.args in part_begin (byte_from a.valid.now a.labels.now) a.shown.now a.base

pub loop-g-preserved : goal.loop-g-preserved
loop-g-preserved c =
    let a = c.args in
    let l = c.loop-g in
    part_on (byte_from a.valid.now a.labels.now) a.shown.now a.base l.shown l.g c.from.result l.invariant (grind (arith, nat_tests))
