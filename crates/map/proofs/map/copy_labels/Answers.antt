-- `map::map::copy_labels` meets its contract. Assumes nothing.
use Rattle.std.proofs.Common.{length, refl, arith, length-set}
use Rattle.lists.specs.Inside.Seg.{seg}
use Rattle.map.proofs.MapLaws.{copy_begin, copy_on, copy_all}
use Rattle.map.proofs.map.copy_labels.Goals as goal

pub loop-g-init : goal.loop-g-init
loop-g-init c = record { copied = copy_begin c.args.w.now c.args.labels.now; long = refl }

pub loop-g-preserved : goal.loop-g-preserved
loop-g-preserved c =
    let a = c.args in let l = c.loop-g in
    record { copied = copy_on a.w.now a.labels.now l.labels l.g l.invariant.copied (omega (arith, c.loop-g-test.true, c.requires)); long = simp length-set l.invariant.long }

pub returns : goal.returns
unfolding seg
returns c =
    let a = c.args in let l = c.loop-g in
    copy_all a.w.now a.labels.now l.labels l.g (length a.labels.now) l.invariant.copied (omega (arith, c.loop-g-test.false)) refl c.requires
