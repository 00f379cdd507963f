-- `labels::regions::put_over` meets its contract. The invariant: labels before g are put over the old ones, those from g on are as they were. Assumes nothing.
use Rattle.labels.specs.Regions.{over}
use Rattle.labels.proofs.OverLaws.{over_old, over_new, put_step}
use Rattle.std.proofs.Common.{◌≡◌, ◌+◌, get_or, sym, refl, ◌∙◌, arith}
use Rattle.labels.specs.Locals.{NoArray}
use Rattle.labels.proofs.regions.put_over.Code.Mir.{function}
use Rattle.labels.proofs.regions.put_over.Goals.{then-new-eq0, else-new-eq0}
use Rattle.labels.proofs.regions.put_over.Goals as goal

no_array : NoArray function
no_array = refl

pub loop-g-preserved : goal.loop-g-preserved
loop-g-preserved c =
    let a = c.args in
    let l = c.loop-g in
    let is : c.if-new-eq0.u ≡ over a.from (get_or l.u l.g 0) (get_or l.u (a.n + l.g) 0) =
    elim c.if-new-eq0.branch [
      | then-new-eq0 w ↦ w.u-is ∙ sym (over_old a.from _ _ w.if-new-eq0.true)
      | else-new-eq0 w ↦ w.u-is ∙ sym (over_new a.from _ _ (omega (arith, w.if-new-eq0.false)))
    ] in
    put_step a.u.now l.u a.n a.from l.g l.invariant (omega (arith, c.requires.in_bounds)) _ is
