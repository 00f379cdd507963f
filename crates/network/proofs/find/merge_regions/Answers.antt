-- `network::find::merge_regions` meets its contract. Assumes nothing.
use Rattle.network.proofs.FindLaws.{width_is, few_left, reduced_left}
use Rattle.network.specs.Inside.Find.{finding_of}
use mathlib.Core.Path.{sym, ap}
use Rattle.std.proofs.lemmas.Result.{err_from_is_err_and}
use Rattle.network.proofs.find.merge_regions.Goals as goal

pub returns-then-k-lt2 : goal.returns-then-k-lt2
returns-then-k-lt2 c = let a = c.args in let v = c.leave_alone in few_left a.s.options a.s.velocity.now a.words.now a.floats.now a.k c.requires c.if-k-lt2.true v.new.w v.ensures

pub returns-in_err-merges : goal.returns-in_err-merges
returns-in_err-merges c =
    let a = c.args in
    let r = c.reduce in
    let p = err_from_is_err_and c.from_residual.result c.from_residual.ensures.1 in
    rw p.1 (reduced_left a.s.options a.s.velocity.now a.words.now a.floats.now a.k c.requires r.new.w r.result c.from.result _ c.from.ensures (width_is a.s.options.nyquist) r.ensures _ (ap (finding_of a.k) (sym c.in_err-merges.was)))

pub returns : goal.returns
returns c =
    let a = c.args in
    let r = c.reduce in
    reduced_left a.s.options a.s.velocity.now a.words.now a.floats.now a.k c.requires r.new.w r.result c.from.result _ c.from.ensures (width_is a.s.options.nyquist) r.ensures _ (ap (finding_of a.k) (sym c.in_ok-merges.was))
