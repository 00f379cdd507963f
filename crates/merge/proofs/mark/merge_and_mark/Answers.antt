-- `merge::mark::merge_and_mark` meets its contract. Assumes nothing.
use Rattle.std.proofs.Common.{sym, subst}
use Rattle.merge.specs.Inside.Tables.{Tables, view, Sound}
use Rattle.merge.specs.Inside.Steps.{merged}
use Rattle.merge.specs.Inside.Leaves.{Raised, Fit}
use Rattle.merge.proofs.Marks.{sound_mark_if, fit_mark_if}
use Rattle.merge.proofs.mark.merge_and_mark.Goals as goal

pub merge-requires-clause-sound : goal.merge-requires-clause-sound
merge-requires-clause-sound c =
    let a = c.args in
    subst (Sound a.at.edges a.at.nodes) (sym c.mark.ensures.tables) (sound_mark_if a.at.edges a.at.nodes _ _ (view a.at.edges a.at.nodes a.w.now a.d.now) c.requires.sound)

pub merge-requires-clause-fit : goal.merge-requires-clause-fit
merge-requires-clause-fit c =
    let a = c.args in
    subst (Fit a.at.nodes a.step.base a.step.moved) (sym c.mark.ensures.tables) (fit_mark_if a.at.nodes a.step.base a.step.moved _ _ (view a.at.edges a.at.nodes a.w.now a.d.now) c.requires.fit)

pub returns : goal.returns
returns c =
    let a = c.args in let u = a.step in let r = c.merge in
    subst (λ (s : Tables). Raised a.at.edges a.at.nodes r.new.w r.new.d (merged a.at.edges a.k a.e u.base u.moved u.gain s) r.result) c.mark.ensures.tables r.ensures
