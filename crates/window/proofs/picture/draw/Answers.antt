-- `window::picture::draw` meets its contract. The invariant: the first g gates of picture and marks are written. Assumes nothing.
use Rattle.std.proofs.Common.{◌≡◌, ◌∙◌, ap, sym, cond, arith}
use Rattle.std.proofs.lemmas.Bool.Decides.{nat_tests}
use Rattle.std.specs.Prelude.{is_some}
use Rattle.sweep.proofs.FillLaws.{fill_begin, fill_on, fill_all}
use Rattle.window.specs.Window.{winds_from}
use Rattle.window.proofs.MedianLaws.{drawn_median, drawn_mark}
use Rattle.window.proofs.picture.draw.Invariants.{median_at, mark_at}
use Rattle.window.proofs.picture.draw.Goals as goal

pub loop-g-init : goal.loop-g-init
loop-g-init c =
    let a = c.args in
    (fill_begin (median_at a.winds.now a.shown.now a.n a.first a.held) a.picture.now, fill_begin (mark_at a.winds.now a.shown.now a.n a.first a.held) a.marks.now)

pub loop-g-preserved : goal.loop-g-preserved
loop-g-preserved c =
    let a = c.args in
    let l = c.loop-g in
    let vs = winds_from a.winds.now a.shown.now a.n l.g a.first a.held in
    let d = c.drawn_at-wind.ensures in
    let none : c.from.result ≡ cond c.is_none.result 1 0 = grind (arith, nat_tests) in (
      fill_on (median_at a.winds.now a.shown.now a.n a.first a.held) a.picture.now l.picture l.g c.unwrap_or.result l.invariant.0 (c.unwrap_or.ensures ∙ rw d (drawn_median vs)),
      fill_on (mark_at a.winds.now a.shown.now a.n a.first a.held) a.marks.now l.marks l.g c.from.result l.invariant.1 (none ∙ drawn_mark vs c.is_none.result (ap is_some (sym d) ∙ c.is_none.ensures)),
    )

pub returns : goal.returns
returns c =
    let a = c.args in
    let l = c.loop-g in
    let end : l.g ≡ a.n = omega arith in (
      fill_all (median_at a.winds.now a.shown.now a.n a.first a.held) a.picture.now l.picture l.g a.n l.invariant.0 end c.requires.1,
      fill_all (mark_at a.winds.now a.shown.now a.n a.first a.held) a.marks.now l.marks l.g a.n l.invariant.1 end c.requires.2,
    )
