-- `window::questions::first_missed` meets its contract. Assumes nothing.
use mathlib.Core.Option.{none}
use Rattle.std.proofs.Common.{rules, ◌≡◌, sym, ap, ◌∙◌}
use Rattle.std.specs.Prelude.{Err}
use Rattle.sweep.specs.Velocity.{counted_in, after_lengths}
use Rattle.sweep.specs.Questions.{first_no}
use Rattle.sweep.specs.Refusal.{missed_by}
use Rattle.sweep.proofs.PassedLaws.{answer_no, answer_yes}
use Rattle.window.specs.Window.{same_size, size_and_lengths}
use Rattle.window.proofs.AskLaws.{Sized, gates_are, sized, missed_early, missed_after, missed_14, missed_none}
use Rattle.window.proofs.questions.first_missed.Goals.{In_ok-missed_first, In_ok-missed_after_lengths}
use Rattle.window.proofs.questions.first_missed.Goals as goal

-- a yes to questions 1 and 2, and what it gives
early_yes : (c : In_ok-missed_first) → first_no (size_and_lengths (counted_in c.args.u) c.args.w c.args.l) ≡ none
early_yes c = sym c.missed_first.ensures ∙ ap missed_by c.in_ok-missed_first.was

sized_here : (c : In_ok-missed_first) → Sized (counted_in c.args.u) c.args.w c.args.l
sized_here c = sized _ _ _ (early_yes c)

pub returns-in_err-missed_first : goal.returns-in_err-missed_first
returns-in_err-missed_first c =
    let e : c.from_residual.result ≡ Err c.in_err-missed_first.field-0.0 = search rules in
    rw e (sym (missed_early (counted_in c.args.u) c.args.w c.args.l _ (sym c.missed_first.ensures ∙ ap missed_by c.in_err-missed_first.was)))

pub missed_after_lengths-requires : goal.missed_after_lengths-requires
missed_after_lengths-requires c = let z = sized_here (goal.at.missed_after_lengths-requires c).In_ok-missed_first in (z.mask ∙ sym z.vel, z.counts ∙ sym z.vel, z.labels ∙ sym z.vel)

pub returns-in_err-missed_after_lengths : goal.returns-in_err-missed_after_lengths
returns-in_err-missed_after_lengths c =
    let g = (goal.at.returns-in_err-missed_after_lengths c).In_ok-missed_first in
    let u = counted_in c.args.u in
    let e : c.from_residual-in_err-missed_after_lengths.result ≡ Err c.in_err-missed_after_lengths.field-0.0 = search rules in
    let a = c.missed_after_lengths.ensures _ _ ((sized_here g).vel ∙ gates_are u c.args.w c.args.l) in
    rw e (sym (missed_after u c.args.w c.args.l (early_yes g) _ (sym a ∙ ap missed_by c.in_err-missed_after_lengths.was)))

-- a yes to those after them
after_yes : (c : In_ok-missed_after_lengths) → first_no (size_and_lengths (counted_in c.args.u) c.args.w c.args.l) ≡ none → first_no (after_lengths (counted_in c.args.u)) ≡ none
after_yes c h = sym (c.missed_after_lengths.ensures _ _ ((sized _ c.args.w c.args.l h).vel ∙ gates_are (counted_in c.args.u) c.args.w c.args.l)) ∙ ap missed_by c.in_ok-missed_after_lengths.was

pub returns-then-not-same_size : goal.returns-then-not-same_size
unfolding same_size
returns-then-not-same_size c =
    let g = goal.at.returns-then-not-same_size c in
    let h = early_yes g.In_ok-missed_first in
    missed_14 (counted_in c.args.u) c.args.w c.args.l h (after_yes g.In_ok-missed_after_lengths h) (answer_no c.same_size.ensures c.if-not-same_size.true)

pub returns : goal.returns
unfolding same_size
returns c =
    let g = goal.at.returns c in
    let h = early_yes g.In_ok-missed_first in
    missed_none (counted_in c.args.u) c.args.w c.args.l h (after_yes g.In_ok-missed_after_lengths h) (answer_yes c.same_size.ensures c.if-not-same_size.false)
