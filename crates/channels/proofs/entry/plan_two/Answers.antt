-- `channels::entry::plan_two` meets its contract. Assumes nothing.
use mathlib.Core.Option.{none}
use Rattle.std.proofs.Common.{rules, ◌≡◌, [], ◌∷◌, ◌++◌, sym, ap, ◌∙◌, subst}
use Rattle.std.specs.Prelude.{Option, Err, IfOk}
use Rattle.arithmetic.specs.Inside.Asked.{ExtremesInRange}
use Rattle.arithmetic.specs.declared.intervals.Extremes.{Extremes}
use Rattle.arithmetic.specs.declared.intervals.Plan.{Plan}
use Rattle.arithmetic.proofs.Plans.{range_fair, over_fair}
use Rattle.sweep.proofs.PassedLaws.{Passed, passed}
use Rattle.sweep.proofs.QuestionLaws.{goes_on, stops}
use Rattle.sweep.specs.Entry.{sweep_in}
use Rattle.sweep.specs.Inside.Planning.{plan_for}
use Rattle.sweep.specs.Questions.{ask, first_no, few_for, seven}
use Rattle.sweep.specs.Refusal.{missed_by}
use Rattle.channels.specs.Call.{shared_range, shared_few}
use Rattle.channels.proofs.entry.plan_two.Goals.{Start, In_ok-first_missed, In_ok-first_missed-2}
use Rattle.channels.proofs.entry.plan_two.Goals as goal

-- questions 1 to 7 got a yes
h_yes : (c : In_ok-first_missed) → first_no (seven (sweep_in c.args.h) c.args.h_lent) ≡ none
h_yes c = sym c.first_missed.ensures ∙ ap missed_by c.in_ok-first_missed.was

v_yes : (c : In_ok-first_missed-2) → first_no (seven (sweep_in c.args.v) c.args.v_lent) ≡ none
v_yes c = sym c.first_missed-2.ensures ∙ ap missed_by c.in_ok-first_missed-2.was

h_known : (c : In_ok-first_missed) → Passed (sweep_in c.args.h) c.args.h_lent
h_known c = passed (sweep_in c.args.h) c.args.h_lent (h_yes c)

v_known : (c : In_ok-first_missed-2) → Passed (sweep_in c.args.v) c.args.v_lent
v_known c = passed (sweep_in c.args.v) c.args.v_lent (v_yes c)

pub returns-in_err-first_missed-clause-missed : goal.returns-in_err-first_missed-clause-missed
returns-in_err-first_missed-clause-missed c =
    let h = sweep_in c.args.h in
    let v = sweep_in c.args.v in
    let e : c.from_residual.result ≡ Err c.in_err-first_missed.field-0.0 = search rules in
    let f = sym c.first_missed.ensures ∙ ap missed_by c.in_err-first_missed.was in
    rw e (sym (stops (seven h c.args.h_lent) (seven v c.args.v_lent ++ (ask 8 (shared_few h v) ∷ [])) _ f))

pub returns-in_err-first_missed-2-clause-missed : goal.returns-in_err-first_missed-2-clause-missed
returns-in_err-first_missed-2-clause-missed c =
    let h = sweep_in c.args.h in
    let v = sweep_in c.args.v in
    let q = ask 8 (shared_few h v) ∷ [] in
    let e : c.from_residual-in_err-first_missed-2.result ≡ Err c.in_err-first_missed-2.field-0.0 = search rules in
    let f = sym c.first_missed-2.ensures ∙ ap missed_by c.in_err-first_missed-2.was in
    rw e (sym (goes_on (seven h c.args.h_lent) (seven v c.args.v_lent ++ q) (h_yes (goal.at.returns-in_err-first_missed-2-clause-missed c).In_ok-first_missed) ∙ stops (seven v c.args.v_lent) q _ f))

pub shared_range-range-requires : goal.shared_range-range-requires
shared_range-range-requires c =
    let g = goal.at.shared_range-range-requires c in
    let h = h_known g.In_ok-first_missed in
    let v = v_known g.In_ok-first_missed-2 in
    (h.mask ∙ sym h.vel, v.mask ∙ sym v.vel)

pub plan_by-requires : goal.plan_by-requires
plan_by-requires c =
    let g = goal.at.plan_by-requires c in
    let h = h_known g.In_ok-first_missed in
    let e = sym c.shared_range-range.ensures in (
      h.asked,
      subst ExtremesInRange e (over_fair _ _ (range_fair _ h.velocity_in_range) (range_fair _ (v_known g.In_ok-first_missed-2).velocity_in_range)),
    )

pub returns-clause-missed : goal.returns-clause-missed
unfolding shared_few shared_range
returns-clause-missed c =
    let g = goal.at.returns-clause-missed c in
    let h = sweep_in c.args.h in
    let v = sweep_in c.args.v in
    let o = c.args.h.options in
    let q = ask 8 (shared_few h v) ∷ [] in
    c.plan_by.ensures.missed
    ∙ ap (λ (e : Option Extremes). first_no (ask 8 (few_for o.nyquist o.splits e) ∷ [])) c.shared_range-range.ensures
    ∙ sym (goes_on (seven h c.args.h_lent) (seven v c.args.v_lent ++ q) (h_yes g.In_ok-first_missed) ∙ goes_on (seven v c.args.v_lent) q (v_yes g.In_ok-first_missed-2))

pub returns-clause-plan : goal.returns-clause-plan
unfolding shared_range
returns-clause-plan c =
    let o = c.args.h.options in
    subst (λ (x : Option Extremes). IfOk c.plan_by.result (λ (p : Plan). p ≡ plan_for o.nyquist o.splits x)) c.shared_range-range.ensures c.plan_by.ensures.plan
