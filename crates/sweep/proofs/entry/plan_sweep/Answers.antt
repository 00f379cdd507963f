-- `sweep::entry::plan_sweep` meets its contract. Assumes nothing.
use mathlib.Core.Option.{none}
use Rattle.std.proofs.Common.{rules, ◌≡◌, [], ◌∷◌, sym, ap, ◌∙◌, subst}
use Rattle.std.specs.Prelude.{Option, Err, IfOk}
use Rattle.arithmetic.specs.Inside.Asked.{ExtremesInRange}
use Rattle.arithmetic.specs.declared.intervals.Extremes.{Extremes}
use Rattle.arithmetic.specs.declared.intervals.Plan.{Plan}
use Rattle.arithmetic.proofs.Plans.{range_fair}
use Rattle.sweep.specs.Entry.{sweep_in}
use Rattle.sweep.specs.Refusal.{missed_by}
use Rattle.sweep.specs.Inside.Planning.{plan_for}
use Rattle.sweep.specs.Questions.{ask, first_no, few_for, limits_few, seven}
use Rattle.sweep.proofs.QuestionLaws.{goes_on, stops}
use Rattle.sweep.proofs.PassedLaws.{Passed, passed}
use Rattle.sweep.proofs.entry.plan_sweep.Goals.{In_ok-first_missed}
use Rattle.sweep.proofs.entry.plan_sweep.Goals as goal

-- questions 1 to 7 got a yes
seven_yes : (c : In_ok-first_missed) → first_no (seven (sweep_in c.args.s) c.args.lent) ≡ none
seven_yes c = sym c.first_missed.ensures ∙ ap missed_by c.in_ok-first_missed.was

known : (c : In_ok-first_missed) → Passed (sweep_in c.args.s) c.args.lent
known c = passed (sweep_in c.args.s) c.args.lent (seven_yes c)

pub least_and_greatest-requires : goal.least_and_greatest-requires
least_and_greatest-requires c = let k = known (goal.at.least_and_greatest-requires c).In_ok-first_missed in k.mask ∙ sym k.vel

pub plan_by-requires : goal.plan_by-requires
plan_by-requires c =
    let k = known (goal.at.plan_by-requires c).In_ok-first_missed in
    let e = sym c.least_and_greatest.ensures in (
      k.asked,
      subst ExtremesInRange e (range_fair _ k.velocity_in_range),
    )

pub returns-in_err-first_missed : goal.returns-in_err-first_missed
returns-in_err-first_missed c =
    let e : c.from_residual.result ≡ Err c.in_err-first_missed.field-0.0 = search rules in
    let f = sym c.first_missed.ensures ∙ ap missed_by c.in_err-first_missed.was in
    rw e (record { missed = sym (stops (seven (sweep_in c.args.s) c.args.lent) (ask 8 (limits_few (sweep_in c.args.s)) ∷ []) _ f); plan = tt; fit = tt })

pub returns : goal.returns
unfolding limits_few
returns c =
    let s = sweep_in c.args.s in
    let o = c.args.s.options in
    let e = c.least_and_greatest.ensures in
    record {
      missed = c.plan_by.ensures.missed
          ∙ ap (λ (x : Option Extremes). first_no (ask 8 (few_for o.nyquist o.splits x) ∷ [])) e
          ∙ sym (goes_on (seven s c.args.lent) (ask 8 (limits_few s) ∷ []) (seven_yes (goal.at.returns c).In_ok-first_missed));
      plan = subst (λ (x : Option Extremes). IfOk c.plan_by.result (λ (p : Plan). p ≡ plan_for o.nyquist o.splits x)) e c.plan_by.ensures.plan;
      fit = c.plan_by.ensures.fit;
    }
