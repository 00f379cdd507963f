-- `sweep::entry::plan_by` meets its contract. Assumes nothing.
use Rattle.std.proofs.Common.{rules, ◌≡◌, true}
use Rattle.arithmetic.proofs.RangeLaws.{T_of}
use Rattle.arithmetic.specs.Inside.Asked.{Held}
use Rattle.sweep.specs.Questions.{at_most}
use Rattle.sweep.proofs.PassedLaws.{answer_no, answer_yes}
use Rattle.sweep.proofs.PlanLaws.{limits_yes, limits_rise, plan_many, plan_given}
use Rattle.sweep.proofs.entry.plan_by.Goals.{Else-not-limits_few}
use Rattle.sweep.proofs.entry.plan_by.Goals as goal

pub returns-then-not-limits_few : goal.returns-then-not-limits_few
returns-then-not-limits_few c =
    let a = c.args in
    let r = c.plan_limits-p in
    record { missed = plan_many a.o.nyquist a.o.splits a.e r.result r.ensures (answer_no c.limits_few.ensures c.if-not-limits_few.true); plan = tt; fit = tt }

-- the plan that is given
few : (c : Else-not-limits_few) → at_most 10000 c.plan_limits-p.result.number ≡ true
few c = answer_yes c.limits_few.ensures c.if-not-limits_few.false

pub returns : goal.returns
returns c =
    let a = c.args in
    let r = c.plan_limits-p in
    let held : Held a.e = search rules in
    let f = few (goal.at.returns c).Else-not-limits_few in
    record {
      missed = plan_given a.o.nyquist a.o.splits a.e r.result r.ensures f;
      plan = r.ensures;
      fit = record {
        few = limits_yes r.result.number f;
        rising = limits_rise a.o.nyquist a.o.splits a.e r.result r.ensures (T_of c.well_formed.0.1.1.1.1.0.1) held c.requires.0 c.requires.1 f;
      };
    }
