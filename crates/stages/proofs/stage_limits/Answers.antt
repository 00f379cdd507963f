-- `stages::stage_limits` meets its contract. Assumes nothing.
use Rattle.std.specs.Prelude.{Option}
use mathlib.Core.List.{List}
use mathlib.Core.Path.{◌≡◌, refl, sym, ap, subst, ◌∙◌}
use Prim.Native.Nat.{◌≤◌}
use lib.IntN.{ℤ}
use lib.Ieee.{Float}
use Rattle.arithmetic.specs.Inside.Asked.{ExtremesInRange, front}
use Rattle.arithmetic.specs.Intervals.{valid, range, adds, plan_of, number_for, limits_of, limits_for, at_least0}
use Rattle.arithmetic.specs.declared.intervals.Extremes.{Extremes}
use Rattle.arithmetic.proofs.Plans.{no_nan, range_fair, plan_number, plan_limits_are}
use Rattle.stages.proofs.stage_limits.Goals.{After-plan_limits-p}
use Rattle.stages.proofs.stage_limits.Goals as goal

-- the plan is that of their limits
planned : (c : After-plan_limits-p) → c.plan_limits-p.result ≡ plan_of c.args.splits (adds c.args.nyquist c.args.splits (range (valid c.args.velocity.now c.args.valid.now)))
planned c = c.plan_limits-p.ensures ∙ ap (λ (e : Option Extremes). plan_of c.args.splits (adds c.args.nyquist c.args.splits e)) c.least_and_greatest-e.ensures

number_is : (c : After-plan_limits-p) → c.plan_limits-p.result.number ≡ number_for c.args.nyquist c.args.splits (range (valid c.args.velocity.now c.args.valid.now))
number_is c = plan_number c.plan_limits-p.result c.args.nyquist c.args.splits (range (valid c.args.velocity.now c.args.valid.now)) (range (valid c.args.velocity.now c.args.valid.now)) (planned c) refl

limits_are : (c : After-plan_limits-p)
    → limits_of c.args.nyquist c.args.splits c.plan_limits-p.result.add_start c.plan_limits-p.result.add_end c.plan_limits-p.result.number
    ≡ limits_for c.args.nyquist c.args.splits (range (valid c.args.velocity.now c.args.valid.now))
limits_are c = plan_limits_are c.plan_limits-p.result c.args.nyquist c.args.splits (range (valid c.args.velocity.now c.args.valid.now)) (range (valid c.args.velocity.now c.args.valid.now)) (planned c) refl

pub plan_limits-p-requires : goal.plan_limits-p-requires
plan_limits-p-requires c = record { asked = c.requires.asked.0; extremes_in_range = subst ExtremesInRange (sym c.least_and_greatest-e.ensures) (range_fair _ c.requires.asked.1) }

pub limits-requires : goal.limits-requires
limits-requires c = rw c.new-o.ensures (record { planned = record { sound = no_nan _ _ c.requires.asked.0.low; few = subst (λ (z : ℤ). at_least0 z ≤ 10000) (sym (number_is (goal.at.limits-requires c).After-plan_limits-p)) c.requires.valid_bound }; in_bounds = c.requires.valid_len.1 })

pub returns : goal.returns
returns c = record { value = c.limits.ensures.value ∙ ap at_least0 (number_is (goal.at.returns c).After-plan_limits-p); out_after = (rw c.new-o.ensures at c.limits.ensures.out_after) ∙ ap (λ (l : List Float). front l c.args.out.now) (limits_are (goal.at.returns c).After-plan_limits-p) }
