-- The plan of the limits, which questions 1 to 8 give as the code puts them.
use Rattle.std.specs.Prelude.{Option, ℕ, ◌≤◌, Float}
use Rattle.arithmetic.specs.Inside.Asked.{Rising}
use Rattle.arithmetic.specs.Intervals.{adds, plan_of, at_least0}
use Rattle.arithmetic.specs.declared.intervals.Extremes.{Extremes}
use Rattle.arithmetic.specs.declared.intervals.Plan.{Plan}
use Rattle.network.specs.Inside.Find.{limits_by}
use Rattle.network.specs.declared.options.Options.{Options}
use Rattle.sweep.specs.Sweep.{Sweep}
use Rattle.sweep.specs.Questions.{range_of}

-- the plan of the limits for a least and a greatest velocity
abbrev pub plan_for : Float → ℕ → Option Extremes → Plan
plan_for nyq splits e = plan_of splits (adds nyq splits e)

-- the plan of a sweep's own limits
abbrev pub own_plan : Sweep → Plan
own_plan s = plan_for s.nyquist s.splits (range_of s)

-- a plan of at most 10,000 limits that never fall
pub record Fit (o : Options) (p : Plan) : Type 0 where
  pub few : at_least0 p.number ≤ 10000
  pub rising : Rising (limits_by o p)
