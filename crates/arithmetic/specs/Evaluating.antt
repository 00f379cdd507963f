-- A mark that opens the definitions of this crate and the float operations: `unfolding evaluating` under a signature lets antt compute them.
use Rattle.lists.specs.Seq
use Rattle.arithmetic.specs.Rounding
use Rattle.arithmetic.specs.Intervals
use Rattle.arithmetic.specs.Doubtful
use Rattle.std.specs.Float.Ieee

unfoldable pub evaluating : Unit {0}
unfolding Seq.upto Seq.tabulate Seq.keep Seq.all Seq.each Seq.sum Rounding.ceiling_whole Rounding.nearest_whole Rounding.within Rounding.narrowed Rounding.real Rounding.scale Intervals.valid
    Intervals.lesser Intervals.greater Intervals.least Intervals.greatest Intervals.range Intervals.over_both Intervals.two_nyquist Intervals.width Intervals.beyond Intervals.over_start
    Intervals.over_end Intervals.widened Intervals.no_adds Intervals.adds Intervals.number Intervals.plan_of Intervals.step_of Intervals.limit_at Intervals.spaced Intervals.start_of
    Intervals.end_of Intervals.limits_of Intervals.number_for Intervals.limits_for Intervals.nyquist_in_range Intervals.velocity_in_range Ieee.add Ieee.sub Ieee.mul Ieee.div Ieee.neg Ieee.lt
    Ieee.le Ieee.round Ieee.of_int Doubtful.midway Doubtful.doubtful
evaluating = tt
