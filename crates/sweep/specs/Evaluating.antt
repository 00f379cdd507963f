-- A mark that opens the definitions of this crate and of those below: `unfolding evaluating` under a signature lets antt compute them.
use Rattle.sweep.specs.Sweep
use Rattle.sweep.specs.Questions
use Rattle.sweep.specs.Call
use Rattle.sweep.specs.Velocity
use Rattle.network.specs.Evaluating as Below

unfoldable pub evaluating : Unit {0}
unfolding Below.evaluating Sweep.regions_of Sweep.pairs_of Sweep.sizes Sweep.network_of Sweep.final Sweep.none Sweep.early Sweep.weighed Sweep.or_zero Sweep.mean_of Sweep.ended
    Sweep.gate_count Sweep.offset_of Sweep.finished Sweep.unfolded_by Sweep.unfolded Questions.first_no Questions.gates_in Questions.words_for Questions.floats_for Questions.size_in_range
    Questions.lengths_fit Questions.mask_is_bits Questions.work_suffices Questions.options_in_range Questions.velocities_in_range
    Questions.at_most Questions.limits_few Questions.own_limits Questions.seven Questions.room
    Questions.asked Questions.first_missed Questions.answered Questions.outcome Questions.asked9 Call.lengths Call.cleared Call.cleared_for Call.worked_on Call.ending Call.call Velocity.wind
    Velocity.shows_wind Velocity.unfolded_at Velocity.velocities Velocity.own_long Velocity.count_passes Velocity.counts_in_range Velocity.asked_velocity Velocity.call_velocity
evaluating = tt
