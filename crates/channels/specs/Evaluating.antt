-- A mark that opens the definitions of this crate and of those below: `unfolding evaluating` under a signature lets antt compute them.
use Rattle.channels.specs.Call
use Rattle.sweep.specs.Evaluating as Below

unfoldable pub evaluating : Unit {0}
unfolding Below.evaluating Call.shared_range Call.shared_limits Call.shared_few Call.asked_two Call.cleared_for_two Call.ending_two Call.call_two
evaluating = tt
