-- A mark that opens the definitions of this crate and of those below: `unfolding evaluating` under a signature lets antt compute them.
use Rattle.test_sweep.specs.Generator
use Rattle.test_sweep.specs.Call
use Rattle.sweep.specs.Evaluating as Below

unfoldable pub evaluating : Unit {0}
unfolding Below.evaluating Generator.next_state Generator.state_after Generator.is_masked Generator.twelve_bits Generator.velocity_of Generator.gate_of Generator.gate_at Generator.velocities
    Generator.mask_bytes Call.filled Call.asked_test Call.call_fill Call.call_test
evaluating = tt
