-- A mark that opens the definitions of this crate and of those below: `unfolding evaluating` under a signature lets antt compute them.
use Rattle.map.specs.Map
use Rattle.sweep.specs.Evaluating as Below

unfoldable pub evaluating : Unit {0}
unfolding Below.evaluating Map.map_room Map.map_lent Map.asked_map Map.drawn Map.call_map
evaluating = tt
