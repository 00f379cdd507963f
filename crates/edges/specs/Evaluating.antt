-- A mark that opens the definitions of this crate and of those below: `unfolding evaluating` under a signature lets antt compute them.
use Rattle.edges.specs.Edges
use Rattle.labels.specs.Evaluating as Below

unfoldable pub evaluating : Unit {0}
unfolding Below.evaluating Edges.next Edges.skip Edges.look Edges.sees Edges.bridges Edges.pair_to Edges.pairs_at Edges.pairs Edges.plus_one_if Edges.begun Edges.plus Edges.difference
    Edges.gathered Edges.first_is Edges.second_is Edges.records_of Edges.records Edges.greater_first Edges.used
evaluating = tt
