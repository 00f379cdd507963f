-- A mark that opens the definitions of this crate and of those below: `unfolding evaluating` under a signature lets antt compute them.
use Rattle.labels.specs.Label
use Rattle.labels.specs.Regions
use Rattle.arithmetic.specs.Evaluating as Below

unfoldable pub evaluating : Unit {0}
unfolding Below.evaluating Label.own Label.above Label.before Label.links_at Label.links Label.swap Label.join Label.roots Label.firsts Label.rank Label.labelled Label.areas
    Regions.windows_from Regions.windows Regions.within Regions.inside Regions.over Regions.added Regions.grow Regions.nothing Regions.regions
evaluating = tt
