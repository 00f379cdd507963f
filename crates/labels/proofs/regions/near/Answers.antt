-- `labels::regions::near` meets its contract. Assumes nothing.
use Rattle.std.proofs.Common.{sym, refl, ◌∙◌, arith}
use Rattle.labels.proofs.Ways.{tried}
use Rattle.labels.specs.Locals.{NoArray}
use Rattle.labels.proofs.regions.near.Code.Mir.{function}
use Rattle.labels.proofs.regions.near.Goals as goal

no_array : NoArray function
no_array = refl

pub returns-then-holds : goal.returns-then-holds
returns-then-holds c = tried c.args.limits.now c.requires.rising c.args.x c.args.m c.args.last (omega arith) (c.requires.last_bound (omega arith)) (sym c.holds.ensures ∙ c.if-holds.true)
