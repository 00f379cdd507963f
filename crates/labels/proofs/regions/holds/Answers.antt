-- `labels::regions::holds` meets its contract. Assumes nothing.
use Rattle.std.proofs.Common.{refl}
use Rattle.labels.specs.Locals.{NoArray}
use Rattle.labels.proofs.regions.holds.Code.Mir.{function}

no_array : NoArray function
no_array = refl
