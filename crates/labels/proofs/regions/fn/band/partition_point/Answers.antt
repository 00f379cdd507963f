-- The test that `labels::regions::band` makes of a limit meets its contract. Assumes nothing.
use Rattle.std.proofs.Common.{refl}
use Rattle.labels.specs.Locals.{NoArray}
use Rattle.labels.proofs.regions.fn.band.partition_point.Code.Mir.{function}

no_array : NoArray function
no_array = refl
