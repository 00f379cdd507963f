-- The same, as it is called. Assumes nothing.
use Rattle.std.proofs.Common.{refl}
use Rattle.labels.specs.Locals.{NoArray}
use Rattle.labels.proofs.regions.fn.band.partition_point+FnMut.call_mut.Code.Mir.{function}

no_array : NoArray function
no_array = refl
