-- `labels::label::one_less` meets its contract. Assumes nothing.
use Rattle.std.proofs.Common.{refl}
use Rattle.labels.specs.Locals.{NoArray}
use Rattle.labels.proofs.label.one_less.Code.Mir.{function}

no_array : NoArray function
no_array = refl
