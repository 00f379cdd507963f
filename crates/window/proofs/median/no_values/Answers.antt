-- `window::median::no_values` meets its contract. Assumes nothing.
use lib.Ieee.{of_bits}
use mathlib.Core.Path.{refl}
use Rattle.window.proofs.median.no_values.Goals as goal

pub returns : goal.returns
unfolding of_bits
returns c = refl
