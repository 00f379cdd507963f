-- `window::median::drawn_at` meets its contract. The invariant: the values so far are in their places, and those of the places left follow. Assumes nothing.
use Rattle.window.proofs.MedianLaws.{Sofar}
use Rattle.window.specs.Window.{winds_from}
use Prim.Native.Nat.{◌-◌, ◌<◌}
use Rattle.window.proofs.median.drawn_at.Given as goal

abbrev pub invariant-loop : goal.invariant-loop
invariant-loop l = let left = l.held - l.counter in (l.p < 8) × Sofar l.s l.k left (winds_from l.winds l.shown l.n l.g l.p left) (winds_from l.winds l.shown l.n l.g l.first l.held)
