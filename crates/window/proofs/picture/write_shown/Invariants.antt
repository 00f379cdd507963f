-- `window::picture::write_shown` meets its contract. The invariant: the first g bytes are written, and the rest is as it was. Assumes nothing.
use mathlib.Core.Bool.{cond}
use Rattle.lists.specs.Seq.{tabulate}
use Rattle.lists.specs.Inside.Seg.{put}
use Rattle.sweep.specs.Velocity.{shows_wind}
use mathlib.Core.Path.{◌≡◌}
use mathlib.Core.List.{List}
use Prim.Native.Nat.{ℕ}
use lib.ListN.{get_or}
use Rattle.window.proofs.picture.write_shown.Given as goal

-- a gate's byte, from the slices
abbrev pub byte_from : List ℕ → List ℕ → ℕ → ℕ
byte_from ms ls g = cond (shows_wind (get_or ms g 0) (get_or ls g 0)) 1 0

abbrev pub invariant-loop-g : goal.invariant-loop-g
invariant-loop-g l = l.shown ≡ put l.initial.shown l.base (tabulate l.g (byte_from l.valid l.labels))
