-- `window::picture::draw` meets its contract. The invariant: the first g gates of picture and marks are written. Assumes nothing.
use lib.Ieee.{Float}
use Rattle.lists.specs.Seq.{tabulate}
use Rattle.lists.specs.Inside.Seg.{put}
use Rattle.window.specs.Window.{winds_from}
use Rattle.window.specs.Median.{median, mark}
use mathlib.Core.Path.{◌≡◌}
use mathlib.Core.List.{List}
use Prim.Native.Nat.{ℕ}
use Rattle.window.proofs.picture.draw.Given as goal

-- a gate of the picture, and its mark
abbrev pub median_at : List Float → List ℕ → ℕ → ℕ → ℕ → ℕ → Float
median_at ws bs n first held g = median (winds_from ws bs n g first held)

abbrev pub mark_at : List Float → List ℕ → ℕ → ℕ → ℕ → ℕ → ℕ
mark_at ws bs n first held g = mark (winds_from ws bs n g first held)

abbrev pub invariant-loop-g : goal.invariant-loop-g
invariant-loop-g l = (l.picture ≡ put l.initial.picture 0 (tabulate l.g (median_at l.winds l.shown l.n l.first l.held))) × (l.marks ≡ put l.initial.marks 0 (tabulate l.g (mark_at l.winds l.shown l.n l.first l.held)))
