-- `labels::label::find` meets its contract. The invariant: p is the word of gate x, and gate x is of the area of the gate asked for. Assumes nothing.
use Rattle.std.proofs.Common.{◌≡◌, ℕ, Bool, List, get_or}
use Rattle.labels.specs.Inside.Forest.{Forest}
use Rattle.labels.proofs.ForestLaws.{At}
use Rattle.labels.proofs.label.find.Given as goal

abbrev pub invariant-loop-p : goal.invariant-loop-p
invariant-loop-p l = (l.p ≡ get_or l.w l.x 0) × ((inside : List Bool) (rs : List ℕ) → Forest inside l.initial.w rs → At inside l.w rs l.start l.x)

abbrev pub decreases-loop-p : goal.decreases-loop-p
decreases-loop-p l = l.x
