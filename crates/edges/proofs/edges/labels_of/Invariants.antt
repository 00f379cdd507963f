-- `edges::edges::labels_of` meets its contract. Assumes nothing.
use Rattle.std.proofs.Common.{◌≡◌}
use Rattle.edges.specs.Inside.Sorts.{with_labels}
use Rattle.edges.proofs.edges.labels_of.Given as goal

abbrev pub invariant-loop-i : goal.invariant-loop-i
invariant-loop-i l = l.w ≡ with_labels l.initial.w l.n l.m l.i
