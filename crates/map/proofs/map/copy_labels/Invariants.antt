-- `map::map::copy_labels` meets its contract. Assumes nothing.
use Rattle.std.proofs.Common.{◌≡◌, length}
use Rattle.lists.specs.Inside.Seg.{seg, put}
use Rattle.map.proofs.map.copy_labels.Given as goal

abbrev pub invariant-loop-g : goal.invariant-loop-g
invariant-loop-g l = record {
  copied : l.labels ≡ put l.initial.labels 0 (seg l.w 0 l.g);
  long : length l.labels ≡ length l.initial.labels;
}
