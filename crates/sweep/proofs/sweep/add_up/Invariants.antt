-- `sweep::sweep::add_up` meets its contract. Assumes nothing.
use Rattle.sweep.specs.Inside.Mean.{sum_from, size_at, held_at}
use Rattle.std.proofs.Common.{◌≡◌, ◌+◌, ◌-◌, ◌<◌, ◌≤◌}
use Rattle.sweep.proofs.sweep.add_up.Given as goal

abbrev pub invariant-loop-l : goal.invariant-loop-l
invariant-loop-l l = record {
  some : 0 < l.l;
  few : l.l ≤ l.k + 1;
  gates : l.gates ≡ sum_from (size_at l.w l.n) l.l (l.k + 1 - l.l);
  held : l.held ≡ sum_from (held_at l.w l.n l.k) l.l (l.k + 1 - l.l);
}
