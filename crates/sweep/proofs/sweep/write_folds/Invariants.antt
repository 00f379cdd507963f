-- `sweep::sweep::write_folds` meets its contract. Assumes nothing.
use Rattle.std.proofs.Common.{◌≡◌, ◌+◌, ◌≤◌, length, get_or}
use Rattle.sweep.specs.Sweep.{gate_count}
use Rattle.memory.specs.Inside.Layout.{counts_at}
use Rattle.merge.specs.Inside.Steps.{unbias}
use Rattle.lists.specs.Inside.Seg.{put}
use Rattle.lists.specs.Seq.{tabulate}
use Rattle.sweep.proofs.sweep.write_folds.Given as goal

abbrev pub invariant-loop-g : goal.invariant-loop-g
invariant-loop-g l = (l.g ≤ l.n) × ((l.folds ≡ put l.initial.folds 0 (tabulate l.g (λ i. gate_count l.offset (get_or l.valid i 0) (unbias (get_or l.w (counts_at l.n l.k + get_or l.w i 0) 0))))) × (length l.folds ≡ length l.initial.folds))
