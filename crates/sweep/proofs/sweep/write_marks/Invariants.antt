-- `sweep::sweep::write_marks` meets its contract. Assumes nothing.
use Rattle.memory.specs.Inside.Layout.{marks_at}
use Rattle.lists.specs.Inside.Seg.{put}
use Rattle.lists.specs.Seq.{tabulate}
use Rattle.std.proofs.Common.{◌≡◌, ℕ, ◌+◌, ◌≤◌, List, length, get_or}
use Rattle.sweep.proofs.sweep.write_marks.Given as goal

-- the mark of gate g
abbrev pub mark_in : List ℕ → ℕ → ℕ → ℕ → ℕ
mark_in w n k g = get_or w (marks_at n k + get_or w g 0) 0

abbrev pub invariant-loop-g : goal.invariant-loop-g
invariant-loop-g l = (l.g ≤ l.n) × ((l.doubtful ≡ put l.initial.doubtful 0 (tabulate l.g (mark_in l.w l.n l.k))) × (length l.doubtful ≡ length l.initial.doubtful))
