-- `labels::regions::put_over` meets its contract. The invariant: labels before g are put over the old ones, those from g on are as they were. Assumes nothing.
use Rattle.labels.proofs.OverLaws.{Putting}
use Rattle.labels.proofs.regions.put_over.Given as goal

abbrev pub invariant-loop-g : goal.invariant-loop-g
invariant-loop-g l = Putting l.initial.u l.u l.n l.from l.g
