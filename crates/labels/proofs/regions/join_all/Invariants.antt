-- `labels::regions::join_all` meets its contract. The invariant: the gates before g are placed. Assumes nothing.
use Rattle.labels.proofs.ScanLaws.{Scan}
use Rattle.std.proofs.Common.{length}
use Rattle.labels.proofs.regions.join_all.Given as goal

abbrev pub invariant-loop-g : goal.invariant-loop-g
invariant-loop-g l = Scan l.s.per_ray l.s.limits.now l.s.velocity.now l.s.valid.now l.u (length l.s.velocity.now) l.last l.before l.word l.along l.g
