-- `labels::regions::blocks` meets its contract. The invariant: labels and number are those of the intervals before i. Assumes nothing.
use Rattle.labels.proofs.PartLaws.{Growing}
use Rattle.std.proofs.Common.{length, min}
use Rattle.labels.proofs.regions.blocks.Given as goal

abbrev pub invariant-loop-i : goal.invariant-loop-i
invariant-loop-i l = Growing l.s.per_ray l.s.velocity.now l.s.valid.now l.s.limits.now (length l.s.velocity.now) l.u l.k (min l.i l.intervals)
