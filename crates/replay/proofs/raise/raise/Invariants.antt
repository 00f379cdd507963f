-- `replay::raise::raise` meets its contract. The invariant: the counts so far have the number added, and the others are as they were. Assumes nothing.
use Rattle.std.proofs.Common.{◌≡◌, ◌++◌, map, take, drop}
use Rattle.replay.specs.Record.{raised_by}
use Rattle.replay.proofs.raise.raise.Given as goal

abbrev pub invariant-loop-count : goal.invariant-loop-count
invariant-loop-count l = l.counts ≡ map (raised_by l.more) (take l.count-index l.fn.counts) ++ drop l.count-index l.fn.counts
