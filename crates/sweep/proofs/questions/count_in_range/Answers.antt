-- `sweep::questions::count_in_range` meets its contract. Assumes nothing.
use Rattle.sweep.proofs.VelocityLaws.{bounded_above, bounded_below}
use Rattle.sweep.proofs.questions.count_in_range.Goals as goal

pub returns-then-count-ge-LEAST_COUNT : goal.returns-then-count-ge-LEAST_COUNT
returns-then-count-ge-LEAST_COUNT c = bounded_above c.args.count c.ranges.count c.if-count-ge-LEAST_COUNT.true

pub returns-else-count-ge-LEAST_COUNT : goal.returns-else-count-ge-LEAST_COUNT
returns-else-count-ge-LEAST_COUNT c = bounded_below c.args.count c.ranges.count c.if-count-ge-LEAST_COUNT.false
