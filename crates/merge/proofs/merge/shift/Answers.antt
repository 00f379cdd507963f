-- `merge::merge::shift` meets its contract. Assumes nothing.
use Rattle.std.proofs.Common.{eq-eqb, ne_eqb}
use lib.Ieee.{neg, add}
use Rattle.merge.specs.Inside.Steps.{shift}
use Rattle.merge.proofs.merge.shift.Goals as goal

pub returns-then-g-eq-ZERO : goal.returns-then-g-eq-ZERO
unfolding shift
returns-then-g-eq-ZERO c = rw (eq-eqb c.args.g 1000 c.if-g-eq-ZERO.true)

pub returns-then-minus : goal.returns-then-minus
unfolding shift neg add
returns-then-minus c = rw (c.if-minus.true, ne_eqb c.args.g 1000 c.if-g-eq-ZERO.false, c.scaled-gain.ensures)

pub returns : goal.returns
unfolding shift neg add
returns c = rw (c.if-minus.false, ne_eqb c.args.g 1000 c.if-g-eq-ZERO.false, c.scaled-gain.ensures)
