-- `sweep::questions::two_long` meets its contract. Assumes nothing.
use Rattle.std.proofs.Common.{refl, eq-eqb, ne_eqb}
use Rattle.sweep.proofs.questions.two_long.Goals as goal

pub returns-then-one-n : goal.returns-then-one-n
returns-then-one-n c = rw (eq-eqb _ _ c.if-one-n.true) refl

pub returns-else-one-n : goal.returns-else-one-n
returns-else-one-n c = rw (ne_eqb _ _ c.if-one-n.false) refl
