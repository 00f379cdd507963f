-- `sweep::questions::three_long` meets its contract. Assumes nothing.
use Rattle.std.proofs.Common.{refl, eq-eqb, ne_eqb}
use Rattle.sweep.proofs.questions.three_long.Goals as goal

pub returns-then-two-n : goal.returns-then-two-n
returns-then-two-n c = rw (eq-eqb _ _ c.if-one-n.true, eq-eqb _ _ c.if-two-n.true) refl

pub returns-else-two-n : goal.returns-else-two-n
returns-else-two-n c = rw (eq-eqb _ _ c.if-one-n.true, ne_eqb _ _ c.if-two-n.false) refl

pub returns-else-one-n : goal.returns-else-one-n
returns-else-one-n c = rw (ne_eqb _ _ c.if-one-n.false) refl
