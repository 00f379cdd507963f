-- `sweep::questions::lengths_fit` meets its contract. Assumes nothing.
use Rattle.std.proofs.Common.{refl, eq-eqb, ne_eqb}
use Rattle.sweep.specs.Questions.{lengths_fit}
use Rattle.sweep.proofs.questions.lengths_fit.Goals as goal

pub returns-then-valid-n : goal.returns-then-valid-n
unfolding lengths_fit
returns-then-valid-n c = rw (eq-eqb _ _ c.if-velocity-n.true, eq-eqb _ _ c.if-valid-n.true) refl

pub returns-else-valid-n : goal.returns-else-valid-n
unfolding lengths_fit
returns-else-valid-n c = rw (eq-eqb _ _ c.if-velocity-n.true, ne_eqb _ _ c.if-valid-n.false) refl

pub returns-else-velocity-n : goal.returns-else-velocity-n
unfolding lengths_fit
returns-else-velocity-n c = rw (ne_eqb _ _ c.if-velocity-n.false) refl
