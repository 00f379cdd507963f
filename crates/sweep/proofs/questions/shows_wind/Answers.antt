-- `sweep::questions::shows_wind` meets its contract. Assumes nothing.
use Rattle.std.proofs.Common.{refl, eq-eqb, ne_eqb}
use Rattle.sweep.specs.Velocity.{shows_wind}
use Rattle.sweep.proofs.questions.shows_wind.Goals as goal

pub returns-then-valid-eq1 : goal.returns-then-valid-eq1
unfolding shows_wind
returns-then-valid-eq1 c = rw (eq-eqb _ _ c.if-valid-eq1.true) refl

pub returns-else-valid-eq1 : goal.returns-else-valid-eq1
unfolding shows_wind
returns-else-valid-eq1 c = rw (ne_eqb _ _ c.if-valid-eq1.false) refl
