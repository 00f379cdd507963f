-- `stages::stage_merges` meets its contract. Assumes nothing.
use mathlib.Core.Path.{sym, ap, ◌∙◌}
use Rattle.network.specs.Inside.Begin.{AllIs}
use Rattle.stages.specs.Answers.{ran_number}
use Rattle.stages.proofs.stage_merges.Goals as goal

pub returns-in-Ok : goal.returns-in-Ok
unfolding AllIs
returns-in-Ok c = let u = c.merge_all in record { value = sym (ap ran_number c.in-Ok.is) ∙ ap ran_number u.ensures.answer; fact = u.ensures.leaves }

pub returns-in-Err : goal.returns-in-Err
unfolding AllIs
returns-in-Err c = let u = c.merge_all in record { value = sym (ap ran_number c.in-Err.is) ∙ ap ran_number u.ensures.answer; fact = u.ensures.leaves }
