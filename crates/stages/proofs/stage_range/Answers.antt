-- `stages::stage_range` meets its contract. Assumes nothing.
use Rattle.std.proofs.Common.{rules, ◌∙◌}
use Rattle.stages.proofs.Numbers.{byte_is}
use Rattle.stages.proofs.stage_range.Goals as goal

pub returns-in-Some : goal.returns-in-Some
returns-in-Some c = rw (← c.least_and_greatest.ensures, c.in-Some.is) (c.from.ensures ∙ byte_is _)

pub returns-in-None : goal.returns-in-None
returns-in-None c = rw (← c.least_and_greatest.ensures, c.in-None.is) (search rules)
