-- `stages::stage_doubtful` meets its contract. Assumes nothing.
use Rattle.std.proofs.Common.{◌∙◌}
use Rattle.stages.proofs.Numbers.{byte_is}
use Rattle.stages.proofs.stage_doubtful.Goals as goal

pub returns : goal.returns
returns c = rw (← c.is_doubtful.ensures) (c.from.ensures ∙ byte_is _)
