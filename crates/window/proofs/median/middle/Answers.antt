-- `window::median::middle` meets its contract. Assumes nothing.
use Rattle.window.proofs.MedianLaws.{middle_is}
use Rattle.window.proofs.median.middle.Goals as goal

pub returns : goal.returns
returns c = middle_is c.args.s c.args.k c.if-k-eq0.false c.requires
