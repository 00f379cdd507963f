-- `window::picture::write_winds` meets its contract: what the lent part gets is what the whole gets there. Assumes nothing.
use lib.ListN.{length}
use Rattle.window.proofs.PlaceLaws.{part_written}
use Rattle.window.proofs.picture.write_winds.Goals as goal

pub returns : goal.returns
returns c = part_written c.args.winds.now c.args.base (length c.args.u.velocity.now) c.requires.3 _ _ c.unfold_gates.ensures
