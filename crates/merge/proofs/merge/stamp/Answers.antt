-- `merge::merge::stamp` meets its contract. Assumes nothing.
use Rattle.merge.specs.Inside.Table.{stamp}
use Rattle.merge.proofs.Stores.{holding, stored, leaves}
use Rattle.std.proofs.Common.{refl}
use Rattle.merge.proofs.merge.stamp.Goals as goal

pub returns : goal.returns
returns c = rw c.stamp.ensures (leaves (stored (holding c.requires.holds_tables) stamp refl c.args.b c.args.k c.args.k c.requires.node_in refl))
