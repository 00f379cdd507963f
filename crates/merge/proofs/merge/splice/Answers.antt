-- `merge::merge::splice` meets its contract. Assumes nothing.
use Rattle.merge.specs.Inside.Table.{enext, rnext}
use Rattle.merge.specs.Inside.Tables.{store}
use Rattle.merge.specs.Inside.Steps.{splice}
use Rattle.merge.proofs.Stores.{holding, swapped, leaves}
use Rattle.std.proofs.Common.{◌+◌, ◌*◌, refl, arith}
use Rattle.merge.proofs.merge.splice.Goals as goal

pub returns : goal.returns
unfolding splice store
returns c =
    let a = c.args in
    let p = c.requires.nodes_in in
    let h = swapped (holding c.requires.holds_tables) enext refl (2 * a.at.edges + a.b) (2 * a.at.edges + a.v) (omega arith) (omega arith) in
    rw (c.swap-2.ensures.after, c.swap.ensures.after, c.head.ensures, c.head-2.ensures, c.next_region.ensures, c.next_region-2.ensures) (leaves (swapped h rnext refl a.b a.v p.0 p.1))
