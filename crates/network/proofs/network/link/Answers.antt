-- `network::network::link` meets its contract. Assumes nothing.
use Rattle.merge.specs.Inside.Table.{enext, elen}
use Rattle.merge.specs.Inside.Tables.{store}
use Rattle.network.specs.Inside.Begin.{link_at}
use Rattle.merge.proofs.Stores.{holding, word, stored, swapped, leaves}
use Rattle.std.proofs.Common.{ℕ, ◌+◌, ◌*◌, refl, ap, arith}
use Rattle.network.proofs.network.link.Goals as goal

pub overflow_add-w : goal.overflow_add-w
unfolding store
overflow_add-w c =
    let a = c.args in
    let p = c.requires in
    let h = swapped (holding p.holds_tables) enext refl (2 * a.at.edges + a.a) a.i (omega arith) (omega arith) in
    rw (c.swap.ensures.after, c.head.ensures, c.slot.ensures, c.slot_length.ensures) (omega (arith, p.length_fits, word h elen a.a p.node_in))

pub returns : goal.returns
unfolding link_at store
returns c =
    let a = c.args in
    let p = c.requires in
    let h = swapped (holding p.holds_tables) enext refl (2 * a.at.edges + a.a) a.i (omega arith) (omega arith) in
    rw (c.swap.ensures.after, c.head.ensures, c.slot.ensures, c.slot_length.ensures) (leaves (stored h elen refl a.a _ _ p.node_in (ap (λ (y : ℕ). y + 1) (word h elen a.a p.node_in))))
