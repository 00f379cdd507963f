-- `merge::merge::drop_slot` meets its contract. Assumes nothing.
use Rattle.merge.specs.Inside.Table.{enext, elen}
use Rattle.merge.specs.Inside.Tables.{store}
use Rattle.merge.specs.Inside.Steps.{drop_at}
use Rattle.merge.proofs.Stores.{holding, word, stored, leaves}
use Rattle.std.proofs.Common.{ℕ, ◌-◌, refl, ap, arith}
use Rattle.merge.proofs.merge.drop_slot.Goals as goal

pub overflow_sub-w : goal.overflow_sub-w
unfolding store
overflow_sub-w c =
    let a = c.args in
    let k = c.requires.slots in
    let r = holding c.requires.holds_tables in
    let h = stored (stored r enext refl a.p _ _ k.p_in (word r enext a.x k.x_in)) enext refl a.x a.x a.x k.x_in refl in
    rw (c.slot.ensures, c.slot-2.ensures, c.slot-3.ensures, c.slot_length.ensures) (omega (arith, k.some, word h elen a.b k.b_in))

pub returns : goal.returns
unfolding drop_at store
returns c =
    let a = c.args in
    let k = c.requires.slots in
    let r = holding c.requires.holds_tables in
    let h = stored (stored r enext refl a.p _ _ k.p_in (word r enext a.x k.x_in)) enext refl a.x a.x a.x k.x_in refl in
    rw (c.slot.ensures, c.slot-2.ensures, c.slot-3.ensures, c.slot_length.ensures) (leaves (stored h elen refl a.b _ _ k.b_in (ap (λ (y : ℕ). y - 1) (word h elen a.b k.b_in))))
