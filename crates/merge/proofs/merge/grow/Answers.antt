-- `merge::merge::grow` meets its contract. Assumes nothing.
use Rattle.merge.specs.Inside.Table.{size, elen, rlen}
use Rattle.merge.specs.Inside.Tables.{store}
use Rattle.merge.specs.Inside.Steps.{grow}
use Rattle.merge.proofs.Stores.{holding, sum_fits, added, leaves}
use Rattle.std.proofs.Common.{refl}
use Rattle.merge.proofs.merge.grow.Goals as goal

pub overflow_add-w : goal.overflow_add-w
overflow_add-w c =
    let a = c.args in
    let f = c.requires.fit in
    rw (c.size.ensures, c.size-2.ensures) (sum_fits (holding c.requires.holds_tables) size refl a.b a.v f.b_in f.v_in f.sizes)

pub overflow_add-w-2 : goal.overflow_add-w-2
unfolding store
overflow_add-w-2 c =
    let a = c.args in
    let f = c.requires.fit in
    let h = added (holding c.requires.holds_tables) size refl a.b a.v f.b_in f.v_in in
    rw (c.size.ensures, c.size-2.ensures, c.slot_length.ensures, c.slot_length-2.ensures) (sum_fits h elen refl a.b a.v f.b_in f.v_in f.elens)

pub overflow_add-w-3 : goal.overflow_add-w-3
unfolding store
overflow_add-w-3 c =
    let a = c.args in
    let f = c.requires.fit in
    let h = added (added (holding c.requires.holds_tables) size refl a.b a.v f.b_in f.v_in) elen refl a.b a.v f.b_in f.v_in in
    rw (c.size.ensures, c.size-2.ensures, c.slot_length.ensures, c.slot_length-2.ensures, c.region_length.ensures, c.region_length-2.ensures) (sum_fits h rlen refl a.b a.v f.b_in f.v_in f.rlens)

pub returns : goal.returns
unfolding grow store
returns c =
    let a = c.args in
    let f = c.requires.fit in
    let h = added (added (holding c.requires.holds_tables) size refl a.b a.v f.b_in f.v_in) elen refl a.b a.v f.b_in f.v_in in
    rw (c.size.ensures, c.size-2.ensures, c.slot_length.ensures, c.slot_length-2.ensures, c.region_length.ensures, c.region_length-2.ensures) (leaves (added h rlen refl a.b a.v f.b_in f.v_in))
