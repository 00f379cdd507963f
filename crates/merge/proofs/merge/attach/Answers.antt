-- `merge::merge::attach` meets its contract. Assumes nothing.
use Rattle.merge.specs.Inside.Table.{first, second}
use Rattle.merge.specs.Inside.Steps.{attach_at}
use Rattle.merge.proofs.Stores.{holding, stored, stored_diff, leaves}
use Rattle.std.proofs.Common.{refl}
use Rattle.merge.proofs.merge.attach.Goals as goal

pub returns : goal.returns
unfolding attach_at
returns c =
    let a = c.args in
    let e = c.requires.edge_in in
    rw (c.f32_to_f64_with_nan.ensures, c.first.ensures, c.second.ensures) (leaves (stored_diff (stored (stored (holding c.requires.holds_tables) first refl a.f a.b a.b e refl) second refl a.f a.c a.c e refl) a.f a.x))
