-- `labels::label::meet` meets its contract. Assumes nothing.
use Rattle.labels.proofs.PlacedLaws.{unite_asks, less_asks, placed_met}
use Rattle.std.proofs.Common.{refl}
use Rattle.labels.specs.Locals.{NoArray}
use Rattle.labels.proofs.label.meet.Code.Mir.{function}
use Rattle.labels.proofs.label.meet.Goals as goal

no_array : NoArray function
no_array = refl

pub unite-two-requires : goal.unite-two-requires
unite-two-requires c =
    let a = c.args in let x = a.x in
    let h = unite_asks x.gates a.u.now x.n x.g x.b c.requires.next c.requires.corner.some c.requires.corner in
    record { some = h.0; gate = h.1 }

pub one_less-requires : goal.one_less-requires
one_less-requires c =
    let a = c.args in let x = a.x in
    let f = c.unite-two in
    let h = less_asks x.gates a.u.now x.n x.g x.b c.requires.next c.requires.corner.some c.requires.corner f.new.w f.result f.ensures.value f.ensures.forest in
    record { some = h.0.0; counter_in_bounds = h.0.1; nonzero = h.1 }

pub returns : goal.returns
returns c =
    let a = c.args in let x = a.x in
    let f = c.unite-two in
    let k = c.one_less in
    placed_met x.gates a.u.now x.n x.g x.b c.requires.next c.requires.corner.some c.requires.corner f.new.w f.result f.ensures.value f.ensures.forest k.new.u k.ensures
