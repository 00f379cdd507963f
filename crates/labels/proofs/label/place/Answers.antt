-- `labels::label::place` meets its contract. Assumes nothing.
use Rattle.labels.proofs.PlacedLaws.{placed_out, later}
use Rattle.lists.specs.Inside.Seg.{seg}
use Rattle.labels.specs.Inside.Bands.{band_before}
use Rattle.std.proofs.Common.{◌≡◌, ◌<◌, sym, refl, ◌∙◌, arith}
use Rattle.labels.specs.Locals.{NoArray}
use Rattle.labels.proofs.label.place.Code.Mir.{function}
use Rattle.labels.proofs.label.place.Goals as goal

no_array : NoArray function
no_array = refl

pub returns-then-x-eq0 : goal.returns-then-x-eq0
returns-then-x-eq0 c =
    let a = c.args in let x = a.x in
    placed_out x.gates a.u.now x.n x.g x.b c.requires.next c.if-x-eq0.true

pub beside-requires : goal.beside-requires
beside-requires c =
    let a = c.args in let x = a.x in
    let some : 0 < x.b = omega (arith, c.if-x-eq0.false) in
    let before : band_before x.gates (seg a.u.now 0 x.g) x.g ≡ x.b = sym c.requires.before_value ∙ sym c.if-x-before.true in record { next = c.requires.next; some = some; goes_on = before; word_value = c.requires.word_value (later x.gates a.u.now x.n x.g x.b c.requires.next some before) }
