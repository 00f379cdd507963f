-- `labels::label::beside` meets its contract. Assumes nothing.
use Rattle.labels.proofs.PlacedLaws.{placed_beside, placed_joined, above_later, corner}
use Rattle.std.proofs.Common.{refl, inl, inr}
use Rattle.labels.specs.Locals.{NoArray}
use Rattle.labels.proofs.label.beside.Code.Mir.{function}
use Rattle.labels.proofs.label.beside.Goals as goal

no_array : NoArray function
no_array = refl

pub returns-then-x : goal.returns-then-x
returns-then-x c =
    let a = c.args in let x = a.x in
    placed_beside x.gates a.u.now x.n x.g x.b c.requires.next c.requires.some c.requires.goes_on (inl c.if-x.true) a.word c.requires.word_value

pub returns-then-u-h : goal.returns-then-u-h
returns-then-u-h c =
    let a = c.args in let x = a.x in
    placed_beside x.gates a.u.now x.n x.g x.b c.requires.next c.requires.some c.requires.goes_on (inr c.if-u-h.true) a.word c.requires.word_value

pub overflow_sub-h-2 : goal.overflow_sub-h-2
overflow_sub-h-2 c =
    let a = c.args in let x = a.x in
    above_later x.gates a.u.now x.n x.g x.b c.requires.next c.requires.some c.requires.goes_on c.if-x.false c.if-u-h.false

pub returns-then-u-h-2 : goal.returns-then-u-h-2
returns-then-u-h-2 c =
    let a = c.args in let x = a.x in
    placed_joined x.gates a.u.now x.n x.g x.b c.requires.next c.requires.some c.requires.goes_on c.if-x.false c.if-u-h.false c.if-u-h-2.true a.word c.requires.word_value

pub meet-requires : goal.meet-requires
meet-requires c = let a = c.args in let x = a.x in record { next = c.requires.next; corner = corner x.gates a.u.now x.n x.g x.b c.requires.next c.requires.some c.requires.goes_on c.if-x.false c.if-u-h.false }
