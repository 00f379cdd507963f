-- `labels::label::below` meets its contract. Assumes nothing.
use Rattle.labels.proofs.PlacedLaws.{placed_first, placed_below, begin_asks}
use Rattle.std.proofs.Common.{refl, inl, inr}
use Rattle.labels.specs.Locals.{NoArray}
use Rattle.labels.proofs.label.below.Code.Mir.{function}
use Rattle.labels.proofs.label.below.Goals as goal

no_array : NoArray function
no_array = refl

pub begin-requires : goal.begin-requires
begin-requires c =
    let a = c.args in let x = a.x in
    let h = begin_asks x.gates a.u.now x.n x.g x.b c.requires.next c.requires.some c.requires.stops in
    record { some = h.0.0; word_bound = h.0.1; counter_in_bounds = h.0.2; counter_bound = h.1 }

pub returns-then-x : goal.returns-then-x
returns-then-x c =
    let a = c.args in let x = a.x in
    let f = c.begin in
    placed_first x.gates a.u.now x.n x.g x.b c.requires.next c.requires.some c.requires.stops (inl c.if-x.true) f.result f.ensures.value f.new.u f.ensures.u_after

pub returns-then-u-h : goal.returns-then-u-h
returns-then-u-h c =
    let a = c.args in let x = a.x in
    placed_below x.gates a.u.now x.n x.g x.b c.requires.next c.requires.some c.requires.stops c.if-x.false c.if-u-h.true

pub begin-requires-2 : goal.begin-requires-2
begin-requires-2 c =
    let a = c.args in let x = a.x in
    let h = begin_asks x.gates a.u.now x.n x.g x.b c.requires.next c.requires.some c.requires.stops in
    record { some = h.0.0; word_bound = h.0.1; counter_in_bounds = h.0.2; counter_bound = h.1 }

pub returns : goal.returns
returns c =
    let a = c.args in let x = a.x in
    let f = c.begin-2 in
    placed_first x.gates a.u.now x.n x.g x.b c.requires.next c.requires.some c.requires.stops (inr c.if-u-h.false) f.result f.ensures.value f.new.u f.ensures.u_after
