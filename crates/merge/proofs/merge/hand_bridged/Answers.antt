-- `merge::merge::hand_bridged` meets its contract. Assumes nothing.
use Rattle.merge.proofs.Leaf.{hand_does, hand_none, sum_two}
use Rattle.merge.proofs.Stores.{holding, sum_fits}
use Rattle.merge.specs.Inside.Tables.{view}
use Rattle.merge.specs.Inside.Table.{bridged}
use Rattle.std.proofs.Common.{refl, arith}
use Rattle.merge.proofs.merge.hand_bridged.Goals as goal

pub returns-then-b-eq0 : goal.returns-then-b-eq0
returns-then-b-eq0 c =
    let a = c.args in
    let o = c.requires.other_edge in
    hand_none a.at.edges a.at.nodes a.w.now a.d.now a.q a.f c.requires.holds_tables o.q_in o.f_in (rw c.bridged.ensures at c.if-b-eq0.true)

pub overflow_add-t : goal.overflow_add-t
overflow_add-t c =
    let a = c.args in
    let o = c.requires.other_edge in
    let h = c.requires.sound in
    let b = sum_two ((view a.at.edges a.at.nodes a.w.now a.d.now).at bridged) a.q a.f (omega (arith, h.lengths bridged, o.q_in)) (omega (arith, h.lengths bridged, o.f_in)) o.apart in
    rw (c.bridged.ensures, c.bridged-2.ensures) (sum_fits (holding c.requires.holds_tables) bridged refl a.q a.f o.q_in o.f_in (omega (arith, b, h.spanned)))

pub returns : goal.returns
returns c =
    let a = c.args in
    let o = c.requires.other_edge in
    rw (c.bridged.ensures, c.bridged-2.ensures, c.bridged-3.ensures, c.bridged-4.ensures) (hand_does a.at.edges a.at.nodes a.w.now a.d.now a.q a.f c.requires.holds_tables o.q_in o.f_in)
