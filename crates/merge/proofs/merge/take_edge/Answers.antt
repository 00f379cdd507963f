-- `merge::merge::take_edge` meets its contract. Assumes nothing.
use Rattle.merge.proofs.JoinDoes.{faced_sound, take_out, take_does}
use Rattle.merge.proofs.merge.take_edge.Goals as goal

pub returns-then-f-at : goal.returns-then-f-at
returns-then-f-at c = let a = c.args in let u = a.step in take_out a.at.edges a.at.nodes a.w.now a.d.now c.requires.holds_tables u.base u.moved u.gain a.f c.if-f-at.true

pub moved_edge-requires-clause-sound : goal.moved_edge-requires-clause-sound
moved_edge-requires-clause-sound c =
    let a = c.args in
    let p = c.requires in let z = c.face in
    faced_sound a.at.edges a.at.nodes a.w.now a.d.now a.f z.new.w z.new.d p.sound c.if-f-at.false z.ensures

pub returns : goal.returns
returns c =
    let a = c.args in let u = a.step in
    let z = c.face in
    take_does a.at.edges a.at.nodes a.w.now a.d.now c.requires.holds_tables u.base u.moved u.gain a.f c.if-f-at.false z.new.w z.new.d z.ensures _ _ c.moved_edge.ensures
