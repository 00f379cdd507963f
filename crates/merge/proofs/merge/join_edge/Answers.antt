-- `merge::merge::join_edge` meets its contract. Assumes nothing.
use Rattle.merge.specs.Inside.Tables.{view}
use Rattle.merge.proofs.Mates.{mate_is}
use Rattle.merge.proofs.JoinDoes.{join_apart, join_attaches, faced_sound, join_faced}
use Rattle.std.proofs.Common.{sym}
use Rattle.merge.proofs.merge.join_edge.Goals as goal

pub face-requires-clause-edge_in : goal.face-requires-clause-edge_in
face-requires-clause-edge_in c = let a = c.args in (mate_is a.at.edges a.b a.c (view a.at.edges a.at.nodes a.w.now a.d.now) c.in-Some.q (sym c.in-Some.ensures)).q_in

pub absorb-requires-clause-sound : goal.absorb-requires-clause-sound
absorb-requires-clause-sound c =
    let a = c.args in
    let z = c.face in
    let p = c.requires in
    let q_in = (mate_is a.at.edges a.b a.c (view a.at.edges a.at.nodes a.w.now a.d.now) c.in-Some.q (sym c.in-Some.ensures)).q_in in
    faced_sound a.at.edges a.at.nodes a.w.now a.d.now c.in-Some.q z.new.w z.new.d p.sound q_in z.ensures

pub absorb-requires-clause-other_edge : goal.absorb-requires-clause-other_edge
absorb-requires-clause-other_edge c =
    let a = c.args in
    join_apart a.at.edges a.at.nodes a.b (view a.at.edges a.at.nodes a.w.now a.d.now) a.f a.c c.in-Some.q c.requires.joins (sym c.in-Some.ensures)

pub returns-in-Some : goal.returns-in-Some
returns-in-Some c =
    let a = c.args in
    let z = c.face in
    join_faced a.at.edges a.at.nodes a.b a.w.now a.d.now a.f a.c c.in-Some.q a.x z.new.w z.new.d _ _ (sym c.in-Some.ensures) z.ensures c.absorb.ensures

pub returns-in-None : goal.returns-in-None
returns-in-None c =
    let a = c.args in
    join_attaches a.at.edges a.at.nodes a.b (view a.at.edges a.at.nodes a.w.now a.d.now) a.f a.c a.x _ _ (sym c.in-None.ensures) c.attach.ensures
