-- `merge::merge::face` meets its contract. Assumes nothing.
use Rattle.merge.proofs.EndsIn.{ends_in}
use Rattle.merge.proofs.Leaf.{face_stays, face_turns}
use Rattle.std.proofs.Common.{arith}
use lib.Ieee.{neg}
use Rattle.merge.proofs.merge.face.Goals as goal

pub bounds-w-stamp : goal.bounds-w-stamp
bounds-w-stamp c =
    let a = c.args in
    let e = ends_in a.at.edges a.at.nodes a.w.now a.d.now a.f c.requires.sound c.requires.edge_in _ _ c.first.ensures c.second.ensures in
    omega (arith, e, c.stamp.ensures, c.requires.holds_tables.words)

pub bounds-w-stamp-2 : goal.bounds-w-stamp-2
bounds-w-stamp-2 c =
    let a = c.args in
    let e = ends_in a.at.edges a.at.nodes a.w.now a.d.now a.f c.requires.sound c.requires.edge_in _ _ c.first.ensures c.second.ensures in
    omega (arith, e, c.stamp-2.ensures, c.requires.holds_tables.words)

pub returns-then-w-stamp : goal.returns-then-w-stamp
returns-then-w-stamp c =
    let p = c.requires in
    let a = c.args in
    let h = rw (c.stamp.ensures, c.stamp-2.ensures, c.first.ensures, c.second.ensures) at c.if-w-stamp.true in
    face_stays a.at.edges a.at.nodes a.w.now a.d.now p.holds_tables a.f p.edge_in p.sound h

pub returns : goal.returns
unfolding neg
returns c =
    let p = c.requires in
    let a = c.args in
    let h = rw (c.stamp.ensures, c.stamp-2.ensures, c.first.ensures, c.second.ensures) at c.if-w-stamp.false in
    rw (c.first.ensures, c.first-2.ensures, c.second.ensures, c.second-2.ensures) (face_turns a.at.edges a.at.nodes a.w.now a.d.now p.holds_tables a.f p.edge_in p.sound h)
