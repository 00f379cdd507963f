-- `merge::merge::seek` meets its contract. Assumes nothing.
use Rattle.merge.proofs.Walks.{seek_start, seek_found, seek_turn, seek_end}
use Rattle.merge.proofs.merge.seek.Goals as goal

pub loop-init : goal.loop-init
loop-init c = let a = c.args in rw (c.slot_length.ensures, c.head.ensures) (seek_start a.at.edges a.at.nodes a.b a.c a.w.now a.d.now c.requires.sound a.h c.requires.node_in)

pub returns-then-joins : goal.returns-then-joins
returns-then-joins c =
    let a = c.args in let k = c.loop in let z = c.joins in
    seek_found a.at.edges a.at.nodes a.b a.c a.w.now a.d.now c.requires.sound _ k.x k.counter _ k.invariant
    c.loop-test.true z.result z.ensures c.if-joins.true

pub loop-preserved : goal.loop-preserved
loop-preserved c =
    let a = c.args in let k = c.loop in let z = c.joins in
    rw c.slot.ensures (seek_turn a.at.edges a.at.nodes a.b a.c a.w.now a.d.now c.requires.sound _ k.x k.counter _ k.invariant
    c.loop-test.true z.result z.ensures c.if-joins.false)

pub returns : goal.returns
returns c = let a = c.args in let k = c.loop in seek_end a.at.edges a.at.nodes a.b a.c a.w.now a.d.now c.requires.sound _ k.x k.counter _ k.invariant c.loop-test.false
