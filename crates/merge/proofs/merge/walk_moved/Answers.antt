-- `merge::merge::walk_moved` meets its contract. Assumes nothing.
use Rattle.merge.proofs.Walks.{moved_start, moved_turned, moved_end}
use Rattle.merge.proofs.merge.walk_moved.Goals as goal

pub loop-init : goal.loop-init
loop-init c =
    let a = c.args in let p = a.step in
    rw (c.slot_length.ensures, c.head.ensures) (moved_start a.at.edges a.at.nodes p.base p.moved p.gain c.requires.gains a.w.now a.d.now c.requires.holds_tables c.requires.sound)

pub take_edge-requires : goal.take_edge-requires
take_edge-requires c = record { holds_tables = c.loop.invariant.room; sound = c.loop.invariant.sound; gains = c.requires.gains }

pub loop-preserved : goal.loop-preserved
loop-preserved c =
    let t = c.take_edge in
    let a = c.args in let p = a.step in
    let k = c.loop in
    rw c.slot.ensures (moved_turned a.at.edges a.at.nodes p.base p.moved p.gain c.requires.gains k.w k.d _ k.x k.counter _ k.invariant c.loop-test.true _ _ t.ensures t.auto.w t.auto.d)

pub returns : goal.returns
returns c = let a = c.args in let p = a.step in let k = c.loop in moved_end a.at.edges a.at.nodes p.base p.moved p.gain c.requires.gains k.w k.d _ k.x k.counter _ k.invariant c.loop-test.false
