-- `merge::mark::walk_mark` meets its contract. Assumes nothing.
use Rattle.merge.proofs.Marks.{mark_start, mark_turn, mark_end}
use Rattle.merge.proofs.mark.walk_mark.Goals as goal

pub loop-init : goal.loop-init
loop-init c = let a = c.args in rw c.region_length.ensures (mark_start a.at.edges a.at.nodes a.w.now a.d.now a.v c.requires.holds_tables c.requires.node_in)

pub loop-preserved : goal.loop-preserved
loop-preserved c =
    let a = c.args in let k = c.loop in
    rw (c.mark.ensures, c.next_region.ensures) (mark_turn a.at.edges a.at.nodes a.w.now k.w a.d.now c.requires.sound _ k.x k.counter _ k.invariant c.loop-test.true)

pub returns : goal.returns
returns c =
    let a = c.args in let k = c.loop in
    mark_end a.at.edges a.at.nodes a.w.now k.w a.d.now c.requires.sound _ k.x k.counter _ k.invariant c.loop-test.false
