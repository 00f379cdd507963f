-- `merge::merge::prune` meets its contract. Assumes nothing.
use Rattle.merge.proofs.Passing.{prune_start, prune_slots, prune_turned, prune_end}
use Rattle.merge.proofs.merge.prune.Goals as goal

pub loop-init : goal.loop-init
loop-init c =
    let a = c.args in
    rw (c.slot_length.ensures, c.header-p.ensures, c.head.ensures) (prune_start a.at.edges a.at.nodes a.b c.requires.node_in a.w.now a.d.now c.requires.holds_tables c.requires.sound)

pub pass_slot-p-requires : goal.pass_slot-p-requires
pass_slot-p-requires c =
    let a = c.args in let k = c.loop in record {
      holds_tables = k.invariant.room;
      slots = prune_slots a.at.edges a.at.nodes a.b c.requires.node_in k.w k.d _ k.p k.x k.counter _ k.invariant c.loop-test.true;
    }

pub loop-preserved : goal.loop-preserved
loop-preserved c =
    let a = c.args in
    let k = c.loop in let u = c.pass_slot-p in
    rw c.slot.ensures (prune_turned a.at.edges a.at.nodes a.b c.requires.node_in k.w k.d _ k.p k.x k.counter _ k.invariant c.loop-test.true _ _ u.result u.ensures u.auto.w u.auto.d)

pub returns : goal.returns
returns c = let a = c.args in let k = c.loop in prune_end a.at.edges a.at.nodes a.b c.requires.node_in k.w k.d _ k.p k.x k.counter _ k.invariant c.loop-test.false
