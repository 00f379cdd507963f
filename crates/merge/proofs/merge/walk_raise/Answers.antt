-- `merge::merge::walk_raise` meets its contract. Assumes nothing.
use Rattle.merge.proofs.Walks.{raise_start, raise_fits, raise_low, raise_high, raise_turn, raise_end}
use Rattle.merge.proofs.merge.walk_raise.Goals as goal

pub loop-init : goal.loop-init
loop-init c = let a = c.args in rw c.region_length.ensures (raise_start a.at.edges a.at.nodes a.g c.requires.gain_in a.w.now a.d.now a.v c.requires.holds_tables c.requires.sound c.requires.node_in)

pub overflow_add-t : goal.overflow_add-t
overflow_add-t c = let a = c.args in let k = c.loop in rw c.count.ensures (raise_fits a.at.edges a.at.nodes a.g c.requires.gain_in k.w a.d.now _ k.x k.counter _ k.invariant)

pub returns-then-t-lt-ZERO : goal.returns-then-t-lt-ZERO
returns-then-t-lt-ZERO c =
    let a = c.args in let k = c.loop in
    raise_low a.at.edges a.at.nodes a.g c.requires.gain_in k.w a.d.now _ k.x k.counter _ k.invariant c.loop-test.true (rw c.count.ensures at c.if-t-lt-ZERO.true) _ _ _

pub returns-then-t-gt3000 : goal.returns-then-t-gt3000
returns-then-t-gt3000 c =
    let a = c.args in let k = c.loop in
    raise_high a.at.edges a.at.nodes a.g c.requires.gain_in k.w a.d.now _ k.x k.counter _ k.invariant c.loop-test.true (rw c.count.ensures at c.if-t-gt3000.true) _ _ _

pub loop-preserved : goal.loop-preserved
loop-preserved c =
    let a = c.args in let k = c.loop in
    rw (c.count.ensures, c.count-in-loop.ensures, c.next_region.ensures)
    (raise_turn a.at.edges a.at.nodes a.g c.requires.gain_in k.w a.d.now _ k.x k.counter _ k.invariant
    c.loop-test.true (rw c.count.ensures at c.if-t-lt-ZERO.false) (rw c.count.ensures at c.if-t-gt3000.false))

pub returns : goal.returns
returns c = let a = c.args in let k = c.loop in raise_end a.at.edges a.at.nodes a.g c.requires.gain_in k.w a.d.now _ k.x k.counter _ k.invariant c.loop-test.false
