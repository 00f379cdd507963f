-- `edges::edges::labels_of` meets its contract. Assumes nothing.
use Rattle.std.proofs.Common.{arith, length-set}
use Rattle.edges.proofs.Fills.{Turn, turn, labels_begin}
use Rattle.edges.proofs.edges.labels_of.Goals.{After-stored_pair-p}
use Rattle.edges.proofs.edges.labels_of.Goals as goal

at : (c : After-stored_pair-p) → Turn c.args.w.now c.loop-i.w c.args.n c.args.m c.loop-i.i c.stored_pair-p.result
at c = let a = c.args in let l = c.loop-i in turn a.w.now l.w a.n a.m l.i c.stored_pair-p.result c.requires l.invariant c.loop-i-test.true c.stored_pair-p.ensures

pub loop-i-init : goal.loop-i-init
loop-i-init c = labels_begin c.args.w.now c.args.n c.args.m

pub offset_bounds-w-p : goal.offset_bounds-w-p
offset_bounds-w-p c = omega (arith, (at (goal.at.offset_bounds-w-p c).After-stored_pair-p).g_lt)

pub bounds-w-p : goal.bounds-w-p
bounds-w-p c = omega (arith, (at (goal.at.bounds-w-p c).After-stored_pair-p).g_lt)

pub bounds-w-p-in-loop-i : goal.bounds-w-p-in-loop-i
bounds-w-p-in-loop-i c = simp length-set (omega (arith, (at (goal.at.bounds-w-p-in-loop-i c).After-stored_pair-p).h_lt))

pub loop-i-preserved : goal.loop-i-preserved
loop-i-preserved c = (at (goal.at.loop-i-preserved c).After-stored_pair-p).step
