-- `edges::edges::count_runs` meets its contract. Assumes nothing.
use Rattle.edges.proofs.RunCount.{count_begin, count_on, count_end, count_none}
use Rattle.std.proofs.Common.{arith}
use Rattle.std.proofs.lemmas.Bool.Decides.{nat_tests}
use Rattle.edges.proofs.edges.count_runs.Goals as goal

pub returns-then-m-eq0 : goal.returns-then-m-eq0
returns-then-m-eq0 c = let a = c.args in count_none a.w.now a.n a.m c.if-m-eq0.true

pub loop-i-init : goal.loop-i-init
loop-i-init c = count_begin (omega (arith, c.if-m-eq0.false)) c.labels_at-p.ensures

pub loop-i-preserved : goal.loop-i-preserved
loop-i-preserved c = count_on c.loop-i.invariant c.loop-i-test.true c.labels_at-q.ensures (grind (arith, nat_tests))

pub returns : goal.returns
returns c = count_end c.loop-i.invariant c.loop-i-test.false
