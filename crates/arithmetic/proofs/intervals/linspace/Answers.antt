-- `arithmetic::intervals::linspace` meets its contract. Assumes nothing.
use Rattle.std.proofs.Common.{◌≡◌, ℕ, suc, ◌-◌, ◌^◌, ◌<◌, ◌≤◌, T, length, pos, le_trans, arith, lit≤, le→leb}
use lib.Ieee.{in_float, binary64}
use Rattle.arithmetic.proofs.IntervalLaws.{lin_none, lin_more, lin_last, lin_one, lin_nil}
use Rattle.arithmetic.specs.Intervals.{limit_at, step_of}
use Rattle.arithmetic.specs.Rounding.{real}
use Rattle.arithmetic.proofs.intervals.linspace.Goals as goal

small : (n : ℕ) → n ≤ 10000 → T (in_float binary64 (pos n))
unfolding in_float
small n h = le→leb n (2 ^ 53) (le_trans h (lit≤ tt))

pub returns-then-n-eq0 : goal.returns-then-n-eq0
returns-then-n-eq0 c = lin_nil c.args.start c.args.end c.args.out.now c.args.n c.if-n-eq0.true

pub returns-then-n-eq1 : goal.returns-then-n-eq1
returns-then-n-eq1 c = lin_one c.args.start c.args.end c.args.out.now c.args.n c.if-n-eq1.true c.requires.0

pub loop-i-init : goal.loop-i-init
unfolding step_of real
loop-i-init c = lin_none c.args.start (step_of c.args.start c.args.end (c.args.n - 1)) c.args.out.now

pub loop-i-preserved : goal.loop-i-preserved
unfolding limit_at step_of real
loop-i-preserved c =
    let l = c.loop-i in
    let h : l.i < length c.args.out.now = omega arith in
    lin_more c.args.start (step_of c.args.start c.args.end (c.args.n - 1)) c.args.out.now l.out l.i h l.invariant

pub returns : goal.returns
unfolding step_of real
returns c =
    let l = c.loop-i in
    let i : l.i ≡ c.args.n - 1 = omega arith in
    let n : c.args.n ≡ suc (c.args.n - 1) = omega arith in
    let some : 0 < c.args.n - 1 = omega arith in
    lin_last c.args.start c.args.end c.args.out.now l.out l.i (c.args.n - 1) c.args.n c.requires.0 i n some l.invariant
