-- `sweep::sweep::add_up` meets its contract. Assumes nothing.
use Rattle.sweep.proofs.SumLaws.{Turn, turn, sums_begin, sums_end}
use Rattle.sweep.specs.Inside.Mean.{size_at, held_at}
use Rattle.std.proofs.Common.{◌≡◌, ◌∙◌, arith}
use Rattle.sweep.proofs.sweep.add_up.Goals.{In-loop-l}
use Rattle.sweep.proofs.sweep.add_up.Goals as goal

at : (c : In-loop-l) → Turn c.args.w.now c.args.n c.args.k c.requires c.loop-l.gates c.loop-l.held c.loop-l.l
at c = let a = c.args in let i = c.loop-l in turn a.w.now a.n a.k c.requires i.gates i.held i.l c.loop-l-test.true c.loop-l.invariant.few i.invariant.gates i.invariant.held

pub loop-l-init : goal.loop-l-init
loop-l-init c = let a = c.args in record { some = omega arith; few = omega arith; gates = sums_begin a.w.now a.n a.k c.requires (size_at a.w.now a.n); held = sums_begin a.w.now a.n a.k c.requires (held_at a.w.now a.n a.k) }

pub overflow_add-s : goal.overflow_add-s
overflow_add-s c = omega (arith, at (c))

pub offset_bounds-w-n : goal.offset_bounds-w-n
offset_bounds-w-n c = omega (arith, at (c))

pub bounds-w-n : goal.bounds-w-n
bounds-w-n c = omega (arith, at (goal.at.bounds-w-n c).In-loop-l)

pub overflow_cast-s : goal.overflow_cast-s
overflow_cast-s c = omega (arith, at (goal.at.overflow_cast-s c).In-loop-l)

pub overflow_add-c : goal.overflow_add-c
overflow_add-c c = omega (arith, at (goal.at.overflow_add-c c).In-loop-l)

pub overflow_add-c-in-loop-l : goal.overflow_add-c-in-loop-l
overflow_add-c-in-loop-l c = omega (arith, at (goal.at.overflow_add-c-in-loop-l c).In-loop-l)

pub overflow_add-c-in-loop-l-2 : goal.overflow_add-c-in-loop-l-2
overflow_add-c-in-loop-l-2 c = omega (arith, at (goal.at.overflow_add-c-in-loop-l-2 c).In-loop-l)

pub offset_bounds-w-n-in-loop-l : goal.offset_bounds-w-n-in-loop-l
offset_bounds-w-n-in-loop-l c = omega (arith, at (goal.at.offset_bounds-w-n-in-loop-l c).In-loop-l)

pub bounds-w-n-in-loop-l : goal.bounds-w-n-in-loop-l
bounds-w-n-in-loop-l c = omega (arith, at (goal.at.bounds-w-n-in-loop-l c).In-loop-l)

pub overflow_cast-c : goal.overflow_cast-c
overflow_cast-c c = omega (arith, at (goal.at.overflow_cast-c c).In-loop-l)

pub overflow_add-gates : goal.overflow_add-gates
overflow_add-gates c = omega (arith, at (goal.at.overflow_add-gates c).In-loop-l)

pub overflow_mul-held : goal.overflow_mul-held
overflow_mul-held c = omega (arith, at (goal.at.overflow_mul-held c).In-loop-l)

pub overflow_add-held : goal.overflow_add-held
overflow_add-held c = omega (arith, at (goal.at.overflow_add-held c).In-loop-l)

pub loop-l-preserved : goal.loop-l-preserved
loop-l-preserved c = let t = at (goal.at.loop-l-preserved c).In-loop-l in record { some = omega (arith, c.loop-l-test.true); few = omega (arith, c.loop-l.invariant.few); gates = t.gates_next; held = t.held_next }

pub returns : goal.returns
returns c =
    let a = c.args in
    let i = c.loop-l in
    let e : i.l ≡ 1 = omega (arith, i.invariant.some, c.loop-l-test.false) in (
      i.invariant.gates ∙ sums_end a.w.now a.n a.k c.requires (size_at a.w.now a.n) i.l e,
      i.invariant.held ∙ sums_end a.w.now a.n a.k c.requires (held_at a.w.now a.n a.k) i.l e,
    )
