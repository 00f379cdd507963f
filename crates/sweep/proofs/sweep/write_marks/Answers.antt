-- `sweep::sweep::write_marks` meets its contract. Assumes nothing.
use Rattle.memory.specs.Inside.Layout.{marks_at}
use Rattle.sweep.proofs.FillLaws.{fill_begin, fill_on, fill_all}
use Rattle.std.proofs.Common.{get_or, refl, arith, length-set}
use Rattle.sweep.proofs.sweep.write_marks.Invariants.{mark_in}
use Rattle.sweep.proofs.sweep.write_marks.Goals as goal

pub loop-g-init : goal.loop-g-init
loop-g-init c = (omega arith, (fill_begin (mark_in c.args.w.now c.args.n c.args.k) c.args.doubtful.now, refl))

pub bounds-w-g : goal.bounds-w-g
bounds-w-g c = omega (arith, c.loop-g-test.true, c.requires.room)

pub overflow_cast-l : goal.overflow_cast-l
overflow_cast-l c = omega (arith, c.requires.label c.loop-g.g c.loop-g-test.true, c.requires.room)

pub overflow_add-doubtful : goal.overflow_add-doubtful
overflow_add-doubtful c = omega (arith, c.requires.label c.loop-g.g c.loop-g-test.true, c.requires.room)

pub overflow_add-doubtful-in-loop-g : goal.overflow_add-doubtful-in-loop-g
overflow_add-doubtful-in-loop-g c = omega (arith, c.requires.label c.loop-g.g c.loop-g-test.true, c.requires.room)

pub overflow_add-doubtful-in-loop-g-2 : goal.overflow_add-doubtful-in-loop-g-2
overflow_add-doubtful-in-loop-g-2 c = omega (arith, c.requires.label c.loop-g.g c.loop-g-test.true, c.requires.room)

pub overflow_add-doubtful-in-loop-g-3 : goal.overflow_add-doubtful-in-loop-g-3
overflow_add-doubtful-in-loop-g-3 c = omega (arith, c.requires.label c.loop-g.g c.loop-g-test.true, c.requires.room)

pub overflow_add-doubtful-in-loop-g-4 : goal.overflow_add-doubtful-in-loop-g-4
overflow_add-doubtful-in-loop-g-4 c = omega (arith, c.requires.label c.loop-g.g c.loop-g-test.true, c.requires.room)

pub offset_bounds-w-n : goal.offset_bounds-w-n
offset_bounds-w-n c = omega (arith, c.requires.label c.loop-g.g c.loop-g-test.true, c.requires.room)

pub bounds-w-n : goal.bounds-w-n
bounds-w-n c = omega (arith, c.requires.label c.loop-g.g c.loop-g-test.true, c.requires.room)

pub overflow_cast-doubtful : goal.overflow_cast-doubtful
unfolding marks_at
overflow_cast-doubtful c =
    let l = c.loop-g in
    omega (arith, c.requires.most (get_or c.args.w.now l.g 0) (c.requires.label l.g c.loop-g-test.true))

pub bounds-doubtful-g : goal.bounds-doubtful-g
bounds-doubtful-g c = omega (arith, c.loop-g-test.true, c.requires.bytes, c.loop-g.invariant.1.1)

pub loop-g-preserved : goal.loop-g-preserved
unfolding marks_at
loop-g-preserved c =
    let a = c.args in
    let l = c.loop-g in
    (omega (arith, c.loop-g-test.true), (fill_on (mark_in a.w.now a.n a.k) a.doubtful.now l.doubtful l.g _ l.invariant.1.0 refl, simp length-set l.invariant.1.1))

pub returns : goal.returns
returns c =
    let a = c.args in
    let l = c.loop-g in
    fill_all (mark_in a.w.now a.n a.k) a.doubtful.now l.doubtful l.g a.n l.invariant.1.0 (omega (arith, l.invariant.0, c.loop-g-test.false)) c.requires.bytes
