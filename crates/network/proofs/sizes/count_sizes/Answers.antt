-- `network::sizes::count_sizes` meets its contract. Assumes nothing.
use Rattle.network.proofs.SizeLaws.{Sized, sized, sizes_fill, sizes_begin, sizes_end, sizes_whole}
use native.Mathlib.Omega.{arith}
use Rattle.network.proofs.sizes.count_sizes.Goals.{In-loop-g}
use Rattle.network.proofs.sizes.count_sizes.Goals as goal

at : (c : In-loop-g) → Sized c.fill.new.w c.loop-g.w c.args.n c.args.at c.args.k c.loop-g.g
at c = let a = c.args in let l = c.loop-g in sized c.fill.new.w l.w a.n a.at a.k l.g l.invariant.0 l.invariant.1 c.loop-g-test.true

pub fill-requires : goal.fill-requires
fill-requires c = omega (arith, c.requires.room)

pub loop-g-init : goal.loop-g-init
loop-g-init c =
    let a = c.args in
    let u = c.fill in
    (sizes_fill a.w.now u.new.w a.n a.at a.k c.requires u.ensures, sizes_begin a.w.now u.new.w a.n a.at a.k c.requires u.ensures)

pub bounds-w-at : goal.bounds-w-at
bounds-w-at c = omega (arith, at (goal.at.bounds-w-at c).In-loop-g)

pub overflow_add-w : goal.overflow_add-w
overflow_add-w c = omega (arith, at (goal.at.overflow_add-w c).In-loop-g)

pub bounds-w-at-in-loop-g : goal.bounds-w-at-in-loop-g
bounds-w-at-in-loop-g c = omega (arith, at (goal.at.bounds-w-at-in-loop-g c).In-loop-g)

pub loop-g-preserved : goal.loop-g-preserved
loop-g-preserved c = (c.loop-g.invariant.0, (at (goal.at.loop-g-preserved c).In-loop-g).step)

pub returns : goal.returns
returns c =
    let a = c.args in let u = c.fill in
    sizes_whole a.w.now u.new.w a.n a.at a.k c.requires u.ensures c.loop-g.w
    (sizes_end u.new.w c.loop-g.w a.n a.at a.k c.loop-g.g c.loop-g.invariant.0 c.loop-g.invariant.1 (omega (arith, c.loop-g-test.false)))
