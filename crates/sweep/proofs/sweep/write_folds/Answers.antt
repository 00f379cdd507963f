-- `sweep::sweep::write_folds` meets its contract. Assumes nothing.
use Rattle.std.proofs.Common.{◌+◌, ◌^◌, ◌≤◌, get_or, ℤ, nat_abs, sym, refl, ap, ◌∙◌, subst, arith, length-set, w32, to_z, of_z}
use mir.ValLaws.{to_z-of_z}
use Rattle.sweep.specs.Sweep.{gate_count}
use Rattle.memory.specs.Inside.Layout.{counts_at}
use Rattle.merge.specs.Inside.Steps.{unbias}
use Rattle.sweep.proofs.FillLaws.{fill_begin, fill_on, fill_all}
use Rattle.lists.specs.Seq.{tabulate}
use Rattle.sweep.proofs.sweep.write_folds.Goals as goal

pub loop-g-init : goal.loop-g-init
loop-g-init c = (omega arith, (fill_begin (λ g. gate_count (to_z w32 (of_z w32 c.args.offset)) (get_or c.args.valid.now g 0) (unbias (get_or c.args.w.now (counts_at c.args.n c.args.k + get_or c.args.w.now g 0) 0))) c.args.folds.now, refl))

pub bounds-w-g : goal.bounds-w-g
bounds-w-g c = omega (arith, c.loop-g-test.true, c.requires.room)

pub overflow_cast-l : goal.overflow_cast-l
overflow_cast-l c = omega (arith, c.requires.label c.loop-g.g c.loop-g-test.true, c.requires.room)

pub overflow_add-c : goal.overflow_add-c
overflow_add-c c = omega (arith, c.requires.room)

pub overflow_add-c-in-loop-g : goal.overflow_add-c-in-loop-g
overflow_add-c-in-loop-g c = omega (arith, c.requires.room)

pub overflow_add-c-in-loop-g-2 : goal.overflow_add-c-in-loop-g-2
overflow_add-c-in-loop-g-2 c = omega (arith, c.requires.label c.loop-g.g c.loop-g-test.true, c.requires.room)

pub offset_bounds-w-n : goal.offset_bounds-w-n
offset_bounds-w-n c = omega (arith, c.requires.label c.loop-g.g c.loop-g-test.true, c.requires.room)

pub bounds-w-n : goal.bounds-w-n
bounds-w-n c = omega (arith, c.requires.label c.loop-g.g c.loop-g-test.true, c.requires.room)

pub bounds-valid-g : goal.bounds-valid-g
bounds-valid-g c = omega (arith, c.loop-g-test.true, c.requires.masks)

pub fold_of-requires : goal.fold_of-requires
unfolding counts_at
fold_of-requires c =
    let p = c.requires in
    let a = c.args in
    let l = c.loop-g in
    (p.most (get_or a.w.now l.g 0) (p.label l.g c.loop-g-test.true), subst (λ (z : ℤ). nat_abs z ≤ 2 ^ 30) (sym (to_z-of_z w32 a.offset c.ranges.offset)) p.near)

pub bounds-folds-g : goal.bounds-folds-g
bounds-folds-g c = omega (arith, c.loop-g-test.true, c.requires.counts, c.loop-g.invariant.1.1)

pub loop-g-preserved : goal.loop-g-preserved
unfolding counts_at
loop-g-preserved c =
    let a = c.args in
    let l = c.loop-g in (
      omega (arith, c.loop-g-test.true),
      (
        fill_on (λ g. gate_count (to_z w32 (of_z w32 a.offset)) (get_or a.valid.now g 0) (unbias (get_or a.w.now (counts_at a.n a.k + get_or a.w.now g 0) 0)))
            a.folds.now l.folds l.g (to_z w32 (of_z w32 c.fold_of.result)) l.invariant.1.0 (to_z-of_z w32 c.fold_of.result (record { sfits = c.fold_of.type_inv })
            ∙ c.fold_of.ensures),
        simp length-set l.invariant.1.1,
      ),
    )

pub returns : goal.returns
returns c =
    let a = c.args in
    fill_all (λ g. gate_count (to_z w32 (of_z w32 a.offset)) (get_or a.valid.now g 0) (unbias (get_or a.w.now (counts_at a.n a.k + get_or a.w.now g 0) 0))) a.folds.now
    c.loop-g.folds c.loop-g.g a.n c.loop-g.invariant.1.0 (omega (arith, c.loop-g.invariant.0, c.loop-g-test.false))
    c.requires.counts ∙ ap (λ (z : ℤ). tabulate a.n
    (λ g. gate_count z (get_or a.valid.now g 0) (unbias (get_or a.w.now (counts_at a.n a.k + get_or a.w.now g 0) 0))))
    (to_z-of_z w32 a.offset c.ranges.offset)
