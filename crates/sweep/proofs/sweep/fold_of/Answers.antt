-- `sweep::sweep::fold_of` meets its contract. Assumes nothing.
use Rattle.std.proofs.Common.{◌≡◌, ◌^◌, ◌≤◌, ℤ, nat_abs, sym, ap, ◌∙◌, subst, w32, to_z, of_z}
use mir.ValLaws.{to_z-of_z}
use Rattle.merge.specs.Inside.Steps.{unbias}
use Rattle.sweep.specs.Sweep.{gate_count}
use Rattle.sweep.proofs.SignedLaws.{first_fits, second_fits, valid_count, masked_count}
use Rattle.sweep.proofs.sweep.fold_of.Goals.{Start}
use Rattle.sweep.proofs.sweep.fold_of.Goals as goal

-- the offset's word means the offset
same_offset : (c : Start) → to_z w32 (of_z w32 c.args.offset) ≡ c.args.offset
same_offset c = to_z-of_z w32 c.args.offset c.ranges.offset

near : (c : Start) → nat_abs (to_z w32 (of_z w32 c.args.offset)) ≤ 2 ^ 30
near c = subst (λ (z : ℤ). nat_abs z ≤ 2 ^ 30) (sym (same_offset c)) c.requires.1

pub returns-then-m-ne1 : goal.returns-then-m-ne1
returns-then-m-ne1 c = masked_count c.args.m c.args.c c.args.offset c.requires.0 c.requires.1 c.if-m-ne1.true

pub overflow_sub-result : goal.overflow_sub-result
overflow_sub-result c = first_fits c.args.c c.requires.0

pub returns : goal.returns
returns c = let a = c.args in valid_count a.m a.c (to_z w32 (of_z w32 a.offset)) c.requires.0 (near (goal.at.returns c).Start) c.if-m-ne1.false ∙ ap (λ (z : ℤ). gate_count z a.m (unbias a.c)) (same_offset (goal.at.returns c).Start)

pub overflow_sub-result-2 : goal.overflow_sub-result-2
overflow_sub-result-2 c = second_fits c.args.m c.args.c (to_z w32 (of_z w32 c.args.offset)) c.requires.0 (near (goal.at.overflow_sub-result-2 c).Start)
