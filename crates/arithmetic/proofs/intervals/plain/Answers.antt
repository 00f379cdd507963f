-- `arithmetic::intervals::plain` meets its contract. Assumes nothing.
use Rattle.std.proofs.Common.{◌≡◌, ℕ, ◌+◌, ℤ, pos, ap, ◌∙◌, arith, w64}
use mir.ValLaws.{to_z_pos}
use Rattle.arithmetic.specs.Intervals.{plan_of, number, no_adds}
use Rattle.arithmetic.proofs.intervals.plain.Goals as goal

pub returns : goal.returns
unfolding plan_of number no_adds
returns c =
    ap (λ (z : ℤ). record { add_start = pos 0; add_end = pos 0; number = z }) (to_z_pos w64 (c.args.splits + 1) (omega arith) ∙ flat c.args.splits)
  where
    flat : (n : ℕ) → pos (n + 1) ≡ pos (n + 1 + 0 + 0)
    flat n = ap pos (omega arith)
