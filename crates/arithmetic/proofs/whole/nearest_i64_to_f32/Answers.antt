-- `arithmetic::whole::nearest_i64_to_f32` meets its contract: the sign goes through the rounding. Assumes nothing.
use Rattle.std.proofs.Common.{◌≡◌, ℕ, suc, true, false, ℤ, pos, negsuc, nat_abs, ap, ◌∙◌, arith}
use Rattle.std.proofs.lemmas.Int.{ints}
use lib.Signed.{lt_z}
use lib.Ieee.{binary32, of_int, neg}
use mir.Facts.{to_z-of_z}
use Rattle.arithmetic.proofs.RoundLaws.{neg_round}
use Rattle.arithmetic.proofs.whole.nearest_i64_to_f32.Goals as goal

of_negative : (z : ℤ) → lt_z z (pos 0) ≡ true → neg (of_int binary32 (pos (nat_abs z))) ≡ of_int binary32 z
unfolding of_int
of_negative (pos n) h = absurd (omega (arith, ints))
of_negative (negsuc n) h = neg_round binary32 false (suc n) 1

pub returns-then-n-lt0 : goal.returns-then-n-lt0
returns-then-n-lt0 c =
    ap neg (c.nearest_u64_to_f32-size.ensures ∙ ap (λ (m : ℕ). of_int binary32 (pos m)) (c.unsigned_abs.ensures.value ∙ ap nat_abs (to_z-of_z c.ranges.n)))
    ∙ of_negative c.args.n (simp (to_z-of_z c.ranges.n) at c.if-n-lt0.true)
