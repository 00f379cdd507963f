-- Numbers from -1000 to 1000 kept as words from 0 to 2000. Assumes nothing.
use Rattle.std.proofs.Common.{◌≡◌, ℕ, zero, suc, ◌-◌, ◌*◌, ◌^◌, ◌<◌, ◌≤◌, ◌⊎◌, ℤ, pos, negsuc, ◌-ℤ◌, ◌*ℤ◌, neg_ℤ, sym, refl, ap, ◌∙◌, subst, inl, inr, ⊎_elim, mul-le-mul, arith, w64, SFits, to_z, of_z, le-ltb, lt-ltb}
use mathlib.Core.Logic.{by_cases}
use native.Mathlib.Decide.{dec_lt}
use lib.IntN.{sub_ℕ}
use lib.Signed.{mag}
use mir.ValLaws.{to_z-of_z, to_z_pos}
use Rattle.merge.specs.Inside.Steps.{unbias}

pub lt_or_le : (m n : ℕ) → (m < n) ⊎ (n ≤ m)
lt_or_le m n = by_cases (dec_lt m n) inl (λ k. inr (omega arith))

-- a difference of two numbers, by which is the greater
pub sub_low : (a b : ℕ) → a < b → sub_ℕ a b ≡ negsuc (b - suc a)
sub_low a b h = rw (lt-ltb a b h) refl

pub sub_high : (a b : ℕ) → b ≤ a → sub_ℕ a b ≡ pos (a - b)
sub_high a b h = rw (le-ltb a b h) refl

pub unbias_up : (g : ℕ) → 1000 ≤ g → unbias g ≡ pos (g - 1000)
unfolding unbias
unbias_up g h = rw (le-ltb g 1000 h) refl

pub unbias_down : (g : ℕ) → g < 1000 → unbias g ≡ negsuc (999 - g)
unfolding unbias
unbias_down g h = rw (lt-ltb g 1000 h) (ap negsuc (omega arith))

mag_bound : (g : ℕ) → g ≤ 2000 → SFits w64 (unbias g)
mag_bound g h = ⊎_elim
    (λ p. subst (SFits w64) (sym (unbias_down g p)) (record { sfits = omega arith }))
    (λ p. subst (SFits w64) (sym (unbias_up g p)) (record { sfits = omega arith }))
    (lt_or_le g 1000)

neg_mag : (k : ℕ) → mag (neg_ℤ (pos k)) ≤ k
neg_mag zero = omega arith
neg_mag (suc k) = omega arith

product : (w k : ℕ) → w < 2 ^ 32 → k ≤ 1000 → w * k < 2 ^ 63
product w k a b = let q : w ≤ 2 ^ 32 = omega arith in omega (arith, mul-le-mul q b)

prod_bound : (w g : ℕ) → w < 2 ^ 32 → g ≤ 2000 → SFits w64 (pos w *ℤ unbias g)
prod_bound w g a h = ⊎_elim
    (λ p. subst (λ (z : ℤ). SFits w64 (pos w *ℤ z)) (sym (unbias_down g p)) (record { sfits = omega (arith, neg_mag (w * suc (999 - g)), product w (suc (999 - g)) a (omega arith)) }))
    (λ p. subst (λ (z : ℤ). SFits w64 (pos w *ℤ z)) (sym (unbias_up g p)) (record { sfits = product w (g - 1000) a (omega arith) }))
    (lt_or_le g 1000)

-- what the machine's signed steps of `scaled` compute
module _ (w g : ℕ) (wf : w < 2 ^ 32) (h : g ≤ 2000) where
  less : to_z w64 g -ℤ pos 1000 ≡ unbias g
  unfolding unbias
  less = ap (λ (z : ℤ). z -ℤ pos 1000) (to_z_pos w64 g (omega arith))

  less_fits : SFits w64 (to_z w64 g -ℤ pos 1000)
  less_fits = subst (SFits w64) (sym less) (mag_bound g h)

  times : to_z w64 w *ℤ to_z w64 (of_z w64 (to_z w64 g -ℤ pos 1000)) ≡ pos w *ℤ unbias g
  times = ap (λ (z : ℤ). z *ℤ to_z w64 (of_z w64 (to_z w64 g -ℤ pos 1000))) (to_z_pos w64 w (omega arith)) ∙ ap (λ (z : ℤ). pos w *ℤ z) (to_z-of_z w64 (to_z w64 g -ℤ pos 1000) less_fits ∙ less)

  times_fits : SFits w64 (to_z w64 w *ℤ to_z w64 (of_z w64 (to_z w64 g -ℤ pos 1000)))
  times_fits = subst (SFits w64) (sym times) (prod_bound w g wf h)

  pub times_back : to_z w64 (of_z w64 (to_z w64 w *ℤ to_z w64 (of_z w64 (to_z w64 g -ℤ pos 1000)))) ≡ pos w *ℤ unbias g
  times_back = to_z-of_z w64 (to_z w64 w *ℤ to_z w64 (of_z w64 (to_z w64 g -ℤ pos 1000))) times_fits ∙ times
