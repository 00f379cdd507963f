-- Signed numbers of the sums and of the counts: they fit, and are what the definition has. Assumes nothing.
use Rattle.std.proofs.Common.{◌≡◌, ℕ, zero, suc, ◌+◌, ◌-◌, ◌*◌, ◌^◌, ◌<◌, ◌≤◌, Bool, true, false, cond, T, ltb, ℤ, pos, negsuc, ◌-ℤ◌, neg_ℤ, nat_abs, sym, refl, ap, ◌∙◌, subst, ⊎_elim, le_trans, le_of_eq, mul-one, arith, lit<, leb→le, w32, w64, SFits, to_z, of_z, le-ltb, eq-eqb, ne_eqb}
use lib.IntN.{sub_ℕ}
use lib.Signed.{mag}
use mir.ValLaws.{to_z_pos, to_z-of_z}
use lib.Ieee.{Float, nan, inf, fin, up, down}
use lib.Ieee.Fits.{down_pos}
use lib.Ieee.Nearest.{closest, closest_mono}
use Rattle.memory.specs.Size.{gates_of_largest}
use Rattle.arithmetic.specs.Rounding.{within, nearest_whole, if_within, round_even, signed}
use Rattle.arithmetic.proofs.Plans.{mag_add}
use Rattle.merge.specs.Inside.Steps.{unbias}
use Rattle.merge.proofs.Bias.{lt_or_le, unbias_up, unbias_down}
use Rattle.sweep.specs.Sweep.{or_zero, gate_count}

-- ---- the count of a gate

mag_neg : (z : ℤ) → mag (neg_ℤ z) ≤ nat_abs z
mag_neg (pos zero) = omega arith
mag_neg (pos (suc n)) = omega arith
mag_neg (negsuc n) = omega arith

unbias_mag : (c : ℕ) → c ≤ 2000 → mag (unbias c) ≤ 1000
unbias_mag c h = ⊎_elim (λ p. subst (λ (z : ℤ). mag z ≤ 1000) (sym (unbias_down c p)) (omega arith)) (λ p. subst (λ (z : ℤ). mag z ≤ 1000) (sym (unbias_up c p)) (omega arith)) (lt_or_le c 1000)

-- a word with 1,000 taken away
module _ (c : ℕ) (few : c ≤ 2000) where
  first_is_lem : to_z w32 c -ℤ pos 1000 ≡ unbias c
  unfolding unbias
  first_is_lem = ap (λ (z : ℤ). z -ℤ pos 1000) (to_z_pos w32 c (omega arith))

  pub unbias_fits : SFits w32 (unbias c)
  unbias_fits = record { sfits = omega (arith, unbias_mag c few) }

  pub first_fits : SFits w32 (to_z w32 c -ℤ pos 1000)
  first_fits = subst (SFits w32) (sym first_is_lem) unbias_fits

  pub unbiased : to_z w32 (of_z w32 (to_z w32 c -ℤ pos 1000)) ≡ unbias c
  unbiased = to_z-of_z w32 (to_z w32 c -ℤ pos 1000) first_fits ∙ first_is_lem

module _ (m c : ℕ) (off : ℤ) (few : c ≤ 2000) (near : nat_abs off ≤ 2 ^ 30) where
  second_is_lem : to_z w32 (of_z w32 (to_z w32 c -ℤ pos 1000)) -ℤ off ≡ unbias c -ℤ off
  second_is_lem = ap (λ (z : ℤ). z -ℤ off) (unbiased c few)

  pub second_fits : SFits w32 (to_z w32 (of_z w32 (to_z w32 c -ℤ pos 1000)) -ℤ off)
  second_fits = subst (SFits w32) (sym second_is_lem) (record { sfits = omega (arith, mag_add (unbias c) (neg_ℤ off) 1000 (2 ^ 30) (unbias_mag c few) (most (mag_neg off) near)) })
    where
      most : mag (neg_ℤ off) ≤ nat_abs off → nat_abs off ≤ 2 ^ 30 → mag (neg_ℤ off) ≤ 2 ^ 30
      most a b = omega arith

  pub valid_count : m ≡ 1 → to_z w32 (of_z w32 (to_z w32 (of_z w32 (to_z w32 c -ℤ pos 1000)) -ℤ off)) ≡ gate_count off m (unbias c)
  unfolding gate_count
  valid_count e = to_z-of_z w32 (to_z w32 (of_z w32 (to_z w32 c -ℤ pos 1000)) -ℤ off) second_fits ∙ second_is_lem ∙ sym (ap (λ (b : Bool). cond b (unbias c -ℤ off) (pos 0)) (eq-eqb m 1 e))

  pub masked_count : (m ≡ 1 → ⊥) → pos 0 ≡ gate_count off m (unbias c)
  unfolding gate_count
  masked_count e = sym (ap (λ (b : Bool). cond b (unbias c -ℤ off) (pos 0)) (ne_eqb m 1 e))

-- ---- the mean

pub sub_is : (a b : ℕ) → pos a -ℤ pos b ≡ sub_ℕ a b
sub_is a zero = ap pos {x = a + 0} {y = a} (omega arith) ∙ sym (rw (le-ltb a 0 (omega arith)) (ap pos (omega arith)))
sub_is a (suc b) = refl

module _ (held gates : ℕ) (g : gates ≤ gates_of_largest) (h : held ≤ 2000 * gates_of_largest) where
  total_is : to_z w64 held -ℤ to_z w64 (1000 * gates) ≡ sub_ℕ held (1000 * gates)
  total_is =
      ap (λ (z : ℤ). z -ℤ to_z w64 (1000 * gates)) (to_z_pos w64 held (omega arith))
      ∙ ap (λ (z : ℤ). pos held -ℤ z) (to_z_pos w64 (1000 * gates) (omega arith))
      ∙ sub_is held (1000 * gates)

  sub_mag : mag (sub_ℕ held (1000 * gates)) < 2 ^ 63
  sub_mag = go (ltb held (1000 * gates))
    where
      go : (b : Bool) → mag (cond b (negsuc (1000 * gates - suc held)) (pos (held - 1000 * gates))) < 2 ^ 63
      go true = omega arith
      go false = omega arith

  pub total_fits : SFits w64 (to_z w64 held -ℤ to_z w64 (1000 * gates))
  total_fits = subst (SFits w64) (sym total_is) (record { sfits = sub_mag })

  pub total_back : to_z w64 (of_z w64 (to_z w64 held -ℤ to_z w64 (1000 * gates))) ≡ sub_ℕ held (1000 * gates)
  total_back = to_z-of_z w64 (to_z w64 held -ℤ to_z w64 (1000 * gates)) total_fits ∙ total_is

-- a number with a sign is as large as the number
pub signed_abs : (s : Bool) (n : ℕ) → nat_abs (signed s n) ≡ n
signed_abs false n = refl
signed_abs true zero = refl
signed_abs true (suc n) = refl

-- a rounded mean is at most 2 ^ 30 either way
pub mean_near : (x : Float) → nat_abs (or_zero (round_even x)) ≤ 2 ^ 30
unfolding or_zero
mean_near x = go (within x) refl
  where
    inside : (y : Float) → T (within y) → nat_abs (nearest_whole y) ≤ 2 ^ 30
    inside nan t = unfold nearest_whole in omega arith
    inside (inf s) t = unfold nearest_whole in omega arith
    inside (fin s m e) t = unfold within nearest_whole in omega (arith, signed_abs s (closest (m * up e) (down e)), closest_mono (m * up e) (down e) (2 ^ 30) 1 (down_pos e) (lit< tt) (le_trans (le_of_eq (mul-one (m * up e))) (leb→le (m * up e) (2 ^ 30 * down e) t)))

    go : (b : Bool) → within x ≡ b → nat_abs (or_zero (if_within b (nearest_whole x))) ≤ 2 ^ 30
    go true e = inside x (subst T (sym e) tt)
    go false e = omega arith
