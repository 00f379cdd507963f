-- The offset and the counts from the tables: what each function's proof needs. Assumes nothing.
use Rattle.std.proofs.Common.{◌≡◌, ℕ, ◌*◌, ◌^◌, ◌≤◌, Bool, true, false, cond, eqb, List, [], ◌∷◌, length, set, ℤ, pos, nat_abs, sym, refl, ap, ◌∙◌, subst, arith, eq-eqb, ne_eqb}
use lib.IntN.{sub_ℕ}
use lib.Ieee.{binary64, div}
use Rattle.arithmetic.specs.Rounding.{real}
use Rattle.sweep.specs.Inside.Mean.{sum_from, size_at, held_at, Writes}
use Rattle.sweep.specs.Inside.Finish.{mean_by, offset_by, Finishes}
use Rattle.sweep.proofs.SignedLaws.{mean_near}

-- the pair is written whole
pub two_set : (l : List ℕ) (a b : ℕ) → length l ≡ 2 → set (set l 0 a) 1 b ≡ a ∷ b ∷ []
two_set [] a b e = absurd (omega arith)
two_set (x ∷ []) a b e = absurd (omega arith)
two_set (x ∷ y ∷ []) a b e = refl
two_set (x ∷ y ∷ z ∷ l) a b e = absurd (omega arith)

module _ (w : List ℕ) (n k centred : ℕ) where
  pub offset_none : (centred ≡ 1 → ⊥) → pos 0 ≡ offset_by w n k centred
  offset_none e = sym (ap (λ (b : Bool). cond b (mean_by (sum_from (size_at w n) 1 k) (sum_from (held_at w n k) 1 k)) (pos 0)) (ne_eqb centred 1 e))

  pub offset_some : centred ≡ 1 → (g h : ℕ) → g ≡ sum_from (size_at w n) 1 k → h ≡ sum_from (held_at w n k) 1 k → mean_by g h ≡ offset_by w n k centred
  offset_some e g h p q =
      ap (λ (x : ℕ). mean_by x h) p ∙ ap (mean_by (sum_from (size_at w n) 1 k)) q
      ∙ sym (ap (λ (b : Bool). cond b (mean_by (sum_from (size_at w n) 1 k) (sum_from (held_at w n k) 1 k)) (pos 0)) (eq-eqb centred 1 e))

  offset_near : nat_abs (offset_by w n k centred) ≤ 2 ^ 30
  offset_near = go (eqb centred 1)
    where
      go : (b : Bool) → nat_abs (cond b (mean_by (sum_from (size_at w n) 1 k) (sum_from (held_at w n k) 1 k)) (pos 0)) ≤ 2 ^ 30
      go true = mean_near (div binary64 (real (sub_ℕ (sum_from (held_at w n k) 1 k) (1000 * sum_from (size_at w n) 1 k))) (real (pos (sum_from (size_at w n) 1 k))))
      go false = omega arith

  pub writes_ask : (mask : List ℕ) (long : ℕ) (off : ℤ) → Finishes w n k mask long → off ≡ offset_by w n k centred → Writes w n k mask off long
  writes_ask mask long off f e = record {
    room = f.tabled.room;
    masks = f.masks;
    counts = f.counts;
    label = f.label;
    most = f.tabled.most;
    near = subst (λ (z : ℤ). nat_abs z ≤ 2 ^ 30) (sym e) offset_near;
  }
