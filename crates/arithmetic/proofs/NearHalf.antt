-- The test in readable form: true just where there is a whole k with |16 q - (16 k + 8)| ≤ 1, for the exact value of q. Assumes nothing.
use Rattle.std.proofs.Common.{◌≡◌, ℕ, zero, suc, ◌+◌, ◌-◌, ◌*◌, ◌/◌, ◌%◌, ◌<◌, ◌≤◌, Bool, true, false, cond, not, T, ltb, leb, ℤ, pos, negsuc, ◌+ℤ◌, ◌-ℤ◌, ◌*ℤ◌, neg_ℤ, nat_abs, sym, refl, ap, ◌∙◌, subst, mul-le-mul_right, div-lt_iff_lt-mul, div-add-mod', le-div_iff_mul-le, zero-mul, le_of_mul-le-mul_right, arith, le→leb, ltb→lt, leb→le, nltb→le}
use lib.IntN.{+ℤ_assoc, +ℤ_idr, neg_ℤ-neg_ℤ, neg_ℤ-+ℤ}
use lib.Ieee.{nan, inf, fin, up, down}
use lib.Ieee.Bits.{is_true}
use lib.Ieee.Fits.{down_pos}
use Rattle.arithmetic.specs.Rounding.{signed}
use Rattle.arithmetic.proofs.RangeLaws.{T_of}
use Rattle.lists.proofs.AllLaws.{and_left, and_right}
use Rattle.arithmetic.specs.Doubtful.{midway, doubtful, NearHalf, DoubtfulNear, NearDoubtful}

-- ---- a / c from k + 7/16 to k + 9/16
abbrev pub Mid : ℕ → ℕ → Type 0
Mid a c = (k : ℕ) × ((16 * k + 7) * c ≤ 16 * a) × (16 * a ≤ (16 * k + 9) * c)

pub midway_mid : (a c : ℕ) → midway a c ≡ true → Mid a c
unfolding midway
midway_mid a c h =
    let r = a % c in
    let lo : 7 * c ≤ 16 * r = leb→le (7 * c) (16 * r) (T_of (and_left (leb (7 * c) (16 * r)) (leb (16 * r) (9 * c)) h)) in
    let hi : 16 * r ≤ 9 * c = leb→le (16 * r) (9 * c) (T_of (and_right (leb (7 * c) (16 * r)) (leb (16 * r) (9 * c)) h)) in
    (a / c, above (a / c) c r a (div-add-mod' a c) lo, below (a / c) c r a (div-add-mod' a c) hi)
  where
    above : (k c r a : ℕ) → k * c + r ≡ a → 7 * c ≤ 16 * r → (16 * k + 7) * c ≤ 16 * a
    above k c r a e h = omega arith

    below : (k c r a : ℕ) → k * c + r ≡ a → 16 * r ≤ 9 * c → 16 * a ≤ (16 * k + 9) * c
    below k c r a e h = omega arith

pub mid_midway : (a c : ℕ) → 0 < c → Mid a c → midway a c ≡ true
unfolding midway
mid_midway a c C (k, lo, hi) =
    let least : k ≤ a / c = (le-div_iff_mul-le C).1 (down k c a lo) in
    let most : a / c < k + 1 = (div-lt_iff_lt-mul C).1 (over k c a C hi) in
    let e : k * c + a % c ≡ a = ap (λ (j : ℕ). j * c + a % c) (same k (a / c) least most) ∙ div-add-mod' a c in
    rw (is_true (leb (7 * c) (16 * (a % c))) (le→leb (7 * c) (16 * (a % c)) (left k c (a % c) a e lo)), is_true (leb (16 * (a % c)) (9 * c)) (le→leb (16 * (a % c)) (9 * c) (right k c (a % c) a e hi))) refl
  where
    down : (k c a : ℕ) → (16 * k + 7) * c ≤ 16 * a → k * c ≤ a
    down k c a h = omega arith

    over : (k c a : ℕ) → 0 < c → 16 * a ≤ (16 * k + 9) * c → a < (k + 1) * c
    over k c a C h = omega arith

    same : (k j : ℕ) → k ≤ j → j < k + 1 → k ≡ j
    same k j h l = omega arith

    left : (k c r a : ℕ) → k * c + r ≡ a → (16 * k + 7) * c ≤ 16 * a → 7 * c ≤ 16 * r
    left k c r a e h = omega arith

    right : (k c r a : ℕ) → k * c + r ≡ a → 16 * a ≤ (16 * k + 9) * c → 16 * r ≤ 9 * c
    right k c r a e h = omega arith

-- the same of an equal fraction
mid_same : (a c b d : ℕ) → 0 < c → a * d ≡ b * c → Mid a c → Mid b d
mid_same a c b d C e (k, lo, hi) = (k, le_of_mul-le-mul_right (under k (mul-le-mul_right d lo)) C, le_of_mul-le-mul_right (over k (mul-le-mul_right d hi)) C)
  where
    under : (k : ℕ) → (16 * k + 7) * c * d ≤ 16 * a * d → (16 * k + 7) * d * c ≤ 16 * b * c
    under k h = omega arith

    over : (k : ℕ) → 16 * a * d ≤ (16 * k + 9) * c * d → 16 * b * c ≤ (16 * k + 9) * d * c
    over k h = omega arith

-- ---- distances
near : (A B c : ℕ) → A ≤ B + c → B ≤ A + c → nat_abs (pos A -ℤ pos B) ≤ c
near A zero c h k = omega arith
near A (suc b) c h k = go (ltb A (suc b)) (ltb→lt A (suc b)) (nltb→le A (suc b))
  where
    go : (t : Bool) → (T t → A < suc b) → (T (not t) → suc b ≤ A) → nat_abs (cond t (negsuc (suc b - suc A)) (pos (A - suc b))) ≤ c
    go true p q = let l : A < suc b = p tt in omega arith
    go false p q = let l : suc b ≤ A = q tt in omega arith

of_near : (A B c : ℕ) → nat_abs (pos A -ℤ pos B) ≤ c → (A ≤ B + c) × (B ≤ A + c)
of_near A zero c h = (omega arith, omega arith)
of_near A (suc b) c h = go (ltb A (suc b)) (ltb→lt A (suc b)) (nltb→le A (suc b)) h
  where
    go : (t : Bool) → (T t → A < suc b) → (T (not t) → suc b ≤ A) → nat_abs (cond t (negsuc (suc b - suc A)) (pos (A - suc b))) ≤ c → (A ≤ suc b + c) × (suc b ≤ A + c)
    go true p q h = let l : A < suc b = p tt in (omega arith, omega arith)
    go false p q h = let l : suc b ≤ A = q tt in (omega arith, omega arith)

pub abs_neg : (z : ℤ) → nat_abs (neg_ℤ z) ≡ nat_abs z
abs_neg (pos zero) = refl
abs_neg (pos (suc n)) = refl
abs_neg (negsuc n) = refl

-- ---- what stands between the bars, at each sign of q and of k
abbrev bars : Bool → ℕ → ℤ → ℕ → ℤ
bars s a k c = pos 16 *ℤ signed s a -ℤ (pos 16 *ℤ k +ℤ pos 8) *ℤ pos c

sixteen_neg : (a : ℕ) → pos 16 *ℤ neg_ℤ (pos a) ≡ neg_ℤ (pos (16 * a))
sixteen_neg zero = refl
sixteen_neg (suc a) = refl

neg_mul : (n c : ℕ) → neg_ℤ (pos n) *ℤ pos c ≡ neg_ℤ (pos (n * c))
neg_mul zero c = go (0 * c) (zero-mul c)
  where
    go : (z : ℕ) → z ≡ 0 → pos z ≡ neg_ℤ (pos z)
    go zero e = refl
    go (suc z) e = absurd (omega arith)
neg_mul (suc n) c = refl

-- -(n + 8) + 8
neg_eight : (n : ℕ) → neg_ℤ (pos (n + 8)) +ℤ pos 8 ≡ neg_ℤ (pos n)
neg_eight n =
    ap (λ (z : ℤ). z +ℤ pos 8) (neg_ℤ-+ℤ (pos n) (pos 8)) ∙ +ℤ_assoc (neg_ℤ (pos n)) (neg_ℤ (pos 8)) (pos 8) ∙ +ℤ_idr (neg_ℤ (pos n))

-- 16 k + 8 for k = -(j + 1)
half_neg : (j c : ℕ) → (pos 16 *ℤ negsuc j +ℤ pos 8) *ℤ pos c ≡ neg_ℤ (pos ((16 * j + 8) * c))
half_neg j c =
    ap (λ (n : ℕ). (neg_ℤ (pos n) +ℤ pos 8) *ℤ pos c) (shift j) ∙ ap (λ (z : ℤ). z *ℤ pos c) (neg_eight (16 * j + 8)) ∙ neg_mul (16 * j + 8) c
  where
    shift : (j : ℕ) → 16 * suc j ≡ 16 * j + 8 + 8
    shift j = omega arith

bars_neg_neg : (a j c : ℕ) → bars true a (negsuc j) c ≡ neg_ℤ (pos (16 * a) -ℤ pos ((16 * j + 8) * c))
bars_neg_neg a j c = ap (λ (z : ℤ). z -ℤ (pos 16 *ℤ negsuc j +ℤ pos 8) *ℤ pos c) (sixteen_neg a) ∙ ap (λ (z : ℤ). neg_ℤ (pos (16 * a)) -ℤ z) (half_neg j c) ∙ sym (neg_ℤ-+ℤ (pos (16 * a)) (neg_ℤ (pos ((16 * j + 8) * c))))

bars_pos_neg : (a j c : ℕ) → bars false a (negsuc j) c ≡ pos (16 * a + (16 * j + 8) * c)
bars_pos_neg a j c = ap (λ (z : ℤ). pos (16 * a) -ℤ z) (half_neg j c) ∙ ap (λ (z : ℤ). pos (16 * a) +ℤ z) (neg_ℤ-neg_ℤ (pos ((16 * j + 8) * c)))

bars_neg_pos : (a k c : ℕ) → bars true a (pos k) c ≡ neg_ℤ (pos (16 * a + (16 * k + 8) * c))
bars_neg_pos a k c = ap (λ (z : ℤ). z -ℤ pos ((16 * k + 8) * c)) (sixteen_neg a) ∙ sym (neg_ℤ-+ℤ (pos (16 * a)) (pos ((16 * k + 8) * c)))

-- ---- the statement and the fraction
far : (a k c : ℕ) → 0 < c → 16 * a + (16 * k + 8) * c ≤ c → ⊥
far a k c C h = omega arith

to_mid : (a k c : ℕ) → nat_abs (pos (16 * a) -ℤ pos ((16 * k + 8) * c)) ≤ c → Mid a c
to_mid a k c h = let d = of_near (16 * a) ((16 * k + 8) * c) c h in (k, lower d.0 d.1, upper d.0 d.1)
  where
    lower : 16 * a ≤ (16 * k + 8) * c + c → (16 * k + 8) * c ≤ 16 * a + c → (16 * k + 7) * c ≤ 16 * a
    lower x y = omega arith

    upper : 16 * a ≤ (16 * k + 8) * c + c → (16 * k + 8) * c ≤ 16 * a + c → 16 * a ≤ (16 * k + 9) * c
    upper x y = omega arith

near_mid : (s : Bool) (a c : ℕ) → 0 < c → NearHalf s a c → Mid a c
near_mid false a c C (pos k, h) = to_mid a k c h
near_mid false a c C (negsuc j, h) = absurd (far a j c C (subst (λ (z : ℤ). nat_abs z ≤ c) (bars_pos_neg a j c) h))
near_mid true a c C (negsuc j, h) = to_mid a j c (subst (λ (n : ℕ). n ≤ c) (ap nat_abs (bars_neg_neg a j c) ∙ abs_neg (pos (16 * a) -ℤ pos ((16 * j + 8) * c))) h)
near_mid true a c C (pos k, h) = absurd (far a k c C (subst (λ (n : ℕ). n ≤ c) (ap nat_abs (bars_neg_pos a k c) ∙ abs_neg (pos (16 * a + (16 * k + 8) * c))) h))

from_mid : (a k c : ℕ) → (16 * k + 7) * c ≤ 16 * a → 16 * a ≤ (16 * k + 9) * c → nat_abs (pos (16 * a) -ℤ pos ((16 * k + 8) * c)) ≤ c
from_mid a k c lo hi = near (16 * a) ((16 * k + 8) * c) c (omega arith) (omega arith)

mid_near : (s : Bool) (a c : ℕ) → Mid a c → NearHalf s a c
mid_near false a c (k, lo, hi) = (pos k, from_mid a k c lo hi)
mid_near true a c (k, lo, hi) = (negsuc k, subst (λ (n : ℕ). n ≤ c) (sym (ap nat_abs (bars_neg_neg a k c) ∙ abs_neg (pos (16 * a) -ℤ pos ((16 * k + 8) * c)))) (from_mid a k c lo hi))

-- ---- of a float
pub doubtful_near : DoubtfulNear
unfolding doubtful
doubtful_near nan s a c C v h = absurd v
doubtful_near (inf t) s a c C v h = absurd v
doubtful_near (fin t m e) s a c C v h = mid_near s a c (mid_same (m * up e) (down e) a c (down_pos e) v.1 (midway_mid (m * up e) (down e) h))

pub near_doubtful : NearDoubtful
unfolding doubtful
near_doubtful nan s a c C v h = absurd v
near_doubtful (inf t) s a c C v h = absurd v
near_doubtful (fin t m e) s a c C v h = mid_midway (m * up e) (down e) (down_pos e) (mid_same a c (m * up e) (down e) C (sym v.1) (near_mid s a c C h))
