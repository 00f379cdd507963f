-- Questions 5 and 7 of the number that a bit pattern is, by the bits: patterns without their sign are in the order of the sizes. Assumes nothing.
use Prim.Native.Nat.{ℕ, zero, suc, ◌+◌, ◌*◌, ◌/◌, ◌%◌, ◌^◌, ◌≤◌, ◌<◌}
use native.Mathlib.Omega.{arith}
use native.Mathlib.Nat.{mul-le-mul_right, mul-lt-mul_of_pos_right, le_of_mul-le-mul_right, mul_comm, mul_assoc, mul_left_comm, mul_right_comm, mul-pos, add-mul, mul-le-mul_left, mul-lt-mul_of_pos_left, lt_of_lt_of_le, le_of_eq, le_of_lt, pow-suc}
use mathlib.Core.Path.{◌≡◌, refl, sym, ap, ◌∙◌, subst}
use mathlib.Core.Bool.{Bool, true, false, cond, not, ◌&&◌, ◌||◌, true≢false}
use mathlib.Core.Logic.{◌⊎◌, inl, inr, ⊎_elim}
use lib.Dec.{T, eqb, leb, ltb}
use lib.IntN.{ℤ, pos, negsuc}
use lib.Pow.{pow_pos, pow_mono, pow-lt}
use lib.Ieee.{Float, nan, inf, fin, binary32, up, down, le, lt, eq, is_nan, of_fields, of_bits, to_bits}
use lib.Ieee.Exact.{HasValue, odd_sign}
use lib.Ieee.Bits.{to_bits-of_bits}
use borrow.Author.Tests.{lt-ltb, le-ltb, le-leb, lt-leb, eq-eqb, ne_eqb, leb-true, leb-false, eqb-true, eqb-false}
use Rattle.arithmetic.specs.Intervals.{nyquist_in_range, velocity_in_range}
use Rattle.lists.proofs.SegLaws.{eq_or_ne}

-- ---- comparing with a power of two by the value

down_pos : (e : ℤ) → 0 < down e
down_pos (pos k) = omega arith
down_pos (negsuc k) = pow_pos (suc k)

-- ±a ≤ ±b at equal signs
level_le : (a b : ℕ) → (ltb a b || (eqb a b && true)) ≡ leb a b
level_le a b = go (leb a b) refl (eqb a b) refl
  where
    go : (c : Bool) → leb a b ≡ c → (d : Bool) → eqb a b ≡ d → (ltb a b || (eqb a b && true)) ≡ leb a b
    go true e true f = rw (e, f, le-ltb a b (omega (arith, eqb-true a b f))) refl
    go true e false f = rw (e, f, lt-ltb a b (omega (arith, leb-true a b e, eqb-false a b f))) refl
    go false e true f = absurd (omega (arith, leb-false a b e, eqb-true a b f))
    go false e false f = rw (e, f, le-ltb a b (omega (arith, leb-false a b e))) refl

-- x * c is a * d, so that x ≤ y * d exactly if a ≤ y * c
scaled_le : (x y a c d : ℕ) → 0 < c → x * c ≡ a * d → a ≤ y * c → x ≤ y * d
scaled_le x y a c d C e h =
    le_of_mul-le-mul_right {m = x} {n = y * d} {k = c} (subst (λ (z : ℕ). z ≤ y * d * c) (sym e) (subst (λ (z : ℕ). a * d ≤ z) (mul_right_comm y c d) (mul-le-mul_right d h))) C

scaled_lt : (x y a c d : ℕ) → 0 < d → 0 < c → x * c ≡ a * d → y * c < a → y * d < x
scaled_lt x y a c d D C e h = go (leb x (y * d)) refl
  where
    back : x ≤ y * d → a ≤ y * c
    back k = le_of_mul-le-mul_right {m = a} {n = y * c} {k = d} (subst (λ (z : ℕ). z ≤ y * c * d) e (subst (λ (z : ℕ). x * c ≤ z) (mul_right_comm y d c) (mul-le-mul_right c k))) D

    clash : (u v : ℕ) → u < v → v ≤ u → ⊥
    clash u v a b = omega arith

    go : (b : Bool) → leb x (y * d) ≡ b → y * d < x
    go true f = absurd (clash (y * c) a h (back (leb-true x (y * d) f)))
    go false f = leb-false x (y * d) f

-- a finite x of size a / c, compared with 2 ^ j
module _ (s : Bool) (m : ℕ) (e : ℤ) (a c j : ℕ) (C : 0 < c) (v : m * up e * c ≡ a * down e) where
  here : m * up e * 1 * c ≡ a * down e
  here = ap (λ (z : ℕ). z * c) (omega arith) ∙ v

  power : (z : ℕ) → 1 * z * down e ≡ z * down e
  power z = ap (λ (y : ℕ). y * down e) (omega arith)

  under : a ≤ 2 ^ j * c → leb (m * up e * 1) (1 * 2 ^ j * down e) ≡ true
  under h = le-leb _ _ (subst (λ (z : ℕ). m * up e * 1 ≤ z) (sym (power (2 ^ j))) (scaled_le (m * up e * 1) (2 ^ j) a c (down e) C here h))

  over : 2 ^ j * c < a → leb (m * up e * 1) (1 * 2 ^ j * down e) ≡ false
  over h = lt-leb _ _ (subst (λ (z : ℕ). z < m * up e * 1) (sym (power (2 ^ j))) (scaled_lt (m * up e * 1) (2 ^ j) a c (down e) (down_pos e) C here h))

  some : 0 < 1 * 2 ^ j * down e
  some = mul-pos (mul-pos (omega arith) (pow_pos j)) (down_pos e)

-- from -2 ^ j to 2 ^ j
abbrev within : ℕ → Float → Bool
within j x = le (fin true 1 (pos j)) x && le x (fin false 1 (pos j))

turned_le : (a b : ℕ) → (ltb b a || (eqb a b && true)) ≡ leb b a
turned_le a b = go (leb b a) refl (eqb a b) refl
  where
    go : (c : Bool) → leb b a ≡ c → (d : Bool) → eqb a b ≡ d → (ltb b a || (eqb a b && true)) ≡ leb b a
    go true e true f = rw (e, f, le-ltb b a (omega (arith, eqb-true a b f))) refl
    go true e false f = rw (e, f, lt-ltb b a (omega (arith, leb-true b a e, eqb-false a b f))) refl
    go false e true f = absurd (omega (arith, leb-false b a e, eqb-true a b f))
    go false e false f = rw (e, f, le-ltb b a (omega (arith, leb-false b a e))) refl

left_some : (a b : ℕ) → 0 < a → ltb 0 (a + b) ≡ true
left_some a b h = lt-ltb 0 (a + b) (omega arith)

right_some : (a b : ℕ) → 0 < b → ltb 0 (a + b) ≡ true
right_some a b h = lt-ltb 0 (a + b) (omega arith)

within_is : (x : Float) (s : Bool) (a c j : ℕ) → 0 < c → HasValue x s a c → (b : Bool) → (b ≡ true → a ≤ 2 ^ j * c) → (b ≡ false → 2 ^ j * c < a) → within j x ≡ b
unfolding le lt eq
within_is nan s a c j C v b y n = absurd v
within_is (inf t) s a c j C v b y n = absurd v
within_is (fin false m e) s a c j C v b y n =
    rw (left_some (1 * 2 ^ j * down e) (m * up e * 1) (some false m e a c j C v.1))
    (level_le (m * up e * 1) (1 * 2 ^ j * down e) ∙ go b refl)
  where
    go : (d : Bool) → b ≡ d → leb (m * up e * 1) (1 * 2 ^ j * down e) ≡ b
    go true f = under false m e a c j C v.1 (y f) ∙ sym f
    go false f = over false m e a c j C v.1 (n f) ∙ sym f
within_is (fin true m e) s a c j C v b y n =
    rw (right_some (m * up e * 1) (1 * 2 ^ j * down e) (some true m e a c j C v.1))
    (ends (ltb (m * up e * 1) (1 * 2 ^ j * down e) || (eqb (1 * 2 ^ j * down e) (m * up e * 1) && true)) ∙ turned_le (1 * 2 ^ j * down e) (m * up e * 1) ∙ go b refl)
  where
    ends : (b : Bool) → (b && true) ≡ b
    ends true = refl
    ends false = refl

    go : (d : Bool) → b ≡ d → leb (m * up e * 1) (1 * 2 ^ j * down e) ≡ b
    go true f = under true m e a c j C v.1 (y f) ∙ sym f
    go false f = over true m e a c j C v.1 (n f) ∙ sym f

-- ---- at least 2 ^ -(i + 1)

scaled_ge : (x a c d p : ℕ) → 0 < c → x * c ≡ a * d → c ≤ a * p → d ≤ x * p
scaled_ge x a c d p C e h =
    let r : x * p * c ≡ a * p * d = simp (mul_assoc, mul_comm, mul_left_comm) (simp (mul_assoc, mul_comm, mul_left_comm) at (ap (λ (z : ℕ). z * p) e)) in
    le_of_mul-le-mul_right {m = d} {n = x * p} {k = c} (subst (λ (z : ℕ). d * c ≤ z) (sym r) (subst (λ (z : ℕ). z ≤ a * p * d) (mul_comm c d) (mul-le-mul_right d h))) C

scaled_gt : (x a c d p : ℕ) → 0 < d → x * c ≡ a * d → a * p < c → x * p < d
scaled_gt x a c d p D e h = go (leb d (x * p)) refl
  where
    back : d ≤ x * p → c ≤ a * p
    back k =
        let r : x * p * c ≡ a * p * d = simp (mul_assoc, mul_comm, mul_left_comm) (simp (mul_assoc, mul_comm, mul_left_comm) at (ap (λ (z : ℕ). z * p) e)) in
        le_of_mul-le-mul_right {m = c} {n = a * p} {k = d} (subst (λ (z : ℕ). c * d ≤ z) r (subst (λ (z : ℕ). z ≤ x * p * c) (mul_comm d c) (mul-le-mul_right c k))) D

    clash : (u v : ℕ) → u < v → v ≤ u → ⊥
    clash u v a b = omega arith

    go : (b : Bool) → leb d (x * p) ≡ b → x * p < d
    go true f = absurd (clash (a * p) c h (back (leb-true d (x * p) f)))
    go false f = leb-false d (x * p) f

-- a number from 2 ^ -(i + 1) on to 2 ^ j
abbrev between : ℕ → ℕ → Float → Bool
between i j x = le (fin false 1 (negsuc i)) x && le x (fin false 1 (pos j))

one_one : (d : ℕ) → 1 * 1 * d ≡ d
one_one d = omega arith

between_is : (x : Float) (a c i j : ℕ) → 0 < c → HasValue x false a c → (b d : Bool)
    → (b ≡ true → c ≤ a * 2 ^ suc i) → (b ≡ false → a * 2 ^ suc i < c) → (d ≡ true → a ≤ 2 ^ j * c) → (d ≡ false → 2 ^ j * c < a) → between i j x ≡ (b && d)
unfolding le lt eq
between_is nan a c i j C v b d p q y n = absurd v
between_is (inf t) a c i j C v b d p q y n = absurd v
between_is (fin true m e) a c i j C v b d p q y n = absurd (true≢false v.0)
between_is (fin false m e) a c i j C v b d p q y n =
    (λ z. (level_le (1 * 1 * down e) (m * up e * 2 ^ suc i) ∙ low b refl) z && (level_le (m * up e * 1) (1 * 2 ^ j * down e) ∙ high d refl) z)
  where
    low : (f : Bool) → b ≡ f → leb (1 * 1 * down e) (m * up e * 2 ^ suc i) ≡ b
    low true f = rw (one_one (down e)) (le-leb (down e) (m * up e * 2 ^ suc i) (scaled_ge (m * up e) a c (down e) (2 ^ suc i) C v.1 (p f))) ∙ sym f
    low false f = rw (one_one (down e)) (lt-leb (down e) (m * up e * 2 ^ suc i) (scaled_gt (m * up e) a c (down e) (2 ^ suc i) (down_pos e) v.1 (q f))) ∙ sym f

    high : (f : Bool) → d ≡ f → leb (m * up e * 1) (1 * 2 ^ j * down e) ≡ d
    high true f = under false m e a c j C v.1 (y f) ∙ sym f
    high false f = over false m e a c j C v.1 (n f) ∙ sym f

-- a negative number is not
between_negative : (x : Float) (a c i j : ℕ) → HasValue x true a c → between i j x ≡ false
unfolding le lt eq
between_negative nan a c i j v = absurd v
between_negative (inf t) a c i j v = absurd v
between_negative (fin false m e) a c i j v = absurd (true≢false (sym v.0))
between_negative (fin true m e) a c i j v = go (eqb (1 * 1 * down e) (m * up e * 2 ^ suc i)) (eqb (1 * 1 * down e) 0) (ne_eqb (1 * 1 * down e) 0 (λ z. clash (down e) (down_pos e) (sym (one_one (down e)) ∙ z)))
  where
    clash : (u : ℕ) → 0 < u → u ≡ 0 → ⊥
    clash u a b = omega arith

    go : (p q : Bool) → q ≡ false → ((p && q) && le (fin true m e) (fin false 1 (pos j))) ≡ false
    go true q f = rw f refl
    go false q f = refl

-- ---- sizes in units of the smallest value, by the exponent's field; h is the leading digit's weight

module _ (h t y Y : ℕ) where
  shifted : (h + h) * 2 ^ y ≡ h * 2 ^ suc y
  shifted = add-mul h h (2 ^ y) ∙ double (h * 2 ^ y) ∙ mul_assoc h (2 ^ y) 2 ∙ ap (λ (z : ℕ). h * z) (sym (pow-suc 2 y))
    where
      double : (z : ℕ) → z + z ≡ z * 2
      double z = omega arith

  smaller : t < h → y < Y → (h + t) * 2 ^ y < h * 2 ^ Y
  smaller a b =
      lt_of_lt_of_le
      (subst (λ (z : ℕ). (h + t) * 2 ^ y < z) shifted (mul-lt-mul_of_pos_right {m = h + t} {n = h + h} {k = 2 ^ y} (omega arith) (pow_pos y)))
      (mul-le-mul_left h (pow_mono {i = suc y} {j = Y} b))

  larger : 0 < h → Y < y → h * 2 ^ Y < (h + t) * 2 ^ y
  larger a b =
      lt_of_lt_of_le
      (mul-lt-mul_of_pos_left {m = 2 ^ Y} {n = 2 ^ y} {k = h} (pow-lt b) a)
      (mul-le-mul_right (2 ^ y) (omega arith))

  same_size_lem : y ≡ Y → t ≡ 0 → (h + t) * 2 ^ y ≡ h * 2 ^ Y
  same_size_lem e z i = let w : h + t ≡ h = omega arith in w i * 2 ^ e i

  same_larger : y ≡ Y → 0 < t → h * 2 ^ Y < (h + t) * 2 ^ y
  same_larger e z = subst (λ (k : ℕ). h * 2 ^ Y < (h + t) * 2 ^ k) (sym e) (mul-lt-mul_of_pos_right {m = h} {n = h + t} {k = 2 ^ Y} (omega arith) (pow_pos Y))

-- ---- the fields of a pattern: sign, exponent's field x, digits t

-- the size in units of the smallest value
abbrev units_of : ℕ → ℕ → ℕ
units_of zero t = t * 2 ^ 0
units_of (suc y) t = (8388608 + t) * 2 ^ y

fields_value : (s : Bool) (x t : ℕ) → x < 255 → HasValue (of_fields binary32 s x t) s (units_of x t) (2 ^ 149)
unfolding of_fields
fields_value s zero t h = odd_sign 24 s t 0 149
fields_value s (suc y) t h = rw (ne_eqb (suc y) 255 (omega arith)) (odd_sign 24 s (8388608 + t) y 149)

-- with an exponent's field of 255 it is no number
fields_none : (s : Bool) (x t : ℕ) → x ≡ 255 → (of_fields binary32 s x t ≡ inf s) ⊎ (of_fields binary32 s x t ≡ nan)
unfolding of_fields
fields_none s zero t e = absurd (omega arith)
fields_none s (suc y) t e = rw (eq-eqb (suc y) 255 e) (go (eqb t 0))
  where
    go : (b : Bool) → (cond b (inf s) nan ≡ inf s) ⊎ (cond b (inf s) nan ≡ nan)
    go true = inl refl
    go false = inr refl

-- sizes against that of the field suc Y with no digits
module _ (x t Y : ℕ) (d : t < 8388608) where
  units_under : x * 8388608 + t < suc Y * 8388608 → units_of x t < 8388608 * 2 ^ Y
  units_under = go x
    where
      go : (x : ℕ) → x * 8388608 + t < suc Y * 8388608 → units_of x t < 8388608 * 2 ^ Y
      go zero h = lt_of_lt_of_le {n = t * 1} {m = 8388608} {k = 8388608 * 2 ^ Y} (omega arith) (mul-le-mul_left {m = 1} {n = 2 ^ Y} 8388608 (pow_pos Y))
      go (suc y) h = smaller 8388608 t y Y d (omega arith)

  units_over : suc Y * 8388608 < x * 8388608 + t → 8388608 * 2 ^ Y < units_of x t
  units_over = go x
    where
      go : (x : ℕ) → suc Y * 8388608 < x * 8388608 + t → 8388608 * 2 ^ Y < units_of x t
      go zero h = absurd (omega arith)
      go (suc y) h =
          ⊎_elim
          (λ e. same_larger 8388608 t y Y e (omega arith))
          (λ e. larger 8388608 t y Y (omega arith) (omega arith))
          (eq_or_ne y Y)

  units_same : x * 8388608 + t ≡ suc Y * 8388608 → units_of x t ≡ 8388608 * 2 ^ Y
  units_same = go x
    where
      go : (x : ℕ) → x * 8388608 + t ≡ suc Y * 8388608 → units_of x t ≡ 8388608 * 2 ^ Y
      go zero h = absurd (omega arith)
      go (suc y) h = same_size_lem 8388608 t y Y (omega arith) (omega arith)

  units_most : x * 8388608 + t ≤ suc Y * 8388608 → units_of x t ≤ 8388608 * 2 ^ Y
  units_most h = ⊎_elim (λ e. le_of_eq (units_same e)) (λ e. le_of_lt (units_under (omega arith))) (eq_or_ne (x * 8388608 + t) (suc Y * 8388608))

  units_least : suc Y * 8388608 ≤ x * 8388608 + t → 8388608 * 2 ^ Y ≤ units_of x t
  units_least h = ⊎_elim (λ e. le_of_eq (sym (units_same e))) (λ e. le_of_lt (units_over (omega arith))) (eq_or_ne (x * 8388608 + t) (suc Y * 8388608))

-- ---- question 7

not_velocity : (x : Float) (s : Bool) → (x ≡ inf s) ⊎ (x ≡ nan) → velocity_in_range x ≡ false
unfolding velocity_in_range le lt eq
not_velocity x s = ⊎_elim (λ e. ap velocity_in_range e ∙ go s) (λ e. ap velocity_in_range e)
  where
    go : (s : Bool) → (le (fin true 1 (pos 14)) (inf s) && le (inf s) (fin false 1 (pos 14))) ≡ false
    go true = refl
    go false = refl

velocity_within : (x : Float) → within 14 x ≡ velocity_in_range x
unfolding velocity_in_range
velocity_within x = refl

velocity_fields : (s : Bool) (x t : ℕ) → x < 256 → t < 8388608 → leb (x * 8388608 + t) 1182793728 ≡ velocity_in_range (of_fields binary32 s x t)
velocity_fields s x t h d = go (leb (x * 8388608 + t) 1182793728) refl
  where
    most : (a b c : ℕ) → a ≤ b → b ≡ c → a ≤ c
    most a b c p q = omega arith

    least : (a b c : ℕ) → b < a → b ≡ c → c < a
    least a b c p q = omega arith

    go : (b : Bool) → leb (x * 8388608 + t) 1182793728 ≡ b → leb (x * 8388608 + t) 1182793728 ≡ velocity_in_range (of_fields binary32 s x t)
    go true e =
        let k = leb-true (x * 8388608 + t) 1182793728 e in
        e ∙ sym (within_is (of_fields binary32 s x t) s (units_of x t) (2 ^ 149) 14 (pow_pos 149) (fields_value s x t (omega arith)) true
        (λ _. most (units_of x t) (8388608 * 2 ^ 140) (2 ^ 14 * 2 ^ 149) (units_most x t 140 d (omega arith)) refl) (λ f. absurd (true≢false f)))
        ∙ velocity_within (of_fields binary32 s x t)
    go false e =
        let k = leb-false (x * 8388608 + t) 1182793728 e in
        e ∙ sym (⊎_elim
        (λ f. not_velocity (of_fields binary32 s x t) s (fields_none s x t f))
        (λ f. sym (velocity_within (of_fields binary32 s x t)) ∙ within_is (of_fields binary32 s x t) s (units_of x t) (2 ^ 149) 14 (pow_pos 149) (fields_value s x t (omega arith)) false
        (λ g. absurd (true≢false (sym g))) (λ _. least (units_of x t) (8388608 * 2 ^ 140) (2 ^ 14 * 2 ^ 149) (units_over x t 140 d (omega arith)) refl))
        (eq_or_ne x 255))

-- the bits of an f32 in fields
field_under : (b : ℕ) → b % 2147483648 / 8388608 < 256
field_under b = omega arith

digits_under : (b : ℕ) → b % 8388608 < 8388608
digits_under b = omega arith

fields_whole : (b : ℕ) → b % 2147483648 / 8388608 * 8388608 + b % 8388608 ≡ b % 2147483648
fields_whole b = omega arith

pub velocity_bits_lem : (b : ℕ) → leb (b % 2147483648) 1182793728 ≡ velocity_in_range (of_bits binary32 b)
unfolding of_bits
velocity_bits_lem b =
    ap (λ (m : ℕ). leb m 1182793728) (sym (fields_whole b))
    ∙ velocity_fields (leb 2147483648 b) (b % 2147483648 / 8388608) (b % 8388608) (field_under b) (digits_under b)

-- ---- question 5

not_nyquist : (x : Float) (s : Bool) → (x ≡ inf s) ⊎ (x ≡ nan) → nyquist_in_range x ≡ false
unfolding nyquist_in_range le lt eq
not_nyquist x s = ⊎_elim (λ e. ap nyquist_in_range e ∙ go s) (λ e. ap nyquist_in_range e)
  where
    go : (s : Bool) → (le (fin false 1 (negsuc 2)) (inf s) && le (inf s) (fin false 1 (pos 10))) ≡ false
    go true = refl
    go false = refl

nyquist_between : (x : Float) → between 2 10 x ≡ nyquist_in_range x
unfolding nyquist_in_range
nyquist_between x = refl

-- a pattern with the sign set
negative_fields : (x t : ℕ) → x < 256 → nyquist_in_range (of_fields binary32 true x t) ≡ false
negative_fields x t h =
    ⊎_elim
    (λ f. not_nyquist (of_fields binary32 true x t) true (fields_none true x t f))
    (λ f. sym (nyquist_between (of_fields binary32 true x t)) ∙ between_negative (of_fields binary32 true x t) (units_of x t) (2 ^ 149) 2 10 (fields_value true x t (omega arith)))
    (eq_or_ne x 255)

and_no : (b c : Bool) → c ≡ false → (b && c) ≡ false
and_no true c e = e
and_no false c e = refl

positive_fields : (x t : ℕ) → x < 256 → t < 8388608 → (leb 1040187392 (x * 8388608 + t) && leb (x * 8388608 + t) 1149239296) ≡ nyquist_in_range (of_fields binary32 false x t)
positive_fields x t h d =
    ⊎_elim
    (λ f. and_no (leb 1040187392 (x * 8388608 + t)) (leb (x * 8388608 + t) 1149239296) (lt-leb (x * 8388608 + t) 1149239296 (omega arith)) ∙ sym (not_nyquist (of_fields binary32 false x t) false (fields_none false x t f)))
    (λ f. sym (between_is (of_fields binary32 false x t) (units_of x t) (2 ^ 149) 2 10 (pow_pos 149) (fields_value false x t (omega arith)) (leb 1040187392 (x * 8388608 + t)) (leb (x * 8388608 + t) 1149239296)
    (λ e. eighths (units_of x t) (8388608 * 2 ^ 123) (2 ^ 149) (units_least x t 123 d (omega (arith, leb-true 1040187392 (x * 8388608 + t) e))) refl)
    (λ e. fewer (units_of x t) (8388608 * 2 ^ 123) (2 ^ 149) (units_under x t 123 d (omega (arith, leb-false 1040187392 (x * 8388608 + t) e))) refl)
    (λ e. most (units_of x t) (8388608 * 2 ^ 136) (2 ^ 10 * 2 ^ 149) (units_most x t 136 d (omega (arith, leb-true (x * 8388608 + t) 1149239296 e))) refl)
    (λ e. least (units_of x t) (8388608 * 2 ^ 136) (2 ^ 10 * 2 ^ 149) (units_over x t 136 d (omega (arith, leb-false (x * 8388608 + t) 1149239296 e))) refl))
    ∙ nyquist_between (of_fields binary32 false x t))
    (eq_or_ne x 255)
  where
    eighths : (a b c : ℕ) → b ≤ a → b * 8 ≡ c → c ≤ a * 8
    eighths a b c p q = omega arith

    fewer : (a b c : ℕ) → a < b → b * 8 ≡ c → a * 8 < c
    fewer a b c p q = omega arith

    most : (a b c : ℕ) → a ≤ b → b ≡ c → a ≤ c
    most a b c p q = omega arith

    least : (a b c : ℕ) → b < a → b ≡ c → c < a
    least a b c p q = omega arith

pub nyquist_bits : (b : ℕ) → b < 4294967296 → (leb 1040187392 b && leb b 1149239296) ≡ nyquist_in_range (of_bits binary32 b)
unfolding of_bits
nyquist_bits b h = go (leb 2147483648 b) refl
  where
    go : (s : Bool) → leb 2147483648 b ≡ s → (leb 1040187392 b && leb b 1149239296) ≡ nyquist_in_range (of_fields binary32 s (b % 2147483648 / 8388608) (b % 8388608))
    go true e =
        let k = leb-true 2147483648 b e in
        and_no (leb 1040187392 b) (leb b 1149239296) (lt-leb b 1149239296 (omega arith)) ∙ sym (negative_fields (b % 2147483648 / 8388608) (b % 8388608) (field_under b))
    go false e =
        let k = leb-false 2147483648 b e in
        let w : b ≡ b % 2147483648 / 8388608 * 8388608 + b % 8388608 = omega arith in
        ap (λ (m : ℕ). leb 1040187392 m && leb m 1149239296) w ∙ positive_fields (b % 2147483648 / 8388608) (b % 8388608) (field_under b) (digits_under b)

-- a Nyquist in its range is no NaN, and its bits are the ones that it was read from
in_range_no_nan : (x : Float) → nyquist_in_range x ≡ true → T (not (is_nan x))
unfolding is_nan
in_range_no_nan nan y = absurd (true≢false (sym y ∙ not_nyquist nan true (inr refl)))
in_range_no_nan (inf s) y = tt
in_range_no_nan (fin s m e) y = tt

pub nyquist_again : (b : ℕ) → b < 4294967296 → nyquist_in_range (of_bits binary32 b) ≡ true → to_bits binary32 (of_bits binary32 b) ≡ b
nyquist_again b h y = to_bits-of_bits binary32 b h (in_range_no_nan (of_bits binary32 b) y)
