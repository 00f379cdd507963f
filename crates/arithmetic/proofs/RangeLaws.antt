-- What the range test of `round_even` and `ceil` says, and the i32 that is made within the range. Assumes nothing.
use Rattle.std.proofs.Common.{◌≡◌, ℕ, zero, suc, ◌+◌, ◌-◌, ◌*◌, ◌/◌, ◌%◌, ◌^◌, ◌<◌, ◌≤◌, min, Bool, true, false, cond, not, ◌&&◌, ◌||◌, T, eqb, ltb, leb, ◌⊎◌, ℤ, pos, neg_ℤ, Some, sym, refl, ap, ◌∙◌, subst, inl, inr, le_trans, le_of_eq, le_of_lt, eq-or-lt_of_le, div-add-mod', mod-lt, div-lt_iff_lt-mul, mul-one, mul_comm, not-le_of_lt, arith, lit<, lit≤, eqb→eq, ltb→lt, lt→ltb, leb→le, w32}
use Rattle.std.proofs.Math.Nat.{div-eq_of_lt-le}
use native.Mathlib.Nat.{mul-div_cancel, div-le_of_le-mul}
use lib.Dec.{nleb→lt, eqb_refl, not_T}
use Rattle.std.specs.Float.{float_with_sign, float_to_signed, round_with, round_ties_even, ceil}
use lib.Ieee.{Float, nan, inf, fin, binary64, up, down, round, lt, eq, le, to_signed}
use lib.Ieee.Back.{round_whole}
use lib.Ieee.Bits.{is_true, is_false}
use lib.Ieee.Exact.{HasValue}
use lib.Ieee.Fits.{down_pos}
use lib.Ieee.Nearest.{closest, closest_mono}
use Rattle.arithmetic.specs.Rounding.{signed, within, ceiling, nearest_whole, ceiling_whole, if_within, round_even, ceil_of}

-- 2 ^ 30
abbrev pub most : Float
most = fin false 1 (pos 30)

-- ---- tests on numbers
pub le-leb : (a b : ℕ) → (ltb a b || (eqb a b && true)) ≡ leb a b
le-leb a b = go (leb a b) (leb→le a b) (nleb→lt a b)
  where
    or_true : (x y : Bool) → (x ≡ true) ⊎ (y ≡ true) → (x || (y && true)) ≡ true
    or_true true y h = refl
    or_true false true h = refl
    or_true false false (inl e) = e
    or_true false false (inr e) = e

    or_false : (x y : Bool) → x ≡ false → y ≡ false → (x || (y && true)) ≡ false
    or_false false false e f = refl
    or_false true y e f = e
    or_false false true e f = f

    go : (t : Bool) → (T t → a ≤ b) → (T (not t) → b < a) → (ltb a b || (eqb a b && true)) ≡ t
    go true h k =
        or_true (ltb a b) (eqb a b) (elim (eq-or-lt_of_le (h tt)) [
          | inl e ↦ inr (is_true (eqb a b) (subst (λ (x : ℕ). T (eqb a x)) e (eqb_refl a)))
          | inr l ↦ inl (is_true (ltb a b) (lt→ltb a b l))
        ])
    go false h k =
        or_false (ltb a b) (eqb a b) (is_false (ltb a b) (not_T (ltb a b) (λ (t : T (ltb a b)). not-le_of_lt (k tt) (le_of_lt (ltb→lt a b t)))))
        (is_false (eqb a b) (not_T (eqb a b) (λ (t : T (eqb a b)). not-le_of_lt (k tt) (le_of_eq (eqb→eq a b t)))))

-- two tests that imply each other
pub iff : (a b : Bool) → (T a → T b) → (T b → T a) → a ≡ b
iff true true f g = refl
iff true false f g = absurd (f tt)
iff false true f g = absurd (g tt)
iff false false f g = refl

pub eqb_sym : (a b : ℕ) → eqb a b ≡ eqb b a
eqb_sym a b = iff (eqb a b) (eqb b a) (λ (t : T (eqb a b)). subst (λ (x : ℕ). T (eqb x a)) (eqb→eq a b t) (eqb_refl a)) (λ (t : T (eqb b a)). subst (λ (x : ℕ). T (eqb x b)) (eqb→eq b a t) (eqb_refl b))

pub T_of : {b : Bool} → b ≡ true → T b
T_of e = subst T (sym e) tt

-- ---- the range test
size_within : (x : Float) → le (float_with_sign false x) most ≡ within x
unfolding lt eq le within float_with_sign
size_within nan = refl
size_within (inf s) = refl
size_within (fin s m e) = le-leb (m * up e * 1) (2 ^ 30 * down e) ∙ ap (λ (a : ℕ). leb a (2 ^ 30 * down e)) (mul-one (m * up e))

-- the test on a, the size of x
pub abs_within : (x a : Float) (b : Bool) → a ≡ float_with_sign false x → le a most ≡ b → within x ≡ b
abs_within x a b e t = sym (size_within x) ∙ ap (λ (y : Float). le y most) (sym e) ∙ t

-- ---- the i32 of a float that is whole, and up to 2 ^ 30 either way
cast_is : (y : Float) (s : Bool) (n : ℕ) → HasValue y s n 1 → n ≤ 2 ^ 30 → to_signed 31 y ≡ signed s n
unfolding to_signed
cast_is nan s n v h = absurd v
cast_is (inf t) s n v h = absurd v
cast_is (fin t m e) s n v h =
    let q : m * up e / down e ≡ n = ap (λ (z : ℕ). z / down e) (sym (mul-one (m * up e)) ∙ v.1) ∙ mul-div_cancel n (down_pos e) in
    ap (λ (z : ℕ). cond t (neg_ℤ (pos (min z (2 ^ 31)))) (pos (min z (2 ^ 31 - 1)))) q ∙ go t v.0
  where
    even_min : (n k : ℕ) → n ≤ 2 ^ 30 → 2 ^ 30 ≤ k → min n k ≡ n
    even_min n k h g = omega arith

    go : (t : Bool) → t ≡ s → cond t (neg_ℤ (pos (min n (2 ^ 31)))) (pos (min n (2 ^ 31 - 1))) ≡ signed s n
    go false e = ap pos (even_min n (2 ^ 31 - 1) h (lit≤ tt)) ∙ ap (λ (b : Bool). signed b n) e
    go true e = ap (λ (z : ℕ). neg_ℤ (pos z)) (even_min n (2 ^ 31) h (lit≤ tt)) ∙ ap (λ (b : Bool). signed b n) e

made : (s : Bool) (n : ℕ) → n ≤ 2 ^ 30 → to_signed 31 (round binary64 s n 1) ≡ signed s n
made s n h = cast_is (round binary64 s n 1) s n (round_whole binary64 s n (le_trans h (lit≤ tt))) h

closest_few : (a d : ℕ) → 0 < d → a ≤ 2 ^ 30 * d → closest a d ≤ 2 ^ 30
closest_few a d D h = closest_mono a d (2 ^ 30) 1 D (lit< tt) (le_trans (le_of_eq (mul-one a)) h)

-- the number nearest to x, cast
even_cast : (x : Float) → T (within x) → to_signed 31 (round_ties_even binary64 x) ≡ nearest_whole x
unfolding within round_with nearest_whole
even_cast nan w = absurd w
even_cast (inf s) w = absurd w
even_cast (fin false m e) w = made false (closest (m * up e) (down e)) (closest_few (m * up e) (down e) (down_pos e) (leb→le (m * up e) (2 ^ 30 * down e) w))
even_cast (fin true m e) w = made true (closest (m * up e) (down e)) (closest_few (m * up e) (down e) (down_pos e) (leb→le (m * up e) (2 ^ 30 * down e) w))

floor_few : (a d : ℕ) → a ≤ 2 ^ 30 * d → a / d ≤ 2 ^ 30
floor_few a d h = div-le_of_le-mul d (le_trans h (le_of_eq (mul_comm (2 ^ 30) d)))

-- the ceiling of a fraction, as std has it
ratio_is : (a d : ℕ) → 0 < d → (a + d - 1) / d ≡ ceiling a d
ratio_is a d D = go (eqb (a % d) 0) (eqb→eq (a % d) 0) (some (a % d)) (div-add-mod' a d) (mod-lt a D)
  where
    some : (r : ℕ) → T (not (eqb r 0)) → 0 < r
    some zero h = absurd h
    some (suc r) h = omega arith

    go : (b : Bool) → (T b → a % d ≡ 0) → (T (not b) → 0 < a % d) → a / d * d + a % d ≡ a → a % d < d → (a + d - 1) / d ≡ cond b (a / d) (suc (a / d))
    go true z n e l = let r = z tt in div-eq_of_lt-le d (omega arith) (omega arith)
    go false z n e l = let r = n tt in div-eq_of_lt-le d (omega arith) (omega arith)

ceiling_few : (a d : ℕ) → 0 < d → a ≤ 2 ^ 30 * d → (a + d - 1) / d ≤ 2 ^ 30
ceiling_few a d D h = most_of ((a + d - 1) / d) ((div-lt_iff_lt-mul D).1 (under a d D h))
  where
    under : (a d : ℕ) → 0 < d → a ≤ 2 ^ 30 * d → a + d - 1 < (2 ^ 30 + 1) * d
    under a d D h = omega arith

    most_of : (q : ℕ) → q < 2 ^ 30 + 1 → q ≤ 2 ^ 30
    most_of q h = omega arith

-- the ceiling of x, cast
ceiling_cast : (x : Float) → T (within x) → to_signed 31 (ceil binary64 x) ≡ ceiling_whole x
unfolding within round_with ceiling_whole
ceiling_cast nan w = absurd w
ceiling_cast (inf s) w = absurd w
ceiling_cast (fin false m e) w =
    let h = leb→le (m * up e) (2 ^ 30 * down e) w in
    made false ((m * up e + down e - 1) / down e) (ceiling_few (m * up e) (down e) (down_pos e) h) ∙ ap pos (ratio_is (m * up e) (down e) (down_pos e))
ceiling_cast (fin true m e) w = made true (m * up e / down e) (floor_few (m * up e) (down e) (leb→le (m * up e) (2 ^ 30 * down e) w))

-- ---- what `round_even` and `ceil` answer
answer_same : (b : Bool) (y z : ℤ) → (T b → y ≡ z) → if_within b y ≡ if_within b z
answer_same true y z e = ap Some (e tt)
answer_same false y z e = refl

pub even_is : (x : Float) → if_within (within x) (float_to_signed w32 (round_ties_even binary64 x)) ≡ round_even x
even_is x = answer_same (within x) (to_signed 31 (round_ties_even binary64 x)) (nearest_whole x) (even_cast x)

pub ceiling_is : (x : Float) → if_within (within x) (float_to_signed w32 (ceil binary64 x)) ≡ ceil_of x
ceiling_is x = answer_same (within x) (to_signed 31 (ceil binary64 x)) (ceiling_whole x) (ceiling_cast x)
