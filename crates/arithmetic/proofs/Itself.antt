-- A value that the format holds is rounded to itself. Assumes nothing.
use Rattle.std.proofs.Common.{◌≡◌, ℕ, zero, suc, ◌+◌, ◌-◌, ◌*◌, ◌%◌, ◌^◌, ◌<◌, ◌≤◌, Bool, ◌&&◌, T, eqb, ltb, leb, ℤ, pos, negsuc, sym, ap, ◌∙◌, le_trans, le_of_eq, lt_of_lt_of_le, le_of_suc-le-suc, lt_of_le_of_lt, mul_assoc, mul_comm, mul-lt-mul_of_pos_right, lt_of_not-le, zero-mul, mul-one, not-le_of_lt, arith, ltb→lt, leb→le, pow_pos, pow_mono, pow-add, shl_lt}
use native.Mathlib.Nat.{eq_of_mul-eq-mul_right}
use lib.Pow.{pow-lt}
use lib.Ieee.{Float, nan, inf, fin, Format, prec, emax, low, up, down, round, fits}
use lib.Ieee.Fits.{and_l, and_r, down_pos, round-fits}
use lib.Ieee.Exact.{HasValue, round_exact}
use Rattle.arithmetic.proofs.RoundLaws.{value_unique, room}
use Rattle.arithmetic.proofs.Signed.{Is, Rounds}

-- ---- rounding a value of the format
le_of_pow : (i j : ℕ) → 2 ^ i ≤ 2 ^ j → i ≤ j
le_of_pow i j h = le_of_suc-le-suc (lt_of_not-le (λ (g : suc j ≤ i). not-le_of_lt (pow-lt g) h))

-- what `fits` says of an m above 0
says : (f : Format) (s : Bool) (m : ℕ) (e : ℤ) → T (fits f (fin s (suc m) e)) → (suc m < 2 ^ prec f) × (down e ≤ 2 ^ low f) × (suc m * up e < 2 ^ suc (emax f) * down e)
unfolding fits
says f s m e h =
    let a = eqb (suc m % 2) 1 in
    let b = ltb (suc m) (2 ^ prec f) in
    let c = leb (down e) (2 ^ low f) in
    let d = ltb (suc m * up e) (2 ^ suc (emax f) * down e) in
    (ltb→lt (suc m) (2 ^ prec f) (and_r a b (and_l (a && b) c (and_l (a && b && c) d h))), leb→le (down e) (2 ^ low f) (and_r (a && b) c (and_l (a && b && c) d h)), ltb→lt (suc m * up e) (2 ^ suc (emax f) * down e) (and_r (a && b && c) d h))

pub itself : (f : Format) (x : Float) (s : Bool) (a c : ℕ) → 0 < c → T (fits f x) → HasValue x s a c → HasValue (round f s a c) s a c
itself f nan s a c C h v = absurd v
itself f (inf t) s a c C h v = absurd v
itself f (fin t zero e) s a c C h v =
    let z : a ≡ 0 = eq_of_mul-eq-mul_right (down e) (down_pos e) a 0 (sym v.1 ∙ ap (λ (y : ℕ). y * c) (zero-mul (up e)) ∙ zero-mul c ∙ sym (zero-mul (down e))) in
    round_exact f s a c 0 0 C (pow_pos (prec f)) (pow_pos (low f + suc (emax f))) (ap (λ (y : ℕ). y * 2 ^ low f) z ∙ zero-mul (2 ^ low f) ∙ sym (zero-mul c))
itself f (fin t (suc m) (pos k)) s a c C h v =
    let y = says f t m (pos k) h in
    round_exact f s a c (suc m) (k + low f) C y.0
    (lt_of_le_of_lt (le_of_eq (ap (λ (z : ℕ). suc m * z) (pow-add 2 k (low f)) ∙ sym (mul_assoc (suc m) (2 ^ k) (2 ^ low f))))
    (lt_of_lt_of_le (mul-lt-mul_of_pos_right y.2 (pow_pos (low f))) (le_of_eq (ap (λ (z : ℕ). z * 2 ^ low f) (mul-one (2 ^ suc (emax f))) ∙ mul_comm (2 ^ suc (emax f)) (2 ^ low f) ∙ sym (pow-add 2 (low f) (suc (emax f)))))))
    (go (suc m) (2 ^ k) (2 ^ low f) v.1 ∙ ap (λ (z : ℕ). suc m * z * c) (sym (pow-add 2 k (low f))))
  where
    go : (M P L : ℕ) → M * P * c ≡ a * 1 → a * L ≡ M * (P * L) * c
    go M P L e = omega (arith, ap (λ (z : ℕ). z * L) e)
itself f (fin t (suc m) (negsuc k)) s a c C h v =
    let y = says f t m (negsuc k) h in
    let l : suc k ≤ low f = le_of_pow (suc k) (low f) y.1 in
    let j = low f - suc k in
    let e : 2 ^ low f ≡ 2 ^ j * 2 ^ suc k = ap (λ (z : ℕ). 2 ^ z) (sym (back (suc k) (low f) l)) ∙ pow-add 2 j (suc k) in
    round_exact f s a c (suc m) j C y.0
    (lt_of_lt_of_le (shl_lt (prec f) j y.0) (pow_mono (le_trans (less (prec f) (low f) (suc k)) (under (room f)))))
    (ap (λ (z : ℕ). a * z) e ∙ go (suc m) (2 ^ j) (2 ^ suc k) v.1)
  where
    back : (i j : ℕ) → i ≤ j → j - i + i ≡ j
    back i j h = omega arith

    less : (p l k : ℕ) → p + (l - k) ≤ p + l
    less p l k = omega arith

    under : {x y : ℕ} → x < y → x ≤ y
    under h = omega arith

    go : (M J K : ℕ) → M * 1 * c ≡ a * K → a * (J * K) ≡ M * J * c
    go M J K e = omega (arith, ap (λ (z : ℕ). z * J) e)

pub is_rounds : (f : Format) {x : Float} {c p n : ℕ} → 0 < c → T (fits f x) → Is x c p n → Rounds f x c p n
is_rounds f {x} {c} C h i = record {
  sign = i.sign;
  size = i.size;
  is = value_unique f x (round f i.sign i.size c) i.sign i.size c h (round-fits f i.sign i.size c) C i.has (itself f x i.sign i.size c C h i.has);
  pair = i.pair;
}
