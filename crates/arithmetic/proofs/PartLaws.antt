-- What the size of q has above its whole number is exact in f64, and the tests of `is_doubtful` on it. Assumes nothing.
use Rattle.std.proofs.Common.{◌≡◌, ℕ, zero, suc, ◌+◌, ◌-◌, ◌*◌, ◌/◌, ◌%◌, ◌^◌, ◌<◌, ◌≤◌, Bool, true, false, ◌&&◌, T, eqb, ltb, leb, ℤ, pos, negsuc, sym, refl, ap, ◌∙◌, subst, le_of_eq, lt_of_lt_of_le, le_of_suc-le-suc, lt_of_le_of_lt, le_of_lt, lt_irrefl, mul_assoc, div-lt_iff_lt-mul, lt_of_not-le, div-add-mod', zero-mul, mul-one, not-le_of_lt, arith, lit<, zero-lt-suc, le_refl, eqb→eq}
use Rattle.std.proofs.Common.{lit≤, le→leb, ltb→lt, lt→ltb, leb→le, pow_pos, pow_mono, pow-add, shl_lt}
use native.Mathlib.Nat.{mod-le, mod-one, two-pow-succ}
use Rattle.std.proofs.Math.Nat.{div-one}
use Rattle.std.specs.Float.{float_with_sign, round_with, fract}
use lib.Pow.{pow-lt}
use lib.Ieee.{Float, nan, inf, fin, binary64, prec, emax, low, up, down, round, of_int, add, sub, neg, lt, le, eq, fits}
use lib.Ieee.Exact.{HasValue, round_exact}
use lib.Ieee.Fits.{down_pos, and_l, and_r}
use lib.Ieee.Positive.{num, den, positive, own_value}
use Rattle.arithmetic.proofs.RoundLaws.{sub_values, rescale}
use Rattle.arithmetic.proofs.RangeLaws.{iff}
use Rattle.arithmetic.proofs.Itself.{itself}
use Rattle.arithmetic.proofs.Signed.{le_values, values_le}
use Rattle.arithmetic.proofs.Units.{whole_has}
use Rattle.arithmetic.specs.Doubtful.{midway, doubtful}

-- ---- the parts of `fits`
le_of_pow : (i j : ℕ) → 2 ^ i ≤ 2 ^ j → i ≤ j
le_of_pow i j h = le_of_suc-le-suc (lt_of_not-le (λ (g : suc j ≤ i). not-le_of_lt (pow-lt g) h))

digits : (s : Bool) (m k : ℕ) → 0 < m → T (fits binary64 (fin s m (negsuc k))) → (m < 2 ^ prec binary64) × (suc k ≤ low binary64)
unfolding fits
digits s zero k P h = absurd (lt_irrefl 0 P)
digits s (suc m) k P h =
    let a = eqb (suc m % 2) 1 in
    let b = ltb (suc m) (2 ^ prec binary64) in
    let c = leb (2 ^ suc k) (2 ^ low binary64) in
    let d = ltb (suc m * 1) (2 ^ suc (emax binary64) * 2 ^ suc k) in (
      ltb→lt (suc m) (2 ^ prec binary64) (and_r a b (and_l (a && b) c (and_l (a && b && c) d h))),
      le_of_pow (suc k) (low binary64) (leb→le (2 ^ suc k) (2 ^ low binary64) (and_r (a && b) c (and_l (a && b && c) d h))),
    )

-- ---- what is left of a by d, over d, is an f64
whole_rest : (a : ℕ) → HasValue (round binary64 false (a % 1) 1) false (a % 1) 1
whole_rest a = round_exact binary64 false (a % 1) 1 0 0 (lit< tt) (lit< tt) (lit< tt) (ap (λ (z : ℕ). z * 2 ^ low binary64) (mod-one a) ∙ zero-mul (2 ^ low binary64))

part_rest : (m k : ℕ) → m < 2 ^ prec binary64 → suc k ≤ low binary64 → HasValue (round binary64 false (m * 1 % 2 ^ suc k) (2 ^ suc k)) false (m * 1 % 2 ^ suc k) (2 ^ suc k)
part_rest m k small h =
    let d = 2 ^ suc k in
    let r = m * 1 % d in
    let j = low binary64 - suc k in
    let few : r < 2 ^ prec binary64 = lt_of_le_of_lt (mod-le (m * 1) d) (lt_of_le_of_lt (le_of_eq (mul-one m)) small) in
    let fine : r * 2 ^ j < 2 ^ (low binary64 + suc (emax binary64)) = lt_of_lt_of_le (shl_lt (prec binary64) j few) (pow_mono (room (suc k))) in
    round_exact binary64 false r d r j (pow_pos (suc k)) few fine (ap (λ (z : ℕ). r * 2 ^ z) (sym (back (suc k) (low binary64) h)) ∙ ap (λ (z : ℕ). r * z) (pow-add 2 j (suc k)) ∙ sym (mul_assoc r (2 ^ j) d))
  where
    back : (i j : ℕ) → i ≤ j → j - i + i ≡ j
    back i j h = omega arith

    room : (i : ℕ) → prec binary64 + (low binary64 - i) ≤ low binary64 + suc (emax binary64)
    room i = omega arith

rest_exact : (m : ℕ) (e : ℤ) → 0 < m → T (fits binary64 (fin false m e)) → HasValue (round binary64 false (m * up e % down e) (down e)) false (m * up e % down e) (down e)
rest_exact m (pos k) P h = whole_rest (m * 2 ^ k)
rest_exact m (negsuc k) P h = let w = digits false m k P h in part_rest m k w.0 w.1

-- x less its whole number
pub part_has : (x : Float) → T (fits binary64 x) → T (positive x) → num x < 2 ^ 52 * den x → HasValue (sub binary64 x (of_int binary64 (pos (num x / den x)))) false (num x % den x) (den x)
part_has nan h p l = absurd p
part_has (inf s) h p l = absurd p
part_has (fin true m e) h p l = absurd p
part_has (fin false m e) h p l =
    let x = fin false m e in
    let a = m * up e in
    let d = down e in
    let t = a / d in
    let y = of_int binary64 (pos t) in
    let most : t < 2 ^ 52 = (div-lt_iff_lt-mul (down_pos e)).1 l in
    let v : HasValue y false (t * d) d = rescale y false t 1 (t * d) d (lit< tt) (mul-one (t * d)) (whole_has t (le_of_lt (lt_of_lt_of_le most (lit≤ tt)))) in
    let is : sub binary64 x y ≡ round binary64 false (a % d) d = sub_values binary64 x y a (t * d) d (down_pos e) (under (t * d) (a % d) a (div-add-mod' a d)) (own_value x p) v ∙ ap (λ (z : ℕ). round binary64 false z d) (rest (t * d) (a % d) a (div-add-mod' a d)) in
    subst (λ (z : Float). HasValue z false (a % d) d) (sym is) (rest_exact m e (ltb→lt 0 m p) h)
  where
    under : (b r a : ℕ) → b + r ≡ a → b ≤ a
    under b r a e = omega arith

    rest : (b r a : ℕ) → b + r ≡ a → a - b ≡ r
    rest b r a e = omega arith

-- ---- the two tests on it
le_has : (x y : Float) (a b c : ℕ) → 0 < c → HasValue x false a c → HasValue y false b c → le x y ≡ leb a b
le_has x y a b c C v w =
    iff (le x y) (leb a b) (λ (t : T (le x y)). le→leb a b (off (values_le x y false false a b c C v w t))) (λ (t : T (leb a b)). le_values x y false false a b c C v w (on (leb→le a b t)))
  where
    off : a + 0 ≤ b + 0 → a ≤ b
    off h = omega arith

    on : a ≤ b → a + 0 ≤ b + 0
    on h = omega arith

-- 7/16 and 9/16
abbrev pub seven_f : Float
seven_f = fin false 7 (negsuc 3)

abbrev pub nine_f : Float
nine_f = fin false 9 (negsuc 3)

sixteenths : (x : Float) (r d : ℕ) → 0 < d → HasValue x false r d → HasValue x false (16 * r) (16 * d)
sixteenths x r d D v = rescale x false r d (16 * r) (16 * d) D (swap r d) v
  where
    swap : (r d : ℕ) → 16 * r * d ≡ r * (16 * d)
    swap r d = omega arith

constant : (n d : ℕ) → n * 1 * (16 * d) ≡ n * d * 16
constant n d = omega arith

many : (d : ℕ) → 0 < d → 0 < 16 * d
many d D = omega arith

module _ (x : Float) (r d : ℕ) (D : 0 < d) (v : HasValue x false r d) where
  pub seven_test : le seven_f x ≡ leb (7 * d) (16 * r)
  seven_test = le_has seven_f x (7 * d) (16 * r) (16 * d) (many d D) (refl, constant 7 d) (sixteenths x r d D v)

  pub nine_test : le x nine_f ≡ leb (16 * r) (9 * d)
  nine_test = le_has x nine_f (16 * r) (9 * d) (16 * d) (many d D) (sixteenths x r d D v) (refl, constant 9 d)

-- ---- what std's `abs` and `fract` give
fits_size : (s : Bool) (m : ℕ) (e : ℤ) → T (fits binary64 (fin s m e)) → T (fits binary64 (fin false m e))
unfolding fits
fits_size s zero e h = h
fits_size s (suc m) e h = h

-- a zero that fits has the exponent 0
zero_says : (e : ℤ) → T (fits binary64 (fin false zero e)) → up e * down e ≡ 1
unfolding fits
zero_says e h = eqb→eq (up e * down e) 1 h

-- the size of ± m × 2 ^ e less its whole number
fract_has : (m : ℕ) (e : ℤ) → T (fits binary64 (fin false m e)) → HasValue (fract binary64 (fin false m e)) false (m * up e % down e) (down e)
unfolding round_with of_int
fract_has m (pos k) h =
    let x = fin false m (pos k) in
    let a = m * 2 ^ k in
    let y = round binary64 false (a / 1) 1 in
    let own : HasValue x false a 1 = (refl, refl) in
    let v : HasValue y false a 1 = subst (λ (z : ℕ). HasValue (round binary64 false z 1) false a 1) (sym (div-one a)) (itself binary64 x false a 1 (lit< tt) h own) in
    let is : sub binary64 x y ≡ round binary64 false (a % 1) 1 = sub_values binary64 x y a a 1 (lit< tt) (le_refl a) own v ∙ ap (λ (z : ℕ). round binary64 false z 1) (none a ∙ sym (mod-one a)) in
    subst (λ (z : Float). HasValue z false (a % 1) 1) (sym is) (whole_rest a)
  where
    none : (a : ℕ) → a - a ≡ 0
    none a = omega arith
fract_has zero (negsuc k) h = absurd (no (2 ^ suc k) (2 ^ k) (two-pow-succ k) (zero_says (negsuc k) h))
  where
    no : (d u : ℕ) → d ≡ u + u → 1 * d ≡ 1 → ⊥
    no d u e f = omega arith
fract_has (suc m) (negsuc k) h =
    part_has (fin false (suc m) (negsuc k)) h (lt→ltb 0 (suc m) (zero-lt-suc m)) (few (suc m) (2 ^ suc k) (2 ^ k) (two-pow-succ k) (pow_pos k) (digits false (suc m) k (zero-lt-suc m) h).0)
  where
    few : (m d u : ℕ) → d ≡ u + u → 0 < u → m < 2 ^ prec binary64 → m * 1 < 2 ^ 52 * d
    few m d u e U h = omega arith

of_size : (q : Float) → T (fits binary64 q) → doubtful q ≡ (le seven_f (fract binary64 (float_with_sign false q)) && le (fract binary64 (float_with_sign false q)) nine_f)
unfolding doubtful float_with_sign round_with sub add neg le lt eq midway
of_size nan f = refl
of_size (inf s) f = refl
of_size (fin s m e) f =
    let v = fract_has m e (fits_size s m e f) in
    let x = fract binary64 (fin false m e) in
    let d = down e in
    let r = m * up e % d in
    sym (λ i. seven_test x r d (down_pos e) v i && nine_test x r d (down_pos e) v i)

-- the test on q, by the tests on that part
pub doubtful_is : (q a p : Float) → T (fits binary64 q) → a ≡ float_with_sign false q → p ≡ fract binary64 a → doubtful q ≡ (le seven_f p && le p nine_f)
doubtful_is q a p f g e = of_size q f ∙ ap (λ (x : Float). le seven_f x && le x nine_f) (sym (e ∙ ap (fract binary64) g))
