-- f64 values as whole numbers of `unit`ths, `unit` = 2 ^ 1074, and errors counted in `tiny` = 2 ^ 1040: what is at most 2 ^ 52 tiny is rounded with an error of at most one.
-- 2 ^ 34 tiny is a unit. Assumes nothing.
use Rattle.std.proofs.Common.{◌≡◌, ℕ, zero, suc, ◌+◌, ◌-◌, ◌*◌, ◌%◌, ◌^◌, ◌<◌, ◌≤◌, Bool, true, false, ◌&&◌, T, eqb, ltb, leb, ℤ, pos, negsuc, sym, refl, ap, ◌∙◌, subst, le_trans, le_of_suc-le-suc, mul-le-mul_right, zero-lt-suc, mul_assoc, add_comm, lt_of_not-le, zero-mul, mul-one, not-le_of_lt, le_of_mul-le-mul_right, arith, lit<, lit≤, leb→le, pow_pos, pow-add}
use lib.Pow.{pow-lt}
use lib.Ieee.{Float, nan, inf, fin, binary64, prec, emax, low, round, le, fits, of_int}
use lib.Ieee.Fits.{and_l, and_r}
use lib.Ieee.Exact.{HasValue}
use lib.Ieee.Back.{round_whole}
use lib.Ieee.Scale.{grid, overflow, finite}
use Rattle.arithmetic.proofs.Signed.{plus, minus, Is, Rounds}
use Rattle.arithmetic.proofs.Error.{Near, near_grid, round_has}

unfoldable pub unit : ℕ
unit = 2 ^ low binary64

unfoldable pub tiny : ℕ
tiny = 2 ^ 1040

pub unit_is : unit ≡ 17179869184 * tiny
unfolding unit tiny
unit_is = refl

pub tiny_large : 1180591620717411303424 ≤ tiny
unfolding tiny
tiny_large = lit≤ tt

pub unit_pos : 0 < unit
unfolding unit
unit_pos = pow_pos (low binary64)

-- a / k in units, rounded
unfoldable pub rounded : ℕ → ℕ → ℕ
rounded a k = grid binary64 a (2 ^ low binary64 * k)

pub near64 : (a k : ℕ) → 0 < k → Near 4503599627370496 a k (rounded a k)
unfolding rounded
near64 a k K = near_grid binary64 a k K

room : 4 * (1180591620717411303424 * tiny) ≤ overflow binary64
unfolding tiny
room = lit≤ tt

-- at most three halves of what was rounded, and a half
pub thrice : (B a k G : ℕ) → 0 < B → G * k * 2 * B ≤ a * 2 * B + (a + k * B) → G * k * 2 ≤ a * 3 + k
thrice B a k G P h = le_of_mul-le-mul_right (wide h (mul-le-mul_right a P)) P
  where
    wide : G * k * 2 * B ≤ a * 2 * B + (a + k * B) → 1 * a ≤ B * a → G * k * 2 * B ≤ (a * 3 + k) * B
    wide h l = omega arith

pub has64 : (s : Bool) (a k : ℕ) → 0 < k → a ≤ 1180591620717411303424 * tiny * k → HasValue (round binary64 s a (unit * k)) s (rounded a k) unit
unfolding rounded unit
has64 s a k K h =
    round_has binary64 s a k (fine (rounded a k) (1180591620717411303424 * tiny) (overflow binary64) (thrice 4503599627370496 a k (rounded a k) (lit< tt) (near64 a k K).over) h (le_trans (lit≤ tt) (le_trans tiny_large (many tiny))) room)
  where
    many : (t : ℕ) → t ≤ 1180591620717411303424 * t
    many t = omega arith

    fine : (G c O : ℕ) → G * k * 2 ≤ a * 3 + k → a ≤ c * k → 1 ≤ c → 4 * c ≤ O → G < O
    fine G c O h g l r = le_trans (le_of_mul-le-mul_right (few (mul-le-mul_right k l)) K) r
      where
        few : 1 * k ≤ c * k → suc G * k ≤ 4 * c * k
        few l = omega (arith, h, g)

-- ---- a whole number of units that is at most 2 ^ 52 tiny is rounded with an error of at most one tiny
pub one_over : (a : ℕ) → a ≤ 4503599627370496 * tiny → rounded a 1 ≤ a + tiny
one_over a h = go (rounded a 1) tiny (near64 a 1 (zero-lt-suc 0)).over h tiny_large
  where
    go : (G t : ℕ) → G * 1 * 2 * 4503599627370496 ≤ a * 2 * 4503599627370496 + (a + 1 * 4503599627370496) → a ≤ 4503599627370496 * t → 1180591620717411303424 ≤ t → G ≤ a + t
    go G t h g l = omega arith

pub one_under : (a : ℕ) → a ≤ 4503599627370496 * tiny → a ≤ rounded a 1 + tiny
one_under a h = go (rounded a 1) tiny (near64 a 1 (zero-lt-suc 0)).under h tiny_large
  where
    go : (G t : ℕ) → a * 2 * 4503599627370496 ≤ G * 1 * 2 * 4503599627370496 + (a + 1 * 4503599627370496) → a ≤ 4503599627370496 * t → 1180591620717411303424 ≤ t → a ≤ G + t
    go G t h g l = omega arith

pub one_has : (s : Bool) (a : ℕ) → a ≤ 4503599627370496 * tiny → HasValue (round binary64 s a unit) s (rounded a 1) unit
one_has s a h =
    subst (λ (c : ℕ). HasValue (round binary64 s a c) s (rounded a 1) unit) (mul-one unit) (has64 s a 1 (zero-lt-suc 0) (more tiny h))
  where
    more : (t : ℕ) → a ≤ 4503599627370496 * t → a ≤ 1180591620717411303424 * t * 1
    more t h = omega arith

pub record Approx (z : Float) (p n : ℕ) : Type 0 where
  pub q : ℕ
  pub m : ℕ
  pub at : Is z unit q m
  pub over : q + n ≤ m + p + tiny
  pub under : m + p ≤ q + n + tiny

pub approx : {z : Float} {p n : ℕ} → Rounds binary64 z unit p n → p ≤ n + 4503599627370496 * tiny → n ≤ p + 4503599627370496 * tiny → Approx z p n
approx {z} {p} {n} r h k =
    let s = r.sign in
    let a = r.size in
    let b : a ≤ 4503599627370496 * tiny = most s a (4503599627370496 * tiny) r.pair h k in
    let G = rounded a 1 in
    record {
      q = plus s G;
      m = minus s G;
      at = record { sign = s; size = G; has = subst (λ (y : Float). HasValue y s G unit) (sym r.is) (one_has s a b); pair = add_comm (plus s G) (minus s G) };
      over = near_over s a G tiny r.pair (one_over a b) (one_under a b);
      under = near_under s a G tiny r.pair (one_over a b) (one_under a b);
    }
  where
    most : (s : Bool) (a M : ℕ) → p + minus s a ≡ n + plus s a → p ≤ n + M → n ≤ p + M → a ≤ M
    most false a M e h k = omega arith
    most true a M e h k = omega arith

    near_over : (s : Bool) (a G t : ℕ) → p + minus s a ≡ n + plus s a → G ≤ a + t → a ≤ G + t → plus s G + n ≤ minus s G + p + t
    near_over false a G t e h k = omega arith
    near_over true a G t e h k = omega arith

    near_under : (s : Bool) (a G t : ℕ) → p + minus s a ≡ n + plus s a → G ≤ a + t → a ≤ G + t → minus s G + p ≤ plus s G + n + t
    near_under false a G t e h k = omega arith
    near_under true a G t e h k = omega arith

-- ---- an f64 is a whole number of units
le_of_pow : (i j : ℕ) → 2 ^ i ≤ 2 ^ j → i ≤ j
le_of_pow i j h = le_of_suc-le-suc (lt_of_not-le (λ (g : suc j ≤ i). not-le_of_lt (pow-lt g) h))

pub on_grid : (x : Float) → T (finite x) → T (fits binary64 x) → (s : Bool) × (a : ℕ) × HasValue x s a unit
unfolding fits unit
on_grid nan t h = absurd t
on_grid (inf s) t h = absurd t
on_grid (fin s m (pos k)) t h = (s, m * 2 ^ k * 2 ^ low binary64, (refl, sym (mul-one (m * 2 ^ k * 2 ^ low binary64))))
on_grid (fin s zero (negsuc k)) t h = (s, 0, (refl, zero-mul (2 ^ low binary64) ∙ sym (zero-mul (2 ^ suc k))))
on_grid (fin s (suc m) (negsuc k)) t h =
    let l : suc k ≤ low binary64 =
    le_of_pow (suc k) (low binary64) (leb→le (2 ^ suc k) (2 ^ low binary64) (and_r (eqb (suc m % 2) 1 && ltb (suc m) (2 ^ prec binary64)) (leb (2 ^ suc k) (2 ^ low binary64))
    (and_l (eqb (suc m % 2) 1 && ltb (suc m) (2 ^ prec binary64) && leb (2 ^ suc k) (2 ^ low binary64)) (ltb (suc m * 1) (2 ^ suc (emax binary64) * 2 ^ suc k)) h))) in (
      s,
      suc m * 1 * 2 ^ (low binary64 - suc k),
      (
        refl,
        ap (λ (z : ℕ). suc m * 1 * 2 ^ z) (sym (back (suc k) (low binary64) l)) ∙ ap (λ (z : ℕ). suc m * 1 * z) (pow-add 2 (low binary64 - suc k) (suc k)) ∙ sym (mul_assoc (suc m * 1) (2 ^ (low binary64 - suc k)) (2 ^ suc k)),
      ),
    )
  where
    back : (i j : ℕ) → i ≤ j → j - i + i ≡ j
    back i j h = omega arith

pub between_finite : (x : Float) (s : Bool) (m : ℕ) (e : ℤ) (t : Bool) (n : ℕ) (d : ℤ) → T (le (fin s m e) x) → T (le x (fin t n d)) → T (finite x)
unfolding le
between_finite nan s m e t n d h k = absurd h
between_finite (inf true) s m e t n d h k = absurd h
between_finite (inf false) s m e t n d h k = absurd k
between_finite (fin u i j) s m e t n d h k = tt

-- a whole number as a float
pub whole_has : (n : ℕ) → n ≤ 9007199254740992 → HasValue (of_int binary64 (pos n)) false n 1
unfolding of_int
whole_has n h = round_whole binary64 false n h

pub minus_has : (k : ℕ) → suc k ≤ 9007199254740992 → HasValue (of_int binary64 (negsuc k)) true (suc k) 1
unfolding of_int
minus_has k h = round_whole binary64 true (suc k) h
