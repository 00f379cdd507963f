-- Evenly spaced limits never fall: start + step * i grows with i, and the last one computed stays below the end, since three roundings move it by less than a 2 ^ 50th and
-- it is one step short. Assumes nothing.
use Rattle.std.proofs.Common.{◌≡◌, ℕ, suc, ◌+◌, ◌*◌, ◌<◌, ◌≤◌, Bool, true, false, not, T, leb, pos, sym, ap, ◌∙◌, subst, le_trans, le_of_eq, le_of_suc-le-suc, mul-le-mul_right, zero-lt-suc, lt_of_mul-lt-mul_right, mul-le-mul_left, mul-pos, mul-one, le_of_mul-le-mul_right, arith, lit<, lit≤, leb→le}
use lib.Dec.{nleb→lt}
use lib.Ieee.{Float, binary64, round, sub, mul, le, fits, of_int}
use lib.Ieee.Exact.{HasValue}
use Rattle.arithmetic.specs.Intervals.{step_of, limit_at}
use Rattle.arithmetic.proofs.Signed.{plus, minus, Is, Rounds, rounds_le, add_rounds, sub_rounds, mul_values, div_values, round_le, values_le}
use Rattle.arithmetic.proofs.Units.{unit, tiny, unit_pos, tiny_large, rounded, near64, has64, thrice, one_has, one_over, one_under, whole_has}
use Rattle.arithmetic.proofs.Itself.{is_rounds}
use Rattle.arithmetic.specs.Rounding.{real}

-- ---- the numbers
-- three roundings of at most one part in B, and one step less of M = suc k
chain : (B δ D S P k : ℕ) → 0 < B → 7 * k ≤ B → D * B ≤ δ * B + δ → S * suc k * B ≤ D * B + D → P * B ≤ S * k * B + S * k → P ≤ δ
chain B δ D S P k B+ h d s p =
    le_of_mul-le-mul_right (le_trans (le_trans one (le_trans two three)) four) (mul-pos (zero-lt-suc k) (mul-pos B+ (mul-pos B+ B+)))
  where
    one : P * (suc k * (B * (B * B))) ≤ S * suc k * B * (k * (B * B + B))
    one = omega (arith, mul-le-mul_right (suc k * (B * B)) p)

    two : S * suc k * B * (k * (B * B + B)) ≤ D * B * (k * (B * B + B + B + 1))
    two = omega (arith, mul-le-mul_right (k * (B * B + B)) s)

    three : D * B * (k * (B * B + B + B + 1)) ≤ δ * (k * ((B + 1) * (B * B + B + B + 1)))
    three = omega (arith, mul-le-mul_right (k * (B * B + B + B + 1)) d)

    small : k * ((B + 1) * (B * B + B + B + 1)) ≤ suc k * (B * (B * B))
    small = omega (arith, mul-le-mul_right (B * B) h, mul-le-mul_right (k * B) B+, mul-le-mul_right k B+)

    four : δ * (k * ((B + 1) * (B * B + B + B + 1))) ≤ δ * (suc k * (B * (B * B)))
    four = mul-le-mul_left δ small

-- with an error of half of a / B + k, and k B below a: one part in B
rel : (B a k G : ℕ) → k * B ≤ a → G * k * 2 * B ≤ a * 2 * B + (a + k * B) → G * k * B ≤ a * B + a
rel B a k G h n = omega arith

-- in whole units it is so for every a
rel_one : (B a G : ℕ) → 0 < B → G * 1 * 2 * B ≤ a * 2 * B + (a + 1 * B) → G * B ≤ a * B + a
rel_one B a G P n = go (leb B a) (leb→le B a) (nleb→lt B a)
  where
    large : B ≤ a → G * B ≤ a * B + a
    large h = omega arith

    exact : a < B → G * B < suc a * B
    exact h = omega arith

    go : (t : Bool) → (T t → B ≤ a) → (T (not t) → a < B) → G * B ≤ a * B + a
    go true h k = large (h tt)
    go false h k = let g : G < suc a = lt_of_mul-lt-mul_right B (exact (k tt)) in le_trans (mul-le-mul_right B (le_of_suc-le-suc g)) (more (a * B))
      where
        more : (x : ℕ) → x ≤ x + a
        more x = omega arith

few_tiny : (x δ t : ℕ) → x ≤ δ + t → δ ≤ 4503599627370496 * t → x ≤ 1180591620717411303424 * t
few_tiny x δ t h l = le_trans (go h l) (mul-le-mul_right t (lit≤ tt))
  where
    go : x ≤ δ + t → δ ≤ 4503599627370496 * t → x ≤ 4503599627370497 * t
    go h l = omega arith

some_tiny : (x d δ k t : ℕ) → x * 2 ≤ d * 3 + suc k → d ≤ δ + t → δ ≤ 4503599627370496 * t → k ≤ 1000000 → 1180591620717411303424 ≤ t → x ≤ 13510798882111493 * t
some_tiny x d δ k t a b c e l = go x d δ k t a b c (small k t e l)
  where
    small : (k t : ℕ) → k ≤ 1000000 → 1180591620717411303424 ≤ t → suc k ≤ t
    small k t e l = omega arith

    go : (x d δ k t : ℕ) → x * 2 ≤ d * 3 + suc k → d ≤ δ + t → δ ≤ 4503599627370496 * t → suc k ≤ t → x ≤ 13510798882111493 * t
    go x d δ k t a b c f = omega arith

many_tiny : (x d δ k t : ℕ) → x * 2 ≤ d * 3 + suc k → d ≤ δ + t → δ ≤ 4503599627370496 * t → k ≤ 1000000 → 1180591620717411303424 ≤ t → x ≤ 1180591620717411303424 * t
many_tiny x d δ k t a b c e l = le_trans (some_tiny x d δ k t a b c e l) (mul-le-mul_right t (lit≤ tt))

-- ---- from start to end, δ units in suc k steps
module _ (st en : Float) (q m q' m' δ k : ℕ) (is : Is st unit q m) (ie : Is en unit q' m') (fe : T (fits binary64 en)) (gap : q' + m ≡ m' + q + δ) (lo : 300000 * tiny ≤ δ) (hi : δ ≤ 4503599627370496 * tiny) (few : k ≤ 9998) where
  abbrev D : ℕ
  D = rounded δ 1

  abbrev S : ℕ
  S = rounded D (suc k)

  D_over : D ≤ δ + tiny
  D_over = one_over δ hi

  D_under : δ ≤ D + tiny
  D_under = one_under δ hi

  diff_has : HasValue (sub binary64 en st) false D unit
  diff_has = let r = sub_rounds binary64 unit_pos ie is in go (sub binary64 en st) r.sign r.size r.is r.pair
    where
      size_is : (x y a : ℕ) → x ≡ y + δ → x + 0 ≡ y + a → a ≡ δ
      size_is x y a e p = omega arith

      none : (x y a t : ℕ) → x ≡ y + δ → x + a ≡ y + 0 → 300000 * t ≤ δ → 1180591620717411303424 ≤ t → ⊥
      none x y a t e p l b = omega arith

      go : (z : Float) (s : Bool) (a : ℕ) → z ≡ round binary64 s a unit → q' + m + minus s a ≡ m' + q + plus s a → HasValue z false D unit
      go z true a e p = absurd (none (q' + m) (m' + q) a tiny gap p lo tiny_large)
      go z false a e p =
          let w : a ≡ δ = size_is (q' + m) (m' + q) a gap p in
          subst (λ (y : Float). HasValue y false D unit) (sym (e ∙ ap (λ (b : ℕ). round binary64 false b unit) w)) (one_has false δ hi)

  large : suc k * 4503599627370496 ≤ D
  large = go (D) tiny D_under lo tiny_large
    where
      go : (x t : ℕ) → δ ≤ x + t → 300000 * t ≤ δ → 1180591620717411303424 ≤ t → suc k * 4503599627370496 ≤ x
      go x t h l b = omega (arith, few)

  abbrev step : Float
  step = step_of st en (suc k)

  step_has : HasValue step false S unit
  unfolding step_of real
  step_has =
      subst (λ (y : Float). HasValue y false S unit)
      (sym (div_values binary64 (sub binary64 en st) (of_int binary64 (pos (suc k))) false D unit (suc k) 1 unit_pos (zero-lt-suc 0) (zero-lt-suc k) diff_has (whole_has (suc k) (le_trans (next few) (lit≤ tt)))
      ∙ ap (λ (a : ℕ). round binary64 false a (unit * suc k)) (mul-one D)))
      (has64 false D (suc k) (zero-lt-suc k) (fine D tiny D_over hi))
    where
      next : {x : ℕ} → x ≤ 9998 → suc x ≤ 9999
      next h = omega arith

      one : (k : ℕ) → 1 ≤ suc k
      one k = omega arith

      fine : (x t : ℕ) → x ≤ δ + t → δ ≤ 4503599627370496 * t → x ≤ 1180591620717411303424 * t * suc k
      fine x t h l = le_trans (few_tiny x δ t h l) (le_trans (le_of_eq (sym (mul-one (1180591620717411303424 * t)))) (mul-le-mul_left (1180591620717411303424 * t) (one k)))

  total : S * suc k * 2 ≤ D * 3 + suc k
  total = thrice 4503599627370496 D (suc k) S (lit< tt) (near64 D (suc k) (zero-lt-suc k)).over

  part : (i : ℕ) → i ≤ suc k → S * i ≤ 1180591620717411303424 * tiny * 1
  part i h = le_trans (mul-le-mul_left S h) (le_trans (many_tiny (S * suc k) D δ k tiny total D_over hi (le_trans few (lit≤ tt)) tiny_large) (le_of_eq (sym (mul-one (1180591620717411303424 * tiny)))))

  abbrev P : ℕ → ℕ
  P i = rounded (S * i) 1

  prod_has : (i : ℕ) → i ≤ suc k → HasValue (mul binary64 step (real (pos i))) false (P i) unit
  unfolding real
  prod_has i h =
      subst (λ (y : Float). HasValue y false (P i) unit) (sym (mul_values binary64 step (of_int binary64 (pos i)) false S unit i 1 unit_pos (zero-lt-suc 0) step_has (whole_has i (le_trans h (le_trans (next few) (lit≤ tt))))))
      (has64 false (S * i) 1 (zero-lt-suc 0) (part i h))
    where
      next : {x : ℕ} → x ≤ 9998 → suc x ≤ 9999
      next h = omega arith

  limit_rounds : (i : ℕ) → i ≤ suc k → Rounds binary64 (limit_at st step i) unit (q + P i) (m + 0)
  unfolding limit_at
  limit_rounds i h = add_rounds binary64 unit_pos is (record { sign = false; size = P i; has = prod_has i h; pair = flat (P i) })
    where
      flat : (z : ℕ) → z + 0 ≡ 0 + z
      flat z = omega arith

  grows : (i : ℕ) → suc i ≤ suc k → P i ≤ P (suc i)
  grows i h =
      let a = has64 false (S * i) 1 (zero-lt-suc 0) (part i (le_trans (less i) h)) in
      let b = has64 false (S * suc i) 1 (zero-lt-suc 0) (part (suc i) h) in
      let c = unit * 1 in
      let C : 0 < c = mul-pos unit_pos (zero-lt-suc 0) in
      flat (P i) (P (suc i)) (values_le (round binary64 false (S * i) c) (round binary64 false (S * suc i) c) false false (P i) (P (suc i)) unit unit_pos a b
      (round_le binary64 false false (S * i) (S * suc i) c C (more (S * i) (S * suc i) (mul-le-mul_left S (less i)))))
    where
      less : (i : ℕ) → i ≤ suc i
      less i = omega arith

      more : (x y : ℕ) → x ≤ y → x + 0 ≤ y + 0
      more x y h = omega arith

      flat : (x y : ℕ) → x + 0 ≤ y + 0 → x ≤ y
      flat x y h = omega arith

  pub rise : (i : ℕ) → suc i ≤ k → T (le (limit_at st step i) (limit_at st step (suc i)))
  rise i h =
      rounds_le unit_pos (limit_rounds i (le_trans (less i k h) (le_trans h (up k)))) (limit_rounds (suc i) (le_trans h (up k)))
      (over (P i) (P (suc i)) (grows i (le_trans h (up k))))
    where
      less : (i k : ℕ) → suc i ≤ k → i ≤ suc i
      less i k h = omega arith

      up : (k : ℕ) → k ≤ suc k
      up k = omega arith

      over : (x y : ℕ) → x ≤ y → q + x + (m + 0) ≤ q + y + (m + 0)
      over x y h = omega arith

  below_end : P k ≤ δ
  below_end =
      chain 4503599627370496 δ D S (P k) k (lit< tt) (le_trans (mul-le-mul_left 7 few) (lit≤ tt))
      (rel_one 4503599627370496 δ D (lit< tt) (near64 δ 1 (zero-lt-suc 0)).over)
      (rel 4503599627370496 D (suc k) S large (near64 D (suc k) (zero-lt-suc k)).over)
      (rel_one 4503599627370496 (S * k) (P k) (lit< tt) (near64 (S * k) 1 (zero-lt-suc 0)).over)

  pub last : T (le (limit_at st step k) en)
  last = rounds_le unit_pos (limit_rounds k (up k)) (is_rounds binary64 unit_pos fe ie) (over (P k) below_end)
    where
      up : (k : ℕ) → k ≤ suc k
      up k = omega arith

      over : (x : ℕ) → x ≤ δ → q + x + m' ≤ q' + (m + 0)
      over x h = omega (arith, gap)
