-- The start and the end of the limits in units, each up to three tiny, and that the end is at least 300,000 tiny above the start where there are two limits or more.
-- Assumes nothing.
use Rattle.std.proofs.Common.{◌≡◌, ℕ, suc, ◌+◌, ◌-◌, ◌*◌, ◌<◌, ◌≤◌, Bool, true, false, cond, not, T, ltb, ℤ, pos, negsuc, ◌+ℤ◌, nat_abs, sym, refl, ap, ◌∙◌, subst, le_trans, mul-le-mul_right, add_comm, one-mul, arith, lit≤, ltb→lt, nltb→le}
use lib.Ieee.{Float, binary64, round, mul}
use lib.Ieee.Exact.{HasValue}
use Rattle.arithmetic.specs.Intervals.{width, start_of, end_of, at_least0}
use Rattle.arithmetic.proofs.Signed.{plus, minus, Is, add_rounds, sub_rounds, neg_is, mul_values}
use Rattle.arithmetic.proofs.Units.{unit, tiny, unit_pos, rounded, one_over, one_under, one_has, approx, whole_has, minus_has}
use Rattle.arithmetic.proofs.Quotient.{Nyquist, nyq_is, Wide, Add, width_least}
use Rattle.arithmetic.specs.Rounding.{real}

-- ---- a whole number as a difference
abbrev pub zp : ℤ → ℕ
zp (pos n) = n
zp (negsuc n) = 0

abbrev pub zn : ℤ → ℕ
zn (pos n) = 0
zn (negsuc n) = suc n

abbrev sgn : ℤ → Bool
sgn (pos n) = false
sgn (negsuc n) = true

sum_parts : (x y : ℤ) → zp (x +ℤ y) + (zn x + zn y) ≡ zn (x +ℤ y) + (zp x + zp y)
sum_parts (pos a) (pos b) = omega arith
sum_parts (pos a) (negsuc b) = go (ltb a (suc b)) (ltb→lt a (suc b)) (nltb→le a (suc b))
  where
    go : (t : Bool) → (T t → a < suc b) → (T (not t) → suc b ≤ a) → zp (cond t (negsuc (suc b - suc a)) (pos (a - suc b))) + (0 + suc b) ≡ zn (cond t (negsuc (suc b - suc a)) (pos (a - suc b))) + (a + 0)
    go true h k = let l : a < suc b = h tt in omega arith
    go false h k = let l : suc b ≤ a = k tt in omega arith
sum_parts (negsuc a) (pos b) = go (ltb b (suc a)) (ltb→lt b (suc a)) (nltb→le b (suc a))
  where
    go : (t : Bool) → (T t → b < suc a) → (T (not t) → suc a ≤ b) → zp (cond t (negsuc (suc a - suc b)) (pos (b - suc a))) + (suc a + 0) ≡ zn (cond t (negsuc (suc a - suc b)) (pos (b - suc a))) + (0 + b)
    go true h k = let l : b < suc a = h tt in omega arith
    go false h k = let l : suc a ≤ b = k tt in omega arith
sum_parts (negsuc a) (negsuc b) = omega arith

-- with suc (suc k) limits the adds are at least 1 - S in sum
number_parts : (S k : ℕ) (a b : ℤ) → at_least0 (pos (S + 1) +ℤ a +ℤ b) ≡ suc (suc k) → 1 + (zn a + zn b) ≤ S + (zp a + zp b)
number_parts S k a b h =
    let x = pos (S + 1) +ℤ a in
    let u = at_pos (x +ℤ b) h in
    go (zp x) (zn x) (zp a) (zn a) (zp b) (zn b) (zp (x +ℤ b)) (zn (x +ℤ b)) (sum_parts (pos (S + 1)) a) (sum_parts x b) u.0 u.1
  where
    at_pos : (z : ℤ) → at_least0 z ≡ suc (suc k) → (zp z ≡ suc (suc k)) × (zn z ≡ 0)
    at_pos (pos n) h = (h, refl)
    at_pos (negsuc n) h = absurd (no k h)
      where
        no : (k : ℕ) → 0 ≡ suc (suc k) → ⊥
        no k h = omega arith

    go : (xp xn ap an bp bn yp yn : ℕ) → xp + (0 + an) ≡ xn + (S + 1 + ap) → yp + (xn + bn) ≡ yn + (xp + bp) → yp ≡ suc (suc k) → yn ≡ 0 → 1 + (an + bn) ≤ S + (ap + bp)
    go xp xn ap an bp bn yp yn e f g h = omega arith

-- ---- z widths
real_has : (z : ℤ) → nat_abs z ≤ 9007199254740992 → HasValue (real z) (sgn z) (nat_abs z) 1
unfolding real
real_has (pos n) h = whole_has n h
real_has (negsuc n) h = minus_has n h

record Widths (z : ℤ) (W : ℕ) (x : Float) : Type 0 where
  size : ℕ
  is : Is x unit (plus (sgn z) size) (minus (sgn z) size)
  plus_over : plus (sgn z) size ≤ zp z * W + tiny
  plus_under : zp z * W ≤ plus (sgn z) size + tiny
  minus_over : minus (sgn z) size ≤ zn z * W + tiny
  minus_under : zn z * W ≤ minus (sgn z) size + tiny

widths : (nyq : Float) (S : ℕ) (n : Nyquist nyq) (w : Wide nyq n.size S) (z : ℤ) → Add z w.size → Widths z w.size (mul binary64 (real z) (width nyq S))
widths nyq S n w z a =
    let W = w.size in
    let A = nat_abs z * W in
    let most : A ≤ 4503599627370496 * tiny = le_trans a.wide (mul-le-mul_right tiny (lit≤ tt)) in
    let X = rounded A 1 in
    let has : HasValue (mul binary64 (real z) (width nyq S)) (sgn z) X unit =
    subst (λ (y : Float). HasValue y (sgn z) X unit)
    (sym (mul_values binary64 (real z) (width nyq S) (sgn z) (nat_abs z) 1 W unit (lit≤ tt) unit_pos (real_has z (le_trans a.whole (lit≤ tt))) w.has ∙ ap (λ (c : ℕ). round binary64 (sgn z) A c) (one-mul unit)))
    (one_has (sgn z) A most) in
    let o = one_over A most in
    let u = one_under A most in
    record {
      size = X;
      is = record { sign = sgn z; size = X; has = has; pair = add_comm (plus (sgn z) X) (minus (sgn z) X) };
      plus_over = po z X W tiny o;
      plus_under = pu z X W tiny u;
      minus_over = mo z X W tiny o;
      minus_under = mu z X W tiny u;
    }
  where
    po : (z : ℤ) (X W t : ℕ) → X ≤ nat_abs z * W + t → plus (sgn z) X ≤ zp z * W + t
    po (pos n) X W t h = h
    po (negsuc n) X W t h = omega arith

    pu : (z : ℤ) (X W t : ℕ) → nat_abs z * W ≤ X + t → zp z * W ≤ plus (sgn z) X + t
    pu (pos n) X W t h = h
    pu (negsuc n) X W t h = omega arith

    mo : (z : ℤ) (X W t : ℕ) → X ≤ nat_abs z * W + t → minus (sgn z) X ≤ zn z * W + t
    mo (pos n) X W t h = omega arith
    mo (negsuc n) X W t h = h

    mu : (z : ℤ) (X W t : ℕ) → nat_abs z * W ≤ X + t → zn z * W ≤ minus (sgn z) X + t
    mu (pos n) X W t h = omega arith
    mu (negsuc n) X W t h = h

parts_most : (z : ℤ) (W : ℕ) → Add z W → (zp z * W ≤ 562949953421312 * tiny) × (zn z * W ≤ 562949953421312 * tiny)
parts_most z W a = (one z W (562949953421312 * tiny) a.wide, two z W (562949953421312 * tiny) a.wide)
  where
    one : (z : ℤ) (W M : ℕ) → nat_abs z * W ≤ M → zp z * W ≤ M
    one (pos n) W M h = h
    one (negsuc n) W M h = omega arith

    two : (z : ℤ) (W M : ℕ) → nat_abs z * W ≤ M → zn z * W ≤ M
    two (pos n) W M h = omega arith
    two (negsuc n) W M h = h

-- ---- an end: P - N up to three tiny
pub record End (x : Float) (P N : ℕ) : Type 0 where
  pub q : ℕ
  pub m : ℕ
  pub at : Is x unit q m
  pub over : q + N ≤ m + P + 3 * tiny
  pub under : m + P ≤ q + N + 3 * tiny

pub start_end : (nyq : Float) (S : ℕ) (n : Nyquist nyq) (w : Wide nyq n.size S) (z : ℤ) → Add z w.size → End (start_of nyq (width nyq S) z) (zn z * w.size) (n.size + zp z * w.size)
unfolding start_of
start_end nyq S n w z a =
    let x = widths nyq S n w z a in
    let ν = n.size in
    let W = w.size in
    let X+ = plus (sgn z) x.size in
    let X- = minus (sgn z) x.size in
    let b = parts_most z W a in
    let r = approx (sub_rounds binary64 unit_pos (neg_is (nyq_is nyq n)) x.is) (h1 ν X+ X- (zn z * W) tiny x.minus_over b.1) (h2 ν X+ X- (zp z * W) tiny x.plus_over b.0 n.high) in
    record {
      q = r.q;
      m = r.m;
      at = r.at;
      over = o r.q r.m ν X+ X- (zp z * W) (zn z * W) tiny r.over x.plus_under x.minus_over;
      under = u r.q r.m ν X+ X- (zp z * W) (zn z * W) tiny r.under x.plus_over x.minus_under;
    }
  where
    h1 : (ν p m b t : ℕ) → m ≤ b + t → b ≤ 562949953421312 * t → 0 + m ≤ ν + p + 4503599627370496 * t
    h1 ν p m b t h k = omega arith

    h2 : (ν p m b t : ℕ) → p ≤ b + t → b ≤ 562949953421312 * t → ν ≤ 17592186044416 * t → ν + p ≤ 0 + m + 4503599627370496 * t
    h2 ν p m b t h k l = omega arith

    o : (q m ν xp xn ap an t : ℕ) → q + (ν + xp) ≤ m + (0 + xn) + t → ap ≤ xp + t → xn ≤ an + t → q + (ν + ap) ≤ m + an + 3 * t
    o q m ν xp xn ap an t h k l = omega arith

    u : (q m ν xp xn ap an t : ℕ) → m + (0 + xn) ≤ q + (ν + xp) + t → xp ≤ ap + t → an ≤ xn + t → m + an ≤ q + (ν + ap) + 3 * t
    u q m ν xp xn ap an t h k l = omega arith

pub end_end : (nyq : Float) (S : ℕ) (n : Nyquist nyq) (w : Wide nyq n.size S) (z : ℤ) → Add z w.size → End (end_of nyq (width nyq S) z) (n.size + zp z * w.size) (zn z * w.size)
unfolding end_of
end_end nyq S n w z a =
    let x = widths nyq S n w z a in
    let ν = n.size in
    let W = w.size in
    let X+ = plus (sgn z) x.size in
    let X- = minus (sgn z) x.size in
    let b = parts_most z W a in
    let r = approx (add_rounds binary64 unit_pos (nyq_is nyq n) x.is) (h1 ν X+ X- (zp z * W) tiny x.plus_over b.0 n.high) (h2 ν X+ X- (zn z * W) tiny x.minus_over b.1) in
    record {
      q = r.q;
      m = r.m;
      at = r.at;
      over = o r.q r.m ν X+ X- (zp z * W) (zn z * W) tiny r.over x.plus_over x.minus_under;
      under = u r.q r.m ν X+ X- (zp z * W) (zn z * W) tiny r.under x.plus_under x.minus_over;
    }
  where
    h1 : (ν p m b t : ℕ) → p ≤ b + t → b ≤ 562949953421312 * t → ν ≤ 17592186044416 * t → ν + p ≤ 0 + m + 4503599627370496 * t
    h1 ν p m b t h k l = omega arith

    h2 : (ν p m b t : ℕ) → m ≤ b + t → b ≤ 562949953421312 * t → 0 + m ≤ ν + p + 4503599627370496 * t
    h2 ν p m b t h k = omega arith

    o : (q m ν xp xn bp bn t : ℕ) → q + (0 + xn) ≤ m + (ν + xp) + t → xp ≤ bp + t → bn ≤ xn + t → q + bn ≤ m + (ν + bp) + 3 * t
    o q m ν xp xn bp bn t h k l = omega arith

    u : (q m ν xp xn bp bn t : ℕ) → m + (ν + xp) ≤ q + (0 + xn) + t → bp ≤ xp + t → xn ≤ bn + t → m + (ν + bp) ≤ q + bn + 3 * t
    u q m ν xp xn bp bn t h k l = omega arith

-- ---- the end is above the start
pub record Gap (q m q' m' : ℕ) : Type 0 where
  pub δ : ℕ
  pub is : q' + m ≡ m' + q + δ
  pub low : 300000 * tiny ≤ δ
  pub high : δ ≤ 4503599627370496 * tiny

pub gap : (nyq : Float) (S k : ℕ) (n : Nyquist nyq) (w : Wide nyq n.size S) (a b : ℤ) → S ≤ 9999 → (p : Add a w.size) (r : Add b w.size) → at_least0 (pos (S + 1) +ℤ a +ℤ b) ≡ suc (suc k)
    → let s = start_end nyq S n w a p in let e = end_end nyq S n w b r in Gap s.q s.m e.q e.m
gap nyq S k n w a b few p r h =
    let s = start_end nyq S n w a p in
    let e = end_end nyq S n w b r in
    let W = w.size in
    let ν = n.size in
    let t = tiny in
    let f : W + (zn a * W + zn b * W) ≤ W * S + (zp a * W + zp b * W) = times W (zn a) (zn b) (zp a) (zp b) (number_parts S k a b h) in
    let l : e.m + s.q + 300000 * t ≤ e.q + s.m =
    low s.q s.m e.q e.m ν W (W * S) (zp a * W) (zn a * W) (zp b * W) (zn b * W) t s.over e.under f w.over (width_least nyq S n w few) in
    record {
      δ = e.q + s.m - (e.m + s.q);
      is = back (e.q + s.m) (e.m + s.q) (300000 * t) l;
      low = least (e.q + s.m) (e.m + s.q) (300000 * t) l;
      high = high s.q s.m e.q e.m ν (zp a * W) (zn a * W) (zp b * W) (zn b * W) t s.under e.over n.high (parts_most a W p).0 (parts_most b W r).0;
    }
  where
    times : (W an bn ap bp : ℕ) → 1 + (an + bn) ≤ S + (ap + bp) → W + (an * W + bn * W) ≤ W * S + (ap * W + bp * W)
    times W an bn ap bp h = omega (arith, mul-le-mul_right W h)

    low : (q m q' m' ν W x ap an bp bn t : ℕ) → q + (ν + ap) ≤ m + an + 3 * t → m' + (ν + bp) ≤ q' + bn + 3 * t → W + (an + bn) ≤ x + (ap + bp) → x ≤ 2 * ν + 2 * t → 429496 * t ≤ W → m' + q + 300000 * t ≤ q' + m
    low q m q' m' ν W x ap an bp bn t a b c d e = omega arith

    back : (x y z : ℕ) → y + z ≤ x → x ≡ y + (x - y)
    back x y z h = omega arith

    least : (x y z : ℕ) → y + z ≤ x → z ≤ x - y
    least x y z h = omega arith

    high : (q m q' m' ν ap an bp bn t : ℕ) → m + an ≤ q + (ν + ap) + 3 * t → q' + bn ≤ m' + (ν + bp) + 3 * t → ν ≤ 17592186044416 * t → ap ≤ 562949953421312 * t → bp ≤ 562949953421312 * t → q' + m - (m' + q) ≤ 4503599627370496 * t
    high q m q' m' ν ap an bp bn t a b c d e = let f : q' + m ≤ m' + q + 4503599627370496 * t = omega arith in least' (q' + m) (m' + q) (4503599627370496 * t) f
      where
        least' : (x y z : ℕ) → x ≤ y + z → x - y ≤ z
        least' x y z h = omega arith
