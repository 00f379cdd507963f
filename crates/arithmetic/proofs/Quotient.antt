-- Nyquist, the width of an interval and the numbers of widths to add, in units: what questions 5 to 7 give. The ceiling's argument is at most 2 ^ 30.
-- Assumes nothing.
use Rattle.std.proofs.Common.{◌≡◌, ℕ, zero, suc, ◌+◌, ◌*◌, ◌/◌, ◌%◌, ◌^◌, ◌<◌, ◌≤◌, Bool, true, false, cond, not, T, eqb, ℤ, pos, negsuc, neg_ℤ, nat_abs, sym, refl, ap, ◌∙◌, subst, le_trans, le_of_eq, le_of_suc-le-suc, mul-le-mul_right, zero-lt-suc, add_comm, mul-le-mul_left, mul-pos, one-mul, lt_of_not-le, mul-one, div-mul-le_self, le_of_mul-le-mul_right, arith, lit<, lit≤, le→leb}
use lib.Ieee.{Float, nan, inf, fin, binary64, up, down, round, add, sub, mul, div, neg, le, fits, of_int}
use lib.Ieee.Fits.{and_l, and_r, down_pos}
use lib.Ieee.Exact.{HasValue}
use lib.Ieee.Positive.{first_pos}
use Rattle.arithmetic.specs.Rounding.{within, ceiling, ceiling_whole, real}
use Rattle.arithmetic.specs.Intervals.{velocity_in_range, two_nyquist, width, over_start, over_end}
use Rattle.arithmetic.proofs.Signed.{plus, minus, Is, values_le, add_rounds, sub_rounds, neg_has, mul_values, div_values}
use Rattle.arithmetic.proofs.Units.{unit, tiny, unit_is, tiny_large, unit_pos, rounded, near64, has64, thrice, one_over, one_under, one_has, Approx, approx, on_grid, between_finite, whole_has}
use Rattle.arithmetic.specs.Inside.Asked.{Asked}

-- ---- Nyquist
pub record Nyquist (nyq : Float) : Type 0 where
  pub size : ℕ
  pub has : HasValue nyq false size unit
  pub low : 2147483648 * tiny ≤ size
  pub high : size ≤ 17592186044416 * tiny

eighth_has : HasValue (fin false 1 (negsuc 2)) false (2147483648 * tiny) unit
eighth_has = (refl, is unit tiny unit_is)
  where
    is : (u t : ℕ) → u ≡ 17179869184 * t → 1 * 1 * u ≡ 2147483648 * t * 8
    is u t e = omega arith

most_has : HasValue (fin false 1 (pos 10)) false (17592186044416 * tiny) unit
most_has = (refl, is unit tiny unit_is)
  where
    is : (u t : ℕ) → u ≡ 17179869184 * t → 1 * 1024 * u ≡ 17592186044416 * t * 1
    is u t e = omega arith

pub nyquist : (nyq : Float) {splits : ℕ} → T (fits binary64 nyq) → Asked nyq splits → Nyquist nyq
nyquist nyq f a =
    let g = on_grid nyq (between_finite nyq false 1 (negsuc 2) false 1 (pos 10) a.low a.high) f in
    go g.0 g.1 g.2
    (values_le (fin false 1 (negsuc 2)) nyq false g.0 (2147483648 * tiny) g.1 unit unit_pos eighth_has g.2 a.low)
    (values_le nyq (fin false 1 (pos 10)) g.0 false g.1 (17592186044416 * tiny) unit unit_pos g.2 most_has a.high)
  where
    no : (t z : ℕ) → 2147483648 * t + z ≤ 0 → 1180591620717411303424 ≤ t → ⊥
    no t z h l = omega arith

    go : (s : Bool) (z : ℕ) → HasValue nyq s z unit → 2147483648 * tiny + minus s z ≤ plus s z + 0 → plus s z + 0 ≤ 17592186044416 * tiny + minus s z → Nyquist nyq
    go true z v h k = absurd (no tiny z h tiny_large)
    go false z v h k = record { size = z; has = v; low = omega arith; high = omega arith }

-- ---- the width
-- an error e below 2 B t, where all is counted in 2 B
without : (x y e t B : ℕ) → 0 < B → x * 2 * B ≤ y * 2 * B + e → e ≤ t * 2 * B → x ≤ y + t
without x y e t B P h k = le_of_mul-le-mul_right (go h k) P
  where
    go : x * 2 * B ≤ y * 2 * B + e → e ≤ t * 2 * B → x * B ≤ (y + t) * B
    go h k = omega arith

small_sum : (F e t : ℕ) → F ≤ 35184372088833 * t → e ≤ t → F + e ≤ t * 2 * 4503599627370496
small_sum F e t f g = omega arith

pub record Wide (nyq : Float) (ν S : ℕ) : Type 0 where
  pub size : ℕ
  pub has : HasValue (width nyq S) false size unit
  pub over : size * S ≤ 2 * ν + 2 * tiny
  pub under : 2 * ν ≤ size * S + 2 * tiny

pub wide : (nyq : Float) (S : ℕ) → (n : Nyquist nyq) → 1 ≤ S → S ≤ 9999 → Wide nyq n.size S
unfolding width two_nyquist real
wide nyq S n some few =
    let ν = n.size in
    let two = of_int binary64 (pos 2) in
    let F = rounded (2 * ν) 1 in
    let low : 2 * ν ≤ 4503599627370496 * tiny = few2 ν tiny n.high in
    let fh : HasValue (mul binary64 two nyq) false F unit =
    subst (λ (y : Float). HasValue y false F unit) (sym (mul_values binary64 two nyq false 2 1 ν unit (zero-lt-suc 0) unit_pos (whole_has 2 (lit≤ tt)) n.has ∙ ap (λ (c : ℕ). round binary64 false (2 * ν) c) (one-mul unit))) (one_has false (2 * ν) low) in
    let fo : F ≤ 2 * ν + tiny = one_over (2 * ν) low in
    let fu : 2 * ν ≤ F + tiny = one_under (2 * ν) low in
    let W = rounded F S in
    let wn = near64 F S some in
    let is : div binary64 (mul binary64 two nyq) (of_int binary64 (pos S)) ≡ round binary64 false F (unit * S) =
    div_values binary64 (mul binary64 two nyq) (of_int binary64 (pos S)) false F unit S 1 unit_pos (zero-lt-suc 0) some fh (whole_has S (le_trans few (lit≤ tt))) ∙ ap (λ (a : ℕ). round binary64 false a (unit * S)) (mul-one F) in
    record {
      size = W;
      has = subst (λ (y : Float). HasValue y false W unit) (sym is) (has64 false F S some (fine F ν tiny fo n.high));
      over = over' W F ν tiny wn.over fo n.high tiny_large;
      under = under' W F ν tiny wn.under fo fu n.high tiny_large;
    }
  where
    few2 : (ν t : ℕ) → ν ≤ 17592186044416 * t → 2 * ν ≤ 4503599627370496 * t
    few2 ν t h = omega arith

    fine : (F ν t : ℕ) → F ≤ 2 * ν + t → ν ≤ 17592186044416 * t → F ≤ 1180591620717411303424 * t * S
    fine F ν t h k = le_trans (plain F ν t h k) (le_trans (le_of_eq (sym (mul-one (1180591620717411303424 * t)))) (mul-le-mul_left (1180591620717411303424 * t) some))
      where
        plain : (F ν t : ℕ) → F ≤ 2 * ν + t → ν ≤ 17592186044416 * t → F ≤ 1180591620717411303424 * t
        plain F ν t h k = omega arith

    -- the error is below one tiny
    part : (F ν t : ℕ) → F ≤ 2 * ν + t → ν ≤ 17592186044416 * t → 1180591620717411303424 ≤ t → F + S * 4503599627370496 ≤ t * 2 * 4503599627370496
    part F ν t h k l = let f : F ≤ 35184372088833 * t = omega arith in let g : S * 4503599627370496 ≤ t = omega arith in small_sum F (S * 4503599627370496) t f g

    last : (x F ν t : ℕ) → x ≤ F + t → F ≤ 2 * ν + t → x ≤ 2 * ν + 2 * t
    last x F ν t h k = omega arith

    last' : (x F ν t : ℕ) → F ≤ x + t → 2 * ν ≤ F + t → 2 * ν ≤ x + 2 * t
    last' x F ν t h k = omega arith

    over' : (W F ν t : ℕ) → W * S * 2 * 4503599627370496 ≤ F * 2 * 4503599627370496 + (F + S * 4503599627370496) → F ≤ 2 * ν + t → ν ≤ 17592186044416 * t → 1180591620717411303424 ≤ t → W * S ≤ 2 * ν + 2 * t
    over' W F ν t h fo k l = last (W * S) F ν t (without (W * S) F (F + S * 4503599627370496) t 4503599627370496 (lit< tt) h (part F ν t fo k l)) fo

    under' : (W F ν t : ℕ) → F * 2 * 4503599627370496 ≤ W * S * 2 * 4503599627370496 + (F + S * 4503599627370496) → F ≤ 2 * ν + t → 2 * ν ≤ F + t → ν ≤ 17592186044416 * t → 1180591620717411303424 ≤ t → 2 * ν ≤ W * S + 2 * t
    under' W F ν t h fo fu k l = last' (W * S) F ν t (without F (W * S) (F + S * 4503599627370496) t 4503599627370496 (lit< tt) h (part F ν t fo k l)) fu

-- ---- a velocity
pub record Speed (v : Float) : Type 0 where
  pub p : ℕ
  pub n : ℕ
  pub at : Is v unit p n
  pub high : p ≤ n + 281474976710656 * tiny
  pub low : n ≤ p + 281474976710656 * tiny

top_has : (s : Bool) → HasValue (fin s 1 (pos 14)) s (281474976710656 * tiny) unit
top_has s = (refl, is unit tiny unit_is)
  where
    is : (u t : ℕ) → u ≡ 17179869184 * t → 1 * 16384 * u ≡ 281474976710656 * t * 1
    is u t e = omega arith

pub speed : (v : Float) → T (fits binary64 v) → T (velocity_in_range v) → Speed v
unfolding velocity_in_range
speed v f h =
    let l = and_l (le (fin true 1 (pos 14)) v) (le v (fin false 1 (pos 14))) h in
    let k = and_r (le (fin true 1 (pos 14)) v) (le v (fin false 1 (pos 14))) h in
    let g = on_grid v (between_finite v true 1 (pos 14) false 1 (pos 14) l k) f in
    let s = g.0 in
    let a = g.1 in
    record {
      p = plus s a;
      n = minus s a;
      at = record { sign = s; size = a; has = g.2; pair = add_comm (plus s a) (minus s a) };
      high = up' s a (281474976710656 * tiny) (values_le v (fin false 1 (pos 14)) s false a (281474976710656 * tiny) unit unit_pos g.2 (top_has false) k);
      low = down' s a (281474976710656 * tiny) (values_le (fin true 1 (pos 14)) v true s (281474976710656 * tiny) a unit unit_pos (top_has true) g.2 l);
    }
  where
    up' : (s : Bool) (a M : ℕ) → plus s a + 0 ≤ M + minus s a → plus s a ≤ minus s a + M
    up' false a M h = omega arith
    up' true a M h = omega arith

    down' : (s : Bool) (a M : ℕ) → 0 + minus s a ≤ plus s a + M → minus s a ≤ plus s a + M
    down' false a M h = omega arith
    down' true a M h = omega arith

-- ---- what is divided by the width
pub record Over (d : Float) : Type 0 where
  pub sign : Bool
  pub size : ℕ
  pub has : HasValue d sign size unit
  pub most : size ≤ 299067162755073 * tiny

pub nyq_is : (nyq : Float) (n : Nyquist nyq) → Is nyq unit n.size 0
nyq_is nyq n = record { sign = false; size = n.size; has = n.has; pair = flat n.size }
  where
    flat : (z : ℕ) → z + 0 ≡ 0 + z
    flat z = omega arith

size_most : (d : Float) {p n : ℕ} → Approx d p n → p ≤ n + 299067162755072 * tiny → n ≤ p + 299067162755072 * tiny → Over d
size_most d {p} {n} a h k = let i = a.at in record { sign = i.sign; size = i.size; has = i.has; most = go i.sign i.size a.q a.m tiny i.pair a.over a.under h k }
  where
    go : (s : Bool) (z q m t : ℕ) → q + minus s z ≡ m + plus s z → q + n ≤ m + p + t → m + p ≤ q + n + t → p ≤ n + 299067162755072 * t → n ≤ p + 299067162755072 * t → z ≤ 299067162755073 * t
    go false z q m t e o u h k = omega arith
    go true z q m t e o u h k = omega arith

pub over_start_lem : (nyq hi : Float) → Nyquist nyq → Speed hi → Over (over_start nyq hi)
unfolding over_start
over_start_lem nyq hi n v =
    size_most (sub binary64 hi nyq) (approx (sub_rounds binary64 unit_pos v.at (nyq_is nyq n)) (a1 v.p v.n n.size tiny v.high) (a2 v.p v.n n.size tiny v.low n.high))
    (b1 v.p v.n n.size tiny v.high) (b2 v.p v.n n.size tiny v.low n.high)
  where
    a1 : (p n z t : ℕ) → p ≤ n + 281474976710656 * t → p + 0 ≤ n + z + 4503599627370496 * t
    a1 p n z t h = omega arith

    a2 : (p n z t : ℕ) → n ≤ p + 281474976710656 * t → z ≤ 17592186044416 * t → n + z ≤ p + 0 + 4503599627370496 * t
    a2 p n z t h k = omega arith

    b1 : (p n z t : ℕ) → p ≤ n + 281474976710656 * t → p + 0 ≤ n + z + 299067162755072 * t
    b1 p n z t h = omega arith

    b2 : (p n z t : ℕ) → n ≤ p + 281474976710656 * t → z ≤ 17592186044416 * t → n + z ≤ p + 0 + 299067162755072 * t
    b2 p n z t h k = omega arith

neg_over : (d : Float) → Over d → Over (neg d)
neg_over d o = record { sign = not o.sign; size = o.size; has = neg_has d o.sign o.size unit o.has; most = o.most }

pub over_end_lem : (nyq lo : Float) → Nyquist nyq → Speed lo → Over (over_end nyq lo)
unfolding over_end
over_end_lem nyq lo n v =
    neg_over (add binary64 lo nyq)
    (size_most (add binary64 lo nyq) (approx (add_rounds binary64 unit_pos v.at (nyq_is nyq n)) (a1 v.p v.n n.size tiny v.high n.high) (a2 v.p v.n n.size tiny v.low))
    (b1 v.p v.n n.size tiny v.high n.high) (b2 v.p v.n n.size tiny v.low))
  where
    a1 : (p n z t : ℕ) → p ≤ n + 281474976710656 * t → z ≤ 17592186044416 * t → p + z ≤ n + 0 + 4503599627370496 * t
    a1 p n z t h k = omega arith

    a2 : (p n z t : ℕ) → n ≤ p + 281474976710656 * t → n + 0 ≤ p + z + 4503599627370496 * t
    a2 p n z t h = omega arith

    b1 : (p n z t : ℕ) → p ≤ n + 281474976710656 * t → z ≤ 17592186044416 * t → p + z ≤ n + 0 + 299067162755072 * t
    b1 p n z t h k = omega arith

    b2 : (p n z t : ℕ) → n ≤ p + 281474976710656 * t → n + 0 ≤ p + z + 299067162755072 * t
    b2 p n z t h = omega arith

-- ---- the quotient
-- t, u: tiny and a unit; D / W is below 2 ^ 30, and so is G u-ths, which it is rounded to
record Sizes (t u W S : ℕ) : Type 0 where
  is : u ≡ 17179869184 * t
  some : 0 < t
  wide : 4294967294 * t ≤ W * S
  few : S ≤ 9999

few_widths : (t u W S D G : ℕ) → Sizes t u W S → D ≤ 299067162755073 * t → G * W * 2 ≤ D * u * 3 + W → G ≤ 1073741824 * u
few_widths t u W S D G z v h = le_of_suc-le-suc (lt_of_not-le (λ (g : suc (1073741824 * u) ≤ G). clash (mul-le-mul_right W g)))
  where
    one : 1 ≤ u
    one = let e = z.is in let s = z.some in omega arith

    clash : suc (1073741824 * u) * W ≤ G * W → ⊥
    clash g =
        let a : W ≤ u * W = le_trans (le_of_eq (sym (one-mul W))) (mul-le-mul_right W one) in
        let b : D * u ≤ 299067162755073 * t * u = mul-le-mul_right u v in
        let c : 4294967294 * t ≤ W * 9999 = le_trans z.wide (mul-le-mul_left W z.few) in
        let d : 4294967294 * t * u ≤ W * 9999 * u = mul-le-mul_right u c in
        let e : 0 < t * u = mul-pos z.some one in
        last (u * W) (t * u) (D * u) W (G * W) h (omega (arith, g)) a (omega (arith, b)) (omega (arith, d)) e
      where
        last : (x y p w g : ℕ) → g * 2 ≤ p * 3 + w → 1073741824 * x + w ≤ g → w ≤ x → p ≤ 299067162755073 * y → 4294967294 * y ≤ 9999 * x → 0 < y → ⊥
        last x y p w g h i a b d e = omega arith

fine : (t u W S D : ℕ) → Sizes t u W S → D ≤ 299067162755073 * t → D * u ≤ 1180591620717411303424 * t * W
fine t u W S D z v =
    let c : 4294967294 * t ≤ W * 9999 = le_trans z.wide (mul-le-mul_left W z.few) in
    let w : 429496 * t ≤ W = omega arith in
    let b : D * u ≤ 299067162755073 * t * u = mul-le-mul_right u v in
    let d : 429496 * t * u ≤ W * u = mul-le-mul_right u w in
    let e : D * u ≤ 700000000 * (W * u) = third (D * u) (t * u) (W * u) (omega (arith, b)) (omega (arith, d)) in
    le_trans e (le_trans (le_of_eq (ap (λ (x : ℕ). 700000000 * (W * x)) z.is)) (grow (W * t)))
  where
    third : (p y x : ℕ) → p ≤ 299067162755073 * y → 429496 * y ≤ x → p ≤ 700000000 * x
    third p y x b d = omega arith

    grow : (x : ℕ) → 700000000 * (W * (17179869184 * t)) ≤ 1180591620717411303424 * t * W
    grow x = omega arith

pub record Quotient (d w : Float) (D W : ℕ) : Type 0 where
  pub sign : Bool
  pub size : ℕ
  pub has : HasValue (div binary64 d w) sign size unit
  pub within : size ≤ 1073741824 * unit
  pub near : size * W * 2 ≤ D * unit * 3 + W

sizes : (nyq : Float) (S : ℕ) (n : Nyquist nyq) (w : Wide nyq n.size S) → S ≤ 9999 → Sizes tiny unit w.size S
sizes nyq S n w few = record { is = unit_is; some = le_trans (lit≤ tt) tiny_large; wide = go (w.size * S) n.size tiny w.under n.low; few = few }
  where
    go : (x ν t : ℕ) → 2 * ν ≤ x + 2 * t → 2147483648 * t ≤ ν → 4294967294 * t ≤ x
    go x ν t h k = omega arith

width_pos : (nyq : Float) (S : ℕ) (n : Nyquist nyq) (w : Wide nyq n.size S) → S ≤ 9999 → 0 < w.size
width_pos nyq S n w few = let z = sizes nyq S n w few in first_pos w.size S (le_trans (le_trans (lit≤ tt) (le_trans tiny_large (many tiny))) z.wide)
  where
    many : (t : ℕ) → t ≤ 4294967294 * t
    many t = omega arith

pub width_least : (nyq : Float) (S : ℕ) (n : Nyquist nyq) (w : Wide nyq n.size S) → S ≤ 9999 → 429496 * tiny ≤ w.size
width_least nyq S n w few = let z = sizes nyq S n w few in go w.size tiny (le_trans z.wide (mul-le-mul_left w.size few))
  where
    go : (W t : ℕ) → 4294967294 * t ≤ W * 9999 → 429496 * t ≤ W
    go W t h = omega arith

pub quotient : (nyq d : Float) (S : ℕ) (n : Nyquist nyq) (w : Wide nyq n.size S) (o : Over d) → S ≤ 9999 → Quotient d (width nyq S) o.size w.size
quotient nyq d S n w o few =
    let z = sizes nyq S n w few in
    let D = o.size in
    let W = w.size in
    let W+ : 0 < W = width_pos nyq S n w few in
    let G = rounded (D * unit) W in
    let near : G * W * 2 ≤ D * unit * 3 + W = thrice 4503599627370496 (D * unit) W G (lit< tt) (near64 (D * unit) W W+).over in
    record {
      sign = o.sign;
      size = G;
      has = subst (λ (y : Float). HasValue y o.sign G unit) (sym (div_values binary64 d (width nyq S) o.sign D unit W unit unit_pos unit_pos W+ o.has w.has)) (has64 o.sign (D * unit) W W+ (fine tiny unit W S D z o.most));
      within = few_widths tiny unit W S D G z o.most near;
      near = near;
    }

pub is_within : (x : Float) (s : Bool) (G : ℕ) → HasValue x s G unit → G ≤ 1073741824 * unit → T (within x)
unfolding within
is_within nan s G v h = absurd v
is_within (inf t) s G v h = absurd v
is_within (fin t m e) s G v h = le→leb (m * up e) (2 ^ 30 * down e) (le_of_mul-le-mul_right (go (m * up e) (down e) unit v.1 (mul-le-mul_right (down e) h)) unit_pos)
  where
    go : (M E u : ℕ) → M * u ≡ G * E → G * E ≤ 1073741824 * u * E → M * u ≤ 1073741824 * E * u
    go M E u e h = omega arith

-- the ceiling is less than one above
ceil_most : (x : Float) (s : Bool) (G : ℕ) → HasValue x s G unit → nat_abs (ceiling_whole x) * unit ≤ G + unit
unfolding ceiling_whole
ceil_most nan s G v = absurd v
ceil_most (inf t) s G v = absurd v
ceil_most (fin false m e) s G v = le_of_mul-le-mul_right (go (ceiling (m * up e) (down e)) (m * up e) (down e) unit v.1 (mul-le-mul_right unit (next (m * up e) (down e)))) (down_pos e)
  where
    next : (M E : ℕ) → ceiling M E * E ≤ M + E
    next M E = pick (eqb (M % E) 0) (div-mul-le_self M E)
      where
        pick : (b : Bool) → M / E * E ≤ M → cond b (M / E) (suc (M / E)) * E ≤ M + E
        pick true h = omega arith
        pick false h = omega arith

    go : (c M E u : ℕ) → M * u ≡ G * E → c * E * u ≤ (M + E) * u → c * u * E ≤ (G + u) * E
    go c M E u e h = omega arith
ceil_most (fin true m e) s G v =
    le_trans (le_of_eq (ap (λ (z : ℕ). z * unit) (abs_neg (m * up e / down e)))) (le_of_mul-le-mul_right (go (m * up e / down e) (m * up e) (down e) unit v.1 (mul-le-mul_right unit (div-mul-le_self (m * up e) (down e)))) (down_pos e))
  where
    abs_neg : (k : ℕ) → nat_abs (neg_ℤ (pos k)) ≡ k
    abs_neg zero = refl
    abs_neg (suc k) = refl

    go : (c M E u : ℕ) → M * u ≡ G * E → c * E * u ≤ M * u → c * u * E ≤ (G + u) * E
    go c M E u e h = omega arith

-- ---- a number of widths to add
pub record Add (z : ℤ) (W : ℕ) : Type 0 where
  pub whole : nat_abs z ≤ 1073741825
  pub wide : nat_abs z * W ≤ 562949953421312 * tiny

pub add_of : (nyq d : Float) (S : ℕ) (n : Nyquist nyq) (w : Wide nyq n.size S) (o : Over d) → 1 ≤ S → S ≤ 9999 → Add (ceiling_whole (div binary64 d (width nyq S))) w.size
add_of nyq d S n w o some few =
    let q = quotient nyq d S n w o few in
    let x = div binary64 d (width nyq S) in
    let A = nat_abs (ceiling_whole x) in
    let c : A * unit ≤ q.size + unit = ceil_most x q.sign q.size q.has in
    let W = w.size in
    record {
      whole = le_of_mul-le-mul_right (under A q.size unit c q.within) unit_pos;
      wide = most (A * W) o.size W tiny (le_of_mul-le-mul_right (twice A q.size unit W o.size (mul-le-mul_right W c) q.near (mul-le-mul_right W unit_pos)) unit_pos) o.most (flat W S n.size tiny w.over n.high (mul-le-mul_left W some));
    }
  where
    under : (A G u : ℕ) → A * u ≤ G + u → G ≤ 1073741824 * u → A * u ≤ 1073741825 * u
    under A G u h k = omega arith

    twice : (A G u W D : ℕ) → A * u * W ≤ (G + u) * W → G * W * 2 ≤ D * u * 3 + W → 1 * W ≤ u * W → A * W * 2 * u ≤ (D * 3 + W * 3) * u
    twice A G u W D h k l = omega arith

    flat : (W S ν t : ℕ) → W * S ≤ 2 * ν + 2 * t → ν ≤ 17592186044416 * t → W * 1 ≤ W * S → W ≤ 35184372088834 * t
    flat W S ν t h k l = omega arith

    most : (x D W t : ℕ) → x * 2 ≤ D * 3 + W * 3 → D ≤ 299067162755073 * t → W ≤ 35184372088834 * t → x ≤ 562949953421312 * t
    most x D W t h k l = omega arith
