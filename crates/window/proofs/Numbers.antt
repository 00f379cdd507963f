-- The wind that a gate of an accepted arrival shows is a number. Assumes nothing.
use Prim.Native.Nat.{ℕ, zero, suc, ◌+◌, ◌-◌, ◌*◌, ◌≤◌, ◌<◌}
use native.Mathlib.Omega.{arith}
use native.Mathlib.Nat.{le_refl, mul-pos}
use mathlib.Core.Path.{◌≡◌, refl, sym, ◌∙◌, subst}
use mathlib.Core.Bool.{Bool, true, false, cond, not, ◌&&◌, beq, true≢false}
use mathlib.Core.List.{List, [], ◌∷◌}
use lib.Dec.{T, eqb, ltb, eqb→eq, leb→le, lit≤}
use lib.ListN.{length, get_or}
use lib.IntN.{ℤ, pos, negsuc}
use lib.Ieee.{Float, nan, inf, fin, binary64, unlike, up, down, round, sum, add, mul, le, is_nan, of_int}
use lib.Ieee.Bits.{is_false}
use lib.Ieee.Exact.{HasValue}
use lib.Ieee.Fits.{and_l, and_r, down_pos}
use lib.Ieee.Order.{round_mono}
use lib.Ieee.Scale.{finite}
use borrow.Author.Tests.{eqb-true, eq-eqb, leb-true, ltb-true}
use Rattle.lists.specs.Seq.{all}
use Rattle.lists.proofs.AllLaws.{and_left, and_right, all_at}
use Rattle.arithmetic.specs.Rounding.{real}
use Rattle.arithmetic.specs.Intervals.{valid, two_nyquist, nyquist_in_range, velocity_in_range}
use Rattle.arithmetic.proofs.RangeLaws.{le-leb, T_of}
use Rattle.arithmetic.proofs.Signed.{plus, minus, round_le, mul_values}
use Rattle.arithmetic.proofs.Units.{between_finite, whole_has, minus_has}
use Rattle.arithmetic.proofs.Plans.{no_nan}
use Rattle.network.specs.Network.{bounded}
use Rattle.sweep.specs.Questions.{velocities_in_range}
use Rattle.sweep.specs.Velocity.{Counted, wind, shows_wind, counts_in_range}
use Rattle.sweep.proofs.GateLaws.{passes_shown, count_test}
use Rattle.window.specs.Median.{Number}
use Rattle.window.specs.Window.{gates_of, shows_at}
use Rattle.window.specs.Sequence.{wind_at}

-- ---- sums and products of finite floats

-- what is rounded is a number
round_number : (s : Bool) (a c : ℕ) → 0 < c → Number (round binary64 s a c)
round_number s a c h = let x = round binary64 s a c in is_false (is_nan x) (no_nan x x (round_le binary64 s s a a c h (le_refl (plus s a + minus s a))))

sum_number : (s : Bool) (a : ℕ) (t : Bool) (b c : ℕ) → 0 < c → Number (sum binary64 s a t b c)
unfolding sum
sum_number s a t b c h = go (beq s t) (ltb a b)
  where
    go : (x y : Bool) → Number (cond x (round binary64 s (a + b) c) (cond y (round binary64 t (b - a) c) (round binary64 (s && ltb b a) (a - b) c)))
    go true y = round_number s (a + b) c h
    go false true = round_number t (b - a) c h
    go false false = round_number (s && ltb b a) (a - b) c h

-- a finite float and a number add up to a number
add_number : (x y : Float) → T (finite x) → Number y → Number (add binary64 x y)
unfolding add is_nan
add_number nan y a b = absurd a
add_number (inf s) y a b = absurd a
add_number (fin s m e) nan a b = absurd (true≢false b)
add_number (fin s m e) (inf t) a b = refl
add_number (fin s m e) (fin t n d) a b = sum_number s (m * up e * down d) t (n * up d * down e) (down e * down d) (mul-pos (down_pos e) (down_pos d))

-- two finite floats times each other are a number
mul_number : (x y : Float) (s : Bool) (a c : ℕ) → HasValue x s a c → T (finite y) → Number (mul binary64 x y)
unfolding mul
mul_number nan y s a c v h = absurd v
mul_number (inf t) y s a c v h = absurd v
mul_number (fin t m e) nan s a c v h = absurd h
mul_number (fin t m e) (inf u) s a c v h = absurd h
mul_number (fin t m e) (fin u n d) s a c v h = round_number (unlike t u) (m * up e * (n * up d)) (down e * down d) (mul-pos (down_pos e) (down_pos d))

-- a count from -2,000 to 2,000 times a finite float is a number
count_times : (z : ℤ) (y : Float) → bounded 2000 z ≡ true → T (finite y) → Number (mul binary64 (real z) y)
unfolding bounded real
count_times (pos n) y h f = let k : n ≤ 2000 = leb-true n 2000 h in mul_number (of_int binary64 (pos n)) y false n 1 (whole_has n (omega arith)) f
count_times (negsuc n) y h f = let k : n < 2000 = ltb-true n 2000 h in mul_number (of_int binary64 (negsuc n)) y true (suc n) 1 (minus_has n (omega arith)) f

-- ---- what the questions say of a gate

-- a velocity in range is finite
velocity_finite : (v : Float) → T (velocity_in_range v) → T (finite v)
unfolding velocity_in_range le
velocity_finite nan h = h
velocity_finite (inf true) h = h
velocity_finite (inf false) h = h
velocity_finite (fin s m e) h = tt

-- 0 and 2,048 rounded
zero_is : round binary64 false 0 1 ≡ fin false 0 (pos 0)
unfolding round
zero_is = refl

most_is : round binary64 false 2048 1 ≡ fin false 1 (pos 11)
unfolding round
most_is = refl

-- 2 × a Nyquist from 0.125 to 1,024 is from 0 to 2,048
two_finite : (nyq : Float) → T (le (fin false 1 (negsuc 2)) nyq) → T (le nyq (fin false 1 (pos 10))) → T (finite (two_nyquist nyq))
unfolding le two_nyquist real
two_finite nan h k = absurd h
two_finite (inf true) h k = absurd h
two_finite (inf false) h k = absurd k
two_finite (fin true m e) h k = absurd (omega (arith, down_pos e, eqb→eq (1 * 1 * down e) 0 (and_r (eqb (1 * 1 * down e) (m * up e * 8)) (eqb (1 * 1 * down e) 0) h)))
two_finite (fin false m e) h k =
    let X = 2 * (m * up e) in
    let Y = 1 * down e in
    let x = round binary64 false X Y in
    let most : m * up e * 1 ≤ 1 * 1024 * down e = leb→le (m * up e * 1) (1 * 1024 * down e) (subst T (le-leb (m * up e * 1) (1 * 1024 * down e)) k) in
    let is = mul_values binary64 (of_int binary64 (pos 2)) (fin false m e) false 2 1 (m * up e) (down e) (omega arith) (down_pos e) (whole_has 2 (lit≤ tt)) (refl, refl) in
    let P : 0 < Y = omega (arith, down_pos e) in
    let low = rw zero_is at (round_mono binary64 0 1 X Y (omega arith) P (omega arith)) in
    let high = rw most_is at (round_mono binary64 X Y 2048 1 P (omega arith) (omega arith)) in
    subst (λ (y : Float). T (finite y)) (sym is) (between_finite x false 0 (pos 0) false 1 (pos 11) low high)

-- 2 × a Nyquist in range is finite
nyquist_finite : (nyq : Float) → nyquist_in_range nyq ≡ true → T (finite (two_nyquist nyq))
unfolding nyquist_in_range
nyquist_finite nyq h =
    let a = le (fin false 1 (negsuc 2)) nyq in
    let b = le nyq (fin false 1 (pos 10)) in
    two_finite nyq (and_l a b (T_of h)) (and_r a b (T_of h))

-- a valid gate's velocity is in range
velocity_at : (vs : List Float) (ms : List ℕ) (g : ℕ) → velocities_in_range vs ms ≡ true → g < length vs → length ms ≡ length vs → get_or ms g 0 ≡ 1 → velocity_in_range (get_or vs g nan) ≡ true
unfolding velocities_in_range valid all
velocity_at [] ms g h l e k = absurd (omega arith)
velocity_at (v ∷ vs) [] g h l e k = absurd (omega arith)
velocity_at (v ∷ vs) (m ∷ ms) zero h l e k = and_left (velocity_in_range v) (all velocity_in_range (valid vs ms)) (rw (eq-eqb m 1 k) at h)
velocity_at (v ∷ vs) (m ∷ ms) (suc g) h l e k = velocity_at vs ms g (go (eqb m 1) h) (omega arith) (omega arith) k
  where
    go : (b : Bool) → all velocity_in_range (cond b (v ∷ valid vs ms) (valid vs ms)) ≡ true → all velocity_in_range (valid vs ms) ≡ true
    go true h = and_right (velocity_in_range v) (all velocity_in_range (valid vs ms)) h
    go false h = h

-- ---- the wind of a gate

-- what the questions say of an arrival of n gates
pub record Sound (n : ℕ) (u : Counted) : Type 0 where
  pub gates : gates_of u ≡ n
  pub vel : length u.vel ≡ n
  pub mask : length u.mask ≡ n
  pub nyquist : nyquist_in_range u.nyquist ≡ true
  pub speeds : velocities_in_range u.vel u.mask ≡ true
  pub counts : counts_in_range u ≡ true

-- a gate that shows a wind is valid
shown_valid : (m l : ℕ) → shows_wind m l ≡ true → m ≡ 1
unfolding shows_wind
shown_valid m l h = eqb-true m 1 (and_left (eqb m 1) (not (eqb l 0)) h)

-- the wind that a gate shows is a number
pub wind_number : (n : ℕ) (u : Counted) (g : ℕ) → Sound n u → g < n → shows_at u g ≡ true → Number (wind_at u g)
unfolding wind_at wind shows_at gates_of counts_in_range
wind_number n u g s h k =
    let v = get_or u.vel g nan in
    let m = get_or u.mask g 0 in
    let c = get_or u.counts g (pos 0) in
    let l = get_or u.labels g 0 in
    let y = two_nyquist u.nyquist in
    let counted = all_at (count_test u.mask u.counts u.labels) (u.rays * u.gates) 0 g (omega arith) (omega (arith, s.gates)) s.counts in
    let speed = velocity_at u.vel u.mask g s.speeds (omega (arith, s.vel)) (s.mask ∙ sym s.vel) (shown_valid m l k) in
    add_number v (mul binary64 (real c) y) (velocity_finite v (T_of speed)) (count_times c y (sym (passes_shown m c l k) ∙ counted) (nyquist_finite u.nyquist s.nyquist))
