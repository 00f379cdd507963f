-- `arithmetic::nearest_u64_to_f32` meets its contract. With z leading zeros n has 24 + k digits, k = 40 - z. The product is exact in an f64 (`mul_exact`), and has the value
-- of n rounded to an f32 (`round_large`), so it is that f32 (`value_unique`). Assumes nothing.
use Rattle.std.proofs.Common.{◌≡◌, ℕ, suc, ◌+◌, ◌-◌, ◌*◌, ◌/◌, ◌%◌, ◌^◌, ◌<◌, ◌≤◌, false, not, ◌&&◌, T, pos, sym, ap, ◌∙◌, subst, le_trans, le_of_eq, lt_of_lt_of_le, mod-eq_of_lt, zero-lt-suc, one-mul, le-div_iff_mul-le, arith, lit<, lit≤, le→leb, pow_pos, pow_mono, pow-add}
use Prim.Native.Nat.{compare}
use native.Mathlib.Nat.{two-pow-succ}
use lib.Pow.{pow-lt}
use lib.Count.{count_leading_zeros, leading_length}
use lib.Ieee.{Float, binary32, binary64, round, mul, of_int, in_float, fits, is_nan}
use lib.Ieee.Fits.{round-fits, mul-fits, fits_widens, and_i}
use lib.Ieee.Nearest.{closest, nearest-ge}
use Rattle.arithmetic.proofs.RoundLaws.{round_large, mul_exact, value_unique, closest_le}
use Rattle.arithmetic.proofs.NarrowLaws.{no_nan}
use Rattle.arithmetic.proofs.whole.nearest_u64_to_f32.Goals.{After-closest_to-q, Else-z-ge40}
use Rattle.arithmetic.proofs.whole.nearest_u64_to_f32.Goals as goal

short : (n : ℕ) → n < 2 ^ 64 → 40 ≤ count_leading_zeros 64 n → n ≤ 2 ^ 24
short n h z =
    let t = leading_length 64 n h in
    le_trans (le_trans (lt→le n (2 ^ t.0) t.2) (pow_mono (few (count_leading_zeros 64 n) t.0 t.1 z))) (lit≤ tt)
  where
    lt→le : (a b : ℕ) → a < b → a ≤ b
    lt→le a b g = omega arith

    few : (z m : ℕ) → z + m ≡ 64 → 40 ≤ z → m ≤ 24
    few z m e g = omega arith

record Long (n k : ℕ) : Type 0 where
  low : 1 ≤ k
  high : k ≤ 40
  least : 2 ^ (23 + k) ≤ n
  most : n < 2 ^ (24 + k)

long : (n : ℕ) → n < 2 ^ 64 → count_leading_zeros 64 n < 40 → Long n (40 - count_leading_zeros 64 n)
long n h z =
    let t = leading_length 64 n h in
    let m = t.0 in
    let e : m ≡ suc (23 + (40 - count_leading_zeros 64 n)) = len (count_leading_zeros 64 n) m t.1 z in
    record {
      low = lo (count_leading_zeros 64 n) z;
      high = hi (count_leading_zeros 64 n);
      least = half n (2 ^ (23 + (40 - count_leading_zeros 64 n))) (2 ^ m) (ap (λ (x : ℕ). 2 ^ x) e ∙ two-pow-succ (23 + (40 - count_leading_zeros 64 n))) t.3;
      most = subst (λ (x : ℕ). n < 2 ^ x) (len' (count_leading_zeros 64 n) m t.1 z) t.2;
    }
  where
    len : (z m : ℕ) → z + m ≡ 64 → z < 40 → m ≡ suc (23 + (40 - z))
    len z m e g = omega arith

    len' : (z m : ℕ) → z + m ≡ 64 → z < 40 → m ≡ 24 + (40 - z)
    len' z m e g = omega arith

    lo : (z : ℕ) → z < 40 → 1 ≤ 40 - z
    lo z g = omega arith

    hi : (z : ℕ) → 40 - z ≤ 40
    hi z = omega arith

    half : (n a b : ℕ) → b ≡ a + a → b ≤ 2 * n + 1 → a ≤ n
    half n a b e g = omega arith

-- the shift loses nothing
unit_is : (k : ℕ) → k ≤ 40 → 1 * 2 ^ k % 18446744073709551616 ≡ 2 ^ k
unit_is k h = ap (λ (x : ℕ). x % 18446744073709551616) (one-mul (2 ^ k)) ∙ mod-eq_of_lt (lt_of_lt_of_le (pow-lt (less k h)) (lit≤ tt))
  where
    less : (k : ℕ) → k ≤ 40 → k < 41
    less k h = omega arith

unit_bounds : (k u : ℕ) → 1 ≤ k → k ≤ 40 → u ≡ 2 ^ k → (2 ≤ u) × (u ≤ 4611686018427387904)
unit_bounds k u a b e = (subst (λ (x : ℕ). 2 ≤ x) (sym e) (pow_mono a), subst (λ (x : ℕ). x ≤ 4611686018427387904) (sym e) (le_trans (pow_mono b) (lit≤ tt)))

digits_le : (n k : ℕ) → n < 2 ^ (24 + k) → closest n (2 ^ k) ≤ 2 ^ 24
digits_le n k h = closest_le n (2 ^ k) (2 ^ 24) (pow_pos k) (lt_of_lt_of_le h (le_of_eq (pow-add 2 24 k)))

digits_ge : (n k : ℕ) → 2 ^ (23 + k) ≤ n → 2 ^ 23 ≤ closest n (2 ^ k)
digits_ge n k h =
    le_trans ((le-div_iff_mul-le (pow_pos k)).1 (le_trans (le_of_eq (sym (pow-add 2 23 k))) h)) (nearest-ge (n / 2 ^ k) (compare (n % 2 ^ k * 2) (2 ^ k)))

product : (n k : ℕ) → Long n k → mul binary64 (of_int binary64 (pos (closest n (2 ^ k)))) (of_int binary64 (pos (2 ^ k))) ≡ round binary32 false n 1
product n k g =
    let q = closest n (2 ^ k) in
    let y = mul binary64 (of_int binary64 (pos q)) (of_int binary64 (pos (2 ^ k))) in
    let r = round binary32 false n 1 in
    value_unique binary64 y r false (q * 2 ^ k) 1 (mul-fits binary64 (of_int binary64 (pos q)) (of_int binary64 (pos (2 ^ k)))) (fits_widens r (round-fits binary32 false n 1)) (zero-lt-suc 0)
    (mul_exact binary64 q k (lt_of_lt_of_le (lit< tt) (digits_ge n k g.least)) (under q (digits_le n k g.most)) (le_trans g.high (lit≤ tt)) (room k g.high))
    (round_large binary32 n k g.least g.most (room' k g.high))
  where
    under : (q : ℕ) → q ≤ 2 ^ 24 → q < 2 ^ 53
    under q h = omega arith

    room : (k : ℕ) → k ≤ 40 → 53 + k < 1024
    room k h = omega arith

    room' : (k : ℕ) → k ≤ 40 → 24 + k < 128
    room' k h = omega arith

-- what the last two needs ask, at the closest_to's result q and at the unit u as the shift has it
narrow_fits : (n k : ℕ) → Long n k → T (fits binary32 (round binary32 false n 1) && not (is_nan (round binary32 false n 1)))
narrow_fits n k g =
    let r = round binary32 false n 1 in
    and_i (fits binary32 r) (not (is_nan r)) (round-fits binary32 false n 1) (no_nan r false (closest n (2 ^ k) * 2 ^ k) 1 (round_large binary32 n k g.least g.most (room' k g.high)))
  where
    room' : (k : ℕ) → k ≤ 40 → 24 + k < 128
    room' k h = omega arith

in_float_lem : (n : ℕ) → n ≤ 2 ^ 24 → T (in_float binary32 (pos n))
unfolding in_float
in_float_lem n h = le→leb n (2 ^ 24) h

in_float' : (n : ℕ) → n ≤ 2 ^ 53 → T (in_float binary64 (pos n))
unfolding in_float
in_float' n h = le→leb n (2 ^ 53) h

pub int_to_float-result : goal.int_to_float-result
int_to_float-result c = in_float_lem c.args.n (short c.args.n c.ranges.n.fits c.if-z-ge40.true)

long_at : (c : Else-z-ge40) → Long c.args.n (40 - count_leading_zeros 64 c.args.n)
long_at c = long c.args.n c.ranges.n.fits c.if-z-ge40.false

pub closest_to-q-requires : goal.closest_to-q-requires
closest_to-q-requires c =
    let g = long_at c in
    let k = 40 - count_leading_zeros 64 c.args.n in
    unit_bounds k (1 * 2 ^ k % 18446744073709551616) g.low g.high (unit_is k g.high)

-- the call's result
called : (c : After-closest_to-q) → c.closest_to-q.result ≡ closest c.args.n (2 ^ (40 - count_leading_zeros 64 c.args.n))
called c = c.closest_to-q.ensures ∙ ap (λ (u : ℕ). closest c.args.n u) (unit_is (40 - count_leading_zeros 64 c.args.n) (long_at c.before).high)

pub int_to_float-result-2 : goal.int_to_float-result-2
int_to_float-result-2 c =
    let g = long_at (goal.at.int_to_float-result-2 c).Else-z-ge40 in
    in_float' c.closest_to-q.result (le_trans (le_of_eq (called (goal.at.int_to_float-result-2 c).After-closest_to-q)) (le_trans (digits_le c.args.n (40 - count_leading_zeros 64 c.args.n) g.most) (lit≤ tt)))

pub int_to_float-result-3 : goal.int_to_float-result-3
int_to_float-result-3 c =
    let g = long_at (goal.at.int_to_float-result-3 c).Else-z-ge40 in
    let k = 40 - count_leading_zeros 64 c.args.n in
    in_float' (1 * 2 ^ k % 18446744073709551616) (le_trans (le_of_eq (unit_is k g.high)) (le_trans (pow_mono g.high) (lit≤ tt)))

made : (c : After-closest_to-q) →
    mul binary64 (of_int binary64 (pos c.closest_to-q.result)) (of_int binary64 (pos (1 * 2 ^ (40 - count_leading_zeros 64 c.args.n) % 18446744073709551616)))
    ≡ round binary32 false c.args.n 1
made c =
    let g = long_at c.before in
    let n = c.args.n in
    let k = 40 - count_leading_zeros 64 n in
    ap (λ (q : ℕ). mul binary64 (of_int binary64 (pos q)) (of_int binary64 (pos (1 * 2 ^ k % 18446744073709551616)))) (called c)
    ∙ ap (λ (u : ℕ). mul binary64 (of_int binary64 (pos (closest n (2 ^ k)))) (of_int binary64 (pos u))) (unit_is k g.high)
    ∙ product n k g

pub float_to_float-result : goal.float_to_float-result
float_to_float-result c = subst (λ (y : Float). T (fits binary32 y && not (is_nan y))) (sym (made (goal.at.float_to_float-result c).After-closest_to-q)) (narrow_fits c.args.n (40 - count_leading_zeros 64 c.args.n) (long_at (goal.at.float_to_float-result c).Else-z-ge40))

pub returns : goal.returns
unfolding of_int
returns c = made (goal.at.returns c).After-closest_to-q
