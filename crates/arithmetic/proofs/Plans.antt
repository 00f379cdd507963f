-- What the proofs of `widened` and `limits` cite, that the ceilings' arguments are in range, and what callers of plans need. Assumes nothing.
use Rattle.std.proofs.Common.{◌≡◌, ℕ, suc, ◌+◌, ◌-◌, ◌≤◌, Bool, true, false, cond, not, T, ltb, List, [], ◌∷◌, Option, Some, None, ℤ, pos, negsuc, ◌+ℤ◌, ap, ◌∙◌, arith, nltb→le}
use lib.Ieee.Fits.{and_l, and_r}
use lib.Signed.{mag}
use lib.Ieee.{Float, nan, inf, fin, binary64, add, sub, mul, div, neg, lt, le, fits, is_nan, of_int}
use Rattle.arithmetic.specs.declared.intervals.Extremes.{Extremes}
use Rattle.arithmetic.specs.declared.intervals.Plan.{Plan}
use Rattle.arithmetic.specs.Rounding.{within, ceiling_whole, real}
use Rattle.arithmetic.specs.Intervals.{velocity_in_range, width, over_start, over_end, at_least0, widened, adds, plan_of, number, spaced, limits_of, start_of, end_of, lesser, greater, least, greatest, range, over_both, number_for, limits_for}
use Rattle.arithmetic.proofs.Quotient.{nyquist, wide, speed, over_start_lem, over_end_lem, quotient, is_within}
use Rattle.arithmetic.specs.Inside.Asked.{Asked, ExtremesInRange, front}
use Rattle.lists.specs.Seq.{all}

-- ---- the size of a signed sum
pub mag_add : (x y : ℤ) (m n : ℕ) → mag x ≤ m → mag y ≤ n → mag (x +ℤ y) ≤ suc (m + n)
mag_add (pos a) (pos b) m n h k = omega arith
mag_add (pos a) (negsuc b) m n h k = go (ltb a (suc b)) (nltb→le a (suc b))
  where
    go : (t : Bool) → (T (not t) → suc b ≤ a) → mag (cond t (negsuc (suc b - suc a)) (pos (a - suc b))) ≤ suc (m + n)
    go true e = omega arith
    go false e = omega arith
mag_add (negsuc a) (pos b) m n h k = go (ltb b (suc a)) (nltb→le b (suc a))
  where
    go : (t : Bool) → (T (not t) → suc a ≤ b) → mag (cond t (negsuc (suc a - suc b)) (pos (b - suc a))) ≤ suc (m + n)
    go true e = omega arith
    go false e = omega arith
mag_add (negsuc a) (negsuc b) m n h k = omega arith

-- ---- the ceilings' arguments are in range
pub start_within : (nyq hi : Float) (S : ℕ) → T (fits binary64 nyq) → T (fits binary64 hi) → Asked nyq S → T (velocity_in_range hi) → T (within (div binary64 (over_start nyq hi) (width nyq S)))
start_within nyq hi S f g a h =
    let n = nyquist nyq f a in
    let w = wide nyq S n a.some a.few in
    let q = quotient nyq (over_start nyq hi) S n w (over_start_lem nyq hi n (speed hi g h)) a.few in
    is_within (div binary64 (over_start nyq hi) (width nyq S)) q.sign q.size q.has q.within

pub end_within : (nyq lo : Float) (S : ℕ) → T (fits binary64 nyq) → T (fits binary64 lo) → Asked nyq S → T (velocity_in_range lo) → T (within (div binary64 (over_end nyq lo) (width nyq S)))
end_within nyq lo S f g a h =
    let n = nyquist nyq f a in
    let w = wide nyq S n a.some a.few in
    let q = quotient nyq (over_end nyq lo) S n w (over_end_lem nyq lo n (speed lo g h)) a.few in
    is_within (div binary64 (over_end nyq lo) (width nyq S)) q.sign q.size q.has q.within

pub no_nan : (x y : Float) → T (le x y) → T (not (is_nan y))
unfolding le is_nan
no_nan nan y h = absurd h
no_nan (inf s) nan h = absurd h
no_nan (fin s m e) nan h = absurd h
no_nan (inf s) (inf t) h = tt
no_nan (inf s) (fin t n d) h = tt
no_nan (fin s m e) (inf t) h = tt
no_nan (fin s m e) (fin t n d) h = tt

-- ---- the plan
pub plan_is : (nyq lo hi w : Float) (S : ℕ) (a b n : ℤ) → w ≡ width nyq S → a ≡ ceiling_whole (div binary64 (over_start nyq hi) w) → b ≡ ceiling_whole (div binary64 (over_end nyq lo) w) → n ≡ pos (S + 1) +ℤ a +ℤ b
    → record { add_start = a; add_end = b; number = n } ≡ plan_of S (widened nyq (width nyq S) lo hi)
unfolding plan_of widened number
plan_is nyq lo hi w S a b n e p q r =
    let p' = p ∙ ap (λ (x : Float). ceiling_whole (div binary64 (over_start nyq hi) x)) e in
    let q' = q ∙ ap (λ (x : Float). ceiling_whole (div binary64 (over_end nyq lo) x)) e in
    let r' : n ≡ pos (S + 1) +ℤ ceiling_whole (div binary64 (over_start nyq hi) (width nyq S)) +ℤ ceiling_whole (div binary64 (over_end nyq lo) (width nyq S)) = r ∙ (λ i. pos (S + 1) +ℤ p' i +ℤ q' i) in
    λ i. record { add_start = p' i; add_end = q' i; number = r' i }

pub limits_are : (nyq w : Float) (S : ℕ) (a b n a' b' : ℤ) (k : ℕ) (out : List Float) → w ≡ width nyq S → a' ≡ a → b' ≡ b → k ≡ at_least0 n
    → front (spaced (sub binary64 (neg nyq) (mul binary64 (of_int binary64 a') w)) (add binary64 nyq (mul binary64 (of_int binary64 b') w)) k) out ≡ front (limits_of nyq S a b n) out
unfolding limits_of start_of end_of real
limits_are nyq w S a b n a' b' k out e p q r =
    λ i. front (spaced (sub binary64 (neg nyq) (mul binary64 (of_int binary64 (p i)) (e i))) (add binary64 nyq (mul binary64 (of_int binary64 (q i)) (e i))) (r i)) out

-- ---- what a caller of all four needs
pub plan_number : (r : Plan) (nyq : Float) (S : ℕ) (e e' : Option Extremes) → r ≡ plan_of S (adds nyq S e) → e ≡ e' → r.number ≡ number_for nyq S e'
unfolding plan_of number_for
plan_number r nyq S e e' p q = ap (λ (x : Plan). x.number) p ∙ ap (λ (x : Option Extremes). number S (adds nyq S x)) q

pub plan_limits_are : (r : Plan) (nyq : Float) (S : ℕ) (e e' : Option Extremes) → r ≡ plan_of S (adds nyq S e) → e ≡ e' → limits_of nyq S r.add_start r.add_end r.number ≡ limits_for nyq S e'
unfolding plan_of limits_for
plan_limits_are r nyq S e e' p q = ap (λ (x : Plan). limits_of nyq S x.add_start x.add_end x.number) p ∙ ap (λ (x : Option Extremes). limits_for nyq S x) q

pub cond_fair : (b : Bool) (x y : Float) → T (velocity_in_range x) → T (velocity_in_range y) → T (velocity_in_range (cond b x y))
cond_fair true x y h k = h
cond_fair false x y h k = k

least_fair : (x : Float) (l : List Float) → T (velocity_in_range x) → T (all velocity_in_range l) → T (velocity_in_range (least x l))
unfolding lesser least all
least_fair x [] f h = f
least_fair x (v ∷ l) f h = least_fair (cond (lt v x) v x) l (cond_fair (lt v x) v x (and_l (velocity_in_range v) (all velocity_in_range l) h) f) (and_r (velocity_in_range v) (all velocity_in_range l) h)

greatest_fair : (x : Float) (l : List Float) → T (velocity_in_range x) → T (all velocity_in_range l) → T (velocity_in_range (greatest x l))
unfolding greater greatest all
greatest_fair x [] f h = f
greatest_fair x (v ∷ l) f h = greatest_fair (cond (lt x v) v x) l (cond_fair (lt x v) v x (and_l (velocity_in_range v) (all velocity_in_range l) h) f) (and_r (velocity_in_range v) (all velocity_in_range l) h)

pub range_fair : (l : List Float) → T (all velocity_in_range l) → ExtremesInRange (range l)
unfolding range all
range_fair [] h = tt
range_fair (v ∷ l) h = (least_fair v l (and_l (velocity_in_range v) (all velocity_in_range l) h) (and_r (velocity_in_range v) (all velocity_in_range l) h), greatest_fair v l (and_l (velocity_in_range v) (all velocity_in_range l) h) (and_r (velocity_in_range v) (all velocity_in_range l) h))

pub over_fair : (e f : Option Extremes) → ExtremesInRange e → ExtremesInRange f → ExtremesInRange (over_both e f)
unfolding lesser greater over_both
over_fair None f h k = k
over_fair (Some e) None h k = h
over_fair (Some e) (Some f) h k = (cond_fair (lt f.least e.least) f.least e.least k.0 h.0, cond_fair (lt e.greatest f.greatest) f.greatest e.greatest k.1 h.1)
