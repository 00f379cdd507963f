-- The rounded mean of counts that are at most 1,000 either way is at most 1,000 either way. Assumes nothing.
use Prim.Native.Nat.{ℕ, zero, suc, ◌+◌, ◌-◌, ◌*◌, ◌^◌, ◌≤◌, ◌<◌}
use native.Mathlib.Omega.{arith}
use native.Mathlib.Nat.{mul-le-mul_left, mul-one}
use mathlib.Core.Path.{◌≡◌, refl, ◌∙◌, subst}
use mathlib.Core.Bool.{Bool, true, false, cond}
use mathlib.Core.List.{List, [], ◌∷◌}
use lib.Dec.{T, ltb, leb, lit<}
use lib.IntN.{ℤ, pos, negsuc, nat_abs, sub_ℕ, ◌+ℤ◌, ◌*ℤ◌}
use lib.Ieee.{Float, nan, inf, fin, binary64, up, down, round, div, le}
use lib.Ieee.Exact.{HasValue}
use lib.Ieee.Fits.{down_pos}
use lib.Ieee.Nearest.{closest, closest_mono}
use lib.Ieee.Scale.{round_same}
use borrow.Author.Tests.{ltb-true}
use Rattle.lists.specs.Seq.{All}
use Rattle.memory.specs.Size.{gates_of_largest}
use Rattle.arithmetic.specs.Rounding.{signed, nearest_whole, within, if_within, round_even, real}
use Rattle.arithmetic.specs.Evaluating.{evaluating}
use Rattle.arithmetic.proofs.NearHalf.{abs_neg}
use Rattle.arithmetic.proofs.Signed.{plus, minus, values_le, round_le, div_values}
use Rattle.arithmetic.proofs.Units.{whole_has, minus_has}
use Rattle.network.specs.Network.{Region, gates_of}
use Rattle.sweep.specs.Sweep.{weighed, or_zero, mean_of}
use Rattle.sweep.proofs.SignedLaws.{signed_abs}

-- ---- sizes of whole numbers

-- a difference of two numbers is at most as large as both together
abs_sub : (a b : ℕ) → nat_abs (sub_ℕ a b) ≤ a + b
abs_sub a b = go (ltb a b) refl
  where
    go : (c : Bool) → ltb a b ≡ c → nat_abs (cond c (negsuc (b - suc a)) (pos (a - b))) ≤ a + b
    go true e = omega (arith, ltb-true a b e)
    go false e = omega arith

-- a sum is at most as large as its parts together
pub abs_add : (y z : ℤ) → nat_abs (y +ℤ z) ≤ nat_abs y + nat_abs z
abs_add (pos a) (pos b) = omega arith
abs_add (pos a) (negsuc b) = abs_sub a (suc b)
abs_add (negsuc a) (pos b) = omega (arith, abs_sub b (suc a))
abs_add (negsuc a) (negsuc b) = omega arith

-- a product is as large as the product of the sizes
abs_times : (n : ℕ) (z : ℤ) → nat_abs (pos n *ℤ z) ≡ n * nat_abs z
abs_times n (pos b) = refl
abs_times n (negsuc b) = abs_neg (pos (n * suc b))

-- ---- the sum of size times count

-- a region whose count is at most 1,000 either way
abbrev pub Near : Region → Type 0
Near r = nat_abs r.count ≤ 1000

-- sizes times such counts sum to at most 1,000 times the gates
weighed_near : (rs : List Region) → All Near rs → nat_abs (weighed rs) ≤ 1000 * gates_of rs
unfolding weighed gates_of
weighed_near [] t = omega arith
weighed_near (r ∷ rs) t = omega (arith, abs_add (pos r.size *ℤ r.count) (weighed rs), abs_times r.size r.count, mul-le-mul_left r.size t.0, weighed_near rs t.1)

-- ---- rounding

-- 1,000 and -1,000 are floats
thousand : (s : Bool) → round binary64 s 1000 1 ≡ fin s 125 (pos 3)
unfolding evaluating
thousand true = refl
thousand false = refl

-- a float from -1,000 to 1,000 rounds to a whole number from -1,000 to 1,000
between_near : (x : Float) → T (le x (fin false 125 (pos 3))) → T (le (fin true 125 (pos 3)) x) → nat_abs (or_zero (round_even x)) ≤ 1000
unfolding or_zero within nearest_whole
between_near nan h k = omega arith
between_near (inf s) h k = omega arith
between_near (fin s m e) h k = go (leb (m * up e) (2 ^ 30 * down e))
  where
    top : (t : Bool) → HasValue (fin t 125 (pos 3)) t (1000 * down e) (down e)
    top t = (refl, omega arith)

    sides : (t : Bool) (a b : ℕ) → plus t a + 0 ≤ b + minus t a → 0 + minus t a ≤ plus t a + b → a ≤ b
    sides true a b p q = omega arith
    sides false a b p q = omega arith

    size : m * up e ≤ 1000 * down e
    size = sides s (m * up e) (1000 * down e)
        (values_le (fin s m e) (fin false 125 (pos 3)) s false (m * up e) (1000 * down e) (down e) (down_pos e) (refl, refl) (top false) h)
        (values_le (fin true 125 (pos 3)) (fin s m e) true s (1000 * down e) (m * up e) (down e) (down_pos e) (top true) (refl, refl) k)

    go : (b : Bool) → nat_abs (or_zero (if_within b (signed s (closest (m * up e) (down e))))) ≤ 1000
    go true = omega (arith, signed_abs s (closest (m * up e) (down e)), closest_mono (m * up e) (down e) 1000 1 (down_pos e) (lit< tt) (omega (arith, size)))
    go false = omega arith

-- a quotient of at most 1,000, rounded to a float and then to a whole number, is at most 1,000
quotient_near : (s : Bool) (a c : ℕ) → 0 < c → a ≤ 1000 * c → nat_abs (or_zero (round_even (round binary64 s a c))) ≤ 1000
quotient_near s a c C h = between_near (round binary64 s a c)
    (subst (λ (y : Float). T (le (round binary64 s a c) y)) (top false) (round_le binary64 s false a (1000 * c) c C (upper s)))
    (subst (λ (y : Float). T (le y (round binary64 s a c))) (top true) (round_le binary64 true s (1000 * c) a c C (lower s)))
  where
    top : (t : Bool) → round binary64 t (1000 * c) c ≡ fin t 125 (pos 3)
    top t = round_same binary64 t (1000 * c) c 1000 1 C (lit< tt) (mul-one (1000 * c)) ∙ thousand t

    upper : (t : Bool) → plus t a + 0 ≤ 1000 * c + minus t a
    upper true = omega arith
    upper false = omega arith

    lower : (t : Bool) → 0 + minus t a ≤ plus t a + 1000 * c
    lower true = omega arith
    lower false = omega arith

-- 0 / 0 is no number, and counts as 0
none_over : or_zero (round_even (div binary64 (real (pos 0)) (real (pos 0)))) ≡ pos 0
unfolding evaluating or_zero
none_over = refl

-- a whole number of at most 1,000 times the gates, divided by the gates and rounded, is at most 1,000; without gates it is 0
over_near : (z : ℤ) (n : ℕ) → nat_abs z ≤ 1000 * n → n ≤ gates_of_largest → nat_abs (or_zero (round_even (div binary64 (real z) (real (pos n))))) ≤ 1000
over_near (pos zero) zero h k = rw none_over (omega arith)
over_near (pos (suc m)) zero h k = absurd (omega arith)
over_near (negsuc m) zero h k = absurd (omega arith)
over_near (pos m) (suc n) h k = rw (div_values binary64 (real (pos m)) (real (pos (suc n))) false m 1 (suc n) 1 (lit< tt) (lit< tt) (omega arith) (unfold real in whole_has m (omega arith)) (unfold real in whole_has (suc n) (omega arith)))
    (quotient_near false (m * 1) (1 * suc n) (omega arith) (omega arith))
over_near (negsuc m) (suc n) h k = rw (div_values binary64 (real (negsuc m)) (real (pos (suc n))) true (suc m) 1 (suc n) 1 (lit< tt) (lit< tt) (omega arith) (unfold real in minus_has m (omega arith)) (unfold real in whole_has (suc n) (omega arith)))
    (quotient_near true (suc m * 1) (1 * suc n) (omega arith) (omega arith))

-- the mean of regions' counts that are at most 1,000 either way is so too
pub mean_within : (rs : List Region) → All Near rs → gates_of rs ≤ gates_of_largest → nat_abs (mean_of rs) ≤ 1000
unfolding mean_of
mean_within rs t few = over_near (weighed rs) (gates_of rs) (weighed_near rs t) few
