-- The median by its meaning: of values that are numbers it is one of them, with fewer than half of them below it and at most half above it.
-- Assumes nothing.
use Prim.Native.Nat.{ℕ, zero, suc, ◌+◌, ◌-◌, ◌*◌, ◌/◌, ◌≤◌, ◌<◌}
use native.Mathlib.Omega.{arith}
use native.Mathlib.Nat.{mul-pos}
use mathlib.Core.Path.{◌≡◌, refl, sym, ap, ◌∙◌, subst}
use mathlib.Core.Logic.{inl, inr}
use mathlib.Core.Bool.{Bool, true, false, cond, true≢false}
use mathlib.Core.List.{List, [], ◌∷◌}
use lib.ListN.{length, get_or}
use lib.Ieee.{Float, nan, inf, fin, up, down, below, lt, le, is_nan}
use lib.Ieee.Fits.{down_pos}
use borrow.Author.Tests.{ltb-false}
use Rattle.lists.specs.Seq.{keep, All, Member}
use Rattle.lists.proofs.SeqLaws.{keep_every, keep_most}
use Rattle.lists.proofs.AllLaws.{all_weaker, all_index}
use Rattle.arithmetic.proofs.Signed.{plus, minus, le_values}
use Rattle.labels.proofs.FloatOrder.{lt_le, lt_not_le, of_T}
use Rattle.arithmetic.specs.Intervals.{lesser, greater}
use Rattle.window.specs.Median.{infinity, place, placed, median, Number, count, Middle}
use Rattle.window.proofs.MedianLaws.{middle_at, half_is}

-- ---- the order of numbers

-- ±b that is not below ±a is at least ±a
not_below : (s t : Bool) (a b : ℕ) → below t b s a ≡ false → plus s a + minus t b ≤ plus t b + minus s a
not_below false false a b h = let l : a ≤ b = ltb-false b a h in omega arith
not_below true true a b h = let l : b ≤ a = ltb-false a b h in omega arith
not_below false true a b h = let l : b + a ≤ 0 = ltb-false 0 (b + a) h in omega arith
not_below true false a b h = omega arith

-- a number that is not below another is at least that one
number_le : (x y : Float) → Number x → Number y → lt y x ≡ false → le x y ≡ true
unfolding lt le is_nan
number_le nan y a b h = absurd (true≢false a)
number_le (inf s) nan a b h = absurd (true≢false b)
number_le (inf true) (inf true) a b h = refl
number_le (inf true) (inf false) a b h = refl
number_le (inf false) (inf true) a b h = absurd (true≢false h)
number_le (inf false) (inf false) a b h = refl
number_le (inf true) (fin t n d) a b h = refl
number_le (inf false) (fin t n d) a b h = absurd (true≢false h)
number_le (fin s m e) nan a b h = absurd (true≢false b)
number_le (fin s m e) (inf true) a b h = absurd (true≢false h)
number_le (fin s m e) (inf false) a b h = refl
number_le (fin s m e) (fin t n d) a b h =
    let A = m * up e * down d in
    let B = n * up d * down e in
    of_T (le (fin s m e) (fin t n d)) (le_values (fin s m e) (fin t n d) s t A B (down e * down d) (mul-pos (down_pos e) (down_pos d)) (refl, omega arith) (refl, omega arith) (not_below s t A B h))

-- of two, where the first is below the second, the second is not below the first
asymmetric : (x y : Float) → lt x y ≡ true → lt y x ≡ false
unfolding le
asymmetric x y h = go (lt y x) refl
  where
    go : (b : Bool) → lt y x ≡ b → b ≡ false
    go true e = absurd (lt_not_le x y h (rw e refl))
    go false e = refl

-- no value is below itself
not_itself : (x : Float) → lt x x ≡ false
not_itself x = go (lt x x) refl
  where
    go : (b : Bool) → lt x x ≡ b → b ≡ false
    go true e = sym e ∙ asymmetric x x e
    go false e = refl

-- where y is not below x, and z not below y, z is not below x
not_below_either : (x y z : Float) → Number x → Number y → lt y x ≡ false → lt z y ≡ false → lt z x ≡ false
not_below_either x y z a b h k = go (lt z x) refl
  where
    go : (c : Bool) → lt z x ≡ c → c ≡ false
    go true e = sym (lt_le z x y e (number_le x y a b h)) ∙ k
    go false e = refl

-- a number that is put after all others stands there itself
stands : (x : Float) → Number x → lesser x infinity ≡ x
unfolding lesser lt is_nan
stands nan n = absurd (true≢false n)
stands (inf true) n = refl
stands (inf false) n = refl
stands (fin s m e) n = refl

-- the lesser of two and the greater are these two
both : (P : Float → Type 0) (x y : Float) → P x → P y → P (lesser x y) × P (greater x y)
unfolding lesser greater
both P x y a b = go (lt x y)
  where
    go : (c : Bool) → P (cond c x y) × P (cond c y x)
    go true = (a, b)
    go false = (b, a)

-- the greater is not below the lesser
lesser_first : (x y : Float) → lt (greater x y) (lesser x y) ≡ false
unfolding lesser greater
lesser_first x y = go (lt x y) refl
  where
    go : (c : Bool) → lt x y ≡ c → lt (cond c y x) (cond c x y) ≡ false
    go true e = asymmetric x y e
    go false e = e

-- what is not below y is not below the lesser
lesser_under : (x y z : Float) → Number x → Number y → lt z y ≡ false → lt z (lesser x y) ≡ false
unfolding lesser
lesser_under x y z a b h = go (lt x y) refl
  where
    go : (c : Bool) → lt x y ≡ c → lt z (cond c x y) ≡ false
    go true e = not_below_either x y z a b (asymmetric x y e) h
    go false e = h

-- ---- values in their places

-- what holds of numbers holds of them in their places
all_place : (P : Float → Type 0) (x : Float) (l : List Float) → Number x → All Number l → P x → All P l → All P (place x l)
unfolding place
all_place P x [] a n p h = (rw (stands x a) p, tt)
all_place P x (y ∷ l) a n p h = let q = both P x y p h.0 in (q.0, all_place P (greater x y) l (both Number x y a n.0).1 n.1 q.1 h.1)

number_place : (x : Float) (l : List Float) → Number x → All Number l → All Number (place x l)
number_place x l a n = all_place Number x l a n a n

all_placed : (P : Float → Type 0) (s vs : List Float) → All Number s → All Number vs → All P s → All P vs → All P (placed s vs)
unfolding placed
all_placed P s [] m n h k = h
all_placed P s (v ∷ vs) m n h k = all_placed P (place v s) vs (number_place v s n.0 m) n.1 (all_place P v s n.0 m k.0 h) k.1

-- values that never fall
abbrev NeverFall : List Float → Type 0
NeverFall [] = Unit {0}
NeverFall (x ∷ l) = All (λ y. lt y x ≡ false) l × NeverFall l

never_place : (x : Float) (l : List Float) → Number x → All Number l → NeverFall l → NeverFall (place x l)
unfolding place
never_place x [] a n r = (tt, tt)
never_place x (y ∷ l) a n r =
    let b = (both Number x y a n.0).1 in
    let rest = all_weaker (λ z. lt z y ≡ false) (λ z. lt z (lesser x y) ≡ false) (λ z h. lesser_under x y z a n.0 h) l r.0 in
    (all_place (λ z. lt z (lesser x y) ≡ false) (greater x y) l b n.1 (lesser_first x y) rest, never_place (greater x y) l b n.1 r.1)

never_placed : (s vs : List Float) → All Number s → All Number vs → NeverFall s → NeverFall (placed s vs)
unfolding placed
never_placed s [] m n r = r
never_placed s (v ∷ vs) m n r = never_placed (place v s) vs (number_place v s n.0 m) n.1 (never_place v s n.0 m r)

-- ---- how many of them pass a test

-- 1 for a yes, 0 for a no
unfoldable tally : Bool → ℕ
tally true = 1
tally false = 0

tally_most : (b : Bool) → tally b ≤ 1
unfolding tally
tally_most true = omega arith
tally_most false = omega arith

tally_no : (b : Bool) → b ≡ false → tally b ≡ 0
unfolding tally
tally_no b e = rw e refl

module _ (p : Float → Bool) where
  count_nil : count p [] ≡ 0
  unfolding keep
  count_nil = refl

  count_more : (x : Float) (l : List Float) → count p (x ∷ l) ≡ tally (p x) + count p l
  unfolding keep tally
  count_more x l = go (p x)
    where
      go : (b : Bool) → length (cond b (x ∷ keep p l) (keep p l)) ≡ tally b + length (keep p l)
      go true = omega arith
      go false = omega arith

  count_none : (l : List Float) → All (λ y. p y ≡ false) l → count p l ≡ 0
  count_none [] a = count_nil
  count_none (x ∷ l) a = omega (arith, count_more x l, tally_no (p x) a.0, count_none l a.1)

  -- the lesser and the greater together count as the two
  tally_both : (x y : Float) → tally (p (lesser x y)) + tally (p (greater x y)) ≡ tally (p x) + tally (p y)
  unfolding lesser greater
  tally_both x y = go (lt x y)
    where
      go : (c : Bool) → tally (p (cond c x y)) + tally (p (cond c y x)) ≡ tally (p x) + tally (p y)
      go true = refl
      go false = omega arith

  -- placing a value loses none
  count_place : (x : Float) (l : List Float) → Number x → All Number l → count p (place x l) ≡ tally (p x) + count p l
  unfolding place
  count_place x [] a n = rw (stands x a) (count_more x [])
  count_place x (y ∷ l) a n =
      omega (arith, count_more (lesser x y) (place (greater x y) l), count_place (greater x y) l (both Number x y a n.0).1 n.1, tally_both x y, count_more y l)

  count_on : (s vs : List Float) → All Number s → All Number vs → count p (placed s vs) ≡ count p s + count p vs
  unfolding placed
  count_on s [] m n = omega (arith, count_nil)
  count_on s (v ∷ vs) m n = omega (arith, count_on (place v s) vs (number_place v s n.0 m) n.1, count_place v s n.0 m, count_more v vs)

  count_placed : (vs : List Float) → All Number vs → count p (placed [] vs) ≡ count p vs
  count_placed vs n = omega (arith, count_on [] vs tt n, count_nil)

-- as many values as before
length_placed : (vs : List Float) → All Number vs → length (placed [] vs) ≡ length vs
length_placed vs n = sym (every (placed [] vs)) ∙ count_placed (λ v. true) vs n ∙ every vs
  where
    every : (l : List Float) → count (λ v. true) l ≡ length l
    every l = ap length (keep_every (λ v. true) l (λ v. refl))

-- ---- the value at index j of values that never fall

-- at most j of them are below it
below_at : (l : List Float) (j : ℕ) → j < length l → NeverFall l → count (λ v. lt v (get_or l j nan)) l ≤ j
below_at [] j h r = absurd (omega arith)
below_at (x ∷ l) zero h r = omega (arith, count_more (λ v. lt v x) x l, tally_no (lt x x) (not_itself x), count_none (λ v. lt v x) l r.0)
below_at (x ∷ l) (suc j) h r =
    let p : Float → Bool = λ v. lt v (get_or l j nan) in
    omega (arith, count_more p x l, tally_most (p x), below_at l j (omega arith) r.1)

-- it and j more are not above it
above_at : (l : List Float) (j : ℕ) → j < length l → NeverFall l → count (λ v. lt (get_or l j nan) v) l + suc j ≤ length l
above_at [] j h r = absurd (omega arith)
above_at (x ∷ l) zero h r = omega (arith, count_more (λ v. lt x v) x l, tally_no (lt x x) (not_itself x), keep_most (λ v. lt x v) l)
above_at (x ∷ l) (suc j) h r =
    let p : Float → Bool = λ v. lt (get_or l j nan) v in
    let k : j < length l = omega arith in
    omega (arith, count_more p x l, tally_no (p x) (all_index (λ y. lt y x ≡ false) l nan r.0 j k), above_at l j k r.1)

-- ---- the median

-- each value is one of them
members : (l : List Float) → All (λ v. Member v l) l
members [] = tt
members (x ∷ l) = (inl refl, all_weaker (λ v. Member v l) (λ v. Member v (x ∷ l)) (λ v m. inr m) l (members l))

-- the value at the lower middle index
at_half : (vs : List Float) → All Number vs → (j : ℕ) → 2 * j < length (placed [] vs) → length (placed [] vs) ≤ 2 * j + 2 → Middle (get_or (placed [] vs) j nan) vs
at_half vs n j a b =
    let l = placed [] vs in
    let x = get_or l j nan in
    let long = length_placed vs n in
    let h : j < length l = omega arith in
    let never = never_placed [] vs tt n tt in
    record {
      one = all_index (λ v. Member v vs) l nan (all_placed (λ v. Member v vs) [] vs tt n tt (members vs)) j h;
      below = omega (arith, count_placed (λ v. lt v x) vs n, below_at l j h never);
      above = omega (arith, count_placed (λ v. lt x v) vs n, above_at l j h never);
    }

-- the median is the middle one
pub median_middle : (vs : List Float) → 0 < length vs → All Number vs → Middle (median vs) vs
unfolding median
median_middle vs some n =
    let l = placed [] vs in
    let k : 0 < length l = omega (arith, length_placed vs n) in
    let half = half_is (length l) k in
    subst (λ (x : Float). Middle x vs) (sym (middle_at l k)) (at_half vs n ((length l - 1) / 2) half.0 half.1)
