-- THE LAW: for a sweep that passes questions 5 to 8 no limit is below the one before it. Assumes nothing.
use Rattle.std.proofs.Common.{◌≡◌, ℕ, zero, suc, ◌+◌, ◌*◌, ◌<◌, ◌≤◌, Bool, true, false, cond, T, eqb, List, [], ◌∷◌, ◌++◌, length, get_or, Option, Some, None, ℤ, pos, ◌+ℤ◌, sym, refl, ap, ◌∙◌, subst, inl, inr, le_trans, le_of_eq, eq-or-lt_of_le, zero-mul, arith, lit≤, length-append}
use lib.ListN.{get_or-append}
use lib.Seq.{get_or_at}
use lib.Ieee.{Float, nan, binary32, binary64, mul, lt, le, fits}
use lib.Ieee.Fits.{add-fits, cond-fits, fits_widens}
use Rattle.arithmetic.specs.Rounding.{real}
use Rattle.arithmetic.specs.declared.intervals.Extremes.{Extremes}
use Rattle.arithmetic.specs.Intervals.{velocity_in_range, valid, lesser, greater, least, greatest, range, over_both, width, over_start, over_end, beyond, widened, no_adds, adds, number, spaced, step_of, limit_at, at_least0, start_of, end_of, limits_of, limits_for, number_for}
use Rattle.arithmetic.proofs.Units.{tiny}
use Rattle.arithmetic.proofs.Plans.{range_fair}
use Rattle.arithmetic.proofs.Quotient.{Nyquist, nyquist, Wide, wide, speed, over_start_lem, over_end_lem, Add, add_of}
use Rattle.arithmetic.proofs.Steps.{rise, last}
use Rattle.arithmetic.proofs.Ends.{start_end, end_end, gap}
use Rattle.arithmetic.specs.Inside.Asked.{Asked, ExtremesInRange, Held, Rising}
use Rattle.lists.specs.Seq.{tabulate, all}
use Rattle.lists.proofs.SeqLaws.{tab_length, tab_at}

-- a list that grows to its k-th, and one more that is no less
grows : (f : ℕ → Float) (e : Float) (k : ℕ) → ((i : ℕ) → suc i ≤ k → T (le (f i) (f (suc i)))) → T (le (f k) e) → Rising (tabulate (suc k) f ++ (e ∷ []))
grows f e k h g i p =
    let n : length (tabulate (suc k) f) ≡ suc k = tab_length f (suc k) in
    let l : i ≤ k = less i k (subst (λ (z : ℕ). suc i < z) (length-append (tabulate (suc k) f) (e ∷ []) ∙ ap (λ (z : ℕ). z + 1) n) p) in
    elim (eq-or-lt_of_le l) [
      | inl q ↦
          subst (λ (x : Float). T (le x (get_or (tabulate (suc k) f ++ (e ∷ [])) (suc i) nan))) (sym (inner i (up i k l) n))
          (subst (λ (x : Float). T (le (f i) x)) (sym (get_or_at (tabulate (suc k) f) e [] nan (suc i) (n ∙ ap suc (sym q)))) (subst (λ (j : ℕ). T (le (f j) e)) (sym q) g))
      | inr q ↦
          subst (λ (x : Float). T (le x (get_or (tabulate (suc k) f ++ (e ∷ [])) (suc i) nan))) (sym (inner i (up i k l) n))
          (subst (λ (x : Float). T (le (f i) x)) (sym (inner (suc i) (up (suc i) k q) n)) (h i q))
    ]
  where
    less : (i k : ℕ) → suc i < suc k + 1 → i ≤ k
    less i k h = omega arith

    up : (i k : ℕ) → i ≤ k → i < suc k
    up i k h = omega arith

    inner : (i : ℕ) → i < suc k → length (tabulate (suc k) f) ≡ suc k → get_or (tabulate (suc k) f ++ (e ∷ [])) i nan ≡ f i
    inner i h n = get_or-append (tabulate (suc k) f) (e ∷ []) nan i (subst (λ (z : ℕ). i < z) (sym n) h) ∙ tab_at f (suc k) i nan h

-- ---- the limits of two adds
end_fits : (nyq w : Float) (b : ℤ) → T (fits binary64 (end_of nyq w b))
unfolding end_of
end_fits nyq w b = add-fits binary64 nyq (mul binary64 (real b) w)

module _ (nyq : Float) (S : ℕ) (n : Nyquist nyq) (w : Wide nyq n.size S) (a b : ℤ) (few : S ≤ 9999) (p : Add a w.size) (r : Add b w.size) where
  rising_of : (N : ℕ) → at_least0 (pos (S + 1) +ℤ a +ℤ b) ≡ N → N ≤ 10000 → Rising (spaced (start_of nyq (width nyq S) a) (end_of nyq (width nyq S) b) N)
  unfolding spaced
  rising_of zero h l i k = absurd (no i k)
    where
      no : (i : ℕ) → suc i < 0 → ⊥
      no i k = omega arith
  rising_of (suc zero) h l i k = absurd (no i k)
    where
      no : (i : ℕ) → suc i < 1 → ⊥
      no i k = omega arith
  rising_of (suc (suc k)) h l i o =
      let s = start_end nyq S n w a p in
      let e = end_end nyq S n w b r in
      let g = gap nyq S k n w a b few p r h in
      let st = start_of nyq (width nyq S) a in
      let en = end_of nyq (width nyq S) b in
      let fe : T (fits binary64 en) = end_fits nyq (width nyq S) b in
      let c : k ≤ 9998 = less k l in
      grows (limit_at st (step_of st en (suc k))) en k
      (rise st en s.q s.m e.q e.m g.δ k s.at e.at fe g.is g.low g.high c)
      (last st en s.q s.m e.q e.m g.δ k s.at e.at fe g.is g.low g.high c) i o
    where
      less : (k : ℕ) → suc (suc k) ≤ 10000 → k ≤ 9998
      less k l = omega arith

  limits_rise : at_least0 (pos (S + 1) +ℤ a +ℤ b) ≤ 10000 → Rising (limits_of nyq S a b (pos (S + 1) +ℤ a +ℤ b))
  unfolding limits_of
  limits_rise h = rising_of (at_least0 (pos (S + 1) +ℤ a +ℤ b)) refl h

-- ---- the adds of a sweep
no_add : (W : ℕ) → Add (pos 0) W
no_add W = record { whole = lit≤ tt; wide = le_trans (le_of_eq (zero-mul W)) (none (562949953421312 * tiny)) }
  where
    none : (x : ℕ) → 0 ≤ x
    none x = omega arith

adds_of : (nyq : Float) (S : ℕ) (e : Option Extremes) (n : Nyquist nyq) (w : Wide nyq n.size S) → 1 ≤ S → S ≤ 9999 → Held e → ExtremesInRange e → Add (adds nyq S e).start w.size × Add (adds nyq S e).end w.size
unfolding adds no_adds widened
adds_of nyq S None n w some few f h = (no_add w.size, no_add w.size)
adds_of nyq S (Some e) n w some few f h = go e.least e.greatest f h (beyond nyq e.least e.greatest)
  where
    go : (lo hi : Float) → T (fits binary64 lo) × T (fits binary64 hi) → T (velocity_in_range lo) × T (velocity_in_range hi) → (b : Bool)
        → Add (cond b (widened nyq (width nyq S) lo hi) no_adds).start w.size × Add (cond b (widened nyq (width nyq S) lo hi) no_adds).end w.size
    go lo hi f h true = (
      add_of nyq (over_start nyq hi) S n w (over_start_lem nyq hi n (speed hi f.1 h.1)) some few,
      add_of nyq (over_end nyq lo) S n w (over_end_lem nyq lo n (speed lo f.0 h.0)) some few,
    )
    go lo hi f h false = (no_add w.size, no_add w.size)

limits_never_fall : (nyq : Float) (S : ℕ) (e : Option Extremes) → T (fits binary64 nyq) → Held e → Asked nyq S → ExtremesInRange e → at_least0 (number S (adds nyq S e)) ≤ 10000 → Rising (limits_for nyq S e)
unfolding limits_for number
limits_never_fall nyq S e f g a h l =
    let n = nyquist nyq f a in
    let w = wide nyq S n a.some a.few in
    let d = adds_of nyq S e n w a.some a.few g h in
    limits_rise nyq S n w (adds nyq S e).start (adds nyq S e).end a.few d.0 d.1 l

-- ---- the extremes of floats that an f64 holds are held
abbrev AllHeld : List Float → Type 0
AllHeld [] = Unit {0}
AllHeld (v ∷ vs) = T (fits binary64 v) × AllHeld vs

least_held : (x : Float) (l : List Float) → T (fits binary64 x) → AllHeld l → T (fits binary64 (least x l))
unfolding lesser least
least_held x [] f h = f
least_held x (v ∷ l) f h = least_held (cond (lt v x) v x) l (cond-fits binary64 (lt v x) v x h.0 f) h.1

greatest_held : (x : Float) (l : List Float) → T (fits binary64 x) → AllHeld l → T (fits binary64 (greatest x l))
unfolding greater greatest
greatest_held x [] f h = f
greatest_held x (v ∷ l) f h = greatest_held (cond (lt x v) v x) l (cond-fits binary64 (lt x v) v x h.0 f) h.1

range_held : (l : List Float) → AllHeld l → Held (range l)
unfolding range
range_held [] h = tt
range_held (v ∷ l) h = (least_held v l h.0 h.1, greatest_held v l h.0 h.1)

valid_held : (vs : List Float) (ms : List ℕ) → AllHeld vs → AllHeld (valid vs ms)
unfolding valid
valid_held [] ms h = tt
valid_held (v ∷ vs) [] h = tt
valid_held (v ∷ vs) (m ∷ ms) h = go (eqb m 1) (valid_held vs ms h.1)
  where
    go : (b : Bool) → AllHeld (valid vs ms) → AllHeld (cond b (v ∷ valid vs ms) (valid vs ms))
    go true k = (h.0, k)
    go false k = k

-- ---- as an entry has it: what a slice of f32 holds, and questions 5 to 8
slice_held : (vs : List Float) → ((i : ℕ) → T (fits binary32 (get_or vs i nan))) → AllHeld vs
slice_held [] h = tt
slice_held (v ∷ vs) h = (fits_widens v (h 0), slice_held vs (λ (i : ℕ). h (suc i)))

pub slice_range_held : (vs : List Float) (ms : List ℕ) → ((i : ℕ) → T (fits binary32 (get_or vs i nan))) → Held (range (valid vs ms))
slice_range_held vs ms h = range_held (valid vs ms) (valid_held vs ms (slice_held vs h))

pub asked_limits_rise : (nyq : Float) (S : ℕ) (e : Option Extremes) → T (fits binary32 nyq) → Held e → Asked nyq S → ExtremesInRange e → at_least0 (number_for nyq S e) ≤ 10000 → Rising (limits_for nyq S e)
unfolding number_for
asked_limits_rise nyq S e f g a h l = limits_never_fall nyq S e (fits_widens nyq f) g a h l

pub sweep_limits_rise : (nyq : Float) (S : ℕ) (vs : List Float) (ms : List ℕ) → T (fits binary32 nyq) → ((i : ℕ) → T (fits binary32 (get_or vs i nan))) → Asked nyq S → T (all velocity_in_range (valid vs ms))
    → at_least0 (number_for nyq S (range (valid vs ms))) ≤ 10000 → Rising (limits_for nyq S (range (valid vs ms)))
sweep_limits_rise nyq S vs ms f h a g l = asked_limits_rise nyq S (range (valid vs ms)) f (slice_range_held vs ms h) a (range_fair (valid vs ms) g) l
