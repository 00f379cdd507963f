-- What the contracts on limits ask, and what is known of limits.
use Rattle.std.specs.Prelude.{ℕ, suc, ◌<◌, ◌≤◌, false, T, List, ◌++◌, length, drop, pos, negsuc, slice_index_or, Float, Option, Some, None}
use Rattle.std.specs.Float.{nan, fin, binary64}
use Rattle.std.specs.Float.Ieee.{le, fits}
use Rattle.arithmetic.specs.declared.intervals.Extremes.{Extremes}
use Rattle.arithmetic.specs.Intervals.{velocity_in_range}

-- questions 5 and 6, of Nyquist and splits
pub record Asked (nyq : Float) (splits : ℕ) : Type 0 where
  pub low : T (le (fin false 1 (negsuc 2)) nyq)
  pub high : T (le nyq (fin false 1 (pos 10)))
  pub some : 1 ≤ splits
  pub few : splits ≤ 9999

-- question 7, of the least and the greatest
abbrev pub ExtremesInRange : Option Extremes → Type 0
ExtremesInRange None = Unit {0}
ExtremesInRange (Some e) = T (velocity_in_range e.least) × T (velocity_in_range e.greatest)

-- what an f64 can hold
abbrev pub Held : Option Extremes → Type 0
Held None = Unit {0}
Held (Some e) = T (fits binary64 e.least) × T (fits binary64 e.greatest)

-- limits that never fall
abbrev pub Rising : List Float → Type 0
Rising l = (i : ℕ) → suc i < length l → T (le (slice_index_or l i nan) (slice_index_or l (suc i) nan))

-- a list at the front of a lent slice, whose other places are as before
unfoldable pub front : List Float → List Float → List Float
front l w = l ++ drop (length l) w
