-- intervals.rs: the least and the greatest valid velocity, the adds, and the limits. Arithmetic is f64, one rounding an operation.
--
use Rattle.std.specs.Prelude.{ℕ, zero, suc, ◌+◌, Bool, true, false, cond, ◌&&◌, ◌||◌, List, [], ◌∷◌, ◌++◌, ℤ, pos, negsuc, ◌+ℤ◌, ◌==◌, Float, Option, Some, None}
use Rattle.std.specs.Float.{fin, binary64}
use Rattle.std.specs.Float.Ieee.{add, sub, mul, div, neg, lt, le}
use Rattle.lists.specs.Seq.{tabulate}
use Rattle.arithmetic.specs.Rounding.{ceiling_whole, real}
use Rattle.arithmetic.specs.declared.intervals.Extremes.{Extremes}
use Rattle.arithmetic.specs.declared.intervals.Plan.{Plan}

-- the velocities at valid gates, whose mask byte is 1
unfoldable pub valid : List Float → List ℕ → List Float
valid [] ms = []
valid (v ∷ vs) [] = []
valid (v ∷ vs) (m ∷ ms) = cond (m == 1) (v ∷ valid vs ms) (valid vs ms)

-- the lesser of two
unfoldable pub lesser : Float → Float → Float
lesser x y = cond (lt x y) x y

-- the other one
unfoldable pub greater : Float → Float → Float
greater x y = cond (lt x y) y x

-- the least of x and the rest
unfoldable pub least : Float → List Float → Float
least x [] = x
least x (v ∷ vs) = least (lesser v x) vs

-- the greatest of x and the rest
unfoldable pub greatest : Float → List Float → Float
greatest x [] = x
greatest x (v ∷ vs) = greatest (greater x v) vs

-- a range from lo to hi
abbrev pub both : Float → Float → Option Extremes
both lo hi = Some (record { least = lo; greatest = hi })

-- the least and the greatest, or that none is valid
unfoldable pub range : List Float → Option Extremes
range [] = None
range (v ∷ vs) = both (least v vs) (greatest v vs)

-- the least and the greatest over two ranges
unfoldable pub over_both : Option Extremes → Option Extremes → Option Extremes
over_both None f = f
over_both (Some e) None = Some e
over_both (Some e) (Some f) = both (lesser f.least e.least) (greater e.greatest f.greatest)

-- a range with one velocity more
abbrev pub include : Option Extremes → Float → Option Extremes
include e v = over_both e (both v v)

-- 2 × Nyquist
unfoldable pub two_nyquist : Float → Float
two_nyquist nyq = mul binary64 (real (pos 2)) nyq

-- the width of an interval
unfoldable pub width : Float → ℕ → Float
width nyq splits = div binary64 (two_nyquist nyq) (real (pos splits))

-- whether a valid velocity is above Nyquist or below -Nyquist
unfoldable pub beyond : Float → Float → Float → Bool
beyond nyq lo hi = lt nyq hi || lt lo (neg nyq)

-- what add_start is the ceiling of, before the division by the width
unfoldable pub over_start : Float → Float → Float
over_start nyq hi = sub binary64 hi nyq

-- and add_end
unfoldable pub over_end : Float → Float → Float
over_end nyq lo = neg (add binary64 lo nyq)

-- add_start and add_end
pub record Adds : Type 0 where
  pub start : ℤ
  pub end : ℤ

-- the adds where a velocity is beyond Nyquist: a high velocity lowers the start
unfoldable pub widened : Float → Float → Float → Float → Adds
widened nyq w lo hi = record { start = ceiling_whole (div binary64 (over_start nyq hi) w); end = ceiling_whole (div binary64 (over_end nyq lo) w) }

-- the adds where none is
unfoldable pub no_adds : Adds
no_adds = record { start = pos 0; end = pos 0 }

-- the adds of a sweep
unfoldable pub adds : Float → ℕ → Option Extremes → Adds
adds nyq splits None = no_adds
adds nyq splits (Some e) = cond (beyond nyq e.least e.greatest) (widened nyq (width nyq splits) e.least e.greatest) no_adds

-- how many limits there are; none where this is not above 0
unfoldable pub number : ℕ → Adds → ℤ
number splits a = pos (splits + 1) +ℤ a.start +ℤ a.end

-- the adds and the number, as the code hands them on
unfoldable pub plan_of : ℕ → Adds → Plan
plan_of splits a = record { add_start = a.start; add_end = a.end; number = number splits a }

-- a number below 0 taken for 0
abbrev pub at_least0 : ℤ → ℕ
at_least0 (pos n) = n
at_least0 (negsuc n) = 0

-- the step between k + 1 limits
unfoldable pub step_of : Float → Float → ℕ → Float
step_of s e k = div binary64 (sub binary64 e s) (real (pos k))

-- limit i
unfoldable pub limit_at : Float → Float → ℕ → Float
limit_at s step i = add binary64 s (mul binary64 step (real (pos i)))

-- k evenly spaced limits from s to e, the last one e exactly
unfoldable pub spaced : Float → Float → ℕ → List Float
spaced s e zero = []
spaced s e (suc zero) = s ∷ []
spaced s e (suc (suc k)) = tabulate (suc k) (limit_at s (step_of s e (suc k))) ++ (e ∷ [])

-- the first limit
unfoldable pub start_of : Float → Float → ℤ → Float
start_of nyq w a = sub binary64 (neg nyq) (mul binary64 (real a) w)

-- the last limit
unfoldable pub end_of : Float → Float → ℤ → Float
end_of nyq w b = add binary64 nyq (mul binary64 (real b) w)

-- the limits of adds a and b, n of them
unfoldable pub limits_of : Float → ℕ → ℤ → ℤ → ℤ → List Float
limits_of nyq splits a b n = spaced (start_of nyq (width nyq splits) a) (end_of nyq (width nyq splits) b) (at_least0 n)

-- the number of limits of a sweep
unfoldable pub number_for : Float → ℕ → Option Extremes → ℤ
number_for nyq splits e = number splits (adds nyq splits e)

-- the limits of a sweep
unfoldable pub limits_for : Float → ℕ → Option Extremes → List Float
limits_for nyq splits e = let a = adds nyq splits e in limits_of nyq splits a.start a.end (number splits a)

-- question 5: a Nyquist from 0.125 to 1,024
unfoldable pub nyquist_in_range : Float → Bool
nyquist_in_range nyq = le (fin false 1 (negsuc 2)) nyq && le nyq (fin false 1 (pos 10))

-- question 7: a velocity from -16,384 to 16,384
unfoldable pub velocity_in_range : Float → Bool
velocity_in_range v = le (fin true 1 (pos 14)) v && le v (fin false 1 (pos 14))
