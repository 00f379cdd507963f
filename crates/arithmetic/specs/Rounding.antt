-- The float helpers: a float to a whole number, a whole number to f32, and f64 to f32, over the fraction ± m × up e / down e that a
-- finite float is. A whole number to the nearest f32 is the library's `of_int binary32`.
use Rattle.std.specs.Prelude.{ℕ, suc, ◌*◌, ◌/◌, ◌%◌, ◌^◌, Bool, true, false, cond, ℤ, pos, ◌*ℤ◌, neg_ℤ, ◌==◌, nat_le, Float, Option, Some, None}
use Rattle.std.specs.Float.{nan, inf, fin, binary32, binary64}
use Rattle.std.specs.Float.Ieee.{up, down, round, of_int}
use Rattle.std.specs.Float.Ieee.Nearest.{closest}

-- n with a sign
abbrev pub signed : Bool → ℕ → ℤ
signed false n = pos n
signed true n = neg_ℤ (pos n)

-- the least whole number that is not below a / c
abbrev pub ceiling : ℕ → ℕ → ℕ
ceiling a c = cond (a % c == 0) (a / c) (suc (a / c))

-- the least whole number that is not below x
unfoldable pub ceiling_whole : Float → ℤ
ceiling_whole nan = pos 0
ceiling_whole (inf s) = pos 0
ceiling_whole (fin false m e) = pos (ceiling (m * up e) (down e))
ceiling_whole (fin true m e) = neg_ℤ (pos (m * up e / down e))

-- the whole number nearest to x, a tie to the even one
unfoldable pub nearest_whole : Float → ℤ
nearest_whole nan = pos 0
nearest_whole (inf s) = pos 0
nearest_whole (fin s m e) = signed s (closest (m * up e) (down e))

-- -2 ^ 30 ≤ x ≤ 2 ^ 30: the range test before a cast
unfoldable pub within : Float → Bool
within nan = false
within (inf s) = false
within (fin s m e) = nat_le (m * up e) (2 ^ 30 * down e)

-- the answer of a helper whose range test gave b
abbrev pub if_within : Bool → ℤ → Option ℤ
if_within true z = Some z
if_within false z = None

-- Rust's `round_ties_even`, where x is in range
abbrev pub round_even : Float → Option ℤ
round_even x = if_within (within x) (nearest_whole x)

-- Rust's `ceil`, where x is in range
abbrev pub ceil_of : Float → Option ℤ
ceil_of x = if_within (within x) (ceiling_whole x)

-- Rust's `as f32` of an f64: the nearest f32, a tie to the even one
unfoldable pub narrowed : Float → Float
narrowed nan = nan
narrowed (inf s) = inf s
narrowed (fin s m e) = round binary32 s (m * up e) (down e)

-- a whole number in f64
unfoldable pub real : ℤ → Float
real z = of_int binary64 z

-- a weight times a number of folds, rounded to f32
unfoldable pub scale : ℕ → ℤ → Float
scale w k = of_int binary32 (pos w *ℤ k)
