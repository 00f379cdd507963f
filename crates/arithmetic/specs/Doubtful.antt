-- U7's test: whether a number lies within one sixteenth of a whole number plus a half, the distance itself included. `proofs/NearHalf` proves the
-- two statements. Definitions only.
use Rattle.std.specs.Prelude.{◌≡◌, ℕ, ◌*◌, ◌%◌, ◌<◌, ◌≤◌, Bool, true, false, ◌&&◌, ℤ, pos, ◌+ℤ◌, ◌-ℤ◌, ◌*ℤ◌, nat_le, unsigned_abs, Float}
use Rattle.std.specs.Float.{nan, inf, fin}
use Rattle.std.specs.Float.Ieee.{up, down}
use Rattle.std.specs.Float.Ieee.Exact.{HasValue}
use Rattle.arithmetic.specs.Rounding.{signed}

-- whether a / c does: r / c, what it has above its whole number, is 7/16 to 9/16
unfoldable pub midway : ℕ → ℕ → Bool
midway a c = let r = a % c in nat_le (7 * c) (16 * r) && nat_le (16 * r) (9 * c)

-- whether the exact value of q does, of either sign; NaN and the infinities do not
unfoldable pub doubtful : Float → Bool
doubtful nan = false
doubtful (inf s) = false
doubtful (fin s m e) = midway (m * up e) (down e)

-- the same as a statement on ± a / c: there is a whole k with |16 q - (16 k + 8)| ≤ 1, both sides times c
abbrev pub NearHalf : Bool → ℕ → ℕ → Type 0
NearHalf s a c = (k : ℤ) × (unsigned_abs (pos 16 *ℤ signed s a -ℤ (pos 16 *ℤ k +ℤ pos 8) *ℤ pos c) ≤ c)

-- `doubtful_near` and `near_doubtful`: the test on a float q that is exactly ± a / c is true just where the statement holds
abbrev pub DoubtfulNear : Type 0
DoubtfulNear = (q : Float) (s : Bool) (a c : ℕ) → 0 < c → HasValue q s a c → doubtful q ≡ true → NearHalf s a c

abbrev pub NearDoubtful : Type 0
NearDoubtful = (q : Float) (s : Bool) (a c : ℕ) → 0 < c → HasValue q s a c → NearHalf s a c → doubtful q ≡ true
