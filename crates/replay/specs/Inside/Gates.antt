-- The gates of a recorded sweep: two numbers a gate, its mask byte and its velocity's bits.
use Rattle.std.specs.Prelude.{ℕ, ◌+◌, ◌*◌, ◌<◌, ◌≡◌, List, length, get_or, Float}
use Rattle.std.specs.Float.{nan, binary32}
use Rattle.std.specs.Float.Ieee.{of_bits}

-- mask bytes and velocities are those of the numbers
pub record Gates (numbers : List ℕ) (velocity : List Float) (valid : List ℕ) : Type 0 where
  pub mask : (g : ℕ) → g < length valid → get_or valid g 0 ≡ get_or numbers (2 * g) 0
  pub speed : (g : ℕ) → g < length velocity → get_or velocity g nan ≡ of_bits binary32 (get_or numbers (2 * g + 1) 0)
