-- What counting the sizes of regions asks.
use Rattle.std.specs.Prelude.{ℕ, ◌+◌, ◌≤◌, ◌<◌, ◌^◌, List, length, get_or}

-- n labels below k in the first n words, and room for k sizes from `at`
pub record Sizes (w : List ℕ) (n at k : ℕ) : Type 0 where
  pub above : n ≤ at
  pub room : at + k ≤ length w
  pub small : n < 2 ^ 32
  pub label : (g : ℕ) → g < n → get_or w g 0 < k
