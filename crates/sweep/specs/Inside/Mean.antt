-- Sums over the regions' tables in the work memory.
use Rattle.std.specs.Prelude.{◌≡◌, ℕ, zero, suc, ◌+◌, ◌*◌, ◌^◌, ◌<◌, ◌≤◌, List, length, ℤ, slice_index, unsigned_abs}
use Rattle.memory.specs.Inside.Layout.{sizes_at, counts_at}
use Rattle.memory.specs.Size.{gates_of_largest}

-- f i + f (i + 1) + .., n of them
unfoldable pub sum_from : (ℕ → ℕ) → ℕ → ℕ → ℕ
sum_from f i zero = 0
sum_from f i (suc n) = f i + sum_from f (suc i) n

-- the size of region l of k, in a sweep of n gates
unfoldable pub size_at : List ℕ → ℕ → ℕ → ℕ
size_at w n l = slice_index w (sizes_at n + l)

-- its size times its count with 1,000 added
unfoldable pub held_at : List ℕ → ℕ → ℕ → ℕ → ℕ
held_at w n k l = size_at w n l * slice_index w (counts_at n k + l)

-- the two tables lie in the words, and the sums are small
pub record Tabled (w : List ℕ) (n k : ℕ) : Type 0 where
  pub room : n + (k + 1) + (k + 1) ≤ length w
  pub few : sum_from (size_at w n) 1 k ≤ gates_of_largest
  pub most : (l : ℕ) → l ≤ k → slice_index w (counts_at n k + l) ≤ 2000

-- what writing the counts asks: labels and counts in the words, one mask byte and one count a gate
pub record Writes (w : List ℕ) (n k : ℕ) (mask : List ℕ) (offset : ℤ) (long : ℕ) : Type 0 where
  pub room : n + (k + 1) + (k + 1) ≤ length w
  pub masks : length mask ≡ n
  pub counts : long ≡ n
  pub label : (g : ℕ) → g < n → slice_index w g ≤ k
  pub most : (l : ℕ) → l ≤ k → slice_index w (counts_at n k + l) ≤ 2000
  pub near : unsigned_abs offset ≤ 2 ^ 30
