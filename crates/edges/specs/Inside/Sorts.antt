-- The stored pairs sorted, in the places that Layout gives them.
use Rattle.std.specs.Prelude.{◌≡◌, ℕ, ◌+◌, ◌*◌, ◌/◌, ◌^◌, ◌<◌, ◌≤◌, List, map, length, slice_index}
use Rattle.lists.specs.Seq.{upto}
use Rattle.lists.specs.Inside.Seg.{seg, put}
use Rattle.memory.specs.Inside.Sort.{sorted}
use Rattle.memory.specs.Inside.Layout.{gate_at, far_at, order_at, one_at, two_at, tally_at}

-- the labels of the gates of m pairs, whose words lie from src on
unfoldable pub labels_of : List ℕ → ℕ → ℕ → List ℕ
labels_of w src m = map (λ x. slice_index w (x / 2)) (seg w src m)

-- the words with the labels of the first i of m pairs where the sort looks for them
unfoldable pub with_labels : List ℕ → ℕ → ℕ → ℕ → List ℕ
with_labels w n m i = put (put w (one_at n m) (labels_of w (gate_at n) i)) (two_at n m) (labels_of w (far_at n) i)

-- what writing them asks: m pairs of gates below n
pub record Reads (w : List ℕ) (n m : ℕ) : Type 0 where
  pub room : tally_at n m ≤ length w
  pub few : m ≤ 4 * n
  pub gate : (i : ℕ) → i < m → slice_index w (gate_at n + i) / 2 < n
  pub far : (i : ℕ) → i < m → slice_index w (far_at n + i) / 2 < n

-- what the sort asks: m pairs of gates below n, with labels below k
pub record Sorts (w : List ℕ) (n m k : ℕ) : Type 0 where
  pub room : tally_at n m + k ≤ length w
  pub few : m ≤ 4 * n
  pub small : m < 2 ^ 32
  pub gate : (i : ℕ) → i < m → slice_index w (gate_at n + i) / 2 < n
  pub far : (i : ℕ) → i < m → slice_index w (far_at n + i) / 2 < n
  pub label : (j : ℕ) → j < n → slice_index w j < k

-- the order that the sort leaves, and that nothing before it changed
pub record Sorted (w v : List ℕ) (n m k : ℕ) : Type 0 where
  pub order : seg v (order_at n) m ≡ sorted (labels_of w (far_at n) m) k (sorted (labels_of w (gate_at n) m) k (upto m 0))
  pub kept : (j : ℕ) → j < order_at n → slice_index v j ≡ slice_index w j
