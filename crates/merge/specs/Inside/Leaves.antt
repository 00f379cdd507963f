-- What a function that changes the tables leaves.
use Rattle.std.specs.Prelude.{◌≡◌, ℕ, ◌+◌, ◌*◌, ◌^◌, ◌<◌, ◌≤◌, List, slice_index, slice_index_or, Float, Some, Result, IsOk, IsErr}
use Rattle.std.proofs.Math.Option.{Option, none, some}
use Rattle.memory.specs.Inside.Tree.{Tree}
use Rattle.merge.specs.declared.merge.MergeRefused.{MergeRefused}
use Rattle.merge.specs.Inside.Tables.{Tables, view}
use Rattle.merge.specs.Inside.Table.{size, elen, rlen}
use Rattle.merge.specs.Inside.Steps.{mate}

-- the tables are s, and the tree is played
pub record LeavesTables (m n : ℕ) (w : List ℕ) (d : List Float) (s : Tables) : Type 0 where
  pub tables : view m n w d ≡ s
  pub tree : Tree m w

-- the same, or a refusal
unfoldable pub Raised : ℕ → ℕ → List ℕ → List Float → Option Tables → Result (Unit {0}) MergeRefused → Type 0
Raised m n w d none r = IsErr r
Raised m n w d (some s) r = IsOk r × LeavesTables m n w d s

-- the same, and the last slot kept
pub record Passes (m n : ℕ) (w : List ℕ) (d : List Float) (s : Tables) (q r : ℕ) : Type 0 where
  pub does : LeavesTables m n w d s
  pub prev : r ≡ q

-- slots p and x of node b's chain, which is not empty
pub record Slots (m n b p x : ℕ) (s : Tables) : Type 0 where
  pub b_in : b < n
  pub p_in : p < 2 * m + n
  pub x_in : x < 2 * m + n
  pub some : 1 ≤ slice_index (s.at elen) b

-- two edges
pub record OtherEdge (m q f : ℕ) : Type 0 where
  pub q_in : q < m
  pub f_in : f < m
  pub apart : q ≡ f → ⊥

-- edge f goes to node c from base b
pub record Joins (m n b : ℕ) (s : Tables) (f c : ℕ) : Type 0 where
  pub f_in : f < m
  pub b_in : b < n
  pub c_in : c < n
  pub other : mate m b s c ≡ Some f → ⊥

-- base, moved node and gain
pub record Gains (n b v g : ℕ) : Type 0 where
  pub b_in : b < n
  pub v_in : v < n
  pub apart : b ≡ v → ⊥
  pub g_in : g ≤ 2000

-- the sums of two nodes' sizes and lengths do not wrap
pub record Fit (n b v : ℕ) (s : Tables) : Type 0 where
  pub b_in : b < n
  pub v_in : v < n
  pub sizes : slice_index_or (s.at size) b 0 + slice_index (s.at size) v < 2 ^ 32
  pub elens : slice_index_or (s.at elen) b 0 + slice_index (s.at elen) v < 2 ^ 32
  pub rlens : slice_index_or (s.at rlen) b 0 + slice_index (s.at rlen) v < 2 ^ 32
