-- The tables of the merging code as lists; Table says where each lies in the lent words.
use Rattle.std.specs.Prelude.{◌≡◌, ℕ, ◌+◌, ◌*◌, ◌^◌, ◌<◌, ◌≤◌, cond, ◌||◌, T, List, length, slice_index, slice_index_or, slice_set, Float}
use Rattle.std.proofs.Math.Option.{Option, none, some}
use Rattle.std.specs.Float.{binary32, nan}
use Rattle.std.specs.Float.Ieee.{fits}
use Rattle.lists.specs.Inside.Seg.{seg}
use Rattle.lists.specs.Seq.{sum}
use Rattle.memory.specs.Inside.Tree.{Tree}
use Rattle.memory.specs.Inside.Layout.{table_words}
use Rattle.merge.specs.Inside.Table.{Table, weight, first, second, bridged, enext, rnext, count, from, long, is}

-- the tables of words by name, and the edges' differences
pub record Tables : Type 0 where
  pub at : Table → List ℕ
  pub diff : List Float

-- m edges, n regions
unfoldable pub view : ℕ → ℕ → List ℕ → List Float → Tables
view m n w d = record { at = λ t. seg w (from t m n) (long t m n); diff = d }

-- the words hold all tables
pub record HoldsTables (m n : ℕ) (w : List ℕ) (d : List Float) : Type 0 where
  pub words : table_words m n ≤ length w
  pub diffs : m ≤ length d
  pub small : 2 * m + n < 2 ^ 31
  pub tree : Tree m w

-- what the words of a table stay below: numbers of nodes, numbers of slots, counts
abbrev pub limit : Table → ℕ → ℕ → Option ℕ
limit t m n = cond (is first t || is second t || is rnext t) (some n) (cond (is enext t) (some (2 * m + n)) (cond (is count t) (some 2001) none))

abbrev pub Below : Option ℕ → ℕ → Type 0
Below none x = Unit {0}
Below (some k) x = x < k

-- every index is in its range, and no sum of weights or of bridged pairs wraps
pub record Sound (m n : ℕ) (s : Tables) : Type 0 where
  pub lengths : (t : Table) → length (s.at t) ≡ long t m n
  pub l_diff : m ≤ length s.diff
  pub within : (t : Table) (j : ℕ) → j < long t m n → Below (limit t m n) (slice_index (s.at t) j)
  pub single : (j : ℕ) → j < m → T (fits binary32 (slice_index_or s.diff j nan))
  pub light : sum (s.at weight) < 2 ^ 31
  pub spanned : sum (s.at bridged) < 2 ^ 31

-- table t with x at j
unfoldable pub store : Table → Tables → ℕ → ℕ → Tables
store t s j x = record { at = λ u. cond (is t u) (slice_set (s.at u) j x) (s.at u); diff = s.diff }

-- the tables with this one for t
abbrev pub with_table : Table → List ℕ → Tables → Tables
with_table t l s = record { at = λ u. cond (is t u) l (s.at u); diff = s.diff }

-- the differences with x at j
unfoldable pub diff_set : Tables → ℕ → Float → Tables
diff_set s j x = record { at = s.at; diff = slice_set s.diff j x }
