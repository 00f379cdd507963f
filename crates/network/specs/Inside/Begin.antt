-- The tables before the first merge, from edges and sizes alone.
use Rattle.std.specs.Prelude.{◌≡◌, cond, List, map, ℕ, zero, suc, ◌+◌, ◌*◌, ◌≤◌, ◌<◌, ◌^◌, T, pos, Float, length, get_or, Result}
use Rattle.std.specs.Float.{nan, binary32}
use Rattle.std.specs.Float.Ieee.{fits}
use Rattle.network.specs.Network.{Region, State, gates_of}
use Rattle.lists.specs.Seq.{upto, sum}
use Rattle.merge.specs.Inside.Tables.{Tables, view, HoldsTables, store}
use Rattle.merge.specs.Inside.Table.{is, weight, first, second, bridged, enext, rnext, stamp, size, elen, rlen, count, mark}
use Rattle.memory.specs.Inside.Layout.{table_words}
use Rattle.network.specs.Inside.Net.{edge_of}
use Rattle.network.specs.Inside.Rep.{Rep}
use Rattle.merge.specs.declared.merge.MergeRefused.{MergeRefused}
use Rattle.network.specs.Inside.TurnIs.{gates_in, first_of, Unmarked, RunIs}
use Rattle.network.specs.Inside.Simple.{Simple}

-- each slot a circle of its own
unfoldable pub slots : ℕ → ℕ → Tables → Tables
slots m n s = record { at = λ u. cond (is enext u) (upto (2 * m + n) 0) (s.at u); diff = s.diff }

-- each region a circle of its own, with count 0, that was never a base and is not marked
unfoldable pub regions_from : ℕ → Tables → ℕ → Tables
regions_from zero s x = s
regions_from (suc k) s x = regions_from k (store mark (store stamp (store count (store elen (store rlen (store rnext s x x) x 1) x 1) x 1000) x 0) x 0) (x + 1)

-- slot i into the circle of node a
unfoldable pub link_at : ℕ → ℕ → ℕ → Tables → Tables
link_at m a i s =
    store elen (store enext (store enext s (2 * m + a) (get_or (s.at enext) i 0)) i (get_or (s.at enext) (2 * m + a) 0)) a (get_or (s.at elen) a 0 + 1)

unfoldable pub link_edge : ℕ → Tables → ℕ → Tables
link_edge m s j = link_at m (get_or (s.at second) j 0) (2 * j + 1) (link_at m (get_or (s.at first) j 0) (2 * j) s)

unfoldable pub link_from : ℕ → ℕ → Tables → ℕ → Tables
link_from zero m s j = s
link_from (suc k) m s j = link_from k m (link_edge m s j) (j + 1)

-- the network of a table of edges and a table of sizes
unfoldable pub raw_region : Tables → ℕ → Region
raw_region s r = record { label = r; size = get_or (s.at size) r 0; node = r; count = pos 0 }

unfoldable pub raw_net : ℕ → ℕ → Tables → State
raw_net m n s = record { edges = map (edge_of s) (upto m 0); regions = map (raw_region s) (upto n 0) }

-- the words hold all tables
pub record Space (m n : ℕ) (w : List ℕ) (d : List Float) : Type 0 where
  pub words : table_words m n ≤ length w
  pub diffs : m ≤ length d
  pub small : 2 * m + n < 2 ^ 31

-- what is asked of the edges and sizes
pub record Raw (m n : ℕ) (s : Tables) : Type 0 where
  pub first_in : (j : ℕ) → j < m → get_or (s.at first) j 0 < n
  pub second_in : (j : ℕ) → j < m → get_or (s.at second) j 0 < n
  pub single : (j : ℕ) → j < m → T (fits binary32 (get_or s.diff j nan))
  pub light : sum (s.at weight) < 2 ^ 31
  pub spanned : sum (s.at bridged) < 2 ^ 31
  pub gates : gates_of (map (raw_region s) (upto n 0)) < 2 ^ 31
  pub simple : Simple (map (edge_of s) (upto m 0))

-- what is then known of the words
pub record Begun (m n : ℕ) (s : Tables) (w : List ℕ) (d : List Float) : Type 0 where
  pub room : HoldsTables m n w d
  pub rep : Rep m n (gates_in (view m n w d)) 0 (view m n w d) (first_of m n (view m n w d))
  pub net : first_of m n (view m n w d) ≡ raw_net m n s
  pub sizes : gates_in (view m n w d) ≡ gates_in s
  pub unmarked : Unmarked n (view m n w d)

-- what linking asks: ends in range, and lengths that have grown by no more than two an edge
pub record Linkable (m n j : ℕ) (s : Tables) : Type 0 where
  pub first_in : (i : ℕ) → i < m → get_or (s.at first) i 0 < n
  pub second_in : (i : ℕ) → i < m → get_or (s.at second) i 0 < n
  pub lengths : (a : ℕ) → a < n → get_or (s.at elen) a 0 ≤ 1 + 2 * j

-- what all merges come to, from the tables of edges and sizes
unfoldable pub AllIs : ℕ → ℕ → Tables → List ℕ → List Float → Result ℕ MergeRefused → Type 0
AllIs m n s w d r = RunIs m n (gates_in s) (raw_net m n s) w d r
