-- Sorted pairs read back, and runs of them gathered as c edges into the tables from t on, where Layout puts them.
use Rattle.std.specs.Prelude.{◌≡◌, ℕ, ◌+◌, ◌-◌, ◌*◌, ◌/◌, ◌^◌, ◌<◌, ◌≤◌, List, map, length, slice_index, slice_set, Float}
use Rattle.lists.specs.Seq.{upto}
use Rattle.lists.specs.Inside.Seg.{seg, put}
use Rattle.edges.specs.Edges.{Pair, difference}
use Rattle.edges.specs.Inside.GatePairs.{GatePair, gates_by, pair_of}
use Rattle.memory.specs.Inside.Layout.{gate_at, far_at, order_at, first_at, second_at, bridged_at, enext_at}
use Rattle.edges.specs.Inside.Order.{runs}
use Rattle.edges.specs.declared.edges.EdgeRecord.{EdgeRecord}

-- the i-th of the sorted pairs, as gates
unfoldable pub sorted_at : List ℕ → ℕ → ℕ → GatePair
sorted_at w n i = let x = slice_index w (order_at n + i) in gates_by (slice_index w (gate_at n + x)) (slice_index w (far_at n + x))

-- as a pair
unfoldable pub pair_at : List ℕ → List Float → ℕ → ℕ → Pair
pair_at w vel n i = pair_of (seg w 0 n) vel (sorted_at w n i)

-- those from i on
unfoldable pub later : List ℕ → List Float → ℕ → ℕ → ℕ → List Pair
later w vel n m i = map (pair_at w vel n) (upto (m - i) i)

-- what reading them asks
pub record ReadsPairs (w : List ℕ) (vel : List Float) (n m : ℕ) : Type 0 where
  pub room : order_at n + m ≤ length w
  pub few : m ≤ 4 * n
  pub small : m < 2 ^ 32
  pub little : n < 2 ^ 32
  pub vels : length vel ≡ n
  pub index : (i : ℕ) → i < m → slice_index w (order_at n + i) < m
  pub gate : (x : ℕ) → x < m → slice_index w (gate_at n + x) / 2 < n
  pub far : (x : ℕ) → x < m → slice_index w (far_at n + x) / 2 < n

-- the same of their labels, whatever the velocities are
abbrev pub Legible : List ℕ → ℕ → ℕ → Type 0
Legible w n m = (vel : List Float) × ReadsPairs w vel n m

-- the labels of the i-th of them
abbrev pub LabelsAt : List ℕ → ℕ → ℕ → (ℕ × ℕ) → Type 0
LabelsAt w n i r = (vel : List Float) → (r.0 ≡ (pair_at w vel n i).one) × (r.1 ≡ (pair_at w vel n i).two)

-- edge e written
unfoldable pub written : List ℕ → ℕ → ℕ → ℕ → EdgeRecord → List ℕ
written w t c e r = slice_set (slice_set (slice_set (slice_set w (t + e) r.count) (t + first_at c + e) r.one) (t + second_at c + e) r.two) (t + bridged_at c + e) r.bridged

-- edges 0, 1, .. written
unfoldable pub tables : List ℕ → ℕ → ℕ → List EdgeRecord → List ℕ
tables w t c rs =
    put (put (put (put w t (map (λ r. r.count) rs)) (t + first_at c) (map (λ r. r.one) rs)) (t + second_at c) (map (λ r. r.two) rs))
    (t + bridged_at c) (map (λ r. r.bridged) rs)

-- what gathering asks: room for all runs
pub record Gathers (w : List ℕ) (d vel : List Float) (n m t c : ℕ) : Type 0 where
  pub ready : ReadsPairs w vel n m
  pub above : order_at n + m ≤ t
  pub words : t + enext_at c ≤ length w
  pub diffs : c ≤ length d
  pub fits : length (runs (later w vel n m 0)) ≤ c

-- what gathering leaves: the tables of these records, their differences, and how many
pub record Gathered (two_nyquist : Float) (w v : List ℕ) (d b : List Float) (t c e : ℕ) (rs : List EdgeRecord) : Type 0 where
  pub words : v ≡ tables w t c rs
  pub diffs : b ≡ put d 0 (map (difference two_nyquist) rs)
  pub count : e ≡ length rs
