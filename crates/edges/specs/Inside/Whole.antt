-- What finding the edges asks and gives.
use Rattle.std.specs.Prelude.{◌≡◌, ℕ, ◌+◌, ◌*◌, ◌^◌, ◌<◌, ◌≤◌, List, map, length, slice_index, Float}
use Rattle.lists.specs.Inside.Seg.{seg}
use Rattle.lists.specs.Seq.{sum}
use Rattle.edges.specs.declared.edges.Shape.{Shape}
use Rattle.edges.specs.Edges.{difference}
use Rattle.memory.specs.Inside.Layout.{order_at, tally_at, first_at, second_at, bridged_at, enext_at}
use Rattle.edges.specs.declared.edges.EdgeRecord.{EdgeRecord}

-- labels 0 to k in the first n words; room for the tables from t on
pub record FindsEdges (f : Shape) (w : List ℕ) (d vel : List Float) (n k t : ℕ) : Type 0 where
  pub whole : n ≡ f.rays * f.gates
  pub small : 4 * n < 2 ^ 32
  pub vels : length vel ≡ n
  pub label : (j : ℕ) → j < n → slice_index w j ≤ k
  pub scratch : tally_at n (4 * n) + k + 1 ≤ length w
  pub above : order_at n + 4 * n ≤ t
  pub words : t + enext_at (4 * n) ≤ length w
  pub diffs : 4 * n ≤ length d

-- the tables from t on hold these records as e edges; the labels are as they were
pub record Edged (two_nyquist : Float) (n : ℕ) (u v : List ℕ) (b : List Float) (t e : ℕ) (rs : List EdgeRecord) : Type 0 where
  pub count : e ≡ length rs
  pub few : e ≤ 4 * n
  pub light : sum (map (λ r. r.count) rs) ≤ 4 * n
  pub spans : sum (map (λ r. r.bridged) rs) ≤ 4 * n
  pub weight : seg v t e ≡ map (λ r. r.count) rs
  pub first : seg v (t + first_at e) e ≡ map (λ r. r.one) rs
  pub second : seg v (t + second_at e) e ≡ map (λ r. r.two) rs
  pub bridged : seg v (t + bridged_at e) e ≡ map (λ r. r.bridged) rs
  pub diff : seg b 0 e ≡ map (difference two_nyquist) rs
  pub labels : seg v 0 n ≡ seg u 0 n
