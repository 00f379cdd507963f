-- The pairs as gates, those alone whose first label is the greater, in the places that Layout gives them: each gate as twice its number,
-- with 1 added where the pair's look was bridged. A `GatePair` is the code's own: a gate, the gate that it sees, and whether the look was bridged.
use Rattle.std.specs.Prelude.{◌≡◌, ℕ, ◌+◌, ◌-◌, ◌*◌, ◌/◌, ◌%◌, ◌^◌, ◌<◌, ◌≤◌, max, Bool, false, cond, List, [], ◌∷◌, map, length, get_or, ◌==◌, nat_lt, slice_index, slice_index_or, Float}
use Rattle.std.proofs.Math.Option.{Option, none, some}
use Rattle.std.specs.Float.{nan}
use Rattle.lists.specs.Seq.{upto, each}
use Rattle.edges.specs.Edges.{Shape, Direction, Left, Right, Top, Bottom, sees, bridges, Pair, plus_one_if}
use Rattle.lists.specs.Inside.Seg.{put}
use Rattle.memory.specs.Inside.Layout.{gate_at, far_at, order_at}
use Rattle.edges.specs.declared.edges.Shape.{Shape}
pub use Rattle.edges.specs.declared.pairs.GatePair.{GatePair}

abbrev pub both : ℕ → ℕ → Bool → GatePair
both g h b = record { gate = g; far = h; bridged = b }

-- the pair of gates that two words stand for
abbrev pub gates_by : ℕ → ℕ → GatePair
gates_by x y = both (x / 2) (y / 2) (y % 2 == 1)

unfoldable pub gate_pair_to : List ℕ → ℕ → Bool → Option ℕ → List GatePair
gate_pair_to labels g b none = []
gate_pair_to labels g b (some h) = cond (nat_lt (slice_index labels h) (slice_index labels g)) (both g h b ∷ []) []

-- the pair of two gates beside each other in the words, if they lie on one ray
unfoldable pub gate_pair_along : ℕ → List ℕ → ℕ → ℕ → List GatePair
gate_pair_along gates labels g h = cond (max g h % gates == 0) [] (gate_pair_to labels g false (some h))

-- the pairs of gate g one way
abbrev pub gate_pairs_of : Shape → List ℕ → ℕ → Direction → List GatePair
gate_pairs_of s labels g d = gate_pair_to labels g (bridges s labels d g) (sees s labels d g)

unfoldable pub gate_pairs_at : Shape → List ℕ → ℕ → List GatePair
gate_pairs_at s labels g =
    cond (slice_index labels g == 0) []
    (each (gate_pairs_of s labels g) (Left ∷ Right ∷ Top ∷ Bottom ∷ []))

unfoldable pub gate_pairs : Shape → List ℕ → List GatePair
gate_pairs s labels = each (gate_pairs_at s labels) (upto (length labels) 0)

-- the pair that two gates make
unfoldable pub pair_of : List ℕ → List Float → GatePair → Pair
pair_of labels vel t = record {
  one = slice_index labels t.gate;
  two = slice_index labels t.far;
  vel1 = slice_index_or vel t.gate nan;
  vel2 = slice_index_or vel t.far nan;
  bridged = t.bridged;
}

-- whether a pair's first label is the greater
unfoldable pub greater : Pair → Bool
greater p = nat_lt p.two p.one

-- the word of a gate of a pair
unfoldable pub coded : Bool → ℕ → ℕ
coded b g = plus_one_if b (2 * g)

-- the two words of a pair
abbrev pub gate_word : GatePair → ℕ
gate_word t = coded t.bridged t.gate

abbrev pub far_word : GatePair → ℕ
far_word t = coded t.bridged t.far

-- the memory with these as pairs c, c + 1, ..
unfoldable pub stored : List ℕ → ℕ → ℕ → List GatePair → List ℕ
stored w n c ts = put (put w (gate_at n + c) (map gate_word ts)) (far_at n + c) (map far_word ts)

-- from c pairs to e: these were added
pub record AddsPairs (n : ℕ) (w v : List ℕ) (c e : ℕ) (ts : List GatePair) : Type 0 where
  pub mem : v ≡ stored w n c ts
  pub count : e ≡ c + length ts

-- the words hold labels and pairs
pub record Sheet (f : Shape) (n : ℕ) (w : List ℕ) : Type 0 where
  pub whole : n ≡ f.rays * f.gates
  pub room : order_at n ≤ length w
  pub small : 2 * n < 2 ^ 32

-- the same, with a gate and room for k more pairs
pub record Place (f : Shape) (n : ℕ) (w : List ℕ) (g c k : ℕ) : Type 0 where
  pub whole : n ≡ f.rays * f.gates
  pub room : order_at n ≤ length w
  pub small : 2 * n < 2 ^ 32
  pub inside : g < n
  pub place : c + k ≤ 4 * n

-- two gates, and room for one more pair
pub record Puts (n : ℕ) (w : List ℕ) (g h c : ℕ) : Type 0 where
  pub room : order_at n ≤ length w
  pub small : 2 * n < 2 ^ 32
  pub inside : g < n
  pub far : h < n
  pub place : c + 1 ≤ 4 * n

-- ---- gates amid labelled ones

-- a gate that has a label, and room for k more pairs
pub record LabelledGate (f : Shape) (n : ℕ) (w : List ℕ) (g c k : ℕ) : Type 0 where
  pub place : Place f n w g c k
  pub label : get_or w g 0 ≡ 0 → ⊥

-- the gates one ray before and after gate g are there and labelled, and so are those before and after it in the words
pub record Amid (w : List ℕ) (n gates g : ℕ) : Type 0 where
  pub some : 0 < gates
  pub below : gates ≤ g
  pub above : g + gates < n
  pub left : get_or w (g - gates) 0 ≡ 0 → ⊥
  pub right : get_or w (g + gates) 0 ≡ 0 → ⊥
  pub top : get_or w (g - 1) 0 ≡ 0 → ⊥
  pub bottom : get_or w (g + 1) 0 ≡ 0 → ⊥

-- both: a labelled gate amid labelled ones, and room for k more pairs
pub record LabelledAmid (f : Shape) (n : ℕ) (w : List ℕ) (g c k : ℕ) : Type 0 where
  pub gate : LabelledGate f n w g c k
  pub amid : Amid w n f.gates g
