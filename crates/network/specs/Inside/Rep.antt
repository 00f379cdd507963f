-- The invariant of the merging code: the tables s stand for the network t.
use Rattle.std.specs.Prelude.{◌≡◌, ◌⊎◌, true, ℕ, ◌+◌, ◌*◌, ◌≤◌, ◌<◌, ◌^◌, get_or, map}
use Rattle.lists.specs.Seq.{upto}
use Rattle.network.specs.Network.{Edge, State, size_of, gates_of}
use Rattle.merge.specs.Inside.Tables.{Tables, Sound}
use Rattle.merge.specs.Inside.Table.{enext, rnext, stamp, size, elen, rlen}
use Rattle.network.specs.Inside.Net.{edge_now, region_of, Like}
use Rattle.merge.specs.Inside.Chain.{Chains}
use Rattle.network.specs.Inside.Simple.{Simple}

-- the two slots of an edge are in the chains of its two ends
abbrev pub Ends : ℕ → (ℕ → ℕ) → ℕ → Edge → Type 0
Ends m eown j e =
    ((eown (2 * j) ≡ 2 * m + e.first) × (eown (2 * j + 1) ≡ 2 * m + e.second))
    ⊎ ((eown (2 * j) ≡ 2 * m + e.second) × (eown (2 * j + 1) ≡ 2 * m + e.first))

-- the chains of slots: each node's are led by its header, and a live edge has a slot in the chain of each end;
-- a slot that was dropped is a circle of its own
pub record Circled (m n : ℕ) (node : ℕ → ℕ) (E : ℕ → Edge) (s : Tables) (eown epos elens : ℕ → ℕ) : Type 0 where
  pub echains : Chains (s.at enext) (2 * m + n) eown epos elens
  pub header : (x : ℕ) → x < n → node x ≡ x → eown (2 * m + x) ≡ 2 * m + x
  pub lengths : (x : ℕ) → x < n → node x ≡ x → elens (2 * m + x) ≡ get_or (s.at elen) x 0
  pub ends : (j : ℕ) → j < m → (E j).live ≡ true → Ends m eown j (E j)

-- m edges, n regions, k merges done
pub record Rep (m n : ℕ) (gates : ℕ → ℕ) (k : ℕ) (s : Tables) (t : State) : Type 0 where
  -- edges, each region's node, the places of regions and of slots in their chains, the lengths of the chains of slots
  pub E : ℕ → Edge
  pub node : ℕ → ℕ
  pub rpos : ℕ → ℕ
  pub eown : ℕ → ℕ
  pub epos : ℕ → ℕ
  pub elens : ℕ → ℕ
  -- the network
  pub edges : t.edges ≡ map E (upto m 0)
  pub regions : t.regions ≡ map (region_of gates node s) (upto n 0)
  pub number : (j : ℕ) → (E j).num ≡ j
  pub simple : Simple (map E (upto m 0))
  pub light : gates_of (map (region_of gates node s) (upto n 0)) < 2 ^ 31
  -- the tables
  pub sound : Sound m n s
  pub small : 2 * m + n < 2 ^ 31
  pub like : (j : ℕ) → j < m → Like (edge_now s j) (E j)
  pub sizes : (x : ℕ) → x < n → node x ≡ x → get_or (s.at size) x 0 ≡ size_of (map (region_of gates node s) (upto n 0)) x
  -- the chains
  pub rchains : Chains (s.at rnext) n node rpos (λ x. get_or (s.at rlen) x 0)
  pub circled : Circled m n node E s eown epos elens
  -- a live edge's ends lead their regions
  pub leading : (j : ℕ) → j < m → (E j).live ≡ true → (node (E j).first ≡ (E j).first) × (node (E j).second ≡ (E j).second)
  -- no node was a base in a merge that is yet to come
  pub stamps : (x : ℕ) → get_or (s.at stamp) x 0 ≤ k
