-- What is known of the bridged pairs of edges: they stay within the weights, and no merge looks at them. `proofs/Bridged` proves each.
-- Statements only.
use Rattle.std.specs.Prelude.{ℕ, ◌≤◌, ◌≡◌, List, map, Float}
use Rattle.lists.specs.Seq.{All}
use Rattle.edges.specs.declared.edges.Shape.{Shape}
use Rattle.network.specs.Network.{Edge, State, merges, replay, trace, network_by}

-- `bridged_within`: from the network of labelled gates, after any steps, no edge has more bridged pairs than its weight
abbrev pub BridgedWithin : Type 0
BridgedWithin =
    (two_nyquist : Float) (shape : Shape) (k : ℕ) (labels : List ℕ) (vel : List Float) (l : List ℕ)
    → All (λ e. e.link.bridged ≤ e.link.weight) (replay (network_by two_nyquist shape k labels vel) l).edges

-- an edge, and a network, of which the bridged pairs are forgotten
unfoldable pub plain : Edge → Edge
plain e = record {
  num = e.num;
  live = e.live;
  first = e.first;
  second = e.second;
  link = record { weight = e.link.weight; diff = e.link.diff; bridged = 0 };
}

unfoldable pub plain_net : State → State
plain_net s = record { edges = map plain s.edges; regions = s.regions }

-- What two networks have in common: the merges that they choose and, of any merge list, what each entry finds and does (its number, base, moved
-- node and new counts, by which question 9 decides), and the regions that it leaves, with their nodes and counts.
pub record SameRun (s t : State) : Type 0 where
  pub merges : merges s ≡ merges t
  pub trace : (l : List ℕ) → trace s l ≡ trace t l
  pub regions : (l : List ℕ) → (replay s l).regions ≡ (replay t l).regions

-- `bridged_idle`: two networks that differ in nothing but bridged pairs do the same merges with the same counts
abbrev pub BridgedIdle : Type 0
BridgedIdle = (s t : State) → plain_net s ≡ plain_net t → SameRun s t
