-- A network in which no live edge joins a node to itself and no two live edges join the same two nodes.
use Rattle.std.specs.Prelude.{◌≡◌, ◌⊎◌, true, List}
use Rattle.lists.specs.Seq.{Member}
use Rattle.network.specs.Network.{Edge}

-- two edges join the same two nodes
abbrev pub Joined : Edge → Edge → Type 0
Joined e f = ((e.first ≡ f.first) × (e.second ≡ f.second)) ⊎ ((e.first ≡ f.second) × (e.second ≡ f.first))

-- the network is simple
pub record Simple (es : List Edge) : Type 0 where
  pub proper : (e : Edge) → Member e es → e.live ≡ true → e.first ≡ e.second → ⊥
  pub single : (e f : Edge) → Member e es → Member f es → e.live ≡ true → f.live ≡ true → Joined e f → e.num ≡ f.num
