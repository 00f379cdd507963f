-- What the words say of choosing.
use Rattle.std.specs.Prelude.{◌≡◌, List, ℕ, pos, get_or, Float, Option, Some, None}
use Rattle.std.specs.Float.{binary64}
use Rattle.std.specs.Float.Ieee.{div}
use Rattle.arithmetic.specs.Rounding.{real}
use Rattle.arithmetic.specs.Doubtful.{doubtful}
use Rattle.memory.specs.Inside.Tree.{Best}
use Rattle.network.specs.Network.{popped, State, choose}
use Rattle.merge.specs.Inside.Tables.{Tables, view}
use Rattle.network.specs.Inside.Net.{edge_now}
use Rattle.network.specs.Inside.Rep.{Rep}
use Rattle.network.specs.declared.network.PoppedEdge.{PoppedEdge}

-- the answer is the choice of whatever network the tables stand for
abbrev pub AnyPop : ℕ → ℕ → Tables → Option PoppedEdge → Type 0
AnyPop m n s r = (gates : ℕ → ℕ) (k : ℕ) (t : State) → Rep m n gates k s t → r ≡ popped (choose t.edges)

-- what the words say of it: the winner of the tree as it stands, of weight 0 or not
pub record Takes (m n : ℕ) (w : List ℕ) (d : List Float) (p : PoppedEdge) : Type 0 where
  pub best : Best m w p.edge_number
  pub live : get_or w p.edge_number 0 ≡ 0 → ⊥
  pub first : p.node1 ≡ (edge_now (view m n w d) p.edge_number).first
  pub second : p.node2 ≡ (edge_now (view m n w d) p.edge_number).second
  pub diff : p.diff ≡ div binary64 (edge_now (view m n w d) p.edge_number).link.diff (real (pos (get_or w p.edge_number 0)))
  pub doubtful : p.doubtful ≡ doubtful p.diff

unfoldable pub Pops : ℕ → ℕ → List ℕ → List Float → Option PoppedEdge → Type 0
Pops m n w d (Some p) = Takes m n w d p
Pops m n w d None = (e : ℕ) × Best m w e × (get_or w e 0 ≡ 0)
