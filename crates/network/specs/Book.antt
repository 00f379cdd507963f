-- The merge book: what each merge of a run did, one entry a merge, and the replay of its entries over the labels.
use Rattle.std.specs.Prelude.{cond, List, [], ◌∷◌, ℕ, eqb, ℤ, pos, ◌+ℤ◌}
use Rattle.std.proofs.Math.Option.{Option, none, some}
use Rattle.network.specs.Network.{Edge, Region, State, size_of, plan, at, step}

-- An entry: the base and the moved node, the weight and the bridged pairs of the edge chosen, after all combining so far, what the moved node's
-- counts gain, and its gates before the merge. A node's number is the label of the region that it began as.
pub record Entry : Type 0 where
  pub base : ℕ
  pub moved : ℕ
  pub weight : ℕ
  pub bridged : ℕ
  pub folds : ℤ
  pub gates : ℕ

-- The entry of the merge of an edge; all 0 where there is none.
unfoldable pub entry_of : List Region → Option Edge → Entry
entry_of rs none = record { base = 0; moved = 0; weight = 0; bridged = 0; folds = pos 0; gates = 0 }
entry_of rs (some e) = record {
  base = (plan rs e).base;
  moved = (plan rs e).moved;
  weight = e.link.weight;
  bridged = e.link.bridged;
  folds = (plan rs e).gain;
  gates = size_of rs (plan rs e).moved;
}

-- The same, of the edge of number i.
unfoldable pub entry : State → ℕ → Entry
entry s i = entry_of s.regions (at s.edges i)

-- The entries of a merge list.
unfoldable pub book : State → List ℕ → List Entry
book s [] = []
book s (i ∷ is) = entry s i ∷ book (step s i) is

-- The six numbers of an entry, in the order of the lent book.
unfoldable pub numbers : Entry → List ℤ
numbers v = pos v.base ∷ pos v.moved ∷ pos v.weight ∷ pos v.bridged ∷ v.folds ∷ pos v.gates ∷ []

-- ---- replaying a book

-- Where a label stands: its node and its count.
pub record Stand : Type 0 where
  pub node : ℕ
  pub count : ℤ

-- An entry adds its folds to every label of its moved node and gives them to its base.
unfoldable pub enter : Entry → Stand → Stand
enter v x = cond (eqb v.moved x.node) (record { node = v.base; count = x.count +ℤ v.folds }) x

-- The entries one after another.
unfoldable pub entered : List Entry → Stand → Stand
entered [] x = x
entered (v ∷ vs) x = entered vs (enter v x)

-- Label l after these entries: at first it is its own node with count 0.
unfoldable pub replayed : List Entry → ℕ → Stand
replayed vs l = entered vs (record { node = l; count = pos 0 })
