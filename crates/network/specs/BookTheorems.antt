-- What is known of a merge book. `proofs/BookLaws` proves each. Statements only.
use Rattle.std.specs.Prelude.{ℕ, ◌-◌, ◌≤◌, ◌≡◌, List, ◌∷◌, ◌++◌, eqb, length, Float}
use Rattle.lists.specs.Seq.{keep}
use Rattle.edges.specs.declared.edges.Shape.{Shape}
use Rattle.network.specs.Network.{State, merges, replay, count_of, network_by}
use Rattle.network.specs.Book.{Entry, book, replayed}

-- the book of the network of labelled gates
abbrev pub book_by : Float → Shape → ℕ → List ℕ → List Float → List Entry
book_by two_nyquist shape k labels vel = book (network_by two_nyquist shape k labels vel) (merges (network_by two_nyquist shape k labels vel))

-- `book_replays`: replaying the entries over the labels gives the uncentred counts, label 0 included
abbrev pub BookReplays : Type 0
BookReplays =
    (two_nyquist : Float) (shape : Shape) (k : ℕ) (labels : List ℕ) (vel : List Float) (l : ℕ)
    → let s = network_by two_nyquist shape k labels vel in
    (replayed (book_by two_nyquist shape k labels vel) l).count ≡ count_of (replay s (merges s)).regions l

-- a node that stands after these entries: a label of a region that is still its own node
pub record Stands (k : ℕ) (vs : List Entry) (a : ℕ) : Type 0 where
  pub least : 1 ≤ a
  pub most : a ≤ k
  pub own : (replayed vs a).node ≡ a

-- what holds of an entry after those before it
pub record EntryHolds (k : ℕ) (labels : List ℕ) (before : List Entry) (v : Entry) : Type 0 where
  pub base : Stands k before v.base
  pub moved : Stands k before v.moved
  pub apart : v.base ≡ v.moved → ⊥
  pub weight : 1 ≤ v.weight
  pub bridged : v.bridged ≤ v.weight
  -- its gates are those whose labels belong to the moved node
  pub gates : v.gates ≡ length (keep (λ l. eqb v.moved (replayed before l).node) labels)

-- `book_holds_lem`: it holds of every entry
abbrev pub BookHolds : Type 0
BookHolds =
    (two_nyquist : Float) (shape : Shape) (k : ℕ) (labels : List ℕ) (vel : List Float) (before : List Entry) (v : Entry) (after : List Entry)
    → book_by two_nyquist shape k labels vel ≡ before ++ (v ∷ after)
    → EntryHolds k labels before v

-- `book_counts`: there is an entry for each merge
abbrev pub BookCounts : Type 0
BookCounts = (s : State) → length (book s (merges s)) ≡ length (merges s)

-- `merges_less`: there are at most regions less one merges
abbrev pub MergesLess : Type 0
MergesLess =
    (two_nyquist : Float) (shape : Shape) (k : ℕ) (labels : List ℕ) (vel : List Float)
    → length (merges (network_by two_nyquist shape k labels vel)) ≤ k - 1
