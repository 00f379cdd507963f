-- From labels to the counts and marks of all regions and the log of merges: what it asks, and what it leaves.
use Rattle.std.specs.Prelude.{ℕ, ◌+◌, ◌*◌, ◌-◌, ◌≤◌, ◌<◌, ◌≡◌, true, List, length, get_or, set, Float, Result}
use Rattle.lists.specs.Seq.{tabulate}
use Rattle.lists.specs.Inside.Seg.{seg, put}
use Rattle.network.specs.Network.{State, size_in, merges, merges_in_range, replay, trace, count_of, mark_of}
use Rattle.network.specs.Book.{book}
use Rattle.network.specs.Inside.Log.{Entries}
use Rattle.merge.specs.Inside.Steps.{unbias}
use Rattle.memory.specs.Inside.Layout.{sizes_at, counts_at, marks_at, book_at}
use Rattle.memory.specs.Size.{gates_of_largest}
use Rattle.edges.specs.declared.edges.Shape.{Shape}
use Rattle.merge.specs.declared.merge.MergeRefused.{MergeRefused}
use Rattle.network.specs.Inside.Settle.{outcome, ran_of}

-- what is asked of the sweep and of the memory
pub record Reduces (f : Shape) (w : List ℕ) (d vel : List Float) (n k : ℕ) : Type 0 where
  pub whole : n ≡ f.rays * f.gates
  pub some : 1 ≤ k
  pub few : k ≤ n
  pub small : n ≤ gates_of_largest
  pub vels : length vel ≡ n
  pub label : (j : ℕ) → j < n → get_or w j 0 ≤ k
  pub words : 77 * n + 64 ≤ length w
  pub floats : 16 * n + 16 ≤ length d

-- what keeping the tables asks: e edges of k regions of n gates, and the words
pub record Keeps (n e k : ℕ) (w : List ℕ) : Type 0 where
  pub some : 1 ≤ k
  pub few : k ≤ n
  pub edges : e ≤ 4 * n
  pub small : n ≤ gates_of_largest
  pub words : 77 * n + 64 ≤ length w

-- the counts, the marks and the log copied from the tables, and label 0's count 0 and mark 0
abbrev pub counts_kept : ℕ → ℕ → ℕ → List ℕ → List ℕ
counts_kept n e k w = put w (n + (k + 1)) (seg w (13 * n + 8 * e + 6 * (k + 1)) (k + 1))

abbrev pub marks_kept : ℕ → ℕ → ℕ → List ℕ → List ℕ
marks_kept n e k w = put w (n + (k + 1) + (k + 1)) (seg w (13 * n + 8 * e + 7 * (k + 1)) (k + 1))

abbrev pub log_kept : ℕ → ℕ → ℕ → List ℕ → List ℕ
log_kept n e k w = put w (n + (k + 1) + (k + 1) + (k + 1)) (seg w (13 * n + 8 * e + 8 * (k + 1)) (6 * (k - 1)))

unfoldable pub kept_tables : ℕ → ℕ → ℕ → List ℕ → List ℕ
kept_tables n e k w = set (set (log_kept n e k (marks_kept n e k (counts_kept n e k w))) (n + (k + 1)) 1000) (n + (k + 1) + (k + 1)) 0

-- labels, sizes and, where question 9 gets a yes, counts, marks and log in their places, t being the network of k regions with labels L
pub record TablesLeft (t : State) (n k : ℕ) (L v : List ℕ) : Type 0 where
  pub counts : merges_in_range t ≡ true → (l : ℕ) → l ≤ k → unbias (get_or v (counts_at n k + l) 0) ≡ count_of (replay t (merges t)).regions l
  pub most : merges_in_range t ≡ true → (l : ℕ) → l ≤ k → get_or v (counts_at n k + l) 0 ≤ 2000
  pub marks : merges_in_range t ≡ true → (l : ℕ) → l ≤ k → get_or v (marks_at n k + l) 0 ≡ mark_of (trace t (merges t)) l
  pub entries : merges_in_range t ≡ true → Entries (λ j. get_or v (book_at n k + j) 0) (length (merges t)) (book t (merges t))
  pub sizes : seg v (sizes_at n) (k + 1) ≡ tabulate (k + 1) (size_in L)
  pub labels : seg v 0 n ≡ L

-- the answer and what is left, t being the network
pub record Reduced (t : State) (n k : ℕ) (w v : List ℕ) (r : Result ℕ MergeRefused) : Type 0 where
  pub answer : r ≡ ran_of (outcome t (merges t) 0)
  pub tables : TablesLeft t n k (seg w 0 n) v
