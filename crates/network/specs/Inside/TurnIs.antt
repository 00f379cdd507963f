-- What a turn and a run of the code come to.
use Rattle.std.specs.Prelude.{◌≡◌, Bool, true, cond, List, map, ℕ, ◌+◌, ◌≤◌, ◌<◌, Float, get_or, Result, Ok}
use Rattle.std.proofs.Math.Option.{Option, none, some}
use Rattle.lists.specs.Seq.{upto}
use Rattle.arithmetic.specs.Doubtful.{doubtful}
use Rattle.network.specs.Book.{Entry, entry, book}
use Rattle.network.specs.Inside.Log.{Entries, Logging, log_in}
use Rattle.network.specs.Network.{Edge, State, Event, event, step, choose, quotient, quot, marks, marked, in_range, trace, run}
use Rattle.memory.specs.Inside.Tree.{Tree}
use Rattle.network.specs.declared.network.Turned.{Turned}
use Rattle.merge.specs.declared.merge.MergeRefused.{MergeRefused}
use Rattle.merge.specs.Inside.Tables.{Tables, view}
use Rattle.merge.specs.Inside.Table.{weight, size, count, mark}
use Rattle.network.specs.Inside.Net.{edge_now, region_of, state_of}
use Rattle.network.specs.Inside.Settle.{Done, settle, number_by, ran_of, merged_by, turned_by}
use Rattle.network.specs.Inside.Rep.{Rep}

-- what the code may start from, k merges done
abbrev pub Standing : ℕ → ℕ → ℕ → Tables → Type 0
Standing m n k s = (gates : ℕ → ℕ) × (t : State) × Rep m n gates k s t

-- the marks after a merge that finds and does v: 1 at the regions that it marks, all others as they were
abbrev pub Marking : ℕ → Event → Tables → Tables → Type 0
Marking n v s u = (x : ℕ) → x < n → get_or (u.at mark) x 0 ≡ cond (marks v x) 1 (get_or (s.at mark) x 0)

-- what a merge of edge e leaves, from the tables s of the network t
pub record MergeLeaves (m n : ℕ) (gates : ℕ → ℕ) (k : ℕ) (s : Tables) (t : State) (e : ℕ) (w : List ℕ) (d : List Float) : Type 0 where
  pub rep : Rep m n gates (k + 1) (view m n w d) (step t e)
  pub tree : Tree m w
  pub marking : Marking n (event t e) s (view m n w d)
  pub logging : Logging k (entry t e) s (view m n w d)

-- what a turn leaves, by the edge chosen
unfoldable pub TurnLeaves : ℕ → ℕ → (ℕ → ℕ) → ℕ → Tables → State → Option Edge → List ℕ → List Float → Type 0
TurnLeaves m n gates k s t none w d = view m n w d ≡ s
TurnLeaves m n gates k s t (some e) w d = in_range (event t e.num) ≡ true → MergeLeaves m n gates k s t e.num w d

-- one turn from the network t
pub record TurnIs (m n : ℕ) (gates : ℕ → ℕ) (k : ℕ) (s : Tables) (t : State) (w : List ℕ) (d : List Float) (r : Result Turned MergeRefused) : Type 0 where
  pub answer : r ≡ turned_by t (choose t.edges)
  pub leaves : TurnLeaves m n gates k s t (choose t.edges) w d

-- edge e is live and stands from p to q, g is its number as a word, which question 9 lets pass, and z says whether it is doubtful
pub record Chosen (m : ℕ) (s : Tables) (e p q g : ℕ) (z : Bool) : Type 0 where
  pub e_in : e < m
  pub live : get_or (s.at weight) e 0 ≡ 0 → ⊥
  pub first : p ≡ (edge_now s e).first
  pub second : q ≡ (edge_now s e).second
  pub number : Ok g ≡ number_by (quot (edge_now s e).link.diff (get_or (s.at weight) e 0))
  pub doubt : z ≡ doubtful (quotient (edge_now s e).link.diff (get_or (s.at weight) e 0))

-- the merge of edge e from the network t
pub record PickIs (m n : ℕ) (gates : ℕ → ℕ) (k : ℕ) (s : Tables) (t : State) (e : ℕ) (w : List ℕ) (d : List Float) (r : Result Turned MergeRefused) : Type 0 where
  pub answer : r ≡ merged_by (in_range (event t e))
  pub leaves : in_range (event t e) ≡ true → MergeLeaves m n gates k s t e w d

-- the same from whatever network the tables stand for
abbrev pub AnyPick : ℕ → ℕ → ℕ → Tables → ℕ → List ℕ → List Float → Result Turned MergeRefused → Type 0
AnyPick m n k s e w d r = (gates : ℕ → ℕ) (t : State) → Rep m n gates k s t → PickIs m n gates k s t e w d r

abbrev pub AnyTurn : ℕ → ℕ → ℕ → Tables → List ℕ → List Float → Result Turned MergeRefused → Type 0
AnyTurn m n k s w d r = (gates : ℕ → ℕ) (t : State) → Rep m n gates k s t → TurnIs m n gates k s t w d r

-- the tables of a network before its first merge: each region a node of its own, its gates in the table of sizes
unfoldable pub gates_in : Tables → ℕ → ℕ
gates_in s r = get_or (s.at size) r 0

unfoldable pub first_of : ℕ → ℕ → Tables → State
first_of m n s = state_of m n (gates_in s) (λ r. r) s

-- no region is marked
abbrev pub Unmarked : ℕ → Tables → Type 0
Unmarked n s = (x : ℕ) → x < n → get_or (s.at mark) x 0 ≡ 0

-- the counts, marks and log in their tables at the end o of a run, vs being what its merges found and did, and bs their entries
pub record EndLeaves (m n : ℕ) (gates : ℕ → ℕ) (vs : List Event) (bs : List Entry) (o : Done) (w : List ℕ) (d : List Float) : Type 0 where
  pub node : ℕ → ℕ
  pub regions : o.last.regions ≡ map (region_of gates node (view m n w d)) (upto n 0)
  pub most : (j : ℕ) → j < n → get_or ((view m n w d).at count) j 0 ≤ 2000
  pub marks : (j : ℕ) → j < n → get_or ((view m n w d).at mark) j 0 ≡ cond (marked vs j) 1 0
  pub entries : Entries (log_in (view m n w d)) o.merges bs

-- what the whole run leaves, by its end; nothing is said after a refusal
unfoldable pub RunLeaves : ℕ → ℕ → (ℕ → ℕ) → List Event → List Entry → Option Done → List ℕ → List Float → Type 0
RunLeaves m n gates vs bs none w d = Unit {0}
RunLeaves m n gates vs bs (some o) w d = EndLeaves m n gates vs bs o w d

-- the whole run
pub record RanIs (m n : ℕ) (gates : ℕ → ℕ) (vs : List Event) (bs : List Entry) (o : Option Done) (w : List ℕ) (d : List Float) (r : Result ℕ MergeRefused) : Type 0 where
  pub answer : r ≡ ran_of o
  pub leaves : RunLeaves m n gates vs bs o w d

-- the whole run from the network t
abbrev pub RunIs : ℕ → ℕ → (ℕ → ℕ) → State → List ℕ → List Float → Result ℕ MergeRefused → Type 0
RunIs m n gates t w d r = RanIs m n gates (trace t (run m t)) (book t (run m t)) (settle m t 0) w d r
