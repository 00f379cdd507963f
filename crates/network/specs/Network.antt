-- network.rs: regions joined by weighted edges, and the steps that join them into nodes.
-- Letters: e an edge, i or k its number, a a node, b the base, m the moved node, p the plan of a merge, r a region or a record, w a weight.
use Rattle.std.specs.Prelude.{Bool, true, false, not, ◌&&◌, ◌||◌, cond, List, [], ◌∷◌, map, ℕ, zero, suc, ◌+◌, leb, ltb, eqb, length, ℤ, pos, negsuc, ◌+ℤ◌, neg_ℤ, Float, Some, None}
use Rattle.std.specs.Prelude as Std
use Rattle.std.proofs.Math.Option.{Option, none, some}
use Rattle.std.specs.Float.{binary32, binary64}
use Rattle.std.specs.Float.Ieee.{add, neg, div}
use Rattle.lists.specs.Seq.{upto, all, keep}
use Rattle.arithmetic.specs.Rounding.{round_even, real, scale}
use Rattle.arithmetic.specs.Doubtful.{doubtful}
use Rattle.edges.specs.Edges.{difference, pairs, used}
use Rattle.edges.specs.declared.edges.Shape.{Shape}
use Rattle.edges.specs.declared.edges.EdgeRecord.{EdgeRecord}
use Rattle.network.specs.declared.network.PoppedEdge.{PoppedEdge}

-- ---- the network

-- An edge's weight, its difference and how many of its pairs are bridged: what follows its node when it moves.
pub record Link : Type 0 where
  pub weight : ℕ
  pub diff : Float
  pub bridged : ℕ

-- An edge: its number, whether it is live, the nodes at its ends, and its link.
pub record Edge : Type 0 where
  pub num : ℕ
  pub live : Bool
  pub first : ℕ
  pub second : ℕ
  pub link : Link

-- A region: its label, its number of gates, the node it belongs to and its count.
pub record Region : Type 0 where
  pub label : ℕ
  pub size : ℕ
  pub node : ℕ
  pub count : ℤ

-- The network: its edges and its regions.
pub record State : Type 0 where
  pub edges : List Edge
  pub regions : List Region

-- ---- whole numbers

-- -k ≤ z ≤ k
unfoldable pub bounded : ℕ → ℤ → Bool
bounded k (pos n) = leb n k
bounded k (negsuc n) = ltb n k

-- whether z is 0
unfoldable pub is_zero : ℤ → Bool
is_zero (pos n) = eqb n 0
is_zero (negsuc n) = false

-- ---- nodes

-- The gates of node a.
unfoldable pub size_of : List Region → ℕ → ℕ
size_of [] a = 0
size_of (r ∷ rs) a = cond (eqb a r.node) r.size 0 + size_of rs a

-- the gates of all regions
unfoldable pub gates_of : List Region → ℕ
gates_of [] = 0
gates_of (r ∷ rs) = r.size + gates_of rs

-- What f gives of each region of node a.
unfoldable pub gather : {A : Type 0} → (Region → A) → List Region → ℕ → List A
gather f [] a = []
gather f (r ∷ rs) a = cond (eqb a r.node) (f r ∷ gather f rs a) (gather f rs a)

-- The regions of node a.
unfoldable pub members : List Region → ℕ → List ℕ
members rs a = gather (λ r. r.label) rs a

-- The counts of node a's regions after a gain.
unfoldable pub raised : ℤ → List Region → ℕ → List ℤ
raised k rs a = gather (λ r. r.count +ℤ k) rs a

-- The live edge of number i.
unfoldable pub at : List Edge → ℕ → Option Edge
at [] i = none
at (e ∷ es) i = cond (e.live && eqb i e.num) (some e) (at es i)

-- ---- what a merge does

-- A rounded number. What is beyond 2 ^ 30 or no number becomes 2000, which question 9 refuses like any number past 1,000.
unfoldable pub whole : Std.Option ℤ → ℤ
whole (Some z) = z
whole None = pos 2000

-- A difference divided by its weight, in f64.
abbrev pub quotient : Float → ℕ → Float
quotient d w = div binary64 d (real (pos w))

-- The same, rounded to the nearest whole number, a tie to the even one.
unfoldable pub quot : Float → ℕ → ℤ
quot d w = whole (round_even (quotient d w))

-- What a merge does: the edge that it consumes, the base, the moved node and the number that the moved node gains.
pub record Plan : Type 0 where
  pub edge : ℕ
  pub base : ℕ
  pub moved : ℕ
  pub gain : ℤ

-- The larger node is the base; at equal sizes the second end is. The number is negated when the second end is the base.
unfoldable pub plan_for : Bool → Edge → Plan
plan_for first e = record {
  edge = e.num;
  base = cond first e.first e.second;
  moved = cond first e.second e.first;
  gain = cond first (quot e.link.diff e.link.weight) (neg_ℤ (quot e.link.diff e.link.weight));
}

-- What the merge of an edge does: the larger node is the base.
unfoldable pub plan : List Region → Edge → Plan
plan rs e = plan_for (ltb (size_of rs e.second) (size_of rs e.first)) e

-- ---- the edges in a merge

-- The chosen edge dies.
unfoldable pub kill : ℕ → Edge → Edge
kill i e = record {
  num = e.num;
  live = e.live && not (eqb i e.num);
  first = e.first;
  second = e.second;
  link = e.link;
}

-- The new difference of an edge, whose first or second end is the moved node or not.
unfoldable pub shifted : Bool → Bool → Bool → ℤ → ℕ → Float → Float
shifted true isFirst isSecond k w d = d
shifted false true isSecond k w d = add binary32 d (scale w k)
shifted false false true k w d = add binary32 d (neg (scale w k))
shifted false false false k w d = d

-- The moved node's edges follow its gain.
unfoldable pub adjust : ℕ → ℤ → Edge → Edge
adjust m k e = record {
  num = e.num;
  live = e.live;
  first = e.first;
  second = e.second;
  link = record {
    weight = e.link.weight;
    diff = shifted (is_zero k) (eqb m e.first) (eqb m e.second) k e.link.weight e.link.diff;
    bridged = e.link.bridged;
  };
}

-- An edge turned, if asked.
unfoldable pub turn_if : Bool → Edge → Edge
turn_if b e = record {
  num = e.num;
  live = e.live;
  first = cond b e.second e.first;
  second = cond b e.first e.second;
  link = record { weight = e.link.weight; diff = cond b (neg e.link.diff) e.link.diff; bridged = e.link.bridged };
}

-- An edge whose second end is node x is turned.
unfoldable pub turn : ℕ → Edge → Edge
turn x e = turn_if (eqb x e.second) e

-- The live edge from node x to node c.
unfoldable pub find : List Edge → ℕ → ℕ → Option Link
find [] x c = none
find (e ∷ es) x c = cond (e.live && eqb x e.first && eqb c e.second) (some e.link) (find es x c)

-- The base's edge, with the moved node's edge to the same neighbour, if there is one.
unfoldable pub absorb : Option Link → Edge → Edge
absorb none e = e
absorb (some g) e = record {
  num = e.num;
  live = e.live;
  first = e.first;
  second = e.second;
  link = record { weight = e.link.weight + g.weight; diff = add binary32 e.link.diff g.diff; bridged = e.link.bridged + g.bridged };
}

-- Whether there is no such edge.
unfoldable pub absent : Option Link → Bool
absent none = true
absent (some g) = false

-- The moved node's edge becomes the base's, or dies where the base has an edge to the same neighbour.
unfoldable pub hand : ℕ → Option Link → Edge → Edge
hand b g e = record {
  num = e.num;
  live = e.live && absent g;
  first = b;
  second = e.second;
  link = e.link;
}

-- An edge after the nodes are joined, es being all edges before.
unfoldable pub combine : List Edge → ℕ → ℕ → Edge → Edge
combine es b m e =
    cond (eqb b e.first) (absorb (find es m e.second) e)
    (cond (eqb m e.first) (hand b (find es b e.second) e) e)

-- An edge before the nodes are joined: killed if chosen, shifted, turned to the base or the moved node.
unfoldable pub prepare : Plan → Edge → Edge
prepare p e = turn p.moved (turn p.base (adjust p.moved p.gain (kill p.edge e)))

-- All edges after the nodes are joined.
unfoldable pub join_all : Plan → List Edge → List Edge
join_all p es = map (combine es p.base p.moved) es

-- All edges after a merge.
unfoldable pub merge_edges : Plan → List Edge → List Edge
merge_edges p es = join_all p (map (prepare p) es)

-- ---- a step

-- The moved node's regions gain the number and become the base's.
unfoldable pub move : Plan → Region → Region
move p r = record {
  label = r.label;
  size = r.size;
  node = cond (eqb p.moved r.node) p.base r.node;
  count = cond (eqb p.moved r.node) (r.count +ℤ p.gain) r.count;
}

-- A merge.
unfoldable pub merge : Plan → State → State
merge p s = record { edges = merge_edges p s.edges; regions = map (move p) s.regions }

-- The merge of an edge, if there is one.
unfoldable pub step_to : Option Edge → State → State
step_to none s = s
step_to (some e) s = merge (plan s.regions e) s

-- The merge of edge i: nothing where it isn't live.
unfoldable pub step : State → ℕ → State
step s i = step_to (at s.edges i) s

-- ---- choosing

-- The heavier of an edge and the choice among those after it; the first at equal weights.
unfoldable pub better : Edge → Option Edge → Option Edge
better e none = cond e.live (some e) none
better e (some f) = cond (e.live && leb f.link.weight e.link.weight) (some e) (some f)

-- The heaviest live edge, the first among equals.
unfoldable pub choose : List Edge → Option Edge
choose [] = none
choose (e ∷ es) = better e (choose es)

-- The answer of choosing: the ends, the difference divided by the weight in f64, whether that is doubtful, and the number of the edge chosen,
-- or none live.
unfoldable pub popped : Option Edge → Std.Option PoppedEdge
popped none = None
popped (some e) = Some (record {
  node1 = e.first;
  node2 = e.second;
  diff = quotient e.link.diff e.link.weight;
  doubtful = doubtful (quotient e.link.diff e.link.weight);
  edge_number = e.num;
})

-- ---- the run

-- The numbers chosen from here, rest being the run of a later state.
unfoldable pub follow : Option Edge → State → (State → List ℕ) → List ℕ
follow none s rest = []
follow (some e) s rest = e.num ∷ rest (step s e.num)

-- The numbers of the edges that the steps choose, in order.
unfoldable pub run : ℕ → State → List ℕ
run zero s = []
run (suc n) s = follow (choose s.edges) s (run n)

-- The merges: as many turns as there are edges are enough.
unfoldable pub merges : State → List ℕ
merges s = run (length s.edges) s

-- A merge list done one entry after another.
unfoldable pub replay : State → List ℕ → State
replay s [] = s
replay s (i ∷ is) = replay (step s i) is

-- ---- what a run finds and does

-- What an entry of a merge list finds and does.
pub record Event : Type 0 where
  pub edge : ℕ
  pub live : Bool
  pub number : ℤ
  pub doubtful : Bool
  pub gain : ℤ
  pub base : List ℕ
  pub moved : List ℕ
  pub counts : List ℤ

-- What the merge of edge i finds and does.
unfoldable pub event_of : List Region → ℕ → Option Edge → Event
event_of rs i none = record { edge = i; live = false; number = pos 0; doubtful = false; gain = pos 0; base = []; moved = []; counts = [] }
event_of rs i (some e) = record {
  edge = i;
  live = true;
  number = quot e.link.diff e.link.weight;
  doubtful = doubtful (quotient e.link.diff e.link.weight);
  gain = (plan rs e).gain;
  base = members rs (plan rs e).base;
  moved = members rs (plan rs e).moved;
  counts = raised (plan rs e).gain rs (plan rs e).moved;
}

-- The same, of the edge of number i.
unfoldable pub event : State → ℕ → Event
event s i = event_of s.regions i (at s.edges i)

-- What each entry of a merge list finds and does.
unfoldable pub trace : State → List ℕ → List Event
trace s [] = []
trace s (i ∷ is) = event s i ∷ trace (step s i) is

-- ---- counts, and question 9

-- The count of region a; 0 where there is none.
unfoldable pub count_of : List Region → ℕ → ℤ
count_of [] a = pos 0
count_of (r ∷ rs) a = cond (eqb a r.label) r.count (count_of rs a)

-- Question 9 of one merge.
unfoldable pub in_range : Event → Bool
in_range v = bounded 1000 v.number && all (bounded 1000) v.counts

-- ---- marks

-- Whether a is in a list.
unfoldable pub has : ℕ → List ℕ → Bool
has a [] = false
has a (x ∷ xs) = eqb a x || has a xs

-- Whether a merge marks region l: it is doubtful, and l is in the moved node.
unfoldable pub marks : Event → ℕ → Bool
marks v l = v.doubtful && has l v.moved

-- Whether one of these merges marks region l.
unfoldable pub marked : List Event → ℕ → Bool
marked [] l = false
marked (v ∷ vs) l = marks v l || marked vs l

-- The mark of a gate of label l as a byte: 1 if its region is marked; a gate of label 0, without a region, has mark 0.
unfoldable pub mark_of : List Event → ℕ → ℕ
mark_of vs l = cond (not (eqb l 0) && marked vs l) 1 0

-- ---- the first network

-- An edge of number k from its record, with 2 × Nyquist.
unfoldable pub edge_of : Float → ℕ → EdgeRecord → Edge
edge_of two_nyquist k r = record {
  num = k;
  live = true;
  first = r.one;
  second = r.two;
  link = record { weight = r.count; diff = difference two_nyquist r; bridged = r.bridged };
}

-- The edges of records, numbered from k.
unfoldable pub numbered : Float → ℕ → List EdgeRecord → List Edge
numbered two_nyquist k [] = []
numbered two_nyquist k (r ∷ rs) = edge_of two_nyquist k r ∷ numbered two_nyquist (suc k) rs

-- Regions of these sizes, labelled from k, each a node of its own with count 0.
unfoldable pub alone : ℕ → List ℕ → List Region
alone k [] = []
alone k (n ∷ ns) = record { label = k; size = n; node = k; count = pos 0 } ∷ alone (suc k) ns

-- How many gates have label l.
unfoldable pub size_in : List ℕ → ℕ → ℕ
size_in labels l = length (keep (eqb l) labels)

-- The first state: edges numbered from 0, regions from 1.
unfoldable pub start : Float → List EdgeRecord → List ℕ → State
start two_nyquist rs ns = record { edges = numbered two_nyquist 0 rs; regions = alone 1 ns }

-- The network of labelled gates, k being the number of regions.
unfoldable pub network_by : Float → Shape → ℕ → List ℕ → List Float → State
network_by two_nyquist shape k labels vel = start two_nyquist (used k (pairs shape labels vel)) (map (size_in labels) (upto k 1))

-- Question 9 of every merge.
unfoldable pub merges_in_range : State → Bool
merges_in_range s = all in_range (trace s (merges s))
