-- Demand 3, stated: merge lists, and two sweeps alike on an echo. An echo is any set of gates, given as a test of gate numbers. Words in
-- quotes are the scope document's. `merge_lists` and `two_sweeps` prove the two statements.
use Rattle.std.specs.Prelude.{ℕ, ◌<◌, ◌≡◌, Bool, true, false, cond, not, ◌&&◌, ◌||◌, List, [], ◌∷◌, map, eqb, length, get_or, ℤ, pos, ◌+ℤ◌, Float}
use Rattle.std.proofs.Math.Option.{Option, none, some}
use Rattle.std.specs.Float.{nan}
use Rattle.lists.specs.Seq.{upto, keep, all}
use Rattle.edges.specs.declared.edges.EdgeRecord.{EdgeRecord}
use Rattle.edges.specs.Edges.{sees, used}
use Rattle.edges.specs.declared.edges.Direction.{Direction}
use Rattle.network.specs.Network.{State, Event, replay, trace, count_of, mark_of}
use Rattle.sweep.specs.Sweep.{Sweep, regions_of, pairs_of, network_of, unfolded}
use Rattle.sweep.specs.Questions.{Lent, accepted, own_limits, outcome}

-- "A sweep is accepted if questions 1 to 9 .. all get a yes": c are then its counts and ds its marks. By `call_accepts` every call that answers 0
-- has such a sweep, and c and ds are the counts and marks that it leaves.
pub record Accepted (s : Sweep) (c : List ℤ) (ds : List ℕ) : Type 0 where
  pub lent : Lent
  pub regions : ℕ
  pub merges : ℕ
  pub yes : outcome s lent ≡ accepted c ds regions merges

-- ---- apart

-- the label of gate g by these limits; 0 where it has none
abbrev pub label_at : Sweep → List Float → ℕ → ℕ
label_at s limits g = get_or (regions_of s limits).labels g 0

-- Gate g sees gate h: g is labelled, and h is "the gate reached with a label" in one of the four directions.
pub record Sees (s : Sweep) (limits : List Float) (g h : ℕ) : Type 0 where
  pub labelled : 0 < label_at s limits g
  pub direction : Direction
  pub seen : sees s.shape (regions_of s limits).labels direction g ≡ some h

-- No gate of the echo sees a gate outside it, and none outside sees one of the echo: a gate and one that it sees lie on one side.
abbrev pub Apart : (ℕ → Bool) → Sweep → List Float → Type 0
Apart E s limits = (g h : ℕ) → Sees s limits g h → E g ≡ E h

-- ---- merge lists

-- whether the region of label l lies in the echo: each of its gates does
unfoldable pub lies_in : (ℕ → Bool) → List ℕ → ℕ → Bool
lies_in E labels l = all (λ g. not (eqb (get_or labels g 0) l) || E g) (upto (length labels) 0)

-- whether both regions of a record lie in the echo
unfoldable pub both_in : (ℕ → Bool) → List ℕ → EdgeRecord → Bool
both_in E labels r = lies_in E labels r.one && lies_in E labels r.two

-- "A merge is the echo's if the two regions of its edge's record lie in the echo, else the rest's."
unfoldable pub echoes : (ℕ → Bool) → Sweep → List Float → ℕ → Bool
echoes E s limits i = let f = regions_of s limits in get_or (map (both_in E f.labels) (used f.number (pairs_of s f))) i false

-- "A merge list holds the echo's merges and the rest's, each once and nothing else, each side in its own order." The run's own merges hold no
-- edge twice (`merges_once`).
pub record MergeList (E : ℕ → Bool) (s : Sweep) (limits : List Float) (l : List ℕ) : Type 0 where
  pub echo : keep (echoes E s limits) l ≡ keep (echoes E s limits) (unfolded s limits).merges
  pub rest : keep (λ i. not (echoes E s limits i)) l ≡ keep (λ i. not (echoes E s limits i)) (unfolded s limits).merges

-- "It starts with every region a node of its own, all counts 0 and the edges as numbered."
abbrev pub first : Sweep → List Float → State
first s limits = network_of s (regions_of s limits)

-- what a run found and did at the turn of edge i
unfoldable pub turn_at : List Event → ℕ → Option Event
turn_at [] i = none
turn_at (v ∷ vs) i = cond (eqb i v.edge) (some v) (turn_at vs i)

-- "At the end a labelled gate has its region's count, any other gate 0": the count of gate g in network n.
unfoldable pub count_at : Sweep → List Float → State → ℕ → ℤ
count_at s limits n g = cond (eqb (label_at s limits g) 0) (pos 0) (count_of n.regions (label_at s limits g))

-- the mark of gate g by what a run found and did
unfoldable pub mark_at : Sweep → List Float → List Event → ℕ → ℕ
mark_at s limits vs g = mark_of vs (label_at s limits g)

-- the sweep with centring off
unfoldable pub uncentred : Sweep → Sweep
uncentred s = record { shape = s.shape; splits = s.splits; centred = 0; nyquist = s.nyquist; vel = s.vel; mask = s.mask }

-- What a merge list does. An event holds the edge, whether it is live, its rounded difference, the regions in base and moved node, and more.
pub record Does (s : Sweep) (limits : List Float) (l : List ℕ) : Type 0 where
  -- it "finds each of its edges live"
  pub live : all (λ v. v.live) (trace (first s limits) l) ≡ true
  -- "with the same regions in base and moved node and the same rounded difference as in the sweep's own run"
  pub alike : map some (trace (first s limits) l) ≡ map (turn_at (trace (first s limits) (unfolded s limits).merges)) l
  -- it "leaves no edge live"
  pub ended : keep (λ e. e.live) (replay (first s limits) l).edges ≡ []
  -- and "gives every gate its uncentred count"
  pub counts : (g : ℕ) → count_at s limits (replay (first s limits) l) g ≡ get_or (unfolded (uncentred s) limits).counts g (pos 0)
  -- and it marks the gates that the sweep's own run marks (U7)
  pub marks : (g : ℕ) → mark_at s limits (trace (first s limits) l) g ≡ get_or (unfolded s limits).doubtful g 0

-- Of an accepted sweep and an echo apart from the rest: one claim over all merge lists.
abbrev pub MergeListsHold : Type 0
MergeListsHold =
    (E : ℕ → Bool) (s : Sweep) (c : List ℤ) (ds : List ℕ) → Accepted s c ds → Apart E s (own_limits s) → (l : List ℕ) → MergeList E s (own_limits s) l → Does s (own_limits s) l

-- ---- two sweeps

-- Rays, gates, Nyquist, options and limits are equal, the masks on the echo, and the velocities at the echo's valid gates.
pub record Alike (E : ℕ → Bool) (s t : Sweep) : Type 0 where
  pub shape : s.shape ≡ t.shape
  pub splits : s.splits ≡ t.splits
  pub centred : s.centred ≡ t.centred
  pub nyquist : s.nyquist ≡ t.nyquist
  pub limits : own_limits s ≡ own_limits t
  pub mask : (g : ℕ) → E g ≡ true → get_or s.mask g 0 ≡ get_or t.mask g 0
  pub vel : (g : ℕ) → E g ≡ true → get_or s.mask g 0 ≡ 1 → get_or s.vel g nan ≡ get_or t.vel g nan

-- the number that centring took away, 0 if it is off
abbrev pub offset : Sweep → ℤ
offset s = (unfolded s (own_limits s)).offset

-- The counts c of s and d of t agree on the echo: centring off, they are the same; on, they are but for each sweep's own offset, at each
-- valid gate; so one whole number parts them. The marks x of s and y of t are the same there (U7).
pub record Agree (E : ℕ → Bool) (s t : Sweep) (c d : List ℤ) (x y : List ℕ) : Type 0 where
  pub off : s.centred ≡ 0 → (g : ℕ) → E g ≡ true → get_or c g (pos 0) ≡ get_or d g (pos 0)
  pub on : (g : ℕ) → E g ≡ true → get_or s.mask g 0 ≡ 1 → get_or c g (pos 0) +ℤ offset s ≡ get_or d g (pos 0) +ℤ offset t
  pub one : (k : ℤ) × ((g : ℕ) → E g ≡ true → get_or s.mask g 0 ≡ 1 → get_or c g (pos 0) ≡ get_or d g (pos 0) +ℤ k)
  pub marks : (g : ℕ) → E g ≡ true → get_or x g 0 ≡ get_or y g 0

-- Of two accepted sweeps alike on an echo that is apart from the rest in both.
abbrev pub TwoSweepsHold : Type 0
TwoSweepsHold =
    (E : ℕ → Bool) (s t : Sweep) (c d : List ℤ) (x y : List ℕ) → Accepted s c x → Accepted t d y
    → Alike E s t → Apart E s (own_limits s) → Apart E t (own_limits t) → Agree E s t c d x y
