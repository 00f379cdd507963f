-- What each function of the merging code does to the tables, step by step as the code goes.
use Rattle.std.specs.Prelude.{ℕ, zero, suc, ◌+◌, ◌-◌, ◌*◌, ◌/◌, Bool, true, false, cond, ◌&&◌, List, [], ◌∷◌, ℤ, pos, negsuc, ◌+ℤ◌, ◌==◌, nat_le, nat_lt, Float}
use Rattle.std.specs.Prelude.{slice_index, slice_index_or, slice_set, Some, None}
use Rattle.std.specs.Prelude as Prelude
use Rattle.std.proofs.Math.Option.{Option, none, some}
use Rattle.std.specs.Float.{nan, binary32}
use Rattle.std.specs.Float.Ieee.{neg, add}
use Rattle.merge.specs.Inside.Tables.{Tables, store, with_table, diff_set}
use Rattle.merge.specs.Inside.Table.{Table, weight, first, second, bridged, enext, rnext, stamp, size, elen, rlen, count, mark, log}
use Rattle.lists.specs.Inside.Seg.{put}
use Rattle.arithmetic.specs.Rounding.{scale}

-- numbers from -1000 to 1000 are kept as words from 0 to 2000
unfoldable pub unbias : ℕ → ℤ
unbias g = pos g +ℤ negsuc 999

-- edge f turned
unfoldable pub turn_at : Tables → ℕ → Tables
turn_at s f = diff_set (store second (store first s f (slice_index (s.at second) f)) f (slice_index (s.at first) f)) f (neg (slice_index_or s.diff f nan))

-- edge f stands the other way round than it is stored: its second end was a base later than its first
unfoldable pub turned : Tables → ℕ → Bool
turned s f = nat_lt (slice_index (s.at stamp) (slice_index (s.at first) f)) (slice_index (s.at stamp) (slice_index (s.at second) f))

-- edge f stored as it stands
unfoldable pub face_at : Tables → ℕ → Tables
face_at s f = cond (turned s f) (turn_at s f) s

-- a slot that no walk needs: the header of a node that is merged, or a slot of a dead edge
unfoldable pub spent : ℕ → Tables → ℕ → Bool
spent m s x = cond (nat_lt (x / 2) m) (slice_index (s.at weight) (x / 2) == 0) true

-- slot x, the next after p in b's chain, becomes a circle of its own
unfoldable pub drop_at : ℕ → Tables → ℕ → ℕ → Tables
drop_at b s p x = store elen (store enext (store enext s p (slice_index (s.at enext) x)) x x) b (slice_index (s.at elen) b - 1)

-- slot x of b's chain: dropped where it is spent
unfoldable pub passed : ℕ → ℕ → Tables → ℕ → ℕ → Tables
passed m b s p x = cond (spent m s x) (drop_at b s p x) s

-- the last slot kept: p before x
unfoldable pub kept : ℕ → Tables → ℕ → ℕ → ℕ
kept m s p x = cond (spent m s x) p x

-- the next k slots of b's chain from slot x on, which comes after p
unfoldable pub along : ℕ → ℕ → ℕ → Tables → ℕ → ℕ → Tables
along zero m b s p x = s
along (suc k) m b s p x = along k m b (passed m b s p x) (kept m s p x) (slice_index (s.at enext) x)

-- b's chain without its spent slots
unfoldable pub pruned : ℕ → ℕ → Tables → Tables
pruned m b s = along (slice_index (s.at elen) b - 1) m b s (2 * m + b) (slice_index (s.at enext) (2 * m + b))

-- edge f is live and joins b and c, in whatever order it is stored
unfoldable pub joins_at : ℕ → ℕ → ℕ → Tables → ℕ → Bool
joins_at m b c s f =
    cond (nat_lt f m)
    (cond (slice_index (s.at weight) f == 0) false
    (cond (slice_index (s.at first) f == b) (slice_index (s.at second) f == c)
    (cond (slice_index (s.at first) f == c) (slice_index (s.at second) f == b) false)))
    false

-- the first edge that joins b and c among those of the next k slots from slot x on
unfoldable pub seek : ℕ → ℕ → ℕ → ℕ → Tables → ℕ → Prelude.Option ℕ
seek zero m b c s x = None
seek (suc k) m b c s x = cond (joins_at m b c s (x / 2)) (Some (x / 2)) (seek k m b c s (slice_index (s.at enext) x))

-- the same along the whole of node h's chain
unfoldable pub seek_all : ℕ → ℕ → ℕ → Tables → ℕ → Prelude.Option ℕ
seek_all m b c s h = seek (slice_index (s.at elen) h - 1) m b c s (slice_index (s.at enext) (2 * m + h))

-- the base's live edge to c, looked for along the shorter of their chains
unfoldable pub mate : ℕ → ℕ → Tables → ℕ → Prelude.Option ℕ
mate m b s c = cond (nat_lt (slice_index (s.at elen) b) (slice_index (s.at elen) c)) (seek_all m b c s b) (seek_all m b c s c)

-- what edge f has in a table goes to edge q
unfoldable pub hand_over : Table → Tables → ℕ → ℕ → Tables
hand_over t s q f = store t (store t s q (slice_index (s.at t) q + slice_index (s.at t) f)) f 0

-- edge q takes up edge f, whose difference is x
unfoldable pub absorb_at : Tables → ℕ → ℕ → Float → Tables
absorb_at s q f x = hand_over weight (hand_over bridged (diff_set s q (add binary32 (slice_index_or s.diff q nan) x)) q f) q f

-- edge f becomes the base's edge to c
unfoldable pub attach_at : ℕ → Tables → ℕ → ℕ → Float → Tables
attach_at b s f c x = diff_set (store second (store first s f b) f c) f x

-- edge f, to c, goes into the edge that the base has to c, or becomes it
unfoldable pub join_edge : ℕ → ℕ → Tables → ℕ → ℕ → Float → Tables
join_edge m b s f c x = elim (mate m b s c) [ Some q ↦ absorb_at (face_at s q) q f x | None ↦ attach_at b s f c x ]

-- a difference that follows a gain
unfoldable pub shift : Bool → ℕ → ℕ → Float → Float
shift minus g w d = cond (g == 1000) d (add binary32 d (cond minus (neg (scale w (unbias g))) (scale w (unbias g))))

-- edge f, if it is live and moved node v's, goes to base b
unfoldable pub moved_edge : ℕ → ℕ → ℕ → ℕ → Tables → ℕ → Tables
moved_edge m b v g s f =
    cond (slice_index (s.at weight) f == 0) s
    (cond (slice_index (s.at first) f == v) (join_edge m b s f (slice_index (s.at second) f) (shift false g (slice_index (s.at weight) f) (slice_index_or s.diff f nan)))
    (cond (slice_index (s.at second) f == v)
    (join_edge m b s f (slice_index (s.at first) f) (neg (shift true g (slice_index (s.at weight) f) (slice_index_or s.diff f nan)))) s))

-- the same of any slot's edge number: edge f is first stored as it stands; m and above are headers
unfoldable pub take_edge : ℕ → ℕ → ℕ → ℕ → Tables → ℕ → Tables
take_edge m b v g s f = cond (nat_lt f m) (moved_edge m b v g (face_at s f) f) s

unfoldable pub walk_moved : ℕ → ℕ → ℕ → ℕ → ℕ → Tables → ℕ → Tables
walk_moved zero m b v g s x = s
walk_moved (suc k) m b v g s x = walk_moved k m b v g (take_edge m b v g s (x / 2)) (slice_index (s.at enext) x)

-- a new count, not yet taken back by 1000, that question 9 count_in_range
unfoldable pub count_in_range : ℕ → Bool
count_in_range t = nat_le 1000 t && nat_le t 3000

-- the counts of the next k regions from region x on
unfoldable pub walk_raise : ℕ → ℕ → Tables → ℕ → Option Tables
walk_raise zero g s x = some s
walk_raise (suc k) g s x =
    cond (count_in_range (slice_index (s.at count) x + g)) (walk_raise k g (store count s x (slice_index (s.at count) x + g - 1000)) (slice_index (s.at rnext) x)) none

-- the marks when the next k regions from region x on are marked, next being the table of next regions
unfoldable pub walk_mark : ℕ → List ℕ → List ℕ → ℕ → List ℕ
walk_mark zero next marks x = marks
walk_mark (suc k) next marks x = walk_mark k next (slice_set marks x 1) (slice_index next x)

-- the marks when all regions of node v are
unfoldable pub marked_all : ℕ → Tables → List ℕ
marked_all v s = walk_mark (slice_index (s.at rlen) v) (s.at rnext) (s.at mark) v

-- the regions of v, the moved node, are marked if its merge is doubtful
unfoldable pub mark_if : Bool → ℕ → Tables → Tables
mark_if doubtful v s = with_table mark (cond doubtful (marked_all v s) (s.at mark)) s

-- the words of a merge's entry: base, moved node, weight and bridged pairs of edge e, the gain with 1,000 added, the moved node's gates
unfoldable pub entry_words : ℕ → ℕ → ℕ → ℕ → Tables → List ℕ
entry_words e b v g s = b ∷ v ∷ slice_index (s.at weight) e ∷ slice_index (s.at bridged) e ∷ g ∷ slice_index (s.at size) v ∷ []

-- the merge of edge e entered in the log, after k others
unfoldable pub logged : ℕ → ℕ → ℕ → ℕ → ℕ → Tables → Tables
logged k e b v g s = with_table log (put (s.at log) (6 * k) (entry_words e b v g s)) s

-- the chains of v are joined to those of b
unfoldable pub splice : ℕ → ℕ → ℕ → Tables → Tables
splice m b v s =
    store rnext
    (store rnext
    (store enext
    (store enext s (2 * m + b) (slice_index (s.at enext) (2 * m + v)))
    (2 * m + v) (slice_index (s.at enext) (2 * m + b)))
    b (slice_index (s.at rnext) v))
    v (slice_index (s.at rnext) b)

-- b's size and lengths grow by v's
unfoldable pub grow : ℕ → ℕ → Tables → Tables
grow b v s =
    store rlen
    (store elen
    (store size s b (slice_index (s.at size) b + slice_index (s.at size) v))
    b (slice_index (s.at elen) b + slice_index (s.at elen) v))
    b (slice_index (s.at rlen) b + slice_index (s.at rlen) v)

-- v's edges go to b, along the whole of v's chain
unfoldable pub moved_all : ℕ → ℕ → ℕ → ℕ → Tables → Tables
moved_all m b v g s = walk_moved (slice_index (s.at elen) v - 1) m b v g s (slice_index (s.at enext) (2 * m + v))

-- v's edges and regions go to b
unfoldable pub handed : ℕ → ℕ → ℕ → ℕ → Tables → Tables
handed m b v g s = grow b v (splice m b v (moved_all m b v g (pruned m v s)))

unfoldable pub then : Option Tables → (Tables → Tables) → Option Tables
then none f = none
then (some s) f = some (f s)

-- merge number k, of edge e: base b, moved node v, gain g
unfoldable pub merged : ℕ → ℕ → ℕ → ℕ → ℕ → ℕ → Tables → Option Tables
merged m k e b v g s = then (walk_raise (slice_index (s.at rlen) v) g (store stamp (store weight s e 0) b k) v) (handed m b v g)
