-- The tables that a step leaves alone. Assumes nothing.
use Rattle.std.proofs.Common.{◌≡◌, ℕ, zero, suc, ◌+◌, ◌-◌, ◌*◌, ◌/◌, Bool, true, false, cond, Option, Some, None, ◌||◌, eqb, ltb, get_or, refl}
use lib.Ieee.{nan, Float, neg}
use Rattle.merge.specs.Inside.Table.{Table, weight, first, second, bridged, enext, elen, is}
use Rattle.merge.specs.Inside.Tables.{Tables, store}
use Rattle.merge.specs.Inside.Steps.{spent, drop_at, passed, kept, along, pruned, moved_all, turn_at, turned, face_at, mate, hand_over, absorb_at, attach_at, join_edge, shift, moved_edge, take_edge, walk_moved}
use Rattle.merge.proofs.TableLaws.{Alike, alike_refl, alike_then, alike_store, alike_diff}

-- the tables of the edges themselves
abbrev of_edges : Table → Bool
of_edges u = is weight u || is first u || is second u || is bridged u

-- all other tables are alike
abbrev pub Frame : Tables → Tables → Type 0
Frame = Alike of_edges

frame_refl : (s : Tables) → Frame s s
frame_refl = alike_refl of_edges

frame_then : (s t u : Tables) → Frame s t → Frame t u → Frame s u
frame_then = alike_then of_edges

frame_store : (t : Table) (s : Tables) (j x : ℕ) → of_edges t ≡ true → Frame (store t s j x) s
frame_store = alike_store of_edges

pub frame_face : (s : Tables) (f : ℕ) → Frame (face_at s f) s
unfolding face_at turn_at
frame_face s f = go (turned s f)
  where
    go : (t : Bool) → Frame (cond t (turn_at s f) s) s
    go true = frame_then _ _ _ (alike_diff of_edges _ f _) (frame_then _ _ _ (frame_store second _ f _ refl) (frame_store first s f _ refl))
    go false = frame_refl s

frame_hand : (t : Table) (s : Tables) (q f : ℕ) → of_edges t ≡ true → Frame (hand_over t s q f) s
unfolding hand_over
frame_hand t s q f e = frame_then _ _ _ (frame_store t _ f 0 e) (frame_store t s q _ e)

pub frame_absorb : (s : Tables) (q f : ℕ) (x : Float) → Frame (absorb_at s q f x) s
unfolding absorb_at
frame_absorb s q f x = frame_then _ _ _ (frame_hand weight _ q f refl) (frame_then _ _ _ (frame_hand bridged _ q f refl) (alike_diff of_edges s q _))

pub frame_attach : (b : ℕ) (s : Tables) (f c : ℕ) (x : Float) → Frame (attach_at b s f c x) s
unfolding attach_at
frame_attach b s f c x = frame_then _ _ _ (alike_diff of_edges _ f x) (frame_then _ _ _ (frame_store second _ f c refl) (frame_store first s f b refl))

frame_join : (m b : ℕ) (s : Tables) (f c : ℕ) (x : Float) → Frame (join_edge m b s f c x) s
unfolding join_edge
frame_join m b s f c x = go (mate m b s c)
  where
    go : (o : Option ℕ) → Frame (elim o [ Some q ↦ absorb_at (face_at s q) q f x | None ↦ attach_at b s f c x ]) s
    go (Some q) = frame_then _ _ _ (frame_absorb (face_at s q) q f x) (frame_face s q)
    go None = frame_attach b s f c x

frame_moved : (m b v g : ℕ) (s : Tables) (f : ℕ) → Frame (moved_edge m b v g s f) s
unfolding moved_edge
frame_moved m b v g s f = go (eqb (get_or (s.at weight) f 0) 0) (eqb (get_or (s.at first) f 0) v) (eqb (get_or (s.at second) f 0) v)
  where
    go : (y z t : Bool) → Frame (cond y s (cond z (join_edge m b s f (get_or (s.at second) f 0) (shift false g (get_or (s.at weight) f 0) (get_or s.diff f nan))) (cond t (join_edge m b s f (get_or (s.at first) f 0) (neg (shift true g (get_or (s.at weight) f 0) (get_or s.diff f nan)))) s))) s
    go true z t = frame_refl s
    go false true t = frame_join m b s f _ _
    go false false true = frame_join m b s f _ _
    go false false false = frame_refl s

frame_take : (m b v g : ℕ) (s : Tables) (f : ℕ) → Frame (take_edge m b v g s f) s
unfolding take_edge
frame_take m b v g s f = go (ltb f m)
  where
    go : (t : Bool) → Frame (cond t (moved_edge m b v g (face_at s f) f) s) s
    go true = frame_then _ _ _ (frame_moved m b v g (face_at s f) f) (frame_face s f)
    go false = frame_refl s

frame_walk_moved : (k m b v g : ℕ) (s : Tables) (x : ℕ) → Frame (walk_moved k m b v g s x) s
unfolding walk_moved
frame_walk_moved zero m b v g s x = frame_refl s
frame_walk_moved (suc k) m b v g s x = frame_then _ _ _ (frame_walk_moved k m b v g (take_edge m b v g s (x / 2)) (get_or (s.at enext) x 0)) (frame_take m b v g s (x / 2))

-- the chains of slots
abbrev pub of_slots : Table → Bool
of_slots u = is enext u || is elen u

-- all other tables are alike, and the differences
pub record Same (s t : Tables) : Type 0 where
  pub beside : Alike of_slots s t
  pub diff : s.diff ≡ t.diff

pub same_refl : (s : Tables) → Same s s
same_refl s = record { beside = alike_refl of_slots s; diff = refl }

pub same_drop : (b : ℕ) (u s : Tables) (p x : ℕ) → Same u s → Same (drop_at b u p x) s
unfolding drop_at
same_drop b u s p x h = record {
  beside = alike_then of_slots _ _ _ (alike_store of_slots elen _ b _ refl) (alike_then of_slots _ _ _ (alike_store of_slots enext _ x x refl) (alike_then of_slots _ _ _ (alike_store of_slots enext u p _ refl) h.beside));
  diff = unfold store in h.diff;
}

same_along : (m b : ℕ) (t : Tables) (k : ℕ) (s : Tables) (p x : ℕ) → Same s t → Same (along k m b s p x) t
unfolding along passed
same_along m b t zero s p x h = h
same_along m b t (suc k) s p x h = same_along m b t k (cond (spent m s x) (drop_at b s p x) s) (kept m s p x) (get_or (s.at enext) x 0) (go (spent m s x))
  where
    go : (u : Bool) → Same (cond u (drop_at b s p x) s) t
    go true = same_drop b s t p x h
    go false = h

pub same_pruned : (m b : ℕ) (s : Tables) → Same (pruned m b s) s
unfolding pruned
same_pruned m b s = same_along m b s (get_or (s.at elen) b 0 - 1) s (2 * m + b) (get_or (s.at enext) (2 * m + b) 0) (same_refl s)

pub frame_moved_all : (m b v g : ℕ) (s : Tables) → Frame (moved_all m b v g s) s
unfolding moved_all
frame_moved_all m b v g s = frame_walk_moved (get_or (s.at elen) v 0 - 1) m b v g s (get_or (s.at enext) (2 * m + v) 0)
