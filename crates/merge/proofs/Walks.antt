-- One turn of each walk along a chain, over plain values. Assumes nothing.
use Rattle.std.specs.Prelude as Prelude
use Rattle.std.proofs.Common.{◌≡◌, ℕ, suc, ◌+◌, ◌-◌, ◌*◌, ◌/◌, ◌<◌, ◌≤◌, Bool, true, false, cond, Some, None, Ok, Err, List, length, get_or, set, sym, refl, ap, ◌∙◌, subst, arith, Fits, w32, le-ltb, lt-ltb, le-leb}
use mathlib.Core.Option.{Option, none}
use borrow.Author.Tests.{lt-leb}
use Rattle.merge.specs.Inside.Tables.{Tables, view, HoldsTables, Sound, store}
use Rattle.merge.specs.Inside.Table.{enext, rnext, elen, rlen, count}
use Rattle.merge.specs.Inside.Steps.{joins_at, seek, seek_all, mate, take_edge, walk_moved, moved_all, count_in_range, walk_raise}
use Rattle.merge.specs.Inside.Leaves.{LeavesTables, Raised, Gains}
use Rattle.merge.specs.declared.merge.MergeRefused.{MergeRefused}
use Rattle.merge.proofs.View.{read}
use Rattle.merge.proofs.Stores.{Holding, holding, word, stored}
use Rattle.merge.proofs.Leaf.{room_of}
use Rattle.merge.proofs.SoundSet.{sound_store}
use Rattle.merge.proofs.SoundSteps.{sound_take}
use lib.Ieee.{Float}

-- ---- along the moved node's chain of slots
pub record Walk (m n b v g : ℕ) (w : List ℕ) (d : List Float) (l x i : ℕ) (goal : Tables) : Type 0 where
  pub room : HoldsTables m n w d
  pub sound : Sound m n (view m n w d)
  pub x_in : x < 2 * m + n
  pub left : walk_moved (l - i) m b v g (view m n w d) x ≡ goal

module _ (m n b v g : ℕ) (ok : Gains n b v g) where
  pub moved_start : (w : List ℕ) (d : List Float) → HoldsTables m n w d → Sound m n (view m n w d)
      → Walk m n b v g w d (get_or w (8 * m + 4 * n + v) 0) (get_or w (6 * m + (2 * m + v)) 0) 1 (moved_all m b v g (view m n w d))
  unfolding moved_all
  moved_start w d r h = record {
    room = r;
    sound = h;
    x_in = omega (arith, read enext m n w d (2 * m + v) (omega (arith, ok.v_in)), h.within enext (2 * m + v) (omega (arith, ok.v_in)));
    left = rw (read elen m n w d v ok.v_in, read enext m n w d (2 * m + v) (omega (arith, ok.v_in))) refl;
  }

  module _ (w : List ℕ) (d : List Float) (l x i : ℕ) (goal : Tables) (k : Walk m n b v g w d l x i goal) where
    pub moved_turned : i < l → (w' : List ℕ) (d' : List Float) → LeavesTables m n w' d' (take_edge m b v g (view m n w d) (x / 2)) → length w' ≡ length w → length d' ≡ length d
        → Walk m n b v g w' d' l (get_or w (6 * m + x) 0) (i + 1) goal
    unfolding walk_moved
    moved_turned lt w' d' e lw ld =
        let s : Tables = view m n w d in
        let z : l - i ≡ suc (l - (i + 1)) = omega arith in
        let nx : get_or (s.at enext) x 0 ≡ get_or w (6 * m + x) 0 = read enext m n w d x k.x_in in
        record {
          room = room_of m n w w' d d' k.room lw ld e.tree;
          sound = subst (Sound m n) (sym e.tables) (sound_take m n b v g s (x / 2) k.sound ok);
          x_in = omega (arith, k.sound.within enext x k.x_in);
          left = ap (λ (u : Tables). walk_moved (l - (i + 1)) m b v g u (get_or w (6 * m + x) 0)) e.tables ∙ ap (walk_moved (l - (i + 1)) m b v g (take_edge m b v g s (x / 2))) (sym nx)
              ∙ ap (λ (y : ℕ). walk_moved y m b v g s x) (sym z) ∙ k.left;
        }

    pub moved_end : l ≤ i → LeavesTables m n w d goal
    unfolding walk_moved
    moved_end h =
        let z : l - i ≡ 0 = omega arith in
        record { tables = ap (λ (y : ℕ). walk_moved y m b v g (view m n w d) x) (sym z) ∙ k.left; tree = k.room.tree }

-- ---- along a chain of regions
pub record Raise (m n g : ℕ) (w : List ℕ) (d : List Float) (l x i : ℕ) (goal : Option Tables) : Type 0 where
  pub room : HoldsTables m n w d
  pub sound : Sound m n (view m n w d)
  pub x_in : x < n
  pub left : walk_raise (l - i) g (view m n w d) x ≡ goal

module _ (m n g : ℕ) (hg : g ≤ 2000) where
  pub raise_start : (w : List ℕ) (d : List Float) (v : ℕ) → HoldsTables m n w d → Sound m n (view m n w d) → v < n → Raise m n g w d (get_or w (8 * m + 5 * n + v) 0) v 0 (walk_raise (get_or ((view m n w d).at rlen) v 0) g (view m n w d) v)
  raise_start w d v r h lt = record { room = r; sound = h; x_in = lt; left = rw (read rlen m n w d v lt) (ap (λ (y : ℕ). walk_raise y g (view m n w d) v) (omega arith)) }

  module _ (w : List ℕ) (d : List Float) (l x i : ℕ) (goal : Option Tables) (k : Raise m n g w d l x i goal) where
    pub raise_fits : Fits w32 (get_or w (8 * m + 6 * n + x) 0 + g)
    raise_fits = record { fits = omega (arith, read count m n w d x k.x_in, k.sound.within count x k.x_in) }

    module _ (lt : i < l) where
      step_is : walk_raise (l - i) g (view m n w d) x
          ≡ cond (count_in_range (get_or w (8 * m + 6 * n + x) 0 + g)) (walk_raise (l - (i + 1)) g (store count (view m n w d) x (get_or w (8 * m + 6 * n + x) 0 + g - 1000)) (get_or w (8 * m + n + x) 0)) none
      unfolding walk_raise
      step_is = let z : l - i ≡ suc (l - (i + 1)) = omega arith in rw (z, read count m n w d x k.x_in, read rnext m n w d x k.x_in) refl

      pub raise_low : get_or w (8 * m + 6 * n + x) 0 + g < 1000 → (why : MergeRefused) (u : List ℕ) (e : List Float) → Raised m n u e goal (Err why)
      unfolding count_in_range Raised
      raise_low h why u e = subst (λ (o : Option Tables). Raised m n u e o (Err why)) (sym refused ∙ k.left) refl
        where
          refused : walk_raise (l - i) g (view m n w d) x ≡ none
          refused = step_is ∙ (rw (lt-leb 1000 (get_or w (8 * m + 6 * n + x) 0 + g) h) refl)

      pub raise_high : 3000 < get_or w (8 * m + 6 * n + x) 0 + g → (why : MergeRefused) (u : List ℕ) (e : List Float) → Raised m n u e goal (Err why)
      unfolding count_in_range Raised
      raise_high h why u e = subst (λ (o : Option Tables). Raised m n u e o (Err why)) (sym refused ∙ k.left) refl
        where
          refused : walk_raise (l - i) g (view m n w d) x ≡ none
          refused = step_is ∙ (rw (le-leb 1000 (get_or w (8 * m + 6 * n + x) 0 + g) (omega arith), lt-leb (get_or w (8 * m + 6 * n + x) 0 + g) 3000 h) refl)

      pub raise_turn : 1000 ≤ get_or w (8 * m + 6 * n + x) 0 + g → get_or w (8 * m + 6 * n + x) 0 + g ≤ 3000
          → Raise m n g (set w (8 * m + 6 * n + x) (get_or w (8 * m + 6 * n + x) 0 + g - 1000)) d l (get_or (set w (8 * m + 6 * n + x) (get_or w (8 * m + 6 * n + x) 0 + g - 1000)) (8 * m + n + x) 0) (i + 1) goal
      unfolding count_in_range store
      raise_turn p q =
          let t : ℕ = get_or w (8 * m + 6 * n + x) 0 + g in
          let s : Tables = view m n w d in
          let u : Holding m n (set w (8 * m + 6 * n + x) (t - 1000)) d (store count s x (t - 1000)) = stored (holding k.room) count refl x (t - 1000) (t - 1000) k.x_in refl in
          let next : get_or (set w (8 * m + 6 * n + x) (t - 1000)) (8 * m + n + x) 0 ≡ get_or w (8 * m + n + x) 0 = word u rnext x k.x_in ∙ read rnext m n w d x k.x_in in
          record {
            room = u.room;
            sound = subst (Sound m n) (sym u.tables) (sound_store count m n s k.sound x (t - 1000) refl refl (omega arith));
            x_in = omega (arith, next, read rnext m n w d x k.x_in, k.sound.within rnext x k.x_in);
            left = ap (λ (y : Tables). walk_raise (l - (i + 1)) g y (get_or (set w (8 * m + 6 * n + x) (t - 1000)) (8 * m + n + x) 0)) u.tables ∙ ap (walk_raise (l - (i + 1)) g (store count s x (t - 1000))) next
                ∙ sym (step_is ∙ (rw (le-leb 1000 t p, le-leb t 3000 q) refl)) ∙ k.left;
          }

    pub raise_end : l ≤ i → Raised m n w d goal (Ok tt)
    unfolding walk_raise Raised
    raise_end h = let z : l - i ≡ 0 = omega arith in
        subst (λ (o : Option Tables). Raised m n w d o (Ok tt)) (ap (λ (y : ℕ). walk_raise y g (view m n w d) x) (sym z) ∙ k.left) (refl, record { tables = refl; tree = k.room.tree })

-- ---- along a chain, for the edge that joins two nodes
pub record Seeking (m n b c : ℕ) (w : List ℕ) (d : List Float) (l x i : ℕ) (goal : Prelude.Option ℕ) : Type 0 where
  pub x_in : x < 2 * m + n
  pub left : seek (l - i) m b c (view m n w d) x ≡ goal

module _ (m n b c : ℕ) (w : List ℕ) (d : List Float) (h : Sound m n (view m n w d)) where
  pub seek_start : (v : ℕ) → v < n → Seeking m n b c w d (get_or w (8 * m + 4 * n + v) 0) (get_or w (6 * m + (2 * m + v)) 0) 1 (seek_all m b c (view m n w d) v)
  unfolding seek_all
  seek_start v lt = record {
    x_in = omega (arith, read enext m n w d (2 * m + v) (omega arith), h.within enext (2 * m + v) (omega arith));
    left = rw (read elen m n w d v lt, read enext m n w d (2 * m + v) (omega arith)) refl;
  }

  module _ (l x i : ℕ) (goal : Prelude.Option ℕ) (k : Seeking m n b c w d l x i goal) where
    module _ (lt : i < l) where
      seek_step : seek (l - i) m b c (view m n w d) x ≡ cond (joins_at m b c (view m n w d) (x / 2)) (Some (x / 2)) (seek (l - (i + 1)) m b c (view m n w d) (get_or ((view m n w d).at enext) x 0))
      unfolding seek
      seek_step = let z : l - i ≡ suc (l - (i + 1)) = omega arith in rw z refl

      pub seek_found : (t : Bool) → t ≡ joins_at m b c (view m n w d) (x / 2) → t ≡ true → Some (x / 2) ≡ goal
      seek_found t e y = sym (seek_step ∙ (rw (sym e ∙ y) refl)) ∙ k.left

      pub seek_turn : (t : Bool) → t ≡ joins_at m b c (view m n w d) (x / 2) → t ≡ false → Seeking m n b c w d l (get_or w (6 * m + x) 0) (i + 1) goal
      seek_turn t e y = record {
        x_in = omega (arith, read enext m n w d x k.x_in, h.within enext x k.x_in);
        left = ap (seek (l - (i + 1)) m b c (view m n w d)) (sym (read enext m n w d x k.x_in)) ∙ sym (seek_step ∙ (rw (sym e ∙ y) refl)) ∙ k.left;
      }

    pub seek_end : l ≤ i → None ≡ goal
    unfolding seek
    seek_end le = let z : l - i ≡ 0 = omega arith in ap (λ (y : ℕ). seek y m b c (view m n w d) x) (sym z) ∙ k.left

-- ---- along the shorter of two chains
module _ (m n b c : ℕ) (w : List ℕ) (d : List Float) (hb : b < n) (hc : c < n) (r : Prelude.Option ℕ) where
  pub mate_first : get_or w (8 * m + 4 * n + b) 0 < get_or w (8 * m + 4 * n + c) 0 → r ≡ seek_all m b c (view m n w d) b → r ≡ mate m b (view m n w d) c
  unfolding mate
  mate_first p e = rw (read elen m n w d b hb, read elen m n w d c hc, lt-ltb (get_or w (8 * m + 4 * n + b) 0) (get_or w (8 * m + 4 * n + c) 0) p) e

  pub mate_second : get_or w (8 * m + 4 * n + c) 0 ≤ get_or w (8 * m + 4 * n + b) 0 → r ≡ seek_all m b c (view m n w d) c → r ≡ mate m b (view m n w d) c
  unfolding mate
  mate_second p e = rw (read elen m n w d b hb, read elen m n w d c hc, le-ltb (get_or w (8 * m + 4 * n + b) 0) (get_or w (8 * m + 4 * n + c) 0) p) e
