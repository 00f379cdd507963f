-- A chain walked with its spent slots dropped: the functions over plain values. Assumes nothing.
use Rattle.std.proofs.Common.{◌≡◌, ℕ, zero, suc, ◌+◌, ◌-◌, ◌*◌, ◌/◌, ◌<◌, ◌≤◌, Bool, true, false, cond, eqb, List, length, get_or, set, sym, refl, ap, ◌∙◌, subst, ⊎_elim, arith, get_or-set_other, get_or-set_same, le-ltb, lt-ltb}
use lib.Seq.{set_out}
use lib.Ieee.{Float}
use Rattle.merge.specs.Inside.Tables.{Tables, view, HoldsTables, Sound, store}
use Rattle.merge.specs.Inside.Table.{enext, elen}
use Rattle.merge.specs.Inside.Steps.{spent, drop_at, passed, kept, along, pruned}
use Rattle.merge.specs.Inside.Leaves.{LeavesTables, Passes, Slots}
use Rattle.merge.proofs.View.{weight_at_lem, read}
use Rattle.merge.proofs.Bias.{lt_or_le}
use Rattle.merge.proofs.Leaf.{room_of}
use Rattle.merge.proofs.SoundSet.{eq_or_ne, sound_store}

-- ---- is_spent
module _ (m n : ℕ) (w : List ℕ) (d : List Float) (x : ℕ) where
  pub spent_out : m ≤ x / 2 → true ≡ spent m (view m n w d) x
  unfolding spent
  spent_out h = rw (le-ltb (x / 2) m h) refl

  pub spent_word : x / 2 < m → eqb (get_or w (x / 2) 0) 0 ≡ spent m (view m n w d) x
  unfolding spent
  spent_word h = rw (lt-ltb (x / 2) m h, weight_at_lem m n w d (x / 2) h) refl

-- ---- drop_slot
module _ (m n b p x : ℕ) where
  pub sound_drop : (s : Tables) → Sound m n s → p < 2 * m + n → x < 2 * m + n → Sound m n (drop_at b s p x)
  unfolding drop_at
  sound_drop s h hp hx =
      let h₁ : Sound m n (store enext s p (get_or (s.at enext) x 0)) = sound_store enext m n s h p (get_or (s.at enext) x 0) refl refl (h.within enext x hx) in
      sound_store elen m n _ (sound_store enext m n _ h₁ x x refl refl hx) b _ refl refl tt

  -- ---- pass_slot
  module _ (s : Tables) (w : List ℕ) (d : List Float) (q : Bool) (is : q ≡ spent m s x) where
    pub pass_drops : q ≡ true → LeavesTables m n w d (drop_at b s p x) → Passes m n w d (passed m b s p x) (kept m s p x) p
    unfolding passed kept
    pass_drops e h = let y : spent m s x ≡ true = sym is ∙ e in record { does = rw y h; prev = rw y refl }

    pub pass_keeps : q ≡ false → LeavesTables m n w d s → Passes m n w d (passed m b s p x) (kept m s p x) x
    unfolding passed kept
    pass_keeps e h = let y : spent m s x ≡ false = sym is ∙ e in record { does = rw y h; prev = rw y refl }

-- a table with one less at b has no more anywhere
less_set : (l : List ℕ) (b y : ℕ) → get_or (set l b (get_or l b 0 - 1)) y 0 ≤ get_or l y 0
less_set l b y = ⊎_elim
    (λ e. ⊎_elim
    (λ p. let q : get_or (set l b (get_or l b 0 - 1)) y 0 ≡ get_or l b 0 - 1 = ap (λ (z : ℕ). get_or (set l b (get_or l b 0 - 1)) z 0) e ∙ get_or-set_same l b (get_or l b 0 - 1) 0 p in
    let z : get_or l y 0 ≡ get_or l b 0 = ap (λ (z : ℕ). get_or l z 0) e in omega arith)
    (λ p. let q : get_or (set l b (get_or l b 0 - 1)) y 0 ≡ get_or l y 0 = ap (λ (z : List ℕ). get_or z y 0) (set_out l b (get_or l b 0 - 1) p) in omega arith)
    (lt_or_le b (length l)))
    (λ e. let q : get_or (set l b (get_or l b 0 - 1)) y 0 ≡ get_or l y 0 = get_or-set_other l b y (get_or l b 0 - 1) 0 e in omega arith)
    (eq_or_ne y b)

-- ---- along a chain
pub record Pass (m n b : ℕ) (w : List ℕ) (d : List Float) (l p x i : ℕ) (goal : Tables) : Type 0 where
  pub room : HoldsTables m n w d
  pub sound : Sound m n (view m n w d)
  pub p_in : p < 2 * m + n
  pub x_in : x < 2 * m + n
  pub long : l < i + get_or ((view m n w d).at elen) b 0
  pub left : along (l - i) m b (view m n w d) p x ≡ goal

module _ (m n b : ℕ) (hb : b < n) where
  pub prune_start : (w : List ℕ) (d : List Float) → HoldsTables m n w d → Sound m n (view m n w d)
      → Pass m n b w d (get_or w (8 * m + 4 * n + b) 0) (2 * m + b) (get_or w (6 * m + (2 * m + b)) 0) 1 (pruned m b (view m n w d))
  unfolding pruned
  prune_start w d r h = record {
    room = r;
    sound = h;
    p_in = omega arith;
    x_in = omega (arith, read enext m n w d (2 * m + b) (omega arith), h.within enext (2 * m + b) (omega arith));
    long = omega (arith, read elen m n w d b hb);
    left = rw (read elen m n w d b hb, read enext m n w d (2 * m + b) (omega arith)) refl;
  }

  sound_passed : (s : Tables) (p x : ℕ) → Sound m n s → p < 2 * m + n → x < 2 * m + n → Sound m n (passed m b s p x)
  unfolding passed
  sound_passed s p x h hp hx = go (spent m s x)
    where
      go : (t : Bool) → Sound m n (cond t (drop_at b s p x) s)
      go true = sound_drop m n b p x s h hp hx
      go false = h

  kept_in : (s : Tables) (p x : ℕ) → p < 2 * m + n → x < 2 * m + n → kept m s p x < 2 * m + n
  unfolding kept
  kept_in s p x hp hx = go (spent m s x)
    where
      go : (t : Bool) → cond t p x < 2 * m + n
      go true = hp
      go false = hx

  -- a slot makes the chain shorter by one at most
  passed_len : (s : Tables) (p x : ℕ) → Sound m n s → get_or (s.at elen) b 0 ≤ 1 + get_or ((passed m b s p x).at elen) b 0
  unfolding passed
  passed_len s p x h = go (spent m s x)
    where
      go : (t : Bool) → get_or (s.at elen) b 0 ≤ 1 + get_or ((cond t (drop_at b s p x) s).at elen) b 0
      go true = unfold drop_at store in omega (arith, get_or-set_same (s.at elen) b (get_or (s.at elen) b 0 - 1) 0 (omega (arith, h.lengths elen)))
      go false = omega arith

  -- tables stay sound, and no length grows
  sound_along : (k : ℕ) (s : Tables) (p x : ℕ) → Sound m n s → p < 2 * m + n → x < 2 * m + n → Sound m n (along k m b s p x)
  unfolding along
  sound_along zero s p x h hp hx = h
  sound_along (suc k) s p x h hp hx = sound_along k (passed m b s p x) (kept m s p x) (get_or (s.at enext) x 0) (sound_passed s p x h hp hx) (kept_in s p x hp hx) (h.within enext x hx)

  pub sound_pruned : (s : Tables) → Sound m n s → Sound m n (pruned m b s)
  unfolding pruned
  sound_pruned s h = sound_along (get_or (s.at elen) b 0 - 1) s (2 * m + b) (get_or (s.at enext) (2 * m + b) 0) h (omega arith) (h.within enext (2 * m + b) (omega arith))

  less_passed : (s : Tables) (p x y : ℕ) → get_or ((passed m b s p x).at elen) y 0 ≤ get_or (s.at elen) y 0
  unfolding passed
  less_passed s p x y = go (spent m s x)
    where
      go : (t : Bool) → get_or ((cond t (drop_at b s p x) s).at elen) y 0 ≤ get_or (s.at elen) y 0
      go true = unfold drop_at store in less_set (s.at elen) b y
      go false = omega arith

  less_along : (k : ℕ) (s : Tables) (p x y : ℕ) → get_or ((along k m b s p x).at elen) y 0 ≤ get_or (s.at elen) y 0
  unfolding along
  less_along zero s p x y = omega arith
  less_along (suc k) s p x y = omega (arith, less_along k (passed m b s p x) (kept m s p x) (get_or (s.at enext) x 0) y, less_passed s p x y)

  pub less_pruned : (s : Tables) (y : ℕ) → get_or ((pruned m b s).at elen) y 0 ≤ get_or (s.at elen) y 0
  unfolding pruned
  less_pruned s y = less_along (get_or (s.at elen) b 0 - 1) s (2 * m + b) (get_or (s.at enext) (2 * m + b) 0) y

  module _ (w : List ℕ) (d : List Float) (l p x i : ℕ) (goal : Tables) (k : Pass m n b w d l p x i goal) where
    pub prune_slots : i < l → Slots m n b p x (view m n w d)
    prune_slots lt = record { b_in = hb; p_in = k.p_in; x_in = k.x_in; some = omega (arith, k.long) }

    pub prune_turned : i < l → (w' : List ℕ) (d' : List Float) (q : ℕ) → Passes m n w' d' (passed m b (view m n w d) p x) (kept m (view m n w d) p x) q → length w' ≡ length w → length d' ≡ length d
        → Pass m n b w' d' l q (get_or w (6 * m + x) 0) (i + 1) goal
    unfolding along
    prune_turned lt w' d' q e lw ld =
        let s : Tables = view m n w d in
        let s' : Tables = passed m b s p x in
        let z : l - i ≡ suc (l - (i + 1)) = omega arith in
        let nx : get_or (s.at enext) x 0 ≡ get_or w (6 * m + x) 0 = read enext m n w d x k.x_in in
        let el : get_or ((view m n w' d').at elen) b 0 ≡ get_or (s'.at elen) b 0 = ap (λ (u : Tables). get_or (u.at elen) b 0) e.does.tables in
        record {
          room = room_of m n w w' d d' k.room lw ld e.does.tree;
          sound = subst (Sound m n) (sym e.does.tables) (sound_passed s p x k.sound k.p_in k.x_in);
          p_in = omega (arith, e.prev, kept_in s p x k.p_in k.x_in);
          x_in = omega (arith, k.sound.within enext x k.x_in);
          long = omega (arith, k.long, passed_len s p x k.sound);
          left = ap (λ (u : Tables). along (l - (i + 1)) m b u q (get_or w (6 * m + x) 0)) e.does.tables ∙ ap (λ (u : ℕ). along (l - (i + 1)) m b s' u (get_or w (6 * m + x) 0)) e.prev
              ∙ ap (along (l - (i + 1)) m b s' (kept m s p x)) (sym nx) ∙ ap (λ (y : ℕ). along y m b s p x) (sym z) ∙ k.left;
        }

    pub prune_end : l ≤ i → LeavesTables m n w d goal
    unfolding along
    prune_end h = let z : l - i ≡ 0 = omega arith in record { tables = ap (λ (y : ℕ). along y m b (view m n w d) p x) (sym z) ∙ k.left; tree = k.room.tree }
