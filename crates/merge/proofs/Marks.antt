-- Marking: one turn of the walk, over plain values, and what else stays. Assumes nothing.
use Rattle.std.proofs.Common.{◌≡◌, ℕ, zero, suc, ◌+◌, ◌-◌, ◌*◌, ◌<◌, ◌≤◌, Bool, true, false, cond, List, length, get_or, set, sym, refl, ap, ◌∙◌, ⊎_elim, arith, length-set, get_or-set_other, get_or-set_same}
use lib.Ieee.{Float}
use Rattle.merge.specs.Inside.Chain.{cur}
use Rattle.merge.specs.Inside.Table.{rnext, rlen, mark}
use Rattle.merge.specs.Inside.Tables.{Tables, view, HoldsTables, Sound, store, with_table}
use Rattle.merge.specs.Inside.Steps.{walk_mark, marked_all, mark_if}
use Rattle.merge.specs.Inside.Leaves.{LeavesTables, Fit}
use Rattle.merge.proofs.WithTable.{with_own, store_with, sound_with}
use Rattle.merge.proofs.View.{read}
use Rattle.merge.proofs.Stores.{Holding, holding, word, stored}
use Rattle.merge.proofs.SoundSet.{eq_or_ne}

-- ---- the walk

length_walk : (k : ℕ) (N M : List ℕ) (x : ℕ) → length (walk_mark k N M x) ≡ length M
unfolding walk_mark
length_walk zero N M x = refl
length_walk (suc k) N M x = length_walk k N (set M x 1) (get_or N x 0) ∙ length-set M x 1

-- what the walk does not meet is as it was
pub unmet : (k : ℕ) (N M : List ℕ) (x r : ℕ) → ((i : ℕ) → i < k → r ≡ cur N x i → ⊥) → get_or (walk_mark k N M x) r 0 ≡ get_or M r 0
unfolding walk_mark
unmet zero N M x r h = refl
unmet (suc k) N M x r h =
    unmet k N (set M x 1) (get_or N x 0) r (λ i p q. h (suc i) (omega arith) (unfold cur in q))
    ∙ get_or-set_other M x r 1 0 (λ q. h 0 (omega arith) (unfold cur in q))

-- what is marked stays so
stays : (k : ℕ) (N M : List ℕ) (x r : ℕ) → r < length M → get_or M r 0 ≡ 1 → get_or (walk_mark k N M x) r 0 ≡ 1
unfolding walk_mark
stays zero N M x r lt h = h
stays (suc k) N M x r lt h = stays k N (set M x 1) (get_or N x 0) r (omega (arith, length-set M x 1)) (⊎_elim here (λ e. get_or-set_other M x r 1 0 e ∙ h) (eq_or_ne r x))
  where
    here : r ≡ x → get_or (set M x 1) r 0 ≡ 1
    here e = ap (λ (y : ℕ). get_or (set M x 1) y 0) e ∙ get_or-set_same M x 1 0 (omega arith)

-- what it meets is marked
pub met : (k : ℕ) (N M : List ℕ) (x i : ℕ) → i < k → cur N x i < length M → get_or (walk_mark k N M x) (cur N x i) 0 ≡ 1
unfolding walk_mark cur
met zero N M x i p h = absurd (omega arith)
met (suc k) N M x zero p h = stays k N (set M x 1) (get_or N x 0) x (omega (arith, length-set M x 1)) (get_or-set_same M x 1 0 h)
met (suc k) N M x (suc i) p h = met k N (set M x 1) (get_or N x 0) i (omega arith) (omega (arith, length-set M x 1))

-- ---- the walk of the code

pub record MarkWalk (m n : ℕ) (w₀ w : List ℕ) (d : List Float) (l x i : ℕ) (goal : List ℕ) : Type 0 where
  pub room : HoldsTables m n w d
  pub x_in : x < n
  pub marks : List ℕ
  pub tables : view m n w d ≡ with_table mark marks (view m n w₀ d)
  pub left : walk_mark (l - i) ((view m n w₀ d).at rnext) marks x ≡ goal

module _ (m n : ℕ) where
  pub mark_start : (w : List ℕ) (d : List Float) (v : ℕ) → HoldsTables m n w d → v < n → MarkWalk m n w w d (get_or w (8 * m + 5 * n + v) 0) v 0 (marked_all v (view m n w d))
  unfolding marked_all
  mark_start w d v r lt = record {
    room = r;
    x_in = lt;
    marks = (view m n w d).at mark;
    tables = sym (with_own mark (view m n w d));
    left = rw (read rlen m n w d v lt) (ap (λ (y : ℕ). walk_mark y ((view m n w d).at rnext) ((view m n w d).at mark) v) (omega arith));
  }

  module _ (w₀ w : List ℕ) (d : List Float) (h : Sound m n (view m n w₀ d)) (l x i : ℕ) (goal : List ℕ) (k : MarkWalk m n w₀ w d l x i goal) where
    pub mark_turn : i < l → MarkWalk m n w₀ (set w (8 * m + 7 * n + x) 1) d l (get_or (set w (8 * m + 7 * n + x) 1) (8 * m + n + x) 0) (i + 1) goal
    unfolding walk_mark store
    mark_turn lt =
        let z : l - i ≡ suc (l - (i + 1)) = omega arith in
        let u : Holding m n (set w (8 * m + 7 * n + x) 1) d (store mark (view m n w d) x 1) = stored (holding k.room) mark refl x 1 1 k.x_in refl in
        let next : get_or (set w (8 * m + 7 * n + x) 1) (8 * m + n + x) 0 ≡ get_or ((view m n w₀ d).at rnext) x 0 =
        word u rnext x k.x_in ∙ ap (λ (y : Tables). get_or (y.at rnext) x 0) k.tables in
        record {
          room = u.room;
          x_in = omega (arith, next, h.within rnext x k.x_in);
          marks = set k.marks x 1;
          tables = u.tables ∙ ap (λ (y : Tables). store mark y x 1) k.tables ∙ store_with mark k.marks (view m n w₀ d) x 1;
          left = ap (walk_mark (l - (i + 1)) ((view m n w₀ d).at rnext) (set k.marks x 1)) next
              ∙ sym (ap (λ (y : ℕ). walk_mark y ((view m n w₀ d).at rnext) k.marks x) z) ∙ k.left;
        }

    pub mark_end : l ≤ i → LeavesTables m n w d (with_table mark goal (view m n w₀ d))
    unfolding walk_mark
    mark_end g = let z : l - i ≡ 0 = omega arith in
        record {
          tables = k.tables ∙ ap (λ (y : List ℕ). with_table mark y (view m n w₀ d)) (ap (λ (y : ℕ). walk_mark y ((view m n w₀ d).at rnext) k.marks x) (sym z) ∙ k.left);
          tree = k.room.tree;
        }

-- ---- marked or not

pub mark_yes : (v : ℕ) (s : Tables) (b : Bool) → b ≡ true → with_table mark (marked_all v s) s ≡ mark_if b v s
unfolding mark_if
mark_yes v s b e = rw e refl

pub mark_no : (v : ℕ) (s : Tables) (b : Bool) → b ≡ false → s ≡ mark_if b v s
unfolding mark_if
mark_no v s b e = rw e (sym (with_own mark s))

pub sound_mark_if : (m n : ℕ) (b : Bool) (v : ℕ) (s : Tables) → Sound m n s → Sound m n (mark_if b v s)
unfolding mark_if marked_all
sound_mark_if m n b v s h = sound_with mark m n (cond b (marked_all v s) (s.at mark)) s refl refl refl (go b) h
  where
    go : (b : Bool) → length (cond b (marked_all v s) (s.at mark)) ≡ n
    go true = length_walk (get_or (s.at rlen) v 0) (s.at rnext) (s.at mark) v ∙ h.lengths mark
    go false = h.lengths mark

pub fit_mark_if : (n x v : ℕ) (b : Bool) (y : ℕ) (s : Tables) → Fit n x v s → Fit n x v (mark_if b y s)
unfolding mark_if
fit_mark_if n x v b y s f = record { b_in = f.b_in; v_in = f.v_in; sizes = f.sizes; elens = f.elens; rlens = f.rlens }
