-- `hand` and `merge` over plain values. Assumes nothing.
use Rattle.std.proofs.Common.{◌≡◌, ℕ, zero, suc, ◌+◌, ◌-◌, ◌^◌, ◌<◌, ◌≤◌, Bool, true, false, cond, Ok, Err, List, get_or, set, sym, refl, ap, ◌∙◌, subst, arith}
use mathlib.Core.Option.{Option, none, some, none-ne-some, some-injective}
use Rattle.memory.specs.Inside.Tree.{Tree, Weighed}
use Rattle.merge.specs.Inside.Tables.{Tables, view, HoldsTables, Sound, store}
use Rattle.merge.specs.Inside.Table.{is, weight, rnext, stamp, size, elen, rlen, count}
use Rattle.merge.specs.Inside.Steps.{count_in_range, pruned, moved_all, walk_raise, splice, grow, handed, then, merged}
use Rattle.merge.specs.Inside.Leaves.{LeavesTables, Raised, Gains, Fit}
use Rattle.merge.specs.declared.merge.MergeRefused.{MergeRefused}
use Rattle.merge.proofs.View.{weight_put, view_weighed}
use Rattle.merge.proofs.Leaf.{sum_less}
use Rattle.merge.proofs.SoundSet.{sound_weight, sound_store}
use Rattle.merge.proofs.Frames.{Frame, frame_moved_all, of_slots, same_pruned}
use Rattle.merge.proofs.TableLaws.{Alike, alike_store}
use Rattle.merge.proofs.Counts.{CountsDiffer, counted_refl, counted_store, accepted_most}
use Rattle.merge.proofs.Passing.{sound_pruned, less_pruned}
use lib.Ieee.{Float}

-- sums still fit where sizes stay and chains are no longer than before
fit_frame : (n b v : ℕ) (s t : Tables) → s.at size ≡ t.at size → ((y : ℕ) → get_or (s.at elen) y 0 ≤ get_or (t.at elen) y 0) → s.at rlen ≡ t.at rlen → Fit n b v t → Fit n b v s
fit_frame n b v s t a c d f = record {
  b_in = f.b_in;
  v_in = f.v_in;
  sizes = subst (λ (l : List ℕ). get_or l b 0 + get_or l v 0 < 2 ^ 32) (sym a) f.sizes;
  elens = omega (arith, c b, c v, f.elens);
  rlens = subst (λ (l : List ℕ). get_or l b 0 + get_or l v 0 < 2 ^ 32) (sym d) f.rlens;
}

-- ---- hand
module _ (m n b v g : ℕ) (w : List ℕ) (d : List Float) (ok : Gains n b v g) (w₁ : List ℕ) (d₁ : List Float) (D₁ : LeavesTables m n w₁ d₁ (pruned m v (view m n w d))) where
  pub hand_walk : Sound m n (view m n w d) → Sound m n (view m n w₁ d₁)
  hand_walk h = subst (Sound m n) (sym D₁.tables) (sound_pruned m n v ok.v_in (view m n w d) h)

  module _ (w₂ : List ℕ) (d₂ : List Float) (D₂ : LeavesTables m n w₂ d₂ (moved_all m b v g (view m n w₁ d₁))) where
    went₂ : view m n w₂ d₂ ≡ moved_all m b v g (pruned m v (view m n w d))
    went₂ = D₂.tables ∙ ap (moved_all m b v g) D₁.tables

    module _ (w₃ : List ℕ) (d₃ : List Float) (D₃ : LeavesTables m n w₃ d₃ (splice m b v (view m n w₂ d₂))) where
      pub hand_grow : Fit n b v (view m n w d) → Fit n b v (view m n w₃ d₃)
      unfolding splice store
      hand_grow fit =
          let s : Tables = view m n w d in
          let f : Frame (moved_all m b v g (pruned m v s)) (pruned m v s) = frame_moved_all m b v g (pruned m v s) in
          let k : Alike of_slots (pruned m v s) s = (same_pruned m v s).beside in
          let el : (view m n w₃ d₃).at elen ≡ (pruned m v s).at elen = ap (λ (u : Tables). u.at elen) D₃.tables ∙ ap (λ (u : Tables). u.at elen) went₂ ∙ f.at elen in
          fit_frame n b v (view m n w₃ d₃) s
          (ap (λ (u : Tables). u.at size) D₃.tables ∙ ap (λ (u : Tables). u.at size) went₂ ∙ f.at size ∙ k.at size)
          (λ y. subst (λ (l : List ℕ). get_or l y 0 ≤ get_or (s.at elen) y 0) (sym el) (less_pruned m n v ok.v_in s y))
          (ap (λ (u : Tables). u.at rlen) D₃.tables ∙ ap (λ (u : Tables). u.at rlen) went₂ ∙ f.at rlen ∙ k.at rlen) fit

      pub hand_does : (w₄ : List ℕ) (d₄ : List Float) → LeavesTables m n w₄ d₄ (grow b v (view m n w₃ d₃)) → LeavesTables m n w₄ d₄ (handed m b v g (view m n w d))
      unfolding handed
      hand_does w₄ d₄ D₄ = record { tables = D₄.tables ∙ ap (grow b v) (D₃.tables ∙ ap (splice m b v) went₂); tree = D₄.tree }

-- ---- merge
raise_keeps : (m n g k : ℕ) (s : Tables) (x : ℕ) (t : Tables) → walk_raise k g s x ≡ some t → x < n → Sound m n s → Sound m n t × CountsDiffer t s
unfolding walk_raise store
raise_keeps m n g zero s x t e lt h =
    let q : s ≡ t = some-injective s t e in
    (subst (Sound m n) q h, subst (λ (u : Tables). CountsDiffer u s) q (counted_refl s))
raise_keeps m n g (suc k) s x t e lt h = go (count_in_range (get_or (s.at count) x 0 + g)) refl e (raise_keeps m n g k (store count s x (get_or (s.at count) x 0 + g - 1000)) (get_or (s.at rnext) x 0) t)
  where
    s₁ : Tables
    s₁ = store count s x (get_or (s.at count) x 0 + g - 1000)

    go : (b : Bool) → count_in_range (get_or (s.at count) x 0 + g) ≡ b → cond b (walk_raise k g s₁ (get_or (s.at rnext) x 0)) none ≡ some t
        → (walk_raise k g s₁ (get_or (s.at rnext) x 0) ≡ some t → get_or (s.at rnext) x 0 < n → Sound m n s₁ → Sound m n t × CountsDiffer t s₁) → Sound m n t × CountsDiffer t s
    go true a q ih =
        let w : Sound m n t × CountsDiffer t s₁ = ih q (h.within rnext x lt) (sound_store count m n s h x (get_or (s.at count) x 0 + g - 1000) refl refl (accepted_most (get_or (s.at count) x 0 + g) a)) in
        (w.0, counted_store t s x _ w.1)
    go false a q ih = absurd (none-ne-some t q)

pub raised_ok : (m n : ℕ) (w : List ℕ) (d : List Float) (o : Option Tables) → Raised m n w d o (Ok tt) → (t : Tables) × (o ≡ some t) × LeavesTables m n w d t
unfolding Raised
raised_ok m n w d none h = cc
raised_ok m n w d (some t) h = (t, refl, h.1)

pub raised_err : (m n : ℕ) (w : List ℕ) (d : List Float) (o : Option Tables) (why : MergeRefused) → Raised m n w d o (Err why) → o ≡ none
unfolding Raised
raised_err m n w d none why h = refl
raised_err m n w d (some t) why h = let f = h.0 in cc

module _ (m n b v g k e : ℕ) (w : List ℕ) (d : List Float) (r : HoldsTables m n w d) (h : Sound m n (view m n w d)) (ok : Gains n b v g) (lt : e < m)
    (w₁ : List ℕ) (D₁ : Weighed m (set w e 0) w₁) (w₂ : List ℕ) (d₂ : List Float) (D₂ : LeavesTables m n w₂ d₂ (store stamp (view m n w₁ d) b k)) where
  abbrev s : Tables
  s = view m n w d

  tables₂ : view m n w₂ d₂ ≡ store stamp (store weight s e 0) b k
  tables₂ = D₂.tables ∙ ap (λ (u : Tables). store stamp u b k) (view_weighed m n (set w e 0) w₁ d D₁ ∙ weight_put m n w d e 0 lt r.words)

  sound₁ : Sound m n (store weight s e 0)
  sound₁ = sound_weight m n s h e 0 (omega (arith, sum_less (s.at weight) e (omega (arith, h.lengths weight)), h.light))

  pub merge_raise : Sound m n (view m n w₂ d₂)
  merge_raise = subst (Sound m n) (sym tables₂) (sound_store stamp m n (store weight s e 0) sound₁ b k refl refl tt)

  beside₂ : Alike (is stamp) (view m n w₂ d₂) (store weight s e 0)
  unfolding store
  beside₂ = subst (λ (u : Tables). Alike (is stamp) u (store weight s e 0)) (sym tables₂) (alike_store (is stamp) stamp (store weight s e 0) b k refl)

  elen₂ : (view m n w₂ d₂).at elen ≡ s.at elen
  unfolding store
  elen₂ = ap (λ (u : Tables). u.at elen) tables₂

  rlen₂ : get_or ((view m n w₂ d₂).at rlen) v 0 ≡ get_or (s.at rlen) v 0
  unfolding store
  rlen₂ = ap (λ (l : List ℕ). get_or l v 0) (beside₂.at rlen)

  abbrev raised : Option Tables
  raised = walk_raise (get_or ((view m n w₂ d₂).at rlen) v 0) g (view m n w₂ d₂) v

  raise_is : raised ≡ walk_raise (get_or (s.at rlen) v 0) g (store stamp (store weight s e 0) b k) v
  raise_is = ap (λ (k : ℕ). walk_raise k g (view m n w₂ d₂) v) rlen₂ ∙ ap (λ (u : Tables). walk_raise (get_or (s.at rlen) v 0) g u v) tables₂

  module _ (w₃ : List ℕ) (d₃ : List Float) where
    pub merge_refused : (why : MergeRefused) → Raised m n w₃ d₃ raised (Err why) → Raised m n w₃ d₃ (merged m k e b v g s) (Err why)
    unfolding merged then Raised
    merge_refused why D₃ = subst (λ (o : Option Tables). Raised m n w₃ d₃ (then o (handed m b v g)) (Err why)) (sym (raised_err m n w₃ d₃ _ why D₃) ∙ raise_is) refl

    module _ (D₃ : Raised m n w₃ d₃ raised (Ok tt)) where
      took : (t : Tables) × (raised ≡ some t) × LeavesTables m n w₃ d₃ t
      took = raised_ok m n w₃ d₃ _ D₃

      kept : Sound m n took.0 × CountsDiffer took.0 (view m n w₂ d₂)
      kept = raise_keeps m n g (get_or ((view m n w₂ d₂).at rlen) v 0) (view m n w₂ d₂) v took.0 took.1 ok.v_in merge_raise

      counted : CountsDiffer (view m n w₃ d₃) (view m n w₂ d₂)
      counted = subst (λ (u : Tables). CountsDiffer u (view m n w₂ d₂)) (sym took.2.tables) kept.1

      pub merge_hand : Tree m w₃ × Sound m n (view m n w₃ d₃)
      merge_hand = (took.2.tree, subst (Sound m n) (sym took.2.tables) kept.0)

      pub merge_fit : Fit n b v s → Fit n b v (view m n w₃ d₃)
      unfolding store
      merge_fit fit =
          fit_frame n b v (view m n w₃ d₃) s (counted.tables.at size ∙ beside₂.at size) (λ y. subst (λ (l : List ℕ). get_or l y 0 ≤ get_or (s.at elen) y 0) (sym (counted.tables.at elen ∙ elen₂)) (omega arith))
          (counted.tables.at rlen ∙ beside₂.at rlen) fit

      pub merge_done : (w₄ : List ℕ) (d₄ : List Float) → LeavesTables m n w₄ d₄ (handed m b v g (view m n w₃ d₃)) → Raised m n w₄ d₄ (merged m k e b v g s) (Ok tt)
      unfolding merged then Raised
      merge_done w₄ d₄ D₄ =
          subst (λ (o : Option Tables). Raised m n w₄ d₄ (then o (handed m b v g)) (Ok tt)) (sym took.1 ∙ raise_is) (refl, record { tables = D₄.tables ∙ ap (handed m b v g) took.2.tables; tree = D₄.tree })
