-- The log of merges: the six words of an entry as stores into its table, and what else stays. Assumes nothing.
use Rattle.std.proofs.Common.{◌≡◌, ℕ, false, suc, ◌+◌, ◌*◌, ◌<◌, ◌≤◌, List, [], ◌∷◌, length, get_or, set, sym, refl, ◌∙◌, subst, arith}
use lib.Ieee.{Float}
use Rattle.lists.specs.Inside.Seg.{put}
use Rattle.lists.proofs.SegLaws.{length-put}
use Rattle.merge.specs.Inside.Table.{Table, weight, bridged, size, log, from, long, is}
use Rattle.merge.specs.Inside.Tables.{Tables, view, HoldsTables, Sound, with_table}
use Rattle.merge.specs.Inside.Steps.{entry_words, logged}
use Rattle.merge.specs.Inside.Leaves.{LeavesTables, Fit}
use Rattle.merge.proofs.View.{weight_at_lem, read}
use Rattle.merge.proofs.Stores.{Holding, holding, stored, leaves}
use Rattle.merge.proofs.WithTable.{with_own, store_with, sound_with}

-- words stored one after another in a table
puts : (t : Table) → is t weight ≡ false → (m n : ℕ) (d : List Float) (s : Tables) (vs w l : List ℕ) (j : ℕ) → Holding m n w d (with_table t l s) → j + length vs ≤ long t m n
    → Holding m n (put w (from t m n + j) vs) d (with_table t (put l j vs) s)
unfolding put
puts t o m n d s [] w l j h r = h
puts t o m n d s (x ∷ vs) w l j h r =
    let z : suc (from t m n + j) ≡ from t m n + suc j = omega arith in
    let u : Holding m n (set w (from t m n + j) x) d (with_table t (set l j x) s) = subst (Holding m n (set w (from t m n + j) x) d) (store_with t l s j x) (stored h t o j x x (omega arith) refl) in
    subst (λ (i : ℕ). Holding m n (put (set w (from t m n + j) x) i vs) d (with_table t (put (set l j x) (suc j) vs) s)) (sym z) (puts t o m n d s vs (set w (from t m n + j) x) (set l j x) (suc j) u (omega arith))

-- six stores
module _ {A : Type 0} (w : List A) (a : ℕ) (x₀ x₁ x₂ x₃ x₄ x₅ : A) where
  pub six_set : set (set (set (set (set (set w a x₀) (a + 1) x₁) (a + 2) x₂) (a + 3) x₃) (a + 4) x₄) (a + 5) x₅ ≡ put w a (x₀ ∷ x₁ ∷ x₂ ∷ x₃ ∷ x₄ ∷ x₅ ∷ [])
  unfolding put
  six_set =
      let z₁ : a + 1 ≡ suc a = omega arith in
      let z₂ : a + 2 ≡ suc (suc a) = omega arith in
      let z₃ : a + 3 ≡ suc (suc (suc a)) = omega arith in
      let z₄ : a + 4 ≡ suc (suc (suc (suc a))) = omega arith in
      let z₅ : a + 5 ≡ suc (suc (suc (suc (suc a)))) = omega arith in
      λ i. set (set (set (set (set (set w a x₀) (z₁ i) x₁) (z₂ i) x₂) (z₃ i) x₃) (z₄ i) x₄) (z₅ i) x₅

pub log_does : (m n : ℕ) (w : List ℕ) (d : List Float) (e b v g k : ℕ) → HoldsTables m n w d → e < m → v < n → k < m
    → let a = 8 * m + 8 * n + 6 * k in
    LeavesTables m n (set (set (set (set (set (set w a b) (a + 1) v) (a + 2) (get_or w e 0)) (a + 3) (get_or w (5 * m + e) 0)) (a + 4) g) (a + 5) (get_or w (8 * m + 3 * n + v) 0)) d (logged k e b v g (view m n w d))
unfolding logged entry_words
log_does m n w d e b v g k r he hv hk =
    let s : Tables = view m n w d in
    let x : ℕ = get_or w e 0 in
    let y : ℕ = get_or w (5 * m + e) 0 in
    let z : ℕ = get_or w (8 * m + 3 * n + v) 0 in
    let vs : List ℕ = b ∷ v ∷ x ∷ y ∷ g ∷ z ∷ [] in
    let six_words : length vs ≡ 6 = refl in
    let h : Holding m n w d (with_table log (s.at log) s) = subst (Holding m n w d) (sym (with_own log s)) (holding r) in
    rw (six_set w (8 * m + 8 * n + 6 * k) b v x y g z, weight_at_lem m n w d e he, read bridged m n w d e he, read size m n w d v hv)
    (leaves (puts log refl m n d s vs w (s.at log) (6 * k) h (omega (arith, six_words))))

pub sound_logged : (m n k e b v g : ℕ) (s : Tables) → Sound m n s → Sound m n (logged k e b v g s)
unfolding logged
sound_logged m n k e b v g s h = sound_with log m n (put (s.at log) (6 * k) (entry_words e b v g s)) s refl refl refl (length-put (s.at log) (6 * k) (entry_words e b v g s) ∙ h.lengths log) h

pub fit_logged : (n x y k e b v g : ℕ) (s : Tables) → Fit n x y s → Fit n x y (logged k e b v g s)
unfolding logged
fit_logged n x y k e b v g s f = record { b_in = f.b_in; v_in = f.v_in; sizes = f.sizes; elens = f.elens; rlens = f.rlens }
