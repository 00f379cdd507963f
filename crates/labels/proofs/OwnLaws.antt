-- Every gate its own root, and whether a velocity lies in an interval, test by test. Assumes nothing.
use Rattle.std.proofs.Common.{◌≡◌, ℕ, suc, ◌<◌, Bool, true, false, cond, ◌&&◌, eqb, List, length, get_or, refl, ap, ◌∙◌, ⊎_elim, arith, eq-eqb, ne_eqb, eqb-true}
use lib.Ieee.{Float, le, lt}
use lib.ListN.{get_or-eq_default}
use Rattle.lists.proofs.SeqLaws.{tab_at, tab_length}
use Rattle.lists.proofs.SegLaws.{lt_or_le}
use Rattle.labels.specs.Label.{own}
use Rattle.labels.specs.Regions.{within, Interval}
use Rattle.labels.proofs.ForestLaws.{in_length}
use Rattle.std.proofs.lemmas.Bool.{and_parts}

-- ---- own
pub length_own : (inside : List Bool) → length (own inside) ≡ length inside
unfolding own
length_own inside = tab_length (λ (g : ℕ). cond (get_or inside g false) (suc g) 0) (length inside)

own_at : (inside : List Bool) (i : ℕ) → i < length inside → get_or (own inside) i 0 ≡ cond (get_or inside i false) (suc i) 0
unfolding own
own_at inside i h = tab_at (λ (g : ℕ). cond (get_or inside g false) (suc g) 0) (length inside) i 0 h

pub own_in : (inside : List Bool) (i : ℕ) → get_or inside i false ≡ true → get_or (own inside) i 0 ≡ suc i
own_in inside i e = own_at inside i (in_length inside i e) ∙ ap (λ (t : Bool). cond t (suc i) 0) e

pub own_out : (inside : List Bool) (i : ℕ) → get_or inside i false ≡ false → get_or (own inside) i 0 ≡ 0
own_out inside i e = ⊎_elim (λ h. own_at inside i h ∙ ap (λ (t : Bool). cond t (suc i) 0) e) (λ h. get_or-eq_default (own inside) 0 (omega (arith, length_own inside))) (lt_or_le i (length inside))

-- ---- within, test by test
pub within_not : (i : Interval) (x : Float) (m : ℕ) → (m ≡ 1 → ⊥) → within i x m ≡ false
unfolding within
within_not i x m h = rw (ne_eqb m 1 h) refl

pub within_low : (i : Interval) (x : Float) (m : ℕ) → le i.lower x ≡ false → within i x m ≡ false
unfolding within
within_low i x m h = rw h (go (eqb m 1))
  where
    go : (p : Bool) → (p && false) ≡ false
    go true = refl
    go false = refl

pub within_high : (i : Interval) (x : Float) (m : ℕ) → lt x i.upper ≡ false → within i x m ≡ false
unfolding within
within_high i x m h = rw h (go (eqb m 1) (le i.lower x))
  where
    go : (p q : Bool) → (p && (q && false)) ≡ false
    go true true = refl
    go true false = refl
    go false q = refl

pub within_is : (i : Interval) (x : Float) (m : ℕ) → m ≡ 1 → le i.lower x ≡ true → within i x m ≡ lt x i.upper
unfolding within
within_is i x m e f = rw (eq-eqb m 1 e, f) refl

-- and back: where a velocity lies, and that it is valid
pub within_valid : (i : Interval) (x : Float) (m : ℕ) → within i x m ≡ true → m ≡ 1
unfolding within
within_valid i x m h = eqb-true m 1 (and_parts (eqb m 1) (le i.lower x && lt x i.upper) h).0

pub within_from : (i : Interval) (x : Float) (m : ℕ) → within i x m ≡ true → le i.lower x ≡ true
unfolding within
within_from i x m h = (and_parts (le i.lower x) (lt x i.upper) (and_parts (eqb m 1) (le i.lower x && lt x i.upper) h).1).0

pub within_to : (i : Interval) (x : Float) (m : ℕ) → within i x m ≡ true → lt x i.upper ≡ true
unfolding within
within_to i x m h = (and_parts (le i.lower x) (lt x i.upper) (and_parts (eqb m 1) (le i.lower x && lt x i.upper) h).1).1
