-- The intervals of limits, one after another. Assumes nothing.
use Rattle.std.proofs.Common.{◌≡◌, ℕ, zero, suc, ◌+◌, ◌<◌, ◌≤◌, List, [], ◌∷◌, length, get_or, drop, sym, refl, ap, ◌∙◌, not-suc-le-zero, add-one, arith}
use lib.Ieee.{Float, nan}
use Rattle.labels.specs.Regions.{windows, windows_from}

windows_suc : (l : List Float) (j : ℕ) → suc j < length l → windows (drop j l) ≡ record { lower = get_or l j nan; upper = get_or l (suc j) nan } ∷ windows (drop (suc j) l)
unfolding windows windows_from
windows_suc [] j h = absurd (not-suc-le-zero h)
windows_suc (x ∷ []) zero h = absurd (bad h)
  where
    bad : 1 < 1 → ⊥
    bad q = omega arith
windows_suc (x ∷ y ∷ l) zero h = refl
windows_suc (x ∷ l) (suc j) h = windows_suc l j (omega arith)

pub windows_step : (l : List Float) (j : ℕ) → j + 1 < length l → windows (drop j l) ≡ record { lower = get_or l j nan; upper = get_or l (j + 1) nan } ∷ windows (drop (j + 1) l)
windows_step l j h = windows_suc l j (omega arith) ∙ ap (λ (y : ℕ). record { lower = get_or l j nan; upper = get_or l y nan } ∷ windows (drop y l)) (sym (add-one j))

pub windows_end : (l : List Float) (j : ℕ) → length l ≤ j + 1 → windows (drop j l) ≡ []
unfolding windows windows_from
windows_end [] zero h = refl
windows_end [] (suc j) h = refl
windows_end (x ∷ []) zero h = refl
windows_end (x ∷ y ∷ l) zero h = absurd (bad h)
  where
    bad : suc (suc (length l)) ≤ 0 + 1 → ⊥
    bad q = omega arith
windows_end (x ∷ l) (suc j) h = windows_end l j (omega arith)
