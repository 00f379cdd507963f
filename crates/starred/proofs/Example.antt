-- Demand 3 of the two sweeps of specs/Example.antt: they agree on the echo, without centring and with it, and the merge list does what the run does there.
-- Assumes nothing.
use Rattle.std.proofs.Common.{◌≡◌, ℕ, [], ◌∷◌, pos, refl, sym, ap, ◌∙◌}
use Rattle.std.specs.Float.{binary32}
use Rattle.std.specs.Float.Ieee.{of_int}
use Rattle.arithmetic.specs.Intervals.{limits_for}
use Rattle.sweep.specs.Questions.{own_limits}
use Rattle.locality.specs.Demand3.{Does, Alike, Agree}
use Rattle.locality.proofs.Demand3Laws.{merge_lists, two_sweeps}
use Rattle.starred.specs.Example.{echo, folds, smooth, folds_counts, smooth_counts, folds_centred, unmarked, folds_off, smooth_off, folds_on, smooth_on, folds_apart, smooth_apart, folds_range, smooth_range, masks, velocities, yes_by, between}

-- both have the same limits
limits_same : (c : ℕ) → own_limits (folds c) ≡ own_limits (smooth c)
unfolding own_limits
limits_same c = ap (limits_for (of_int binary32 (pos 10)) 3) (folds_range c ∙ sym (smooth_range c))

alike : (c : ℕ) → Alike echo (folds c) (smooth c)
alike c = record { shape = refl; splits = refl; centred = refl; nyquist = refl; limits = limits_same c; mask = masks c; vel = λ g h v. velocities c g h }

pub example_off : Agree echo (folds 0) (smooth 0) folds_counts smooth_counts unmarked unmarked
example_off = two_sweeps echo (folds 0) (smooth 0) folds_counts smooth_counts unmarked unmarked (yes_by (folds 0) folds_counts 5 3 folds_off) (yes_by (smooth 0) smooth_counts 3 1 smooth_off) (alike 0)
    (folds_apart 0) (smooth_apart 0)

pub example_on : Agree echo (folds 1) (smooth 1) folds_centred smooth_counts unmarked unmarked
example_on = two_sweeps echo (folds 1) (smooth 1) folds_centred smooth_counts unmarked unmarked (yes_by (folds 1) folds_centred 5 3 folds_on) (yes_by (smooth 1) smooth_counts 3 1 smooth_on) (alike 1)
    (folds_apart 1) (smooth_apart 1)

-- ---- a merge list

pub example_list : Does (folds 0) (own_limits (folds 0)) (1 ∷ 0 ∷ 2 ∷ [])
example_list = merge_lists echo (folds 0) folds_counts unmarked (yes_by (folds 0) folds_counts 5 3 folds_off) (folds_apart 0) (1 ∷ 0 ∷ 2 ∷ []) between
