-- Doubtful numbers and the marks of small sweeps, computed: a region is marked by a merge that moved it at a difference within one sixteenth of a
-- whole number plus a half. Assumes nothing.
use Rattle.std.specs.Prelude.{ℕ, ◌+◌, ◌-◌, ◌*◌, ◌^◌, ◌≡◌, refl, true, false, List, [], ◌∷◌, map, ℤ, pos, negsuc, length}
use Rattle.std.specs.Float.{nan, inf, fin, binary32}
use Rattle.std.specs.Float.Ieee.{of_int}
use Rattle.arithmetic.specs.Doubtful.{doubtful}
use Rattle.sweep.specs.Evaluating.{evaluating}
use Rattle.sweep.specs.Sweep.{Sweep, unfolded}
use Rattle.sweep.specs.Questions.{own_limits}

-- 7/16, 1/2 and 9/16 of either sign, 3 + 9/16, -(2 ^ 51 + 1/2)
pub doubted :
    map doubtful (
    fin false 7 (negsuc 3) ∷ fin true 7 (negsuc 3) ∷ fin false 1 (negsuc 0) ∷ fin true 1 (negsuc 0) ∷ fin false 9 (negsuc 3) ∷ fin true 9 (negsuc 3)
    ∷ fin false 57 (negsuc 3) ∷ fin true 4503599627370497 (negsuc 0) ∷ []
    )
    ≡ true ∷ true ∷ true ∷ true ∷ true ∷ true ∷ true ∷ true ∷ []
unfolding evaluating
doubted = refl

-- 0, 3/8, the f64 next to -7/16 and to -9/16 outside, 1, 2 ^ 60, and what is no number or infinite
pub not-doubted :
    map doubtful (
    fin true 0 (pos 0) ∷ fin false 3 (negsuc 2) ∷ fin true (7 * 2 ^ 50 - 1) (negsuc 53) ∷ fin true (9 * 2 ^ 49 + 1) (negsuc 52) ∷ fin false 1 (pos 0)
    ∷ fin true 1 (pos 60) ∷ nan ∷ inf false ∷ inf true ∷ []
    )
    ≡ false ∷ false ∷ false ∷ false ∷ false ∷ false ∷ false ∷ false ∷ false ∷ []
unfolding evaluating
not-doubted = refl

-- one ray at a Nyquist velocity, splits 3, skips 100, with these mask bytes
abbrev ray : ℕ → List ℤ → List ℕ → Sweep
ray nyquist vs m = record {
  shape = record { rays = 1; gates = length vs; skip_between_rays = 100; skip_along_ray = 100; wrap = 0 };
  splits = 3;
  centred = 0;
  nyquist = of_int binary32 (pos nyquist);
  vel = map (of_int binary32) vs;
  mask = m;
}

-- the marks of a sweep
abbrev marks : Sweep → List ℕ
marks s = (unfolded s (own_limits s)).doubtful

-- At Nyquist 8: 4, -3 (7/16) and 5, -4 (9/16) are doubtful, 3, -3 (6/16) is not. Of two regions of one size the first is moved.
pub pairs-marked :
    map marks (ray 8 (pos 4 ∷ negsuc 2 ∷ []) (1 ∷ 1 ∷ []) ∷ ray 8 (pos 5 ∷ negsuc 3 ∷ []) (1 ∷ 1 ∷ []) ∷ ray 8 (pos 3 ∷ negsuc 2 ∷ []) (1 ∷ 1 ∷ []) ∷ [])
    ≡ (1 ∷ 0 ∷ []) ∷ (1 ∷ 0 ∷ []) ∷ (0 ∷ 0 ∷ []) ∷ []
unfolding evaluating
pairs-marked = refl

-- 5, masked, -5 at Nyquist 10, half a fold: the masked gate has no mark
pub masked_unmarked : marks (ray 10 (pos 5 ∷ pos 0 ∷ negsuc 4 ∷ []) (1 ∷ 0 ∷ 1 ∷ [])) ≡ 1 ∷ 0 ∷ 0 ∷ []
unfolding evaluating
masked_unmarked = refl

-- 5 | -5, -5 | 9, 9, 9: the first merge moves 5 by 0 and marks it; the second, not doubtful, moves both by 1: the mark stays, the other has none
abbrev kept : Sweep
kept = ray 10 (pos 5 ∷ negsuc 4 ∷ negsuc 4 ∷ pos 9 ∷ pos 9 ∷ pos 9 ∷ []) (1 ∷ 1 ∷ 1 ∷ 1 ∷ 1 ∷ 1 ∷ [])

pub mark_kept : marks kept ≡ 1 ∷ 0 ∷ 0 ∷ 0 ∷ 0 ∷ 0 ∷ []
unfolding evaluating
mark_kept = refl

pub kept_counts : (unfolded kept (own_limits kept)).counts ≡ pos 1 ∷ pos 1 ∷ pos 1 ∷ pos 0 ∷ pos 0 ∷ pos 0 ∷ []
unfolding evaluating
kept_counts = refl

-- 5 | -5, -5 | 5, 5, 5: both regions of the node that the second merge moves are marked
pub node_marked : marks (ray 10 (pos 5 ∷ negsuc 4 ∷ negsuc 4 ∷ pos 5 ∷ pos 5 ∷ pos 5 ∷ []) (1 ∷ 1 ∷ 1 ∷ 1 ∷ 1 ∷ 1 ∷ [])) ≡ 1 ∷ 1 ∷ 1 ∷ 0 ∷ 0 ∷ 0 ∷ []
unfolding evaluating
node_marked = refl
