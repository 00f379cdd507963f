-- Demand 3 at work, computed. Two sweeps of one ray that differ outside an echo, the first two gates: their counts on the echo are the same
-- without centring, and differ by one whole number with it; and a merge list that takes a merge of the rest before the echo's. What follows of them by demand 3 is in
-- proofs/Example.antt. Assumes nothing.
use Rattle.std.specs.Prelude.{ℕ, zero, suc, ◌≡◌, refl, Bool, true, false, List, [], ◌∷◌, map, ltb, ℤ, pos, negsuc, get_or}
use Rattle.std.proofs.Common.{arith, ltb-true}
use Rattle.std.specs.Float.{nan, binary32}
use Rattle.std.specs.Float.Ieee.{of_int}
use Rattle.lists.specs.Seq.{keep}
use Rattle.arithmetic.specs.Intervals.{valid, range, both}
use Rattle.network.specs.Network.{Event, trace}
use Rattle.sweep.specs.Evaluating.{evaluating}
use Rattle.sweep.specs.Sweep.{Sweep, unfolded}
use Rattle.sweep.specs.Questions.{Lent, accepted, own_limits, outcome}
use Rattle.locality.specs.Demand3.{Accepted, Apart, lies_in, both_in, echoes, MergeList, first, offset}
use Rattle.locality.proofs.ApartTest.{apart, on_side, gate_apart, apart_holds}

-- eight gates of one ray, Nyquist 10, splits 3, skips 0, centred or not
abbrev pub ray : ℕ → List ℤ → List ℕ → Sweep
ray c vs m = record {
  shape = record { rays = 1; gates = 8; skip_between_rays = 0; skip_along_ray = 0; wrap = 0 };
  splits = 3;
  centred = c;
  nyquist = of_int binary32 (pos 10);
  vel = map (of_int binary32) vs;
  mask = m;
}

-- 9, −9 | masked | 9, 9, −9, −9, 9
abbrev pub folds : ℕ → Sweep
folds c = ray c (pos 9 ∷ negsuc 8 ∷ pos 0 ∷ pos 9 ∷ pos 9 ∷ negsuc 8 ∷ negsuc 8 ∷ pos 9 ∷ []) (1 ∷ 1 ∷ 0 ∷ 1 ∷ 1 ∷ 1 ∷ 1 ∷ 1 ∷ [])

-- 9, −9 | masked | 5, 5, 5, 5, masked
abbrev pub smooth : ℕ → Sweep
smooth c = ray c (pos 9 ∷ negsuc 8 ∷ pos 0 ∷ pos 5 ∷ pos 5 ∷ pos 5 ∷ pos 5 ∷ pos 0 ∷ []) (1 ∷ 1 ∷ 0 ∷ 1 ∷ 1 ∷ 1 ∷ 1 ∷ 0 ∷ [])

-- the first two gates
abbrev pub echo : ℕ → Bool
echo g = ltb g 2

abbrev pub lent : Lent
lent = record { counts = 8; doubtful = 8; pair = 2; words = 832; floats = 144 }

-- ---- their answers

-- uncentred: −1, 0 on the echo in both
abbrev pub folds_counts : List ℤ
folds_counts = negsuc 0 ∷ pos 0 ∷ pos 0 ∷ negsuc 0 ∷ negsuc 0 ∷ pos 0 ∷ pos 0 ∷ negsuc 0 ∷ []

abbrev pub smooth_counts : List ℤ
smooth_counts = negsuc 0 ∷ pos 0 ∷ pos 0 ∷ pos 0 ∷ pos 0 ∷ pos 0 ∷ pos 0 ∷ pos 0 ∷ []

-- no merge of either is doubtful
abbrev pub unmarked : List ℕ
unmarked = 0 ∷ 0 ∷ 0 ∷ 0 ∷ 0 ∷ 0 ∷ 0 ∷ 0 ∷ []

pub folds_off : outcome (folds 0) lent ≡ accepted folds_counts unmarked 5 3
unfolding evaluating
folds_off = refl

pub smooth_off : outcome (smooth 0) lent ≡ accepted smooth_counts unmarked 3 1
unfolding evaluating
smooth_off = refl

-- centred: 0, 1 on the echo in the first, which takes −1 away, and −1, 0 in the second, which takes 0 away
abbrev pub folds_centred : List ℤ
folds_centred = pos 0 ∷ pos 1 ∷ pos 0 ∷ pos 0 ∷ pos 0 ∷ pos 1 ∷ pos 1 ∷ pos 0 ∷ []

pub folds_on : outcome (folds 1) lent ≡ accepted folds_centred unmarked 5 3
unfolding evaluating
folds_on = refl

pub smooth_on : outcome (smooth 1) lent ≡ accepted smooth_counts unmarked 3 1
unfolding evaluating
smooth_on = refl

offsets : map offset (folds 1 ∷ smooth 1 ∷ []) ≡ negsuc 0 ∷ pos 0 ∷ []
unfolding evaluating
offsets = refl

-- ---- the echo is apart in both, centred or not

folds_test : (c : ℕ) → apart echo (folds c) (own_limits (folds c)) ≡ true
unfolding evaluating apart on_side gate_apart
folds_test c = refl

smooth_test : (c : ℕ) → apart echo (smooth c) (own_limits (smooth c)) ≡ true
unfolding evaluating apart on_side gate_apart
smooth_test c = refl

pub folds_apart : (c : ℕ) → Apart echo (folds c) (own_limits (folds c))
folds_apart c = apart_holds echo (folds c) (own_limits (folds c)) (folds_test c)

pub smooth_apart : (c : ℕ) → Apart echo (smooth c) (own_limits (smooth c))
smooth_apart c = apart_holds echo (smooth c) (own_limits (smooth c)) (smooth_test c)

-- ---- two sweeps

past : (g : ℕ) → ltb (suc (suc g)) 2 ≡ true → ⊥
past g h = omega (arith, ltb-true (suc (suc g)) 2 h)

pub masks : (c g : ℕ) → echo g ≡ true → get_or (folds c).mask g 0 ≡ get_or (smooth c).mask g 0
masks c zero h = refl
masks c (suc zero) h = refl
masks c (suc (suc g)) h = absurd (past g h)

pub velocities : (c g : ℕ) → echo g ≡ true → get_or (folds c).vel g nan ≡ get_or (smooth c).vel g nan
velocities c zero h = refl
velocities c (suc zero) h = refl
velocities c (suc (suc g)) h = absurd (past g h)

-- both have −9 and 9 for least and greatest
pub folds_range : (c : ℕ) → range (valid (folds c).vel (folds c).mask) ≡ both (of_int binary32 (negsuc 8)) (of_int binary32 (pos 9))
unfolding evaluating
folds_range c = refl

pub smooth_range : (c : ℕ) → range (valid (smooth c).vel (smooth c).mask) ≡ both (of_int binary32 (negsuc 8)) (of_int binary32 (pos 9))
unfolding evaluating
smooth_range c = refl

pub yes_by : (s : Sweep) (c : List ℤ) (r m : ℕ) → outcome s lent ≡ accepted c unmarked r m → Accepted s c unmarked
yes_by s c r m h = record { lent = lent; regions = r; merges = m; yes = h }

-- ---- a merge list

-- the run merges edge 0, the echo's, and then edges 1 and 2, the rest's
own_merges : (unfolded (folds 0) (own_limits (folds 0))).merges ≡ 0 ∷ 1 ∷ 2 ∷ []
unfolding evaluating
own_merges = refl

abbrev echo_merge : ℕ → Bool
echo_merge = echoes echo (folds 0) (own_limits (folds 0))

edge_0 : echo_merge 0 ≡ true
unfolding evaluating lies_in both_in echoes
edge_0 = refl

edge_1 : echo_merge 1 ≡ false
unfolding evaluating lies_in both_in echoes
edge_1 = refl

edge_2 : echo_merge 2 ≡ false
unfolding evaluating lies_in both_in echoes
edge_2 = refl

-- the same merges, the echo's between the rest's
pub between : MergeList echo (folds 0) (own_limits (folds 0)) (1 ∷ 0 ∷ 2 ∷ [])
unfolding keep
between = record { echo = rw (own_merges, edge_0, edge_1, edge_2) refl; rest = rw (own_merges, edge_0, edge_1, edge_2) refl }

-- the regions in base and moved node
abbrev nodes : Event → List (List ℕ)
nodes v = v.base ∷ v.moved ∷ []

abbrev edge_0_finds : List (List ℕ)
edge_0_finds = (1 ∷ []) ∷ (3 ∷ []) ∷ []

abbrev edge_1_finds : List (List ℕ)
edge_1_finds = (2 ∷ []) ∷ (4 ∷ []) ∷ []

abbrev edge_2_finds : List (List ℕ)
edge_2_finds = (2 ∷ 4 ∷ []) ∷ (5 ∷ []) ∷ []

-- each edge finds the same in the sweep's own run and between the rest's
pub run_finds : map nodes (trace (first (folds 0) (own_limits (folds 0))) (0 ∷ 1 ∷ 2 ∷ [])) ≡ edge_0_finds ∷ edge_1_finds ∷ edge_2_finds ∷ []
unfolding evaluating
run_finds = refl

pub list_finds : map nodes (trace (first (folds 0) (own_limits (folds 0))) (1 ∷ 0 ∷ 2 ∷ [])) ≡ edge_1_finds ∷ edge_0_finds ∷ edge_2_finds ∷ []
unfolding evaluating
list_finds = refl
