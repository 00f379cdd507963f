-- The starred sweeps of the scope document as one list under one theorem: each call's answer number and all that is lent afterwards, computed.
use Rattle.std.specs.Prelude.{ℕ, ◌≡◌, refl, List, [], ◌∷◌, ◌++◌, map, ℤ, pos, negsuc, length, replicate}
use Rattle.std.specs.Float.{binary32}
use Rattle.std.specs.Float.Ieee.{of_int}
use Rattle.arithmetic.specs.Rounding.{real}
use Rattle.sweep.specs.Evaluating.{evaluating}
use Rattle.sweep.specs.Sweep.{Sweep}
use Rattle.sweep.specs.Questions.{gates_in, words_for, floats_for, own_limits}
use Rattle.sweep.specs.Call.{Memory, Answer, call}

-- one ray, all valid, Nyquist 10, splits 3, skips 100, no wrap, uncentred
abbrev ray : List ℤ → Sweep
ray vs = record {
  shape = record { rays = 1; gates = length vs; skip_between_rays = 100; skip_along_ray = 100; wrap = 0 };
  splits = 3;
  centred = 0;
  nyquist = of_int binary32 (pos 10);
  vel = map (of_int binary32) vs;
  mask = replicate (length vs) 1;
}

-- the same, centred
abbrev centred : Sweep → Sweep
centred s = record { shape = s.shape; splits = s.splits; centred = 1; nyquist = s.nyquist; vel = s.vel; mask = s.mask }

-- the same, Nyquist 1 and splits 1
abbrev narrow : Sweep → Sweep
narrow s = record { shape = s.shape; splits = 1; centred = s.centred; nyquist = of_int binary32 (pos 1); vel = s.vel; mask = s.mask }

-- three rays of one gate, 9, masked, -9; skips 0, wrap or not
abbrev three : ℕ → Sweep
three w = record {
  shape = record { rays = 3; gates = 1; skip_between_rays = 0; skip_along_ray = 0; wrap = w };
  splits = 3;
  centred = 0;
  nyquist = of_int binary32 (pos 10);
  vel = map (of_int binary32) (pos 9 ∷ pos 0 ∷ negsuc 8 ∷ []);
  mask = 1 ∷ 0 ∷ 1 ∷ [];
}

-- counts, marks and pair lent with 5 in each place, work memory with 7, one word more than is asked for
abbrev lent : Sweep → Memory
lent s = record {
  counts = replicate (gates_in s) (pos 5);
  doubtful = replicate (gates_in s) 5;
  pair = 5 ∷ 5 ∷ [];
  words = replicate (words_for (gates_in s)) 7 ++ (7 ∷ []);
  floats = replicate (floats_for (gates_in s)) (real (pos 7)) ++ (real (pos 7) ∷ []);
}

-- a sweep, its answer number, and counts, marks and pair afterwards
pub record Row : Type 0 where
  pub sweep : Sweep
  pub number : ℕ
  pub counts : List ℤ
  pub doubtful : List ℕ
  pub pair : List ℕ

abbrev row : Sweep → ℕ → List ℤ → List ℕ → List ℕ → Row
row s k cs ds p = record { sweep = s; number = k; counts = cs; doubtful = ds; pair = p }

-- the whole answer: the work memory asked for is zero, the word more as lent
abbrev answer : Row → Answer
answer r = record {
  number = r.number;
  memory = record {
    counts = r.counts;
    doubtful = r.doubtful;
    pair = r.pair;
    words = replicate (words_for (gates_in r.sweep)) 0 ++ (7 ∷ []);
    floats = replicate (floats_for (gates_in r.sweep)) (real (pos 0)) ++ (real (pos 7) ∷ []);
  };
}

abbrev pub starred : List Row
starred =
    row (ray []) 0 [] [] (0 ∷ 0 ∷ [])
    ∷ row (ray (pos 9 ∷ negsuc 8 ∷ [])) 0 (negsuc 0 ∷ pos 0 ∷ []) (0 ∷ 0 ∷ []) (2 ∷ 1 ∷ [])
    ∷ row (ray (pos 9 ∷ pos 9 ∷ negsuc 8 ∷ [])) 0 (pos 0 ∷ pos 0 ∷ pos 1 ∷ []) (0 ∷ 0 ∷ 0 ∷ []) (2 ∷ 1 ∷ [])
    ∷ row (ray (pos 9 ∷ pos 9 ∷ negsuc 8 ∷ negsuc 8 ∷ pos 9 ∷ [])) 0 (negsuc 0 ∷ negsuc 0 ∷ pos 0 ∷ pos 0 ∷ negsuc 0 ∷ []) (0 ∷ 0 ∷ 0 ∷ 0 ∷ 0 ∷ []) (3 ∷ 2 ∷ [])
    ∷ row (centred (ray (pos 9 ∷ pos 9 ∷ negsuc 8 ∷ negsuc 8 ∷ pos 9 ∷ []))) 0 (pos 0 ∷ pos 0 ∷ pos 1 ∷ pos 1 ∷ pos 0 ∷ []) (0 ∷ 0 ∷ 0 ∷ 0 ∷ 0 ∷ []) (3 ∷ 2 ∷ [])
    ∷ row (centred (ray (pos 9 ∷ pos 9 ∷ negsuc 8 ∷ negsuc 8 ∷ pos 9 ∷ pos 10 ∷ []))) 0 (pos 0 ∷ pos 0 ∷ pos 1 ∷ pos 1 ∷ pos 0 ∷ pos 1 ∷ []) (0 ∷ 0 ∷ 0 ∷ 0 ∷ 0 ∷ 0 ∷ []) (3 ∷ 2 ∷ [])
    ∷ row (ray (pos 5 ∷ negsuc 4 ∷ [])) 0 (pos 0 ∷ pos 0 ∷ []) (1 ∷ 0 ∷ []) (2 ∷ 1 ∷ [])
    ∷ row (ray (negsuc 14 ∷ pos 15 ∷ [])) 0 (pos 0 ∷ negsuc 1 ∷ []) (0 ∷ 1 ∷ []) (2 ∷ 1 ∷ [])
    ∷ row (ray (pos 12 ∷ pos 12 ∷ [])) 0 (pos 0 ∷ pos 0 ∷ []) (0 ∷ 0 ∷ []) (0 ∷ 0 ∷ [])
    ∷ row (narrow (ray (negsuc 999 ∷ pos 1000 ∷ []))) 0 (pos 0 ∷ negsuc 999 ∷ []) (0 ∷ 0 ∷ []) (2 ∷ 1 ∷ [])
    ∷ row (narrow (ray (negsuc 1999 ∷ pos 2000 ∷ []))) 9 (pos 5 ∷ pos 5 ∷ []) (5 ∷ 5 ∷ []) (5 ∷ 5 ∷ [])
    ∷ row (three 1) 0 (negsuc 0 ∷ pos 0 ∷ pos 0 ∷ []) (0 ∷ 0 ∷ 0 ∷ []) (2 ∷ 1 ∷ [])
    ∷ row (three 0) 0 (pos 0 ∷ pos 0 ∷ pos 0 ∷ []) (0 ∷ 0 ∷ 0 ∷ []) (2 ∷ 0 ∷ [])
    ∷ []

-- each starred sweep's call gives its answer
pub starred_hold : map (λ (r : Row). call r.sweep (lent r.sweep)) starred ≡ map answer starred
unfolding evaluating
starred_hold = refl

-- 12, 12: two limits, and neither interval holds the velocity
pub two_limits : length (own_limits (ray (pos 12 ∷ pos 12 ∷ []))) ≡ 2
unfolding evaluating
two_limits = refl
