-- Calls of the region map as one list under one theorem: each answer number and all that is lent afterwards, computed.
use Rattle.std.specs.Prelude.{ℕ, ◌≡◌, refl, List, [], ◌∷◌, ◌++◌, map, ℤ, pos, negsuc, length, replicate, Float}
use Rattle.std.specs.Float.{binary32}
use Rattle.std.specs.Float.Ieee.{of_int}
use Rattle.arithmetic.specs.Rounding.{real}
use Rattle.sweep.specs.Sweep.{Sweep}
use Rattle.map.specs.Evaluating.{evaluating}
use Rattle.map.specs.Map.{MapMemory, map_memory_of, map_answer_by, call_map}

-- rays of so many gates at Nyquist 10 and splits 3, with wrap and skips 0
abbrev sized : ℕ → ℕ → List ℤ → List ℕ → Sweep
sized r g vs m = record {
  shape = record { rays = r; gates = g; skip_between_rays = 0; skip_along_ray = 0; wrap = 1 };
  splits = 3;
  centred = 0;
  nyquist = of_int binary32 (pos 10);
  vel = map (of_int binary32) vs;
  mask = m;
}

-- rays of four gates
abbrev rays : ℕ → List ℤ → List ℕ → Sweep
rays r vs m = sized r 4 vs m

-- two rays: 9, 9, -9, 9 and -9, 9, 9, masked
abbrev two : Sweep
two = rays 2 (pos 9 ∷ pos 9 ∷ negsuc 8 ∷ pos 9 ∷ negsuc 8 ∷ pos 9 ∷ pos 9 ∷ negsuc 8 ∷ []) (1 ∷ 1 ∷ 1 ∷ 1 ∷ 1 ∷ 1 ∷ 1 ∷ 0 ∷ [])

-- three rays, the middle one masked, the first and the last alike: wrap joins nothing
abbrev three : Sweep
three = rays 3 (replicate 4 (pos 9) ++ replicate 4 (pos 0) ++ replicate 4 (pos 9)) (replicate 4 1 ++ replicate 4 0 ++ replicate 4 1)

-- one ray, all valid, at this Nyquist velocity; splits 1, no wrap
abbrev one : ℤ → List ℤ → Sweep
one nyq vs = record {
  shape = record { rays = 1; gates = length vs; skip_between_rays = 0; skip_along_ray = 0; wrap = 0 };
  splits = 1;
  centred = 0;
  nyquist = of_int binary32 nyq;
  vel = map (of_int binary32) vs;
  mask = replicate (length vs) 1;
}

-- n labels and one number lent with 5 in each place, w words and d floats with 7
abbrev lent : ℕ → ℕ → ℕ → MapMemory
lent n w d = map_memory_of (replicate n 5) (5 ∷ []) (replicate w 7) (replicate d (real (pos 7)))

-- zeros, and then sevens
abbrev words : ℕ → ℕ → List ℕ
words k j = replicate k 0 ++ replicate j 7

abbrev floats : ℕ → ℕ → List Float
floats k j = replicate k (real (pos 0)) ++ replicate j (real (pos 7))

-- a sweep, what is lent, the answer number, and what is lent afterwards
pub record Row : Type 0 where
  pub sweep : Sweep
  pub before : MapMemory
  pub number : ℕ
  pub after : MapMemory

abbrev row : Sweep → MapMemory → ℕ → MapMemory → Row
row s b k a = record { sweep = s; before = b; number = k; after = a }

abbrev pub rows : List Row
rows =
    -- one word and one float more than is asked for
    row two (lent 8 833 145) 0 (map_memory_of (3 ∷ 3 ∷ 1 ∷ 4 ∷ 2 ∷ 3 ∷ 3 ∷ 0 ∷ []) (4 ∷ []) (words 832 1) (floats 144 1))
    ∷ row three (lent 12 1216 208) 0 (map_memory_of (1 ∷ 1 ∷ 1 ∷ 1 ∷ 0 ∷ 0 ∷ 0 ∷ 0 ∷ 2 ∷ 2 ∷ 2 ∷ 2 ∷ []) (2 ∷ []) (words 1216 0) (floats 208 0))
    -- 9, 10, -10: 10 lies in no interval
    ∷ row (one (pos 10) (pos 9 ∷ pos 10 ∷ negsuc 9 ∷ [])) (lent 3 352 64) 0 (map_memory_of (1 ∷ 0 ∷ 2 ∷ []) (2 ∷ []) (words 352 0) (floats 64 0))
    -- -2000, 2000: the sweep entry refuses it with 9
    ∷ row (one (pos 1) (negsuc 1999 ∷ pos 2000 ∷ [])) (lent 2 256 48) 0 (map_memory_of (1 ∷ 2 ∷ []) (2 ∷ []) (words 256 0) (floats 48 0))
    -- no ray of 1,200 gates; 1: no ray of 1,201
    ∷ row (sized 0 1200 [] []) (lent 0 64 16) 0 (map_memory_of [] (0 ∷ []) (words 64 0) (floats 16 0))
    ∷ row (sized 0 1201 [] []) (lent 0 64 16) 1 (lent 0 64 16)
    -- 2: a label too few
    ∷ row two (lent 7 832 144) 2 (lent 7 832 144)
    -- 4: a word too few, a float too few
    ∷ row two (lent 8 831 144) 4 (lent 8 831 144)
    ∷ row two (lent 8 832 143) 4 (lent 8 832 143)
    -- 7: 16,385
    ∷ row (one (pos 10) (pos 16385 ∷ [])) (lent 1 160 32) 7 (lent 1 160 32)
    ∷ []

-- each call gives its answer
pub maps_hold : map (λ (r : Row). call_map r.sweep r.before) rows ≡ map (λ (r : Row). map_answer_by r.number r.after.labels r.after.regions r.after.words r.after.floats) rows
unfolding evaluating
maps_hold = refl
