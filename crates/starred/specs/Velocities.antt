-- Calls of the second entry as one list under one theorem: each answer number and the slice lent afterwards, computed.
use Rattle.std.specs.Prelude.{ℕ, ◌≡◌, refl, List, [], ◌∷◌, map, ℤ, pos, negsuc, replicate}
use Rattle.std.specs.Float.{binary32}
use Rattle.std.specs.Float.Ieee.{of_int}
use Rattle.arithmetic.specs.Rounding.{real}
use Rattle.sweep.specs.Evaluating.{evaluating}
use Rattle.sweep.specs.Velocity.{Counted, counted, velocity_answer_by, call_velocity}

-- one ray of three gates
abbrev three : ℤ → List ℤ → List ℕ → List ℤ → List ℕ → Counted
three nyq vs m cs ls = counted 1 3 (of_int binary32 nyq) (map (of_int binary32) vs) m cs ls

-- no gate: no ray, or rays without gates
abbrev empty : ℕ → ℕ → Counted
empty rays gates = counted rays gates (of_int binary32 (pos 10)) [] [] [] []

-- a call's inputs, its answer number, and the slice before and after
pub record Row : Type 0 where
  pub inputs : Counted
  pub before : List ℤ
  pub number : ℕ
  pub after : List ℤ

abbrev row : Counted → List ℤ → ℕ → List ℤ → Row
row u b k a = record { inputs = u; before = b; number = k; after = a }

-- a slice of k places, 5 in each
abbrev fives : ℕ → List ℤ
fives k = replicate k (pos 5)

-- 9, 9, -9, all valid, and -9 one fold up
abbrev nine : List ℤ
nine = pos 9 ∷ pos 9 ∷ negsuc 8 ∷ []

abbrev valid : List ℕ
valid = 1 ∷ 1 ∷ 1 ∷ []

abbrev up : List ℤ
up = pos 0 ∷ pos 0 ∷ pos 1 ∷ []

-- its labels
abbrev two : List ℕ
two = 1 ∷ 1 ∷ 2 ∷ []

abbrev pub rows : List Row
rows =
    row (three (pos 10) nine valid up two) (fives 3) 0 (pos 9 ∷ pos 9 ∷ pos 11 ∷ [])
    ∷ row (three (pos 10) nine (1 ∷ 0 ∷ 1 ∷ []) (negsuc 0 ∷ pos 3 ∷ pos 2 ∷ []) (1 ∷ 0 ∷ 2 ∷ [])) (fives 3) 0 (negsuc 10 ∷ pos 0 ∷ pos 31 ∷ [])
    -- 9, 10, -9: the valid 10 lies in no region; it shows no wind, and its count is not asked
    ∷ row (three (pos 10) (pos 9 ∷ pos 10 ∷ negsuc 8 ∷ []) valid (pos 0 ∷ pos 3 ∷ pos 1 ∷ []) (1 ∷ 0 ∷ 2 ∷ [])) (fives 3) 0 (pos 9 ∷ pos 0 ∷ pos 11 ∷ [])
    ∷ row (three (pos 10) (pos 9 ∷ pos 10 ∷ negsuc 8 ∷ []) valid (pos 0 ∷ negsuc 2000 ∷ pos 1 ∷ []) (1 ∷ 0 ∷ 2 ∷ [])) (fives 3) 0 (pos 9 ∷ pos 0 ∷ pos 11 ∷ [])
    -- any label but 0 counts as one; at a masked gate it does not matter
    ∷ row (three (pos 10) nine (1 ∷ 0 ∷ 1 ∷ []) up (4294967295 ∷ 7 ∷ 256 ∷ [])) (fives 3) 0 (pos 9 ∷ pos 0 ∷ pos 11 ∷ [])
    -- no ray of 1,200 gates; 1: no ray of 1,201, and 721 rays
    ∷ row (empty 0 1200) [] 0 []
    ∷ row (empty 0 1201) [] 1 []
    ∷ row (empty 721 0) [] 1 []
    -- 2: the slice is one too long, or the counts or the labels one too short
    ∷ row (three (pos 10) nine valid up two) (fives 4) 2 (fives 4)
    ∷ row (three (pos 10) nine valid (pos 0 ∷ pos 0 ∷ []) two) (fives 3) 2 (fives 3)
    ∷ row (three (pos 10) nine valid up (1 ∷ 1 ∷ [])) (fives 3) 2 (fives 3)
    -- 3: a mask byte of 2
    ∷ row (three (pos 10) nine (1 ∷ 2 ∷ 1 ∷ []) up two) (fives 3) 3 (fives 3)
    -- 5: Nyquist 0
    ∷ row (three (pos 0) nine valid up two) (fives 3) 5 (fives 3)
    -- 7: a valid velocity of 16,385, in a region or in none
    ∷ row (three (pos 10) (pos 9 ∷ pos 16385 ∷ negsuc 8 ∷ []) valid up two) (fives 3) 7 (fives 3)
    ∷ row (three (pos 10) (pos 9 ∷ pos 16385 ∷ negsuc 8 ∷ []) valid up (1 ∷ 0 ∷ 2 ∷ [])) (fives 3) 7 (fives 3)
    -- 10: a count of 2,001 at a gate that shows a wind
    ∷ row (three (pos 10) nine valid (pos 0 ∷ pos 0 ∷ pos 2001 ∷ []) two) (fives 3) 10 (fives 3)
    ∷ []

-- each call gives its answer
pub velocities_hold : map (λ (r : Row). call_velocity r.inputs (map real r.before)) rows ≡ map (λ (r : Row). velocity_answer_by r.number (map real r.after)) rows
unfolding evaluating
velocities_hold = refl
