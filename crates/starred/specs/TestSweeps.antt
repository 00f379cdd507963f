-- Calls that fill test sweeps as one list under one theorem: each answer number and all that is lent afterwards, computed.
use Rattle.std.specs.Prelude.{ℕ, ◌≡◌, refl, true, false, List, [], ◌∷◌, ◌++◌, map, pos, negsuc, replicate, Float}
use Rattle.std.specs.Float.{fin}
use Rattle.arithmetic.specs.Rounding.{real}
use Rattle.test_sweep.specs.Evaluating.{evaluating}
use Rattle.test_sweep.specs.Call.{TestAnswer, slices_of, test_answer_by, call_test}

-- a call's rays, gates and state, how long its two slices are, and its answer: the number, and state and slices afterwards
pub record Row : Type 0 where
  pub rays : ℕ
  pub gates : ℕ
  pub state : List ℕ
  pub vel : ℕ
  pub mask : ℕ
  pub answer : TestAnswer

-- an accepted call; a velocity `fin s m e` is m × 2^e, negative where s is true
abbrev fills : ℕ → ℕ → ℕ → ℕ → ℕ → List Float → List ℕ → Row
fills rays gates n from to vs bytes = record { rays = rays; gates = gates; state = from ∷ []; vel = n; mask = n; answer = test_answer_by 0 (to ∷ []) (slices_of vs bytes) }

-- what is lent to a call, 5 in each place
abbrev fives : ℕ → List Float
fives n = replicate n (real (pos 5))

-- a refused call: all is as it was
abbrev refused : ℕ → ℕ → List ℕ → ℕ → ℕ → ℕ → Row
refused rays gates state v m k = record { rays = rays; gates = gates; state = state; vel = v; mask = m; answer = test_answer_by k state (slices_of (fives v) (replicate m 5)) }

-- the two rays of three gates from seed 1
abbrev first : List Float
first = fin false 89 (negsuc 6) ∷ fin false 133 (negsuc 6) ∷ fin true 511 (negsuc 6) ∷ []

abbrev second : List Float
second = fin true 611 (negsuc 5) ∷ fin true 1939 (negsuc 6) ∷ fin false 193 (negsuc 6) ∷ []

abbrev pub rows : List Row
rows =
    -- both rays at once, the fifth gate masked; then one after the other
    fills 2 3 6 1 1587069247 (first ++ second) (1 ∷ 1 ∷ 1 ∷ 1 ∷ 0 ∷ 1 ∷ [])
    ∷ fills 1 3 3 1 2165703038 first (1 ∷ 1 ∷ 1 ∷ [])
    ∷ fills 1 3 3 2165703038 1587069247 second (1 ∷ 0 ∷ 1 ∷ [])
    -- seeds 0, 2^31 and 2^32 - 1
    ∷ fills 1 2 2 0 1196435762 (fin false 1779 (negsuc 6) ∷ fin true 2007 (negsuc 6) ∷ []) (1 ∷ 1 ∷ [])
    ∷ fills 1 1 1 2147483648 3161387871 (fin false 1779 (negsuc 6) ∷ []) (1 ∷ [])
    ∷ fills 1 1 1 4294967295 1012239698 (fin true 627 (negsuc 6) ∷ []) (1 ∷ [])
    -- the least and the greatest velocity, -16 and 2,047/128; states on both sides of 2^29, below which a gate is masked
    ∷ fills 1 1 1 2782269413 2147483648 (fin true 1 (pos 4) ∷ []) (1 ∷ [])
    ∷ fills 1 1 1 653637408 4294967295 (fin false 2047 (negsuc 6) ∷ []) (1 ∷ [])
    ∷ fills 1 1 1 3337991968 536870911 (fin false 2047 (negsuc 6) ∷ []) (0 ∷ [])
    ∷ fills 1 1 1 3319140325 536870912 (fin true 1 (pos 4) ∷ []) (1 ∷ [])
    -- no ray of 1,200 gates, 720 rays of none: the state is as it was
    ∷ fills 0 1200 0 7 7 [] []
    ∷ fills 720 0 0 7 7 [] []
    -- 1: no ray of 1,201 gates, 721 rays of none, also without a word of state
    ∷ refused 0 1201 (7 ∷ []) 0 0 1
    ∷ refused 721 0 [] 0 0 1
    -- 2: a velocity too few, a mask byte too many, no word of state, two words
    ∷ refused 1 3 (7 ∷ []) 2 3 2
    ∷ refused 1 3 (7 ∷ []) 3 4 2
    ∷ refused 1 3 [] 3 3 2
    ∷ refused 1 3 (7 ∷ 7 ∷ []) 3 3 2
    ∷ []

-- each call gives its answer
pub tests_hold : map (λ (r : Row). call_test r.rays r.gates r.state (slices_of (fives r.vel) (replicate r.mask 5))) rows ≡ map (λ (r : Row). r.answer) rows
unfolding evaluating
tests_hold = refl
