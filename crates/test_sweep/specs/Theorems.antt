-- What sites may rely on when they fill test sweeps. `proofs/CallLaws`, `proofs/Parts` and `proofs/Exact` prove each. Statements only.
use Rattle.std.specs.Prelude.{◌≡◌, ℕ, suc, ◌+◌, ◌*◌, ◌<◌, true, false, List, [], ◌∷◌, ◌++◌, length, ℤ, pos, negsuc, ◌-ℤ◌, ◌==◌, ◌≢◌, slice_index, slice_index_or, Float}
use Rattle.std.specs.Float.{nan}
use Rattle.std.specs.Float.Ieee.Exact.{HasValue}
use Rattle.sweep.specs.Questions.{mask_is_bits, velocities_in_range}
use Rattle.sweep.specs.Entry.{answer_of}
use Rattle.test_sweep.specs.Generator.{state_after, twelve_bits, velocities, mask_bytes}
use Rattle.test_sweep.specs.Call.{Slices, slices_of, filled, asked_test, FillAnswer, fill_answer_by, call_fill, test_answer_by, call_test}

-- ---- one call

-- `test_answer_is`: the exported call answers the number of the first of questions 1 and 2 that gets a no, and 0 where none does
abbrev pub TestAnswerIs : Type 0
TestAnswerIs = (rays gates : ℕ) (word : List ℕ) (m : Slices) → (call_test rays gates word m).number ≡ answer_of (asked_test rays gates m (length word == 1))

-- `test_sweep_is`: a call that answers 0 leaves the definition's velocities and mask, and the state after the last gate
abbrev pub TestSweepIs : Type 0
TestSweepIs =
    (rays gates : ℕ) (word : List ℕ) (m : Slices) → (call_test rays gates word m).number ≡ 0
    → call_test rays gates word m ≡ test_answer_by 0 (state_after (rays * gates) (slice_index word 0) ∷ []) (filled (rays * gates) (slice_index word 0))

-- `test_refusal_keeps`: a refusal leaves state, velocities and mask as they were
abbrev pub TestRefusalKeeps : Type 0
TestRefusalKeeps =
    (rays gates : ℕ) (word : List ℕ) (m : Slices) → ((call_test rays gates word m).number ≢ 0)
    → call_test rays gates word m ≡ test_answer_by (call_test rays gates word m).number word m

-- `host_same`: with one word of state it answers and leaves what the library function does
abbrev pub HostSame : Type 0
HostSame = (rays gates state : ℕ) (m : Slices) → (
    let a = call_fill rays gates state m in
    call_test rays gates (state ∷ []) m ≡ test_answer_by a.number (a.state ∷ []) a.slices
    )

-- ---- rays filled one after another

-- a call for some of the rays, and the slices lent for them
pub record Part : Type 0 where
  pub rays : ℕ
  pub slices : Slices

-- the rays of all parts
unfoldable pub total : List Part → ℕ
total [] = 0
total (p ∷ ps) = p.rays + total ps

-- calls one after another, each from the state that the one before answered, all answer 0
abbrev pub Accepted : ℕ → ℕ → List Part → Type 0
Accepted gates state [] = Unit {0}
Accepted gates state (p ∷ ps) = let a = call_fill p.rays gates state p.slices in (a.number ≡ 0) × Accepted gates a.state ps

-- what such calls leave: their slices one after another, and the last state
unfoldable pub in_parts : ℕ → ℕ → List Part → FillAnswer
in_parts gates state [] = fill_answer_by 0 state (slices_of [] [])
in_parts gates state (p ∷ ps) =
    let a = call_fill p.rays gates state p.slices in
    let b = in_parts gates a.state ps in
    fill_answer_by 0 b.state (slices_of (a.slices.vel ++ b.slices.vel) (a.slices.mask ++ b.slices.mask))

-- `in_parts_lem`: for any split of the rays they leave the same sweep and state as one call for all rays
abbrev pub InParts : Type 0
InParts =
    (gates state : ℕ) (ps : List Part) (m : Slices) → Accepted gates state ps → (call_fill (total ps) gates state m).number ≡ 0
    → in_parts gates state ps ≡ call_fill (total ps) gates state m

-- ---- the velocities

-- x is z / 128 exactly
abbrev pub Is128th : Float → ℤ → Type 0
Is128th x (pos n) = HasValue x false n 128
Is128th x (negsuc n) = HasValue x true (suc n) 128

-- `velocities_exact`: with k, below 4,096, the twelve bits of its state, a gate's velocity is (k − 2,048)/128 exactly: a whole multiple of 1/128 from −16 to 2,047/128
pub record GateExact (n state g : ℕ) : Type 0 where
  pub few : twelve_bits (state_after (suc g) state) < 4096
  pub exact : Is128th (slice_index_or (velocities n state) g nan) (pos (twelve_bits (state_after (suc g) state)) -ℤ pos 2048)

abbrev pub VelocitiesExact : Type 0
VelocitiesExact = (n state g : ℕ) → g < n → GateExact n state g

-- `never_missed`: questions 3 and 7 get a yes of every test sweep
pub record NeverMissed (n state : ℕ) : Type 0 where
  pub three : mask_is_bits (mask_bytes n state) ≡ true
  pub seven : velocities_in_range (velocities n state) (mask_bytes n state) ≡ true

abbrev pub ThreeAndSeven : Type 0
ThreeAndSeven = (n state : ℕ) → NeverMissed n state
