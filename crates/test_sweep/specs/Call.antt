-- The calls that fill a test sweep: from the inputs and everything lent to the answer number and everything lent afterwards.
use Rattle.std.specs.Prelude.{ℕ, ◌*◌, Bool, true, List, [], ◌∷◌, length, ◌==◌, slice_index, Float}
use Rattle.std.proofs.Math.Option.{Option, none, some}
use Rattle.sweep.specs.Questions.{ask, first_no, size_in_range, lengths_fit}
use Rattle.test_sweep.specs.Generator.{state_after, velocities, mask_bytes}

-- the velocities and the mask lent
pub record Slices : Type 0 where
  pub vel : List Float
  pub mask : List ℕ

-- the same, of what the slices hold
abbrev pub slices_of : List Float → List ℕ → Slices
slices_of vel mask = record { vel = vel; mask = mask }

-- n gates from a state
unfoldable pub filled : ℕ → ℕ → Slices
filled n state = record { vel = velocities n state; mask = mask_bytes n state }

-- questions 1 and 2, own being an entry's own part of the latter
unfoldable pub asked_test : ℕ → ℕ → Slices → Bool → Option ℕ
asked_test rays gates m own = first_no (ask 1 (size_in_range rays gates) ∷ ask 2 (lengths_fit (rays * gates) m.vel m.mask own) ∷ [])

-- an answer number, the state and the slices afterwards
pub record FillAnswer : Type 0 where
  pub number : ℕ
  pub state : ℕ
  pub slices : Slices

abbrev pub fill_answer_by : ℕ → ℕ → Slices → FillAnswer
fill_answer_by r state m = record { number = r; state = state; slices = m }

-- the library function's call: a refusal answers the state given and leaves the slices
unfoldable pub call_fill : ℕ → ℕ → ℕ → Slices → FillAnswer
call_fill rays gates state m = elim (asked_test rays gates m true) [
  | none ↦ fill_answer_by 0 (state_after (rays * gates) state) (filled (rays * gates) state)
  | some k ↦ fill_answer_by k state m
]

-- the same with the state as a slice of words
pub record TestAnswer : Type 0 where
  pub number : ℕ
  pub state : List ℕ
  pub slices : Slices

abbrev pub test_answer_by : ℕ → List ℕ → Slices → TestAnswer
test_answer_by r state m = record { number = r; state = state; slices = m }

-- the exported call: its own part of question 2 is one word of state, which is replaced; a refusal leaves everything as it was
unfoldable pub call_test : ℕ → ℕ → List ℕ → Slices → TestAnswer
call_test rays gates word m = elim (asked_test rays gates m (length word == 1)) [
  | none ↦ test_answer_by 0 (state_after (rays * gates) (slice_index word 0) ∷ []) (filled (rays * gates) (slice_index word 0))
  | some k ↦ test_answer_by k word m
]
