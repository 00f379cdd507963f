-- The call of the sweep entry: from the inputs and everything lent to the answer number and everything lent afterwards.
use Rattle.std.specs.Prelude.{ℕ, List, [], ◌∷◌, ◌++◌, length, drop, replicate, ℤ, pos, Float}
use Rattle.std.proofs.Math.Option.{none, some}
use Rattle.arithmetic.specs.Rounding.{real}
use Rattle.sweep.specs.Sweep.{Sweep}
use Rattle.sweep.specs.Questions.{Lent, Outcome, refused, accepted, gates_in, words_for, floats_for, asked, outcome}

-- the counts, the marks, the pair and the two work memories
pub record Memory : Type 0 where
  pub counts : List ℤ
  pub doubtful : List ℕ
  pub pair : List ℕ
  pub words : List ℕ
  pub floats : List Float

-- an answer number and the memory afterwards
pub record Answer : Type 0 where
  pub number : ℕ
  pub memory : Memory

-- the same, of what the slices hold
abbrev pub memory_of : List ℤ → List ℕ → List ℕ → List ℕ → List Float → Memory
memory_of cs ds p w d = record { counts = cs; doubtful = ds; pair = p; words = w; floats = d }

abbrev pub answer_by : ℕ → List ℤ → List ℕ → List ℕ → List ℕ → List Float → Answer
answer_by r cs ds p w d = record { number = r; memory = memory_of cs ds p w d }

-- how long the slices are
unfoldable pub lengths : Memory → Lent
lengths m = record {
  counts = length m.counts;
  doubtful = length m.doubtful;
  pair = length m.pair;
  words = length m.words;
  floats = length m.floats;
}

-- k zeros at the front of a work memory, any further words as they were
unfoldable pub cleared : {A : Type 0} → A → ℕ → List A → List A
cleared z k l = replicate k z ++ drop k l

-- the work memory that a sweep of n gates asks for is zero
unfoldable pub cleared_for : ℕ → Memory → Memory
cleared_for n m = record {
  counts = m.counts;
  doubtful = m.doubtful;
  pair = m.pair;
  words = cleared 0 (words_for n) m.words;
  floats = cleared (real (pos 0)) (floats_for n) m.floats;
}

-- the memory that a call works on: cleared at its end once questions 1 to 8 have got a yes
unfoldable pub worked_on : Sweep → Memory → Memory
worked_on s m = elim (asked s (lengths m)) [ none ↦ cleared_for (gates_in s) m | some k ↦ m ]

-- the end of a call: counts, marks and pair are written where it is accepted
unfoldable pub ending : Outcome → Memory → Answer
ending (refused k) m = record { number = k; memory = m }
ending (accepted cs ds r k) m = record { number = 0; memory = record { counts = cs; doubtful = ds; pair = r ∷ k ∷ []; words = m.words; floats = m.floats } }

-- the call
unfoldable pub call : Sweep → Memory → Answer
call s m = ending (outcome s (lengths m)) (worked_on s m)
