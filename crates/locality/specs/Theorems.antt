-- What a caller of the entries may rely on, from their contracts alone. Of `jivakkol_dealias_sweep`: s is the sweep that the call's parameters are,
-- m all memory lent at entry, a the answer and all memory lent at exit. EntryTheorems proves each, VelocityTheorems those of the second entry,
-- SizeTheorems what is said of sizes.
use Rattle.std.specs.Prelude.{ℕ, ◌<◌, ◌≡◌, ◌⊎◌, Bool, true, List, [], ◌∷◌, length, get_or, pos, ◌+ℤ◌, Float}
use Rattle.std.proofs.Math.Option.{none, some}
use Rattle.memory.specs.Size.{largest}
use Rattle.lists.specs.Seq.{Member}
use Rattle.network.specs.Network.{Event, replay, trace}
use Rattle.sweep.specs.Sweep.{Sweep, unfolded}
use Rattle.sweep.specs.Questions.{gates_in, asked, first_missed, own_limits}
use Rattle.sweep.specs.Call.{Memory, Answer, lengths, cleared_for, call}
use Rattle.sweep.specs.Entry.{answer_of}
use Rattle.sweep.specs.Velocity.{Counted, VelocityAnswer, velocities, asked_velocity, call_velocity}
use Rattle.channels.specs.Call.{TwoMemory, call_two}
use Rattle.window.specs.Window.{Window, words_of, call_window}
use Rattle.test_sweep.specs.Call.{Slices, call_test}
use Rattle.locality.specs.Demand3.{Apart, MergeList, Does, label_at, first, count_at, mark_at, Alike, offset, Agree}

-- the contract of the entry
abbrev pub Called : Sweep → Memory → Answer → Type 0
Called s m a = a ≡ call s m

-- `answer_is`: the answer is the number of the first question that gets a no, and 0 where none does
abbrev pub AnswerIs : Type 0
AnswerIs = (s : Sweep) (m : Memory) (a : Answer) → Called s m a → a.number ≡ answer_of (first_missed s (lengths m))

-- more rays than the largest sweep has, or more gates per ray
abbrev pub Larger : ℕ → ℕ → Type 0
Larger rays gates = (largest.rays < rays) ⊎ (largest.gates < gates)

-- an answer is 1 exactly if the sweep is larger than that
pub record OneIsSize (rays gates number : ℕ) : Type 0 where
  pub refused : Larger rays gates → number ≡ 1
  pub larger : number ≡ 1 → Larger rays gates

-- `one_is_size`: the sweep entry answers 1 exactly if the sweep is larger than the largest
abbrev pub SweepSize : Type 0
SweepSize = (s : Sweep) (m : Memory) (a : Answer) → Called s m a → OneIsSize s.shape.rays s.shape.gates a.number

-- `refusal_keeps`: a refusal leaves counts, marks and pair as they were, and one by questions 1 to 8 leaves all memory so
pub record Kept (s : Sweep) (m : Memory) (a : Answer) : Type 0 where
  pub counts : a.memory.counts ≡ m.counts
  pub doubtful : a.memory.doubtful ≡ m.doubtful
  pub pair : a.memory.pair ≡ m.pair
  pub all : (k : ℕ) → asked s (lengths m) ≡ some k → a.memory ≡ m

abbrev pub RefusalKeeps : Type 0
RefusalKeeps = (s : Sweep) (m : Memory) (a : Answer) → Called s m a → 0 < a.number → Kept s m a

-- `counts_are`: a call that answers 0 leaves the definition's counts and marks, and in the pair its regions and merges
pub record Written (s : Sweep) (a : Answer) : Type 0 where
  pub counts : a.memory.counts ≡ (unfolded s (own_limits s)).counts
  pub doubtful : a.memory.doubtful ≡ (unfolded s (own_limits s)).doubtful
  pub pair : a.memory.pair ≡ (unfolded s (own_limits s)).regions ∷ length (unfolded s (own_limits s)).merges ∷ []

abbrev pub CountsAre : Type 0
CountsAre = (s : Sweep) (m : Memory) (a : Answer) → Called s m a → a.number ≡ 0 → Written s a

-- a merge among those that found and did vs: it is doubtful, and region l is in its moved node
pub record Doubted (vs : List Event) (l : ℕ) : Type 0 where
  pub event : Event
  pub done : Member event vs
  pub doubtful : event.doubtful ≡ true
  pub moved : Member l event.moved

-- the same of the sweep's own run and the region of gate g
abbrev pub GateDoubted : Sweep → ℕ → Type 0
GateDoubted s g = Doubted (trace (first s (own_limits s)) (unfolded s (own_limits s)).merges) (label_at s (own_limits s) g)

-- `marks_mean`: of a call that answers 0, a gate's mark is 1 exactly if there is such a merge, and otherwise 0; no gate that is masked or has no
-- region is marked
pub record MarkMeans (s : Sweep) (a : Answer) (g : ℕ) : Type 0 where
  pub byte : (get_or a.memory.doubtful g 0 ≡ 0) ⊎ (get_or a.memory.doubtful g 0 ≡ 1)
  pub doubted : get_or a.memory.doubtful g 0 ≡ 1 → GateDoubted s g
  pub one : GateDoubted s g → get_or a.memory.doubtful g 0 ≡ 1
  pub valid : get_or a.memory.doubtful g 0 ≡ 1 → get_or s.mask g 0 ≡ 1
  pub labelled : get_or a.memory.doubtful g 0 ≡ 1 → 0 < label_at s (own_limits s) g

abbrev pub MarksMean : Type 0
MarksMean = (s : Sweep) (m : Memory) (a : Answer) → Called s m a → a.number ≡ 0 → (g : ℕ) → MarkMeans s a g

-- `work_cleared`: a call that got past question 8 leaves the asked work memory zero and any further words as they were
pub record Cleared (s : Sweep) (m : Memory) (a : Answer) : Type 0 where
  pub words : a.memory.words ≡ (cleared_for (gates_in s) m).words
  pub floats : a.memory.floats ≡ (cleared_for (gates_in s) m).floats

abbrev pub WorkCleared : Type 0
WorkCleared = (s : Sweep) (m : Memory) (a : Answer) → Called s m a → asked s (lengths m) ≡ none → Cleared s m a

-- `echo_counts`: demand 3 for the counts and marks that two calls leave
abbrev pub EchoCounts : Type 0
EchoCounts =
    (E : ℕ → Bool) (s t : Sweep) (m n : Memory) (a b : Answer) → Called s m a → Called t n b → a.number ≡ 0 → b.number ≡ 0
    → Alike E s t → Apart E s (own_limits s) → Apart E t (own_limits t) → Agree E s t a.memory.counts b.memory.counts a.memory.doubtful b.memory.doubtful

-- `echo_lists`: demand 3 for what a call leaves: at each valid gate every merge list gives the count plus the sweep's offset, and at every gate the mark
pub record ListGives (s : Sweep) (a : Answer) (l : List ℕ) : Type 0 where
  pub does : Does s (own_limits s) l
  pub counts : (g : ℕ) → get_or s.mask g 0 ≡ 1 → get_or a.memory.counts g (pos 0) +ℤ offset s ≡ count_at s (own_limits s) (replay (first s (own_limits s)) l) g
  pub marks : (g : ℕ) → get_or a.memory.doubtful g 0 ≡ mark_at s (own_limits s) (trace (first s (own_limits s)) l) g

abbrev pub EchoLists : Type 0
EchoLists =
    (E : ℕ → Bool) (s : Sweep) (m : Memory) (a : Answer) → Called s m a → a.number ≡ 0 → Apart E s (own_limits s)
    → (l : List ℕ) → MergeList E s (own_limits s) l → ListGives s a l

-- ---- of `jivakkol_unfold_velocity`: u is what the call's parameters are, out the slice lent at entry, a the answer and the slice at exit

-- the contract of the entry
abbrev pub CalledVelocity : Counted → List Float → VelocityAnswer → Type 0
CalledVelocity u out a = a ≡ call_velocity u out

-- `velocity_answer_is`: the answer is the number of the first question that gets a no, and 0 where none does
abbrev pub VelocityAnswerIs : Type 0
VelocityAnswerIs = (u : Counted) (out : List Float) (a : VelocityAnswer) → CalledVelocity u out a → a.number ≡ answer_of (asked_velocity u (length out))

-- `velocity_one_is_size`: it answers 1 exactly if the sweep is larger than the largest
abbrev pub VelocitySize : Type 0
VelocitySize = (u : Counted) (out : List Float) (a : VelocityAnswer) → CalledVelocity u out a → OneIsSize u.rays u.gates a.number

-- `velocity_refusal_keeps`: a refusal leaves the slice as it was
abbrev pub VelocityRefusalKeeps : Type 0
VelocityRefusalKeeps = (u : Counted) (out : List Float) (a : VelocityAnswer) → CalledVelocity u out a → 0 < a.number → a.unfolded ≡ out

-- `velocities_are`: a call that answers 0 leaves the definition's velocities
abbrev pub VelocitiesAre : Type 0
VelocitiesAre = (u : Counted) (out : List Float) (a : VelocityAnswer) → CalledVelocity u out a → a.number ≡ 0 → a.unfolded ≡ velocities u

-- ---- the entry that fills test sweeps: its other statements stand in test_sweep

-- `test_one_is_size`: it answers 1 exactly if the sweep is larger than the largest
abbrev pub TestSize : Type 0
TestSize = (rays gates : ℕ) (word : List ℕ) (m : Slices) → OneIsSize rays gates (call_test rays gates word m).number

-- ---- the window's entry: its other statements stand in window

-- an answer is 1 exactly if the sweep, or the window of these rays and gates, is larger than the largest
pub record OneIsEither (rays gates window_rays window_gates number : ℕ) : Type 0 where
  pub refused : Larger rays gates ⊎ Larger window_rays window_gates → number ≡ 1
  pub larger : number ≡ 1 → Larger rays gates ⊎ Larger window_rays window_gates

-- `window_one_is_size`: it answers 1 exactly so
abbrev pub WindowSize : Type 0
WindowSize = (u : Counted) (w : Window) → OneIsEither u.rays u.gates (words_of w).rays (words_of w).gates (call_window u w).number

-- ---- the entry for two channels: its other statements stand in channels

-- `two_one_is_size`: it answers 1 exactly if the channels, of one size, are larger than the largest
abbrev pub TwoSize : Type 0
TwoSize =
    (h v : Sweep) (m : TwoMemory) → h.shape.rays ≡ v.shape.rays → h.shape.gates ≡ v.shape.gates
    → OneIsSize h.shape.rays h.shape.gates (call_two h v m).number
