-- U10: the call of two polarisations of one antenna. From the inputs and everything lent to the answer number and everything lent afterwards.
-- h and v are the sweeps of the horizontal and the vertical channel: gates of one size, with one Nyquist and one set of options.
use Rattle.std.specs.Prelude as Std
use Rattle.std.specs.Prelude.{ℕ, Bool, List, [], ◌∷◌, ◌++◌, ℤ, pos, Float}
use Rattle.std.proofs.Math.Option.{Option, none, some}
use Rattle.arithmetic.specs.Rounding.{real}
use Rattle.arithmetic.specs.Intervals.{over_both, limits_for}
use Rattle.arithmetic.specs.declared.intervals.Extremes.{Extremes}
use Rattle.sweep.specs.Sweep.{Sweep, unfolded}
use Rattle.sweep.specs.Questions.{Question, ask, Outcome, refused, accepted, first_no, gates_in, words_for, floats_for, range_of, few_for, seven, room, asked9}
use Rattle.sweep.specs.Call.{Memory, memory_of, lengths, cleared}
use Rattle.sweep.specs.Entry.{sweep_by}
use Rattle.sweep.specs.declared.questions.Room.{Room}
use Rattle.channels.specs.declared.input.Channels.{Channels}

-- the sweeps of the channels that a host lends
abbrev pub horizontal_in : Channels → Sweep
horizontal_in c = sweep_by c.options c.h_velocity.now c.h_valid.now

abbrev pub vertical_in : Channels → Sweep
vertical_in c = sweep_by c.options c.v_velocity.now c.v_valid.now

-- ---- the limits

-- the least and the greatest over the valid velocities of both channels
unfoldable pub shared_range : Sweep → Sweep → Std.Option Extremes
shared_range h v = over_both (range_of h) (range_of v)

-- the limits that both channels go by
unfoldable pub shared_limits : Sweep → Sweep → List Float
shared_limits h v = limits_for h.nyquist h.splits (shared_range h v)

-- question 8, of these limits
unfoldable pub shared_few : Sweep → Sweep → Bool
shared_few h v = few_for h.nyquist h.splits (shared_range h v)

-- ---- what is lent

-- the counts, the marks and the pair of one channel
pub record Channel : Type 0 where
  pub counts : List ℤ
  pub doubtful : List ℕ
  pub pair : List ℕ

-- those of both, and the two work memories
pub record TwoMemory : Type 0 where
  pub horizontal : Channel
  pub vertical : Channel
  pub words : List ℕ
  pub floats : List Float

-- an answer number and the memory afterwards
pub record TwoAnswer : Type 0 where
  pub number : ℕ
  pub memory : TwoMemory

-- the same, of what the slices hold
abbrev pub channel_of : List ℤ → List ℕ → List ℕ → Channel
channel_of cs ds p = record { counts = cs; doubtful = ds; pair = p }

abbrev pub two_memory_of : Channel → Channel → List ℕ → List Float → TwoMemory
two_memory_of h v w d = record { horizontal = h; vertical = v; words = w; floats = d }

abbrev pub two_answer_by : ℕ → Channel → Channel → List ℕ → List Float → TwoAnswer
two_answer_by r h v w d = record { number = r; memory = two_memory_of h v w d }

-- what a sweep call of one channel is lent: the work memory is shared
abbrev pub lent_to : Channel → TwoMemory → Memory
lent_to c m = memory_of c.counts c.doubtful c.pair m.words m.floats

-- ---- the call

-- questions 1 to 7 of horizontal, then of vertical, each with what it is lent, then 8 of the shared limits
abbrev pub eight_both : Sweep → Room → Sweep → Room → List Question
eight_both h r v q = seven h r ++ (seven v q ++ (ask 8 (shared_few h v) ∷ []))

-- questions 1 to 8 of the call: each channel has counts, marks and pair of its own
abbrev pub eight_of_two : Sweep → Sweep → TwoMemory → List Question
eight_of_two h v m = eight_both h (room (gates_in h) (lengths (lent_to m.horizontal m))) v (room (gates_in v) (lengths (lent_to m.vertical m)))

-- the first of them that gets a no
unfoldable pub asked_two : Sweep → Sweep → TwoMemory → Option ℕ
asked_two h v m = first_no (eight_of_two h v m)

-- the work memory that one channel of n gates asks for is zero
unfoldable pub cleared_for_two : ℕ → TwoMemory → TwoMemory
cleared_for_two n m = record {
  horizontal = m.horizontal;
  vertical = m.vertical;
  words = cleared 0 (words_for n) m.words;
  floats = cleared (real (pos 0)) (floats_for n) m.floats;
}

-- the end of a call by what question 9 says of horizontal, then of vertical: neither is written unless both are accepted
unfoldable pub ending_two : Outcome → Outcome → TwoMemory → TwoAnswer
ending_two (refused k) y m = record { number = k; memory = m }
ending_two (accepted cs ds r k) (refused j) m = record { number = j; memory = m }
ending_two (accepted cs ds r k) (accepted es fs q j) m =
    two_answer_by 0 (channel_of cs ds (r ∷ k ∷ [])) (channel_of es fs (q ∷ j ∷ [])) m.words m.floats

-- the call: a no to questions 1 to 8 leaves everything as it was; else each channel is unfolded by the shared limits, and the work memory is cleared
unfoldable pub call_two : Sweep → Sweep → TwoMemory → TwoAnswer
call_two h v m = elim (asked_two h v m) [
  | none ↦ ending_two (asked9 (unfolded h (shared_limits h v))) (asked9 (unfolded v (shared_limits h v))) (cleared_for_two (gates_in h) m)
  | some k ↦ record { number = k; memory = m }
]
