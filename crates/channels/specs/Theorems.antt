-- What a caller of `jivakkol_dealias_two` may rely on, h and v being the sweeps of its channels and m all memory lent at entry. `proofs/Theorems` proves
-- each. Statements only.
use Rattle.std.specs.Prelude.{ℕ, ◌<◌, ◌≡◌, List, [], ◌∷◌, ◌++◌, length}
use Rattle.std.proofs.Math.Option.{none, some}
use Rattle.arithmetic.specs.Intervals.{valid, range}
use Rattle.sweep.specs.Sweep.{Sweep, Unfolded, unfolded}
use Rattle.sweep.specs.Questions.{Question, ask, first_no, gates_in, range_of, own_limits}
use Rattle.sweep.specs.Call.{Answer, call}
use Rattle.sweep.specs.Entry.{answer_of}
use Rattle.channels.specs.Call.{shared_range, shared_limits, Channel, channel_of, TwoMemory, lent_to, eight_of_two, asked_two, cleared_for_two, TwoAnswer, call_two}

-- ---- one call

-- each channel by the shared limits
abbrev pub horizontal_by : Sweep → Sweep → Unfolded
horizontal_by h v = unfolded h (shared_limits h v)

abbrev pub vertical_by : Sweep → Sweep → Unfolded
vertical_by h v = unfolded v (shared_limits h v)

-- questions 1 to 8, then 9 of horizontal and of vertical
abbrev pub nine_of_two : Sweep → Sweep → TwoMemory → List Question
nine_of_two h v m = eight_of_two h v m ++ (ask 9 (horizontal_by h v).merges_in_range ∷ ask 9 (vertical_by h v).merges_in_range ∷ [])

-- `two_answer_is`: the call answers the number of the first question that gets a no, and 0 where none does
abbrev pub TwoAnswerIs : Type 0
TwoAnswerIs = (h v : Sweep) (m : TwoMemory) → (call_two h v m).number ≡ answer_of (first_no (nine_of_two h v m))

-- the counts, marks and pair of a definition's answer
abbrev pub left_by : Unfolded → Channel
left_by u = channel_of u.counts u.doubtful (u.regions ∷ length u.merges ∷ [])

-- `channels_are`: a call that answers 0 leaves in each channel the definition's counts, marks and pair by the shared limits
pub record ChannelsLeft (h v : Sweep) (a : TwoAnswer) : Type 0 where
  pub horizontal : a.memory.horizontal ≡ left_by (horizontal_by h v)
  pub vertical : a.memory.vertical ≡ left_by (vertical_by h v)

abbrev pub ChannelsAre : Type 0
ChannelsAre = (h v : Sweep) (m : TwoMemory) → (call_two h v m).number ≡ 0 → ChannelsLeft h v (call_two h v m)

-- `two_refusal_keeps`: any refusal leaves the counts, marks and pairs of both channels as they were
pub record ChannelsKept (m : TwoMemory) (a : TwoAnswer) : Type 0 where
  pub horizontal : a.memory.horizontal ≡ m.horizontal
  pub vertical : a.memory.vertical ≡ m.vertical

abbrev pub TwoRefusalKeeps : Type 0
TwoRefusalKeeps = (h v : Sweep) (m : TwoMemory) → 0 < (call_two h v m).number → ChannelsKept m (call_two h v m)

-- `two_eight_keeps`: a refusal by questions 1 to 8 leaves all memory as it was
abbrev pub TwoEightKeeps : Type 0
TwoEightKeeps = (h v : Sweep) (m : TwoMemory) (k : ℕ) → asked_two h v m ≡ some k → (call_two h v m).memory ≡ m

-- `two_work_cleared`: where questions 1 to 8 got a yes, the work memory that one channel asks for is zero, and further words are as they were
pub record WorkCleared (h : Sweep) (m : TwoMemory) (a : TwoAnswer) : Type 0 where
  pub words : a.memory.words ≡ (cleared_for_two (gates_in h) m).words
  pub floats : a.memory.floats ≡ (cleared_for_two (gates_in h) m).floats

abbrev pub TwoWorkCleared : Type 0
TwoWorkCleared = (h v : Sweep) (m : TwoMemory) → asked_two h v m ≡ none → WorkCleared h m (call_two h v m)

-- `shared_range_is`: where questions 1 to 8 got a yes, the shared range is the least and the greatest of all valid velocities, horizontal's and vertical's in one list
abbrev pub SharedRangeIs : Type 0
SharedRangeIs = (h v : Sweep) (m : TwoMemory) → asked_two h v m ≡ none → shared_range h v ≡ range (valid h.vel h.mask ++ valid v.vel v.mask)

-- ---- two calls

-- `horizontal_same`: two accepted calls with one horizontal channel, whose vertical channels have the same least and greatest valid velocity, leave the
-- same counts, marks and pair in horizontal
abbrev pub HorizontalSame : Type 0
HorizontalSame =
    (h v w : Sweep) (m k : TwoMemory) → range_of v ≡ range_of w → (call_two h v m).number ≡ 0 → (call_two h w k).number ≡ 0
    → (call_two h v m).memory.horizontal ≡ (call_two h w k).memory.horizontal

-- `vertical_same`: the same of vertical; the two horizontal channels have one Nyquist and one number of splits, as vertical has
abbrev pub VerticalSame : Type 0
VerticalSame =
    (h g v : Sweep) (m k : TwoMemory) → h.nyquist ≡ g.nyquist → h.splits ≡ g.splits → range_of h ≡ range_of g
    → (call_two h v m).number ≡ 0 → (call_two g v k).number ≡ 0
    → (call_two h v m).memory.vertical ≡ (call_two g v k).memory.vertical

-- ---- beside the sweep entry

-- a sweep call accepts, and leaves these counts, marks and pair
pub record SweepLeaves (a : Answer) (c : Channel) : Type 0 where
  pub number : a.number ≡ 0
  pub channel : channel_of a.memory.counts a.memory.doubtful a.memory.pair ≡ c

-- `horizontal_own`: where the shared limits are horizontal's own, a sweep call of it alone accepts it too and leaves the same
abbrev pub HorizontalOwn : Type 0
HorizontalOwn =
    (h v : Sweep) (m : TwoMemory) → (call_two h v m).number ≡ 0 → own_limits h ≡ shared_limits h v
    → SweepLeaves (call h (lent_to m.horizontal m)) (call_two h v m).memory.horizontal

-- `vertical_own`: the same of vertical
abbrev pub VerticalOwn : Type 0
VerticalOwn =
    (h v : Sweep) (m : TwoMemory) → (call_two h v m).number ≡ 0 → own_limits v ≡ shared_limits h v
    → SweepLeaves (call v (lent_to m.vertical m)) (call_two h v m).memory.vertical
