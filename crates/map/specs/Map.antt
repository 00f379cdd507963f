-- The call of the region map: from the inputs and everything lent to the answer number and everything lent afterwards.
use Rattle.std.specs.Prelude.{ℕ, ◌&&◌, List, [], ◌∷◌, eqb, length, pos, Float}
use Rattle.std.proofs.Math.Option.{Option, none, some}
use Rattle.arithmetic.specs.Rounding.{real}
use Rattle.labels.specs.Label.{Found}
use Rattle.sweep.specs.Sweep.{Sweep, regions_of}
use Rattle.sweep.specs.Questions.{first_no, gates_in, words_for, floats_for, own_limits, eight}
use Rattle.sweep.specs.Call.{cleared}
use Rattle.sweep.specs.declared.questions.Room.{Room}

-- the labels, the one number of regions and the two work memories
pub record MapMemory : Type 0 where
  pub labels : List ℕ
  pub regions : List ℕ
  pub words : List ℕ
  pub floats : List Float

-- an answer number and the memory afterwards
pub record MapAnswer : Type 0 where
  pub number : ℕ
  pub memory : MapMemory

-- the same, of what the slices hold
abbrev pub map_memory_of : List ℕ → List ℕ → List ℕ → List Float → MapMemory
map_memory_of ls k w d = record { labels = ls; regions = k; words = w; floats = d }

abbrev pub map_answer_by : ℕ → List ℕ → List ℕ → List ℕ → List Float → MapAnswer
map_answer_by r ls k w d = record { number = r; memory = map_memory_of ls k w d }

-- the map's own part of question 2 is n labels and one number
unfoldable pub map_room : ℕ → ℕ → ℕ → ℕ → ℕ → Room
map_room n labels regions words floats = record { own = eqb labels n && eqb regions 1; words = words; floats = floats }

-- what a call lends, for a sweep that should have n gates
unfoldable pub map_lent : ℕ → MapMemory → Room
map_lent n m = map_room n (length m.labels) (length m.regions) (length m.words) (length m.floats)

-- the first of questions 1 to 8 that gets a no; question 9 is not put
unfoldable pub asked_map : Sweep → MapMemory → Option ℕ
asked_map s m = first_no (eight s (map_lent (gates_in s) m))

-- these regions written, and the work memory that a sweep of n gates asks for zero
unfoldable pub drawn : Found → ℕ → MapMemory → MapAnswer
drawn f n m = record {
  number = 0;
  memory = record {
    labels = f.labels;
    regions = f.number ∷ [];
    words = cleared 0 (words_for n) m.words;
    floats = cleared (real (pos 0)) (floats_for n) m.floats;
  };
}

-- the call: a refusal leaves everything as it was; else the regions are the sweep's by its own limits
unfoldable pub call_map : Sweep → MapMemory → MapAnswer
call_map s m = elim (asked_map s m) [
  | none ↦ drawn (regions_of s (own_limits s)) (gates_in s) m
  | some k ↦ record { number = k; memory = m }
]
