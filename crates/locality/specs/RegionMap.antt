-- What a caller of `jivakkol_region_map` may rely on, from its contract alone: s is the sweep that the call's parameters are, m all memory lent at entry,
-- a the answer and all memory lent at exit. Gates are numbered from 0, ray by ray. MapTheorems proves each, SizeTheorems what is said of sizes.
use Rattle.std.specs.Prelude.{ℕ, suc, ◌+◌, ◌%◌, ◌≤◌, ◌<◌, ◌≡◌, ◌⊎◌, true, List, [], ◌∷◌, T, pos, length, get_or}
use Rattle.std.specs.Float.{nan, binary32}
use Rattle.std.specs.Float.Ieee.{fits, le, lt}
use Rattle.lists.specs.Seq.{All}
use Rattle.arithmetic.specs.Rounding.{real}
use Rattle.sweep.specs.Sweep.{Sweep}
use Rattle.sweep.specs.Questions.{gates_in, words_for, floats_for, own_limits}
use Rattle.sweep.specs.Call.{Memory, Answer, cleared}
use Rattle.sweep.specs.Entry.{answer_of}
use Rattle.map.specs.Map.{MapMemory, MapAnswer, asked_map, call_map}
use Rattle.locality.specs.Theorems.{Called, OneIsSize}

-- the contract of the entry
abbrev pub Mapped : Sweep → MapMemory → MapAnswer → Type 0
Mapped s m a = a ≡ call_map s m

-- Nyquist velocity and velocities are f32 values, as everything is that a host hands over as f32. The definitions take any float, but only
-- of f32 values is it proved that a sweep's limits never fall, and labels and paths rest on that.
pub record Single (s : Sweep) : Type 0 where
  pub nyquist : T (fits binary32 s.nyquist)
  pub velocities : (g : ℕ) → T (fits binary32 (get_or s.vel g nan))

-- the label of gate g; 0 where it has none
abbrev pub label : MapAnswer → ℕ → ℕ
label a g = get_or a.memory.labels g 0

-- ---- paths

-- gate h is the next one on g's ray, or has g's place on the next ray; no ray follows the last
pub data Next (gates g h : ℕ) : Type 0 where
  along : h ≡ g + 1 → (h % gates ≡ 0 → ⊥) → Next gates g h
  across : h ≡ g + gates → Next gates g h

-- 4-neighbours
abbrev pub Touch : ℕ → ℕ → ℕ → Type 0
Touch gates g h = Next gates g h ⊎ Next gates h g

-- gate g is valid, and its velocity lies in interval j of the sweep: at or above limit j, below limit j + 1
pub record Inside (s : Sweep) (j g : ℕ) : Type 0 where
  pub here : g < length s.mask
  pub valid : get_or s.mask g 0 ≡ 1
  pub interval : suc j < length (own_limits s)
  pub above : le (get_or (own_limits s) j nan) (get_or s.vel g nan) ≡ true
  pub below : lt (get_or s.vel g nan) (get_or (own_limits s) (suc j) nan) ≡ true

-- gate g and then the gates of a list, each a 4-neighbour of the one before
abbrev pub Steps : ℕ → ℕ → List ℕ → Type 0
Steps gates g [] = Unit {0}
Steps gates g (h ∷ hs) = Touch gates g h × Steps gates h hs

-- where they end
abbrev pub end : ℕ → List ℕ → ℕ
end g [] = g
end g (h ∷ hs) = end h hs

-- a path from gate g to gate h: the gates after g, step by step, all of them and g inside one interval
pub record Path (s : Sweep) (g h : ℕ) : Type 0 where
  pub interval : ℕ
  pub through : List ℕ
  pub steps : Steps s.shape.gates g through
  pub ends : end g through ≡ h
  pub inside : All (Inside s interval) (g ∷ through)

-- `shared_is_path`: two gates share a label that is not 0 exactly if a path joins them. So a gate has a label, and shares it with itself,
-- exactly if it is valid and lies in an interval. Of f32 values.
pub record SharedIsPath (s : Sweep) (a : MapAnswer) (g h : ℕ) : Type 0 where
  pub shared : 0 < label a g → label a g ≡ label a h → Path s g h
  pub path : Path s g h → (0 < label a g) × (label a g ≡ label a h)

abbrev pub SharedLabels : Type 0
SharedLabels = (s : Sweep) (m : MapMemory) (a : MapAnswer) → Single s → Mapped s m a → a.number ≡ 0 → (g h : ℕ) → SharedIsPath s a g h

-- ---- numbers

-- no earlier gate has g's label
abbrev pub First : MapAnswer → ℕ → Type 0
First a g = (i : ℕ) → i < g → label a i ≡ label a g → ⊥

-- `labels_numbered`: a label for each gate; the labels are 1 to the number written, each used; interval by interval, and in an interval by
-- first gate in scan order. Of f32 values.
pub record Numbered (s : Sweep) (a : MapAnswer) : Type 0 where
  pub number : ℕ
  pub written : a.memory.regions ≡ number ∷ []
  pub long : length a.memory.labels ≡ gates_in s
  pub most : (g : ℕ) → label a g ≤ number
  pub used : (k : ℕ) → 0 < k → k ≤ number → (g : ℕ) × (g < gates_in s) × (label a g ≡ k)
  pub intervals : (i j g h : ℕ) → Inside s i g → Inside s j h → i < j → label a g < label a h
  pub firsts : (j g h : ℕ) → Inside s j g → Inside s j h → First a g → First a h → g < h → label a g < label a h

abbrev pub LabelsNumbered : Type 0
LabelsNumbered = (s : Sweep) (m : MapMemory) (a : MapAnswer) → Single s → Mapped s m a → a.number ≡ 0 → Numbered s a

-- ---- the call

-- `map_answer_is`: the answer is the number of the first of questions 1 to 8 that gets a no, and 0 where none does
abbrev pub MapAnswerIs : Type 0
MapAnswerIs = (s : Sweep) (m : MapMemory) (a : MapAnswer) → Mapped s m a → a.number ≡ answer_of (asked_map s m)

-- `map_one_is_size`: it is 1 exactly if the sweep is larger than the largest
abbrev pub MapSize : Type 0
MapSize = (s : Sweep) (m : MapMemory) (a : MapAnswer) → Mapped s m a → OneIsSize s.shape.rays s.shape.gates a.number

-- `map_refusal_keeps`: a refusal leaves all that was lent as it was
abbrev pub MapRefusalKeeps : Type 0
MapRefusalKeeps = (s : Sweep) (m : MapMemory) (a : MapAnswer) → Mapped s m a → 0 < a.number → a.memory ≡ m

-- `map_work_cleared`: a call that answers 0 leaves the asked work memory zero and any further words as they were
pub record MapCleared (s : Sweep) (m : MapMemory) (a : MapAnswer) : Type 0 where
  pub words : a.memory.words ≡ cleared 0 (words_for (gates_in s)) m.words
  pub floats : a.memory.floats ≡ cleared (real (pos 0)) (floats_for (gates_in s)) m.floats

abbrev pub MapWorkCleared : Type 0
MapWorkCleared = (s : Sweep) (m : MapMemory) (a : MapAnswer) → Mapped s m a → a.number ≡ 0 → MapCleared s m a

-- ---- beside the sweep entry, whose call leaves b of the memory n

-- all that the map asks of what is lent
pub record Lends (s : Sweep) (m : MapMemory) : Type 0 where
  pub labels : length m.labels ≡ gates_in s
  pub regions : length m.regions ≡ 1
  pub words : words_for (gates_in s) ≤ length m.words
  pub floats : floats_for (gates_in s) ≤ length m.floats

-- `map_after_nine`: a sweep that the sweep entry accepts, or refuses with 9, has a map
abbrev pub MapAfterNine : Type 0
MapAfterNine =
    (s : Sweep) (m : MapMemory) (a : MapAnswer) (n : Memory) (b : Answer) → Mapped s m a → Called s n b
    → (b.number ≡ 0) ⊎ (b.number ≡ 9) → Lends s m → a.number ≡ 0

-- `same_number`: on a sweep that the sweep entry accepts, the number of regions is the first of its pair
pub record SameNumber (a : MapAnswer) (b : Answer) : Type 0 where
  pub regions : ℕ
  pub merges : ℕ
  pub map : a.memory.regions ≡ regions ∷ []
  pub pair : b.memory.pair ≡ regions ∷ merges ∷ []

abbrev pub PairAgrees : Type 0
PairAgrees =
    (s : Sweep) (m : MapMemory) (a : MapAnswer) (n : Memory) (b : Answer) → Mapped s m a → Called s n b
    → a.number ≡ 0 → b.number ≡ 0 → SameNumber a b
