-- U8: what the second entry shows when it is handed the labels and the counts that the region map and the sweep entry left for one sweep, from the three
-- contracts alone: s is the sweep, a what the map left, b what the sweep entry left, out the slice lent, w what the second entry left.
-- WindTheorems proves each.
use Rattle.std.specs.Prelude.{ℕ, ◌*◌, ◌<◌, ◌≡◌, true, cond, not, ◌||◌, List, eqb, pos, length, get_or, Float}
use Rattle.std.specs.Float.{nan}
use Rattle.lists.specs.Seq.{upto, all, tabulate}
use Rattle.arithmetic.specs.Rounding.{real}
use Rattle.network.specs.Network.{bounded}
use Rattle.sweep.specs.Sweep.{Sweep}
use Rattle.sweep.specs.Questions.{gates_in}
use Rattle.sweep.specs.Call.{Memory, Answer}
use Rattle.sweep.specs.Velocity.{Counted, counted, wind, shows_wind, velocities, counts_in_range, VelocityAnswer}
use Rattle.map.specs.Map.{MapMemory, MapAnswer}
use Rattle.locality.specs.Theorems.{Called, CalledVelocity}
use Rattle.locality.specs.RegionMap.{Mapped, Single, Inside}

-- what the second entry is handed
abbrev pub handed : Sweep → MapAnswer → Answer → Counted
handed s a b = counted s.shape.rays s.shape.gates s.nyquist s.vel s.mask b.memory.counts a.memory.labels

-- three calls for one sweep, the first two answering 0
pub record Calls (s : Sweep) (a : MapAnswer) (b : Answer) (out : List Float) (w : VelocityAnswer) : Type 0 where
  pub lent_map : MapMemory
  pub lent : Memory
  pub map : Mapped s lent_map a
  pub sweep : Called s lent b
  pub velocity : CalledVelocity (handed s a b) out w
  pub mapped : a.number ≡ 0
  pub accepted : b.number ≡ 0
  pub long : length out ≡ gates_in s

-- `never_refused`: then the second entry answers 0 too: no count is beyond 2,000
abbrev pub NeverRefused : Type 0
NeverRefused = (s : Sweep) (a : MapAnswer) (b : Answer) (out : List Float) (w : VelocityAnswer) → Calls s a b out w → w.number ≡ 0

-- gate g is valid and lies in a region: its velocity lies in an interval of the sweep
abbrev pub InRegion : Sweep → ℕ → Type 0
InRegion s g = (j : ℕ) × Inside s j g

-- `wind_shown`: a gate shows a wind exactly if it is valid and lies in a region: there the velocity plus its count times 2 × Nyquist is written, and at
-- every other gate 0. Of f32 values.
pub record WindShown (s : Sweep) (a : MapAnswer) (b : Answer) (w : VelocityAnswer) (g : ℕ) : Type 0 where
  pub shown : shows_wind (get_or s.mask g 0) (get_or a.memory.labels g 0) ≡ true → InRegion s g
  pub region : InRegion s g → shows_wind (get_or s.mask g 0) (get_or a.memory.labels g 0) ≡ true
  pub wind : InRegion s g → get_or w.unfolded g nan ≡ wind s.nyquist (get_or s.vel g nan) (get_or b.memory.counts g (pos 0))
  pub none : (InRegion s g → ⊥) → get_or w.unfolded g nan ≡ real (pos 0)

abbrev pub GateShows : Type 0
GateShows =
    (s : Sweep) (a : MapAnswer) (b : Answer) (out : List Float) (w : VelocityAnswer) → Single s → Calls s a b out w
    → (g : ℕ) → g < gates_in s → WindShown s a b w g

-- every valid gate of a call of the second entry has a label other than 0
abbrev pub AllLabelled : Counted → Type 0
AllLabelled u = (g : ℕ) → g < u.rays * u.gates → get_or u.mask g 0 ≡ 1 → get_or u.labels g 0 ≡ 0 → ⊥

-- `all_labelled`: then labels play no part: every valid gate gets its wind and every masked one 0, and question 10 is put to every valid gate
pub record AsUnlabelled (u : Counted) : Type 0 where
  pub velocities : velocities u ≡ tabulate (u.rays * u.gates) (λ g. cond (eqb (get_or u.mask g 0) 1) (wind u.nyquist (get_or u.vel g nan) (get_or u.counts g (pos 0))) (real (pos 0)))
  pub counts : counts_in_range u ≡ all (λ g. not (eqb (get_or u.mask g 0) 1) || bounded 2000 (get_or u.counts g (pos 0))) (upto (u.rays * u.gates) 0)

abbrev pub LabelsPlayNoPart : Type 0
LabelsPlayNoPart = (u : Counted) → AllLabelled u → AsUnlabelled u
