-- Finding, from the limits of a plan to merged regions: what it asks, and what it leaves.
use Rattle.std.specs.Prelude.{ℕ, ◌+◌, ◌*◌, ◌≤◌, ◌<◌, ◌≡◌, not, List, T, length, get_or, Float, Result, Ok, Err}
use Rattle.std.specs.Float.Ieee.{is_nan}
use Rattle.memory.specs.Size.{gates_of_largest}
use Rattle.arithmetic.specs.Inside.Asked.{Rising}
use Rattle.arithmetic.specs.Intervals.{at_least0, two_nyquist, limits_of}
use Rattle.lists.specs.Inside.Seg.{seg}
use Rattle.arithmetic.specs.declared.intervals.Plan.{Plan}
use Rattle.labels.specs.Label.{Found}
use Rattle.labels.specs.Regions.{regions}
use Rattle.edges.specs.declared.edges.Shape.{Shape}
use Rattle.network.specs.Network.{State, merges, network_by}
use Rattle.network.specs.Inside.Reduce.{TablesLeft}
use Rattle.network.specs.Inside.Settle.{outcome, ran_of}
use Rattle.network.specs.declared.options.Options.{Options}
use Rattle.merge.specs.declared.merge.MergeRefused.{MergeRefused}
use Rattle.network.specs.declared.find.Run.{Run}

-- what looks go by
abbrev pub shape_of : Options → Shape
shape_of o = record { rays = o.rays; gates = o.gates; skip_between_rays = o.skip_between_rays; skip_along_ray = o.skip_along_ray; wrap = o.wrap }

-- the limits of a plan
abbrev pub limits_by : Options → Plan → List Float
limits_by o p = limits_of o.nyquist o.splits p.add_start p.add_end p.number

-- the regions by these limits
abbrev pub regions_by : Options → Plan → List Float → List ℕ → Found
regions_by o p vel mask = regions o.gates vel mask (limits_by o p)

-- the network of these regions
abbrev pub network_for : Options → Found → List Float → State
network_for o f vel = network_by (two_nyquist o.nyquist) (shape_of o) f.number f.labels vel

-- a plan of at most 10,000 limits
pub record Planned (o : Options) (p : Plan) : Type 0 where
  pub sound : T (not (is_nan o.nyquist))
  pub few : at_least0 p.number ≤ 10000

-- such a plan whose limits never fall, one mask byte a gate, and a work memory of so many words
pub record Limited (o : Options) (p : Plan) (vel : List Float) (mask : List ℕ) (words : ℕ) : Type 0 where
  pub planned : Planned o p
  pub rising : Rising (limits_by o p)
  pub masks : length mask ≡ length vel
  pub small : length vel ≤ gates_of_largest
  pub some_gates : 0 < length vel → 0 < o.gates
  pub room : 3 * length vel + 64 ≤ words

-- the regions found: their number, and a label for each of n gates at the front of the words
pub record Labelled (f : Found) (n k : ℕ) (w : List ℕ) : Type 0 where
  pub number : k ≡ f.number
  pub labels : seg w 0 n ≡ f.labels

-- labels of k regions at n gates, and room for the tables of sizes, counts and marks
pub record Few (w : List ℕ) (n k : ℕ) : Type 0 where
  pub few : k < 2
  pub room : n + (k + 1) + (k + 1) + (k + 1) ≤ length w
  pub small : n ≤ gates_of_largest
  pub label : (g : ℕ) → g < n → get_or w g 0 ≤ k

-- k regions with these labels of n gates
abbrev pub found_in : List ℕ → ℕ → ℕ → Found
found_in w n k = record { number = k; labels = seg w 0 n }

-- what merging asks: labels of k regions at the front of the words, and the work memory
pub record Merges (o : Options) (vel : List Float) (w : List ℕ) (d : List Float) (k : ℕ) : Type 0 where
  pub sound : T (not (is_nan o.nyquist))
  pub few : k ≤ length vel
  pub label : (g : ℕ) → g < length vel → get_or w g 0 ≤ k
  pub small : length vel ≤ gates_of_largest
  pub whole : length vel ≡ o.rays * o.gates
  pub words : 77 * length vel + 64 ≤ length w
  pub floats : 16 * length vel + 16 ≤ length d

-- what finding asks: a plan whose limits never fall, and the work memory
pub record Finds (o : Options) (p : Plan) (vel : List Float) (mask w : List ℕ) (d : List Float) : Type 0 where
  pub limited : Limited o p vel mask (length w)
  pub whole : length vel ≡ o.rays * o.gates
  pub words : 77 * length vel + 64 ≤ length w
  pub floats : 16 * length vel + 16 ≤ length d

-- the regions found and merged, or the refusal by question 9
abbrev pub Finding : Type 0
Finding = Result Run MergeRefused

-- the answer of finding k regions by the run's
abbrev pub finding_of : ℕ → Result ℕ MergeRefused → Finding
finding_of k (Ok j) = Ok (record { regions = k; merges = j })
finding_of k (Err e) = Err e

-- the answer and what is left of the regions f of n gates, t being their network
pub record Leaves (f : Found) (t : State) (n : ℕ) (v : List ℕ) (r : Finding) : Type 0 where
  pub answer : r ≡ finding_of f.number (ran_of (outcome t (merges t) 0))
  pub tables : TablesLeft t n f.number f.labels v
