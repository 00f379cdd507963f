-- sweep.rs: the counts of a sweep by given limits, and the marks of its doubtful merges.
use Rattle.std.specs.Prelude.{Option, unwrap_or, ℕ, Bool, true, false, cond, ◌||◌, List, [], ◌∷◌, map, length, ℤ, pos, ◌+ℤ◌, ◌-ℤ◌, ◌*ℤ◌, ◌==◌, nat_lt, slice_index, Float}
use Rattle.std.specs.Float.{binary64}
use Rattle.std.specs.Float.Ieee.{div}
use Rattle.lists.specs.Seq.{upto, tabulate}
use Rattle.arithmetic.specs.Rounding.{round_even, real}
use Rattle.arithmetic.specs.Intervals.{two_nyquist}
use Rattle.labels.specs.Label.{Found}
use Rattle.labels.specs.Regions.{regions}
use Rattle.edges.specs.Edges.{pairs}
use Rattle.edges.specs.declared.edges.Pair.{Pair}
use Rattle.edges.specs.declared.edges.Shape.{Shape}
use Rattle.network.specs.Network.{Region, State, gates_of, size_in, merges, merges_in_range, replay, trace, count_of, mark_of, network_by}

-- the inputs of a call, but for what is lent
pub record Sweep : Type 0 where
  pub shape : Shape
  pub splits : ℕ
  pub centred : ℕ
  pub nyquist : Float
  pub vel : List Float
  pub mask : List ℕ

-- the regions of a sweep by these limits
unfoldable pub regions_of : Sweep → List Float → Found
regions_of s limits = regions s.shape.gates s.vel s.mask limits

-- the pairs
unfoldable pub pairs_of : Sweep → Found → List Pair
pairs_of s f = pairs s.shape f.labels s.vel

-- the sizes of regions 1, 2, ..
unfoldable pub sizes : Found → List ℕ
sizes f = map (size_in f.labels) (upto f.number 1)

-- the network before the first merge
unfoldable pub network_of : Sweep → Found → State
network_of s f = network_by (two_nyquist s.nyquist) s.shape f.number f.labels s.vel

-- the network after the last merge
unfoldable pub final : State → State
final n = replay n (merges n)

-- whether there are no pairs
unfoldable pub none : List Pair → Bool
none [] = true
none (p ∷ ps) = false

-- the early ends: below two regions, or no pairs
unfoldable pub early : Sweep → Found → Bool
early s f = nat_lt f.number 2 || none (pairs_of s f)

-- size times count, summed
unfoldable pub weighed : List Region → ℤ
weighed [] = pos 0
weighed (r ∷ rs) = (pos r.size *ℤ r.count) +ℤ weighed rs

-- a rounded number; 0 for what is no number, as the mean over no gates
unfoldable pub or_zero : Option ℤ → ℤ
or_zero z = unwrap_or z (pos 0)

-- the mean count of the labelled gates, rounded
unfoldable pub mean_of : List Region → ℤ
mean_of rs = or_zero (round_even (div binary64 (real (weighed rs)) (real (pos (gates_of rs)))))

-- regions found, merges in order, the offset, the gates' counts and marks, and whether question 9 gets a yes at each merge
pub record Unfolded : Type 0 where
  pub regions : ℕ
  pub merges : List ℕ
  pub offset : ℤ
  pub counts : List ℤ
  pub doubtful : List ℕ
  pub merges_in_range : Bool

-- an early end: all counts and marks 0
unfoldable pub ended : Sweep → Found → Unfolded
ended s f = record {
  regions = f.number;
  merges = [];
  offset = pos 0;
  counts = tabulate (length s.mask) (λ g. pos 0);
  doubtful = tabulate (length s.mask) (λ g. 0);
  merges_in_range = true;
}

-- the count of a gate with mask byte m and its region's count c; a masked gate gets 0
unfoldable pub gate_count : ℤ → ℕ → ℤ → ℤ
gate_count off m c = cond (m == 1) (c -ℤ off) (pos 0)

-- what centring takes away
unfoldable pub offset_of : Sweep → State → ℤ
offset_of s n = cond (s.centred == 1) (mean_of n.regions) (pos 0)

-- the end after the last merge, n being the first network
unfoldable pub finished : Sweep → Found → State → Unfolded
finished s f n = record {
  regions = f.number;
  merges = merges n;
  offset = offset_of s (final n);
  counts = tabulate (length s.mask) (λ g. gate_count (offset_of s (final n)) (slice_index s.mask g) (count_of (final n).regions (slice_index f.labels g)));
  doubtful = tabulate (length s.mask) (λ g. mark_of (trace n (merges n)) (slice_index f.labels g));
  merges_in_range = merges_in_range n;
}

-- the sweep with these regions
unfoldable pub unfolded_by : Sweep → Found → Unfolded
unfolded_by s f = elim (early s f) [ true ↦ ended s f | false ↦ finished s f (network_of s f) ]

-- the sweep with these limits
unfoldable pub unfolded : Sweep → List Float → Unfolded
unfolded s limits = unfolded_by s (regions_of s limits)
