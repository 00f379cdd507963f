-- The second entry: the unfolded velocity, and its call. Its labels are the region map's; any label but 0 counts as one.
use Rattle.std.specs.Prelude.{ℕ, ◌*◌, Bool, cond, not, ◌&&◌, ◌||◌, List, [], ◌∷◌, length, ℤ, pos, ◌==◌, slice_index, slice_index_or, Float}
use Rattle.std.proofs.Math.Option.{Option, none, some}
use Rattle.std.specs.Float.{nan, binary64}
use Rattle.std.specs.Float.Ieee.{add, mul}
use Rattle.lists.specs.Seq.{upto, all, tabulate}
use Rattle.arithmetic.specs.Rounding.{real}
use Rattle.arithmetic.specs.Intervals.{two_nyquist, nyquist_in_range}
use Rattle.network.specs.Network.{bounded}
use Rattle.sweep.specs.declared.input.Counted.{Counted as Lent}
use Rattle.sweep.specs.Questions.{Question, ask, first_no, size_in_range, lengths_fit, mask_is_bits, velocities_in_range}

-- the inputs of a call of the second entry
pub record Counted : Type 0 where
  pub rays : ℕ
  pub gates : ℕ
  pub nyquist : Float
  pub vel : List Float
  pub mask : List ℕ
  pub counts : List ℤ
  pub labels : List ℕ

-- the same, of a call's parameters
abbrev pub counted : ℕ → ℕ → Float → List Float → List ℕ → List ℤ → List ℕ → Counted
counted rays gates nyquist vel mask counts labels = record { rays = rays; gates = gates; nyquist = nyquist; vel = vel; mask = mask; counts = counts; labels = labels }

-- the same, of a counted sweep as a host lends it
abbrev pub counted_in : Lent → Counted
counted_in u = counted u.rays u.gates u.nyquist u.velocity.now u.valid.now u.folds.now u.labels.now

-- the wind that a count gives: the velocity in f64 + count × (2 × Nyquist), each operation rounded once
unfoldable pub wind : Float → Float → ℤ → Float
wind nyq v c = add binary64 v (mul binary64 (real c) (two_nyquist nyq))

-- whether a gate with mask byte m and label l shows a wind: it is valid and lies in a region
unfoldable pub shows_wind : ℕ → ℕ → Bool
shows_wind m l = m == 1 && not (l == 0)

-- a gate's unfolded velocity: its wind, or 0 where it shows none
unfoldable pub unfolded_at : Float → Float → ℕ → ℤ → ℕ → Float
unfolded_at nyq v m c l = cond (shows_wind m l) (wind nyq v c) (real (pos 0))

-- the unfolded velocities
unfoldable pub velocities : Counted → List Float
velocities u = tabulate (u.rays * u.gates) (λ g. unfolded_at u.nyquist (slice_index_or u.vel g nan) (slice_index u.mask g) (slice_index_or u.counts g (pos 0)) (slice_index u.labels g))

-- its own part of question 2: the counts, the labels, and the slice that is written, of length k
unfoldable pub own_long : Counted → ℕ → Bool
own_long u k = let n = u.rays * u.gates in (length u.counts == n) && length u.labels == n && k == n

-- question 10 of a gate with mask byte m, count c and label l: it is put where the gate shows a wind
unfoldable pub count_passes : ℕ → ℤ → ℕ → Bool
count_passes m c l = not (shows_wind m l) || bounded 2000 c

-- question 10
unfoldable pub counts_in_range : Counted → Bool
counts_in_range u = all (λ g. count_passes (slice_index u.mask g) (slice_index_or u.counts g (pos 0)) (slice_index u.labels g)) (upto (u.rays * u.gates) 0)

-- questions 3, 5, 7 and 10, which follow the size and the lengths
abbrev pub after_lengths : Counted → List Question
after_lengths u =
    ask 3 (mask_is_bits u.mask)
    ∷ ask 5 (nyquist_in_range u.nyquist)
    ∷ ask 7 (velocities_in_range u.vel u.mask)
    ∷ ask 10 (counts_in_range u)
    ∷ []

-- questions 1, 2, 3, 5, 7 and 10
unfoldable pub asked_velocity : Counted → ℕ → Option ℕ
asked_velocity u k = first_no (
    ask 1 (size_in_range u.rays u.gates)
    ∷ ask 2 (lengths_fit (u.rays * u.gates) u.vel u.mask (own_long u k))
    ∷ after_lengths u
    )

-- an answer number and the velocities written
pub record VelocityAnswer : Type 0 where
  pub number : ℕ
  pub unfolded : List Float

-- the same, of what the slice holds
abbrev pub velocity_answer_by : ℕ → List Float → VelocityAnswer
velocity_answer_by r out = record { number = r; unfolded = out }

-- the call: a refusal leaves what was lent
unfoldable pub call_velocity : Counted → List Float → VelocityAnswer
call_velocity u out = elim (asked_velocity u (length out)) [ none ↦ record { number = 0; unfolded = velocities u } | some k ↦ record { number = k; unfolded = out } ]
