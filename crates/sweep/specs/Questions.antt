-- The questions put to a sweep, and the answer.
use Rattle.std.specs.Prelude.{ℕ, ◌+◌, ◌*◌, Bool, true, false, ◌&&◌, leb, List, [], ◌∷◌, ◌++◌, length, ℤ, pos, negsuc, ◌==◌, nat_le, Float}
use Rattle.std.specs.Prelude as Std
use Rattle.std.proofs.Math.Option.{Option, none, some}
use Rattle.lists.specs.Seq.{all}
use Rattle.memory.specs.Size.{largest}
use Rattle.arithmetic.specs.Intervals.{valid, range, number_for, limits_for, nyquist_in_range, velocity_in_range}
use Rattle.arithmetic.specs.declared.intervals.Extremes.{Extremes}
use Rattle.sweep.specs.Sweep.{Sweep, Unfolded, unfolded}
use Rattle.sweep.specs.declared.questions.Room.{Room}

-- a question's number and whether its answer is yes
pub record Question : Type 0 where
  pub number : ℕ
  pub yes : Bool

-- question k, with its answer
abbrev pub ask : ℕ → Bool → Question
ask k b = record { number = k; yes = b }

-- the number of the first question that gets a no
unfoldable pub first_no : List Question → Option ℕ
first_no [] = none
first_no (q ∷ qs) = elim q.yes [ true ↦ first_no qs | false ↦ some q.number ]

-- how long the slices lent are: counts, marks, pair, work memory
pub record Lent : Type 0 where
  pub counts : ℕ
  pub doubtful : ℕ
  pub pair : ℕ
  pub words : ℕ
  pub floats : ℕ

-- the gates that a sweep should have
unfoldable pub gates_in : Sweep → ℕ
gates_in s = s.shape.rays * s.shape.gates

-- how many words of u32 a sweep of n gates asks for
unfoldable pub words_for : ℕ → ℕ
words_for n = 96 * n + 64

-- and of f64
unfoldable pub floats_for : ℕ → ℕ
floats_for n = 16 * n + 16

-- question 1: rays and gates per ray
unfoldable pub size_in_range : ℕ → ℕ → Bool
size_in_range rays gates = nat_le rays largest.rays && nat_le gates largest.gates

-- question 2: the lengths, own being an entry's own part
unfoldable pub lengths_fit : ℕ → List Float → List ℕ → Bool → Bool
lengths_fit n vel mask own = length vel == n && length mask == n && own

-- question 3: the mask bytes
unfoldable pub mask_is_bits : List ℕ → Bool
mask_is_bits mask = all (λ m. leb m 1) mask

-- question 4: the work memory
unfoldable pub work_suffices : ℕ → Room → Bool
work_suffices n r = nat_le (words_for n) r.words && nat_le (floats_for n) r.floats

-- question 6: the options
unfoldable pub options_in_range : Sweep → Bool
options_in_range s = nat_le 1 s.splits && nat_le s.splits 9999 && nat_le s.shape.skip_between_rays 1000 && nat_le s.shape.skip_along_ray 1000 && nat_le s.centred 1 && nat_le s.shape.wrap 1

-- question 7: the valid velocities
unfoldable pub velocities_in_range : List Float → List ℕ → Bool
velocities_in_range vel mask = all velocity_in_range (valid vel mask)

-- z ≤ k
unfoldable pub at_most : ℕ → ℤ → Bool
at_most k (pos n) = nat_le n k
at_most k (negsuc n) = true

-- the least and the greatest valid velocity of a sweep
abbrev pub range_of : Sweep → Std.Option Extremes
range_of s = range (valid s.vel s.mask)

-- question 8 of the limits for a least and a greatest velocity: their number
abbrev pub few_for : Float → ℕ → Std.Option Extremes → Bool
few_for nyq splits e = at_most 10000 (number_for nyq splits e)

-- question 8 of a sweep's own limits
unfoldable pub limits_few : Sweep → Bool
limits_few s = few_for s.nyquist s.splits (range_of s)

-- a sweep's own limits
unfoldable pub own_limits : Sweep → List Float
own_limits s = limits_for s.nyquist s.splits (range_of s)

-- questions 1 to 7 of an entry that works on a sweep, in their order
unfoldable pub seven : Sweep → Room → List Question
seven s r =
    ask 1 (size_in_range s.shape.rays s.shape.gates)
    ∷ ask 2 (lengths_fit (gates_in s) s.vel s.mask r.own)
    ∷ ask 3 (mask_is_bits s.mask)
    ∷ ask 4 (work_suffices (gates_in s) r)
    ∷ ask 5 (nyquist_in_range s.nyquist)
    ∷ ask 6 (options_in_range s)
    ∷ ask 7 (velocities_in_range s.vel s.mask)
    ∷ []

-- and question 8 after them
abbrev pub eight : Sweep → Room → List Question
eight s r = seven s r ++ (ask 8 (limits_few s) ∷ [])

-- the sweep entry's own part of question 2 is the counts, the marks and the pair
unfoldable pub room : ℕ → Lent → Room
room n l = record { own = l.counts == n && l.doubtful == n && (l.pair == 2); words = l.words; floats = l.floats }

-- questions 1 to 7 of the sweep entry
abbrev pub seven_of : Sweep → Lent → List Question
seven_of s l = seven s (room (gates_in s) l)

-- questions 1 to 8 of the sweep entry
abbrev pub eight_of : Sweep → Lent → List Question
eight_of s l = eight s (room (gates_in s) l)

-- all nine, question 9 being put to the sweep with its own limits
abbrev pub nine_of : Sweep → Lent → List Question
nine_of s l = eight_of s l ++ (ask 9 (unfolded s (own_limits s)).merges_in_range ∷ [])

-- the first of questions 1 to 8 that gets a no
unfoldable pub asked : Sweep → Lent → Option ℕ
asked s l = first_no (eight_of s l)

-- the first of all nine
unfoldable pub first_missed : Sweep → Lent → Option ℕ
first_missed s l = first_no (nine_of s l)

-- the answer: a refusal by its number, or the counts, marks, regions and number of merges
pub data Outcome : Type 0 where
  refused : ℕ → Outcome
  accepted : List ℤ → List ℕ → ℕ → ℕ → Outcome

-- the answer by the first no
unfoldable pub answered : Option ℕ → Unfolded → Outcome
answered none u = accepted u.counts u.doubtful u.regions (length u.merges)
answered (some k) u = refused k

-- the answer of a call
unfoldable pub outcome : Sweep → Lent → Outcome
outcome s l = answered (first_missed s l) (unfolded s (own_limits s))

-- the answer where questions 1 to 8 got a yes
unfoldable pub asked9 : Unfolded → Outcome
asked9 u = answered (first_no (ask 9 u.merges_in_range ∷ [])) u
