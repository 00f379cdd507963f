-- The second entry's questions 7 and 10 as they are put gate by gate.
use Rattle.std.specs.Prelude.{ℕ, Bool, not, ◌||◌, List, [], ◌∷◌, length, ℤ, pos, ◌==◌, slice_index, slice_index_or, Float}
use Rattle.std.proofs.Math.Option.{Option}
use Rattle.lists.specs.Seq.{upto, all}
use Rattle.arithmetic.specs.Intervals.{velocity_in_range}
use Rattle.sweep.specs.Questions.{ask, first_no, velocities_in_range}
use Rattle.sweep.specs.Velocity.{count_passes}

-- question 7 of a gate with velocity v and mask byte m
unfoldable pub velocity_passes : Float → ℕ → Bool
velocity_passes v m = not (m == 1) || velocity_in_range v

-- both of one gate
unfoldable pub gate_asked : Float → ℕ → ℤ → ℕ → Option ℕ
gate_asked v m c l = first_no (ask 7 (velocity_passes v m) ∷ ask 10 (count_passes m c l) ∷ [])

-- both of all gates: 7 of each before 10 of any
unfoldable pub gates_asked : List Float → List ℕ → List ℤ → List ℕ → Option ℕ
gates_asked vs ms cs ls = first_no (
    ask 7 (velocities_in_range vs ms)
    ∷ ask 10 (all (λ g. count_passes (slice_index ms g) (slice_index_or cs g (pos 0)) (slice_index ls g)) (upto (length vs) 0))
    ∷ []
    )
