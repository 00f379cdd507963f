-- What a caller of `jivakkol_unfold_velocity` may rely on, from its contract alone: the statements of Theorems, proved. Assumes nothing.
use Prim.Native.Nat.{ℕ, ◌<◌}
use native.Mathlib.Omega.{arith}
use mathlib.Core.Path.{◌≡◌, refl, ap, ◌∙◌}
use mathlib.Core.List.{List}
use mathlib.Core.Option.{Option, none, some}
use lib.ListN.{length}
use lib.Ieee.{Float}
use Rattle.sweep.specs.Entry.{answer_of}
use Rattle.sweep.specs.Velocity.{Counted, VelocityAnswer, velocities, asked_velocity, call_velocity}
use Rattle.sweep.proofs.VelocityLaws.{none_missed}
use Rattle.locality.specs.Theorems.{VelocityAnswerIs, VelocityRefusalKeeps, VelocitiesAre}

module _ (u : Counted) (out : List Float) where
  -- the end of a call, o being the first no
  abbrev end : Option ℕ → VelocityAnswer
  end o = elim o [ none ↦ record { number = 0; unfolded = velocities u } | some k ↦ record { number = k; unfolded = out } ]

  call_ends : call_velocity u out ≡ end (asked_velocity u (length out))
  unfolding call_velocity
  call_ends = refl

  number_ends : (o : Option ℕ) → (end o).number ≡ answer_of o
  number_ends none = refl
  number_ends (some k) = refl

  keeps_ends : (o : Option ℕ) → 0 < answer_of o → (end o).unfolded ≡ out
  keeps_ends none h = absurd (omega arith)
  keeps_ends (some k) h = refl

pub velocity_answer_is : VelocityAnswerIs
velocity_answer_is u out a c = ap (λ (x : VelocityAnswer). x.number) (c ∙ call_ends u out) ∙ number_ends u out (asked_velocity u (length out))

pub velocity_refusal_keeps : VelocityRefusalKeeps
velocity_refusal_keeps u out a c h =
    ap (λ (x : VelocityAnswer). x.unfolded) (c ∙ call_ends u out) ∙ keeps_ends u out (asked_velocity u (length out)) (rw (← velocity_answer_is u out a c) h)

pub velocities_are : VelocitiesAre
velocities_are u out a c h =
    ap (λ (x : VelocityAnswer). x.unfolded) (c ∙ call_ends u out)
    ∙ ap (λ (o : Option ℕ). (end u out o).unfolded) (none_missed u (length out) a.number (velocity_answer_is u out a c) h)
