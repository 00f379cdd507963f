-- The call of the sweep entry, by the answer of questions 1 to 8. Assumes nothing.
use Rattle.std.proofs.Common.{◌≡◌, ℕ, List, sym, refl, ap, ◌∙◌}
use mathlib.Core.Option.{Option, none, some}
use lib.Ieee.{Float}
use Rattle.arithmetic.specs.Intervals.{limits_of}
use Rattle.arithmetic.specs.declared.intervals.Plan.{Plan}
use Rattle.sweep.specs.Sweep.{Sweep, unfolded}
use Rattle.sweep.specs.Questions.{refused, first_no, eight_of, gates_in, own_limits, asked, asked9}
use Rattle.sweep.specs.Call.{Memory, Answer, lengths, cleared_for, worked_on, ending, call}
use Rattle.sweep.specs.Inside.Planning.{own_plan}
use Rattle.sweep.proofs.PassedLaws.{outcome_by_lem}
use Rattle.sweep.proofs.PlanLaws.{limits_are}

module _ (s : Sweep) (m : Memory) where
  -- the call's end by the first no
  end_by : Option ℕ → Answer
  end_by none = ending (asked9 (unfolded s (own_limits s))) (cleared_for (gates_in s) m)
  end_by (some k) = record { number = k; memory = m }

  call_by : (o : Option ℕ) → first_no (eight_of s (lengths m)) ≡ o → end_by o ≡ call s m
  unfolding call worked_on asked
  call_by o e = go o ∙ sym (λ i. ending (outcome_by_lem s (lengths m) o e i) (elim (e i) [ none ↦ cleared_for (gates_in s) m | some k ↦ m ]))
    where
      go : (o : Option ℕ) → end_by o ≡ ending (elim o [ none ↦ asked9 (unfolded s (own_limits s)) | some k ↦ refused k ]) (elim o [ none ↦ cleared_for (gates_in s) m | some k ↦ m ])
      go none = unfold end_by in refl
      go (some k) = unfold end_by ending in refl

  pub call_missed : (k : ℕ) → first_no (eight_of s (lengths m)) ≡ some k → ◌≡◌ {A = Answer} (record { number = k; memory = m }) (call s m)
  unfolding end_by
  call_missed k = call_by (some k)

  pub call_on : first_no (eight_of s (lengths m)) ≡ none → ending (asked9 (unfolded s (own_limits s))) (cleared_for (gates_in s) m) ≡ call s m
  unfolding end_by
  call_on = call_by none

  pub call_goes_on : (p : Plan) → p ≡ own_plan s → first_no (eight_of s (lengths m)) ≡ none
      → ending (asked9 (unfolded s (limits_of s.nyquist s.splits p.add_start p.add_end p.number))) (cleared_for (gates_in s) m) ≡ call s m
  call_goes_on p e h = ap (λ (x : List Float). ending (asked9 (unfolded s x)) (cleared_for (gates_in s) m)) (limits_are s p e) ∙ call_on h
