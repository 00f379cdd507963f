-- The call of two channels, by the answer to questions 1 to 8. Assumes nothing.
use Prim.Native.Nat.{ℕ}
use mathlib.Core.Path.{◌≡◌, refl, sym, ap, ◌∙◌}
use mathlib.Core.Bool.{true}
use mathlib.Core.List.{List, [], ◌∷◌, ◌++◌}
use mathlib.Core.Option.{none, some}
use lib.Ieee.{Float}
use Rattle.arithmetic.specs.Intervals.{limits_of}
use Rattle.arithmetic.specs.declared.intervals.Plan.{Plan}
use Rattle.sweep.specs.Sweep.{Sweep, unfolded}
use Rattle.sweep.specs.Questions.{Question, ask, first_no, gates_in, seven, room, asked9}
use Rattle.sweep.specs.Call.{lengths}
use Rattle.sweep.specs.declared.questions.Room.{Room}
use Rattle.sweep.proofs.QuestionLaws.{first_yes, rest_yes, all_yes}
use Rattle.sweep.proofs.PlanLaws.{plan_limits}
use Rattle.channels.specs.Call.{shared_range, shared_limits, shared_few, TwoMemory, lent_to, asked_two, cleared_for_two, ending_two, call_two}
use Rattle.channels.specs.Inside.Both.{shared_plan}

module _ (h v : Sweep) (m : TwoMemory) where
  -- a no leaves everything as it was
  pub call_some : (k : ℕ) → asked_two h v m ≡ some k → call_two h v m ≡ record { number = k; memory = m }
  unfolding call_two
  call_some k e = rw (e, call_two) refl

  -- questions 1 to 7 of each channel, and 8, all with a yes
  module _ (e : asked_two h v m ≡ none) where
    pub call_none : call_two h v m ≡ ending_two (asked9 (unfolded h (shared_limits h v))) (asked9 (unfolded v (shared_limits h v))) (cleared_for_two (gates_in h) m)
    unfolding call_two
    call_none = rw (e, call_two) refl

    -- p being the plan of the shared limits
    pub call_goes_on : (p : Plan) → p ≡ shared_plan h v → (
        let l = limits_of h.nyquist h.splits p.add_start p.add_end p.number in
        ending_two (asked9 (unfolded h l)) (asked9 (unfolded v l)) (cleared_for_two (gates_in h) m) ≡ call_two h v m
        )
    unfolding shared_limits
    call_goes_on p q =
        ap (λ (l : List Float). ending_two (asked9 (unfolded h l)) (asked9 (unfolded v l)) (cleared_for_two (gates_in h) m)) (plan_limits h.nyquist h.splits (shared_range h v) p q) ∙ sym call_none

    abbrev pub h_room : Room
    h_room = room (gates_in h) (lengths (lent_to m.horizontal m))

    abbrev pub v_room : Room
    v_room = room (gates_in v) (lengths (lent_to m.vertical m))

    abbrev few : List Question
    few = ask 8 (shared_few h v) ∷ []

    pub horizontal_seven : first_no (seven h h_room) ≡ none
    unfolding asked_two
    horizontal_seven = first_yes (seven h h_room) (seven v v_room ++ few) e

    after_horizontal : first_no (seven v v_room ++ few) ≡ none
    unfolding asked_two
    after_horizontal = rest_yes (seven h h_room) (seven v v_room ++ few) e

    pub vertical_seven : first_no (seven v v_room) ≡ none
    vertical_seven = first_yes (seven v v_room) few after_horizontal

    pub shared_few_lem : shared_few h v ≡ true
    shared_few_lem = (all_yes (ask 8 (shared_few h v)) [] (rest_yes (seven v v_room) few after_horizontal)).0
