-- Question 8 and the plan of the limits, for any entry: the question by the plan's number, and what a plan that is given says. Assumes nothing.
use Rattle.std.proofs.Common.{◌≡◌, ℕ, ◌≤◌, Bool, true, false, T, [], ◌∷◌, ℤ, pos, negsuc, sym, refl, ap, ◌∙◌, subst, arith, leb-true}
use Rattle.std.specs.Prelude as Std
use mathlib.Core.Option.{none, some}
use lib.Signed.{le_z}
use lib.Ieee.{Float, binary32, fits}
use Rattle.arithmetic.specs.Inside.Asked.{Asked, ExtremesInRange, Held, Rising}
use Rattle.arithmetic.specs.Intervals.{at_least0, limits_of, limits_for, number_for}
use Rattle.arithmetic.specs.declared.intervals.Extremes.{Extremes}
use Rattle.arithmetic.specs.declared.intervals.Plan.{Plan}
use Rattle.arithmetic.proofs.Plans.{plan_number, plan_limits_are}
use Rattle.arithmetic.proofs.Rising.{asked_limits_rise}
use Rattle.sweep.specs.Sweep.{Sweep}
use Rattle.sweep.specs.Questions.{ask, first_no, range_of, few_for, at_most, own_limits}
use Rattle.sweep.specs.Inside.Planning.{plan_for, own_plan}

-- question 8 as the code puts it
pub limits_test : (z : ℤ) → le_z z (pos 10000) ≡ at_most 10000 z
unfolding at_most
limits_test (pos n) = refl
limits_test (negsuc n) = refl

pub limits_yes : (z : ℤ) → at_most 10000 z ≡ true → at_least0 z ≤ 10000
unfolding at_most
limits_yes (pos n) t = leb-true n 10000 t
limits_yes (negsuc n) t = omega arith

-- ---- p being the plan of the limits for a least and a greatest velocity
module _ (nyq : Float) (S : ℕ) (e : Std.Option Extremes) (p : Plan) (q : p ≡ plan_for nyq S e) where
  pub plan_limits : limits_of nyq S p.add_start p.add_end p.number ≡ limits_for nyq S e
  plan_limits = plan_limits_are p nyq S e e q refl

  number_is : p.number ≡ number_for nyq S e
  number_is = plan_number p nyq S e e q refl

  -- question 8's answer
  eight_by : {b : Bool} → at_most 10000 p.number ≡ b → first_no (ask 8 (few_for nyq S e) ∷ []) ≡ elim b [ true ↦ none | false ↦ some 8 ]
  unfolding first_no
  eight_by t = rw (ap (at_most 10000) (sym number_is) ∙ t) refl

  pub plan_many : at_most 10000 p.number ≡ false → some 8 ≡ first_no (ask 8 (few_for nyq S e) ∷ [])
  plan_many t = sym (eight_by t)

  pub plan_given : at_most 10000 p.number ≡ true → none ≡ first_no (ask 8 (few_for nyq S e) ∷ [])
  plan_given t = sym (eight_by t)

  pub limits_rise : T (fits binary32 nyq) → Held e → Asked nyq S → ExtremesInRange e → at_most 10000 p.number ≡ true → Rising (limits_of nyq S p.add_start p.add_end p.number)
  limits_rise f g a h t = subst Rising (sym plan_limits) (asked_limits_rise nyq S e f g a h (subst (λ (z : ℤ). at_least0 z ≤ 10000) number_is (limits_yes p.number t)))

-- the limits of a sweep's own plan are its own
pub limits_are : (s : Sweep) (p : Plan) → p ≡ own_plan s → limits_of s.nyquist s.splits p.add_start p.add_end p.number ≡ own_limits s
unfolding own_limits
limits_are s p e = plan_limits s.nyquist s.splits (range_of s) p e
