-- From questions 1 to 7 of both channels to what solving them asks, and from its end to the end of the call. Assumes nothing.
use Prim.Native.Nat.{ℕ, ◌+◌, ◌*◌}
use native.Mathlib.Omega.{arith}
use mathlib.Core.Path.{◌≡◌, sym, ap, ◌∙◌, subst}
use mathlib.Core.List.{List}
use mathlib.Core.Option.{none}
use lib.IntN.{pos}
use lib.ListN.{length, drop, replicate}
use lib.Ieee.{Float}
use Rattle.arithmetic.specs.Rounding.{real}
use Rattle.arithmetic.specs.declared.intervals.Plan.{Plan}
use Rattle.network.specs.declared.options.Options.{Options}
use Rattle.sweep.specs.Questions.{Outcome, first_no, seven_of, room, gates_in, words_for, floats_for}
use Rattle.network.specs.declared.input.Sweep.{Sweep as Lent}
use Rattle.sweep.specs.Call.{lengths}
use Rattle.sweep.specs.Entry.{sweep_in}
use Rattle.sweep.specs.Inside.Planning.{Fit}
use Rattle.sweep.specs.declared.questions.Room.{Room}
use Rattle.sweep.proofs.PassedLaws.{Passed, passed}
use Rattle.sweep.proofs.WorkLaws.{cleared_is, words_asked, floats_asked}
use Rattle.sweep.proofs.EndLaws.{finds_ask}
use Rattle.channels.specs.Call.{TwoMemory, two_memory_of, TwoAnswer, lent_to, cleared_for_two, ending_two}
use Rattle.channels.specs.Inside.Both.{FindsBoth, all_zero_two}
use Rattle.channels.proofs.LeavesLaws.{finds_in, behind_long}
use Rattle.channels.proofs.EndLaws.{and_more, end_and_more}

module _ (h v : Lent) (p : Plan) (m : TwoMemory) (x : first_no (seven_of (sweep_in h) (lengths (lent_to m.horizontal m))) ≡ none) (y : first_no (seven_of (sweep_in v) (lengths (lent_to m.vertical m))) ≡ none) where
  abbrev n : ℕ
  n = length h.velocity.now

  abbrev r : Room
  r = room (gates_in (sweep_in h)) (lengths (lent_to m.horizontal m))

  known : Passed (sweep_in h) r
  known = passed (sweep_in h) r x

  -- both channels have as many gates
  same : v.options ≡ h.options → length v.velocity.now ≡ n
  same e =
      let k = passed (sweep_in v) (room (gates_in (sweep_in v)) (lengths (lent_to m.vertical m))) y in
      k.vel ∙ ap (λ (o : Options). o.rays * o.gates) e ∙ sym known.vel

  -- just as much of the work memory as is asked for
  pub finds_both_ask : v.options ≡ h.options → Fit h.options p → (w : List ℕ) (d : List Float) → length w ≡ 96 * n + 64 → length d ≡ 16 * n + 16 → FindsBoth h v p w d
  finds_both_ask e f w d ew ed =
      let s = same e in record {
        horizontal = finds_ask h.options p h.velocity.now h.valid.now (lent_to m.horizontal m) x f w d ew ed;
        vertical =
            finds_in v.options p v.velocity.now v.valid.now w _ d d
            (finds_ask v.options p v.velocity.now v.valid.now (lent_to m.vertical m) y (subst (λ (o : Options). Fit o p) (sym e) f) w d (omega (arith, ew, s)) (omega (arith, ed, s)))
            (omega (arith, s, ew, behind_long n w)) (omega (arith, ed, s));
        same = s;
        options = e;
      }

  -- by whatever outcomes
  pub solved_ends : (a b : Outcome) (w : List ℕ) (d : List Float) → length w ≡ 96 * n + 64 → length d ≡ 16 * n + 16 → (t : TwoAnswer)
      → t ≡ ending_two a b (all_zero_two (two_memory_of m.horizontal m.vertical w d))
      → (W : List ℕ) (D : List Float) → W ≡ drop (96 * n + 64) m.words → D ≡ drop (16 * n + 16) m.floats
      → and_more W D t ≡ ending_two a b (cleared_for_two (gates_in (sweep_in h)) m)
  unfolding cleared_for_two
  solved_ends a b w d ew ed t e W D eW eD =
      let cw = cleared_is 0 (96 * n + 64) (words_for (gates_in (sweep_in h))) (replicate (length w) 0) W m.words (words_asked (sweep_in h) r known) (ap (λ (k : ℕ). replicate k 0) ew) eW in
      let cd = cleared_is (real (pos 0)) (16 * n + 16) (floats_for (gates_in (sweep_in h))) (replicate (length d) (real (pos 0))) D m.floats (floats_asked (sweep_in h) r known) (ap (λ (k : ℕ). replicate k (real (pos 0))) ed) eD in
      ap (and_more W D) e
      ∙ end_and_more a b (all_zero_two (two_memory_of m.horizontal m.vertical w d)) W D
      ∙ (λ i. ending_two a b (two_memory_of m.horizontal m.vertical (cw i) (cd i)))
