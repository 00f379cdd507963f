-- The theorems of specs/Theorems. Assumes nothing.
use Rattle.std.specs.Prelude as Std
use Prim.Native.Nat.{ℕ, ◌≤◌, ◌<◌}
use native.Mathlib.Omega.{arith}
use mathlib.Core.Path.{◌≡◌, refl, sym, ap, ◌∙◌, subst}
use mathlib.Core.Bool.{true}
use mathlib.Core.List.{List, [], ◌∷◌}
use mathlib.Core.Option.{Option, none, some}
use lib.IntN.{ℤ, pos, negsuc}
use lib.ListN.{length}
use lib.Ieee.{Float}
use borrow.Author.Tests.{le-leb}
use Rattle.lists.specs.Seq.{all}
use Rattle.arithmetic.specs.Intervals.{valid, at_least0, adds, number, limits_for, number_for, over_both}
use Rattle.arithmetic.specs.declared.intervals.Extremes.{Extremes}
use Rattle.arithmetic.proofs.BothLaws.{range_of_both}
use Rattle.network.proofs.LimitLaws.{limits_length}
use Rattle.sweep.specs.Sweep.{Sweep, unfolded}
use Rattle.sweep.specs.Questions.{Question, Outcome, accepted, ask, first_no, gates_in, range_of, few_for, at_most, limits_few, own_limits, seven, seven_of, eight_of, asked9}
use Rattle.sweep.specs.Call.{Memory, Answer, lengths, cleared_for, ending, call}
use Rattle.sweep.specs.Entry.{answer_of}
use Rattle.sweep.proofs.QuestionLaws.{or_else, on, list_after, goes_on, first_yes, rest_yes, zero_none, all_yes}
use Rattle.sweep.proofs.PassedLaws.{passed}
use Rattle.sweep.proofs.CallLaws.{call_on}
use Rattle.sweep.proofs.PlanLaws.{limits_yes}
use Rattle.channels.specs.Call.{shared_range, shared_limits, shared_few, channel_of, TwoMemory, TwoAnswer, two_answer_by, lent_to, eight_of_two, asked_two, cleared_for_two, ending_two, call_two}
use Rattle.channels.specs.Theorems.{horizontal_by, vertical_by, nine_of_two, left_by, TwoAnswerIs, ChannelsAre, ChannelsKept, TwoRefusalKeeps, TwoEightKeeps, WorkCleared, TwoWorkCleared, SharedRangeIs, HorizontalSame, VerticalSame, SweepLeaves, HorizontalOwn, VerticalOwn}
use Rattle.channels.proofs.CallLaws.{call_some, call_none, h_room, v_room, horizontal_seven, vertical_seven, shared_few_lem}
use Rattle.channels.proofs.EndLaws.{accepted_is, end_number, end_kept, end_words, end_floats}

-- ---- one call

module _ (h v : Sweep) (m : TwoMemory) where
  -- question 9 after them
  abbrev last : List Question
  last = ask 9 (horizontal_by h v).merges_in_range ∷ ask 9 (vertical_by h v).merges_in_range ∷ []

  nine_by : (o : Option ℕ) → asked_two h v m ≡ o → first_no (nine_of_two h v m) ≡ or_else o (first_no last)
  unfolding asked_two
  nine_by o e = list_after (eight_of_two h v m) last ∙ ap (λ (q : Option ℕ). or_else q (first_no last)) e

pub two_answer_is : TwoAnswerIs
two_answer_is h v m = go (asked_two h v m) refl
  where
    go : (o : Option ℕ) → asked_two h v m ≡ o → (call_two h v m).number ≡ answer_of (first_no (nine_of_two h v m))
    go none e = ap (λ (a : TwoAnswer). a.number) (call_none h v m e) ∙ end_number (horizontal_by h v) (vertical_by h v) (cleared_for_two (gates_in h) m) ∙ sym (ap answer_of (nine_by h v m none e))
    go (some k) e = ap (λ (a : TwoAnswer). a.number) (call_some h v m k e) ∙ sym (ap answer_of (nine_by h v m (some k) e))

pub two_refusal_keeps : TwoRefusalKeeps
two_refusal_keeps h v m = go (asked_two h v m) refl
  where
    go : (o : Option ℕ) → asked_two h v m ≡ o → 0 < (call_two h v m).number → ChannelsKept m (call_two h v m)
    go none e p = subst (λ (a : TwoAnswer). 0 < a.number → ChannelsKept m a) (sym (call_none h v m e)) (end_kept (asked9 (horizontal_by h v)) (asked9 (vertical_by h v)) (gates_in h) m) p
    go (some k) e p = subst (ChannelsKept m) (sym (call_some h v m k e)) (record { horizontal = refl; vertical = refl })

pub two_eight_keeps : TwoEightKeeps
two_eight_keeps h v m k e = ap (λ (a : TwoAnswer). a.memory) (call_some h v m k e)

pub two_work_cleared : TwoWorkCleared
two_work_cleared h v m e = subst (WorkCleared h m) (sym (call_none h v m e)) (record {
  words = end_words (asked9 (horizontal_by h v)) (asked9 (vertical_by h v)) (cleared_for_two (gates_in h) m);
  floats = end_floats (asked9 (horizontal_by h v)) (asked9 (vertical_by h v)) (cleared_for_two (gates_in h) m);
})

pub shared_range_is : SharedRangeIs
unfolding shared_range
shared_range_is h v m e =
    range_of_both (valid h.vel h.mask) (valid v.vel v.mask)
    (passed h (h_room h v m e) (horizontal_seven h v m e)).velocity_in_range (passed v (v_room h v m e) (vertical_seven h v m e)).velocity_in_range

-- all nine with a yes
module _ (h v : Sweep) (m : TwoMemory) (z : (call_two h v m).number ≡ 0) where
  all_nine : first_no (nine_of_two h v m) ≡ none
  unfolding seven all
  all_nine = zero_none (nine_of_two h v m) refl (sym (two_answer_is h v m) ∙ z)

  eight_yes : asked_two h v m ≡ none
  unfolding asked_two
  eight_yes = first_yes (eight_of_two h v m) (last h v m) all_nine

  nine_yes : ((horizontal_by h v).merges_in_range ≡ true) × ((vertical_by h v).merges_in_range ≡ true)
  nine_yes =
      let q = all_yes (ask 9 (horizontal_by h v).merges_in_range) (ask 9 (vertical_by h v).merges_in_range ∷ []) (rest_yes (eight_of_two h v m) (last h v m) all_nine) in
      (q.0, (all_yes (ask 9 (vertical_by h v).merges_in_range) [] q.1).0)

pub channels_are : ChannelsAre
unfolding ending_two
channels_are h v m z =
    let n = nine_yes h v m z in
    let is : call_two h v m ≡ two_answer_by 0 (left_by (horizontal_by h v)) (left_by (vertical_by h v)) (cleared_for_two (gates_in h) m).words (cleared_for_two (gates_in h) m).floats
    = call_none h v m (eight_yes h v m z) ∙ (λ i. ending_two (accepted_is (horizontal_by h v) n.0 i) (accepted_is (vertical_by h v) n.1 i) (cleared_for_two (gates_in h) m)) in
    record { horizontal = ap (λ (a : TwoAnswer). a.memory.horizontal) is; vertical = ap (λ (a : TwoAnswer). a.memory.vertical) is }

-- ---- two calls

pub horizontal_same : HorizontalSame
unfolding shared_limits shared_range
horizontal_same h v w m k e y z =
    (channels_are h v m y).horizontal
    ∙ ap (λ (x : Std.Option Extremes). left_by (unfolded h (limits_for h.nyquist h.splits (over_both (range_of h) x)))) e
    ∙ sym (channels_are h w k z).horizontal

pub vertical_same : VerticalSame
unfolding shared_limits shared_range
vertical_same h g v m k n s e y z =
    (channels_are h v m y).vertical
    ∙ (λ i. left_by (unfolded v (limits_for (n i) (s i) (over_both (e i) (range_of v)))))
    ∙ sym (channels_are g v k z).vertical

-- ---- beside the sweep entry

-- there are as many limits as their number says
limits_number : (nyq : Float) (S : ℕ) (e : Std.Option Extremes) → length (limits_for nyq S e) ≡ at_least0 (number_for nyq S e)
unfolding limits_for number_for
limits_number nyq S e = let a = adds nyq S e in limits_length nyq S a.start a.end (number S a)

-- so question 8 has one answer for limits that are the same
few_if : (z : ℤ) → at_least0 z ≤ 10000 → at_most 10000 z ≡ true
unfolding at_most
few_if (pos n) h = le-leb n 10000 h
few_if (negsuc n) h = refl

own_few : (s : Sweep) (nyq : Float) (S : ℕ) (x : Std.Option Extremes) → own_limits s ≡ limits_for nyq S x → few_for nyq S x ≡ true → limits_few s ≡ true
unfolding limits_few own_limits
own_few s nyq S x e t =
    few_if (number_for s.nyquist s.splits (range_of s))
    (omega (arith, limits_yes (number_for nyq S x) t, limits_number nyq S x, ap length e, limits_number s.nyquist s.splits (range_of s)))

-- a sweep call of a channel whose own limits are L
module _ (s : Sweep) (m : Memory) (L : List Float) (own : own_limits s ≡ L) (yes : first_no (seven_of s (lengths m)) ≡ none) (few : limits_few s ≡ true) (good : (unfolded s L).merges_in_range ≡ true) where
  sweep_leaves : SweepLeaves (call s m) (left_by (unfolded s L))
  unfolding ending
  sweep_leaves =
      let eight : first_no (eight_of s (lengths m)) ≡ none = goes_on (seven_of s (lengths m)) (ask 8 (limits_few s) ∷ []) yes ∙ (unfold first_no in on (ask 8 (limits_few s)) [] few) in
      let is : call s m ≡ ending (accepted (unfolded s L).counts (unfolded s L).doubtful (unfolded s L).regions (length (unfolded s L).merges)) (cleared_for (gates_in s) m)
      = sym (call_on s m eight) ∙ ap (λ (l : List Float). ending (asked9 (unfolded s l)) (cleared_for (gates_in s) m)) own ∙ ap (λ (x : Outcome). ending x (cleared_for (gates_in s) m)) (accepted_is (unfolded s L) good) in
      record { number = ap (λ (a : Answer). a.number) is; channel = ap (λ (a : Answer). channel_of a.memory.counts a.memory.doubtful a.memory.pair) is }

pub horizontal_own : HorizontalOwn
unfolding shared_limits shared_few
horizontal_own h v m z e =
    let q = eight_yes h v m z in
    subst (SweepLeaves (call h (lent_to m.horizontal m))) (sym (channels_are h v m z).horizontal)
    (sweep_leaves h (lent_to m.horizontal m) (shared_limits h v) e (horizontal_seven h v m q) (own_few h h.nyquist h.splits (shared_range h v) e (shared_few_lem h v m q)) (nine_yes h v m z).0)

pub vertical_own : VerticalOwn
unfolding shared_limits shared_few
vertical_own h v m z e =
    let q = eight_yes h v m z in
    subst (SweepLeaves (call v (lent_to m.vertical m))) (sym (channels_are h v m z).vertical)
    (sweep_leaves v (lent_to m.vertical m) (shared_limits h v) e (vertical_seven h v m q) (own_few v h.nyquist h.splits (shared_range h v) e (shared_few_lem h v m q)) (nine_yes h v m z).1)
