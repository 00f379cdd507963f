-- A sweep by its limits, with a book: question 13 before question 9, and the entries of the definition. Assumes nothing.
use Prim.Native.Nat.{ℕ, ◌*◌, ◌-◌, ◌≤◌}
use native.Mathlib.Omega.{arith}
use mathlib.Core.Path.{◌≡◌, refl, sym, ap, ◌∙◌, subst}
use mathlib.Core.Bool.{Bool, true, false, cond}
use mathlib.Core.List.{List, [], ◌∷◌}
use mathlib.Core.Option.{Option, none, some}
use borrow.Author.Tests.{leb-true}
use lib.IntN.{ℤ}
use lib.ListN.{length}
use lib.Ieee.{Float}
use Rattle.memory.specs.Inside.Layout.{book_at}
use Rattle.arithmetic.specs.Intervals.{two_nyquist}
use Rattle.arithmetic.specs.declared.intervals.Plan.{Plan}
use Rattle.labels.specs.Label.{Found}
use Rattle.network.specs.Network.{State, merges, merges_in_range}
use Rattle.network.specs.Book.{Entry, book}
use Rattle.network.specs.Inside.Find.{Finding, shape_of, limits_by, regions_by, network_for, Finds, Leaves}
use Rattle.network.specs.declared.options.Options.{Options}
use Rattle.network.specs.declared.find.Run.{Run}
use Rattle.network.proofs.BookLaws.{merges_less}
use Rattle.sweep.specs.Sweep.{Sweep, regions_of, network_of, early, unfolded_by, unfolded}
use Rattle.sweep.specs.Questions.{Question, ask, first_no, answered, asked9}
use Rattle.sweep.specs.Call.{Memory, ending}
use Rattle.sweep.specs.Entry.{sweep_by}
use Rattle.sweep.proofs.QuestionLaws.{on, no}
use Rattle.sweep.proofs.Early.{early_merges}
use Rattle.sweep.proofs.EarlyEnd.{range_same}
use Rattle.sweep.proofs.SolveLaws as Solve
use Rattle.sweep_book.specs.Book.{book_of, over, holds, book_holds, later, book_after, end_book, book_answer_by}
use Rattle.sweep_book.specs.Inside.Entering.{Enters, entered_by, EntersFound}

-- an early end has no entries: its network does no merge
pub book_is : (s : Sweep) (f : Found) → book_of s f ≡ book (network_of s f) (merges (network_of s f))
unfolding book_of
book_is s f = go (early s f) refl
  where
    none_early : early s f ≡ true → [] ≡ book (network_of s f) (merges (network_of s f))
    none_early e = unfold book in sym (ap (book (network_of s f)) (early_merges s f e))

    go : (b : Bool) → early s f ≡ b → cond b [] (book (network_of s f) (merges (network_of s f))) ≡ book (network_of s f) (merges (network_of s f))
    go true e = none_early e
    go false e = refl

-- ---- question 13

module _ (s : Sweep) (limits : List Float) (long : ℕ) where
  abbrev thirteen : Question
  thirteen = ask 13 (book_holds (regions_of s limits).number long)

  abbrev nine : List Question
  nine = ask 9 (unfolded s limits).merges_in_range ∷ []

  -- a no refuses
  pub short_ends : book_holds (regions_of s limits).number long ≡ false → (m : Memory) (b : List ℤ) → book_answer_by (record { number = 13; memory = m }) b ≡ end_book (first_no (later s limits long)) s limits m b
  unfolding end_book later answered ending book_after
  short_ends h m b = ap (λ (x : Option ℕ). end_book x s limits m b) (sym (no thirteen nine h))

  -- a yes leaves question 9
  pub held_ends : book_holds (regions_of s limits).number long ≡ true → (m : Memory) (b : List ℤ)
      → end_book (first_no (later s limits long)) s limits m b ≡ book_answer_by (ending (asked9 (unfolded s limits)) m) (book_after (first_no nine) (book_of s (regions_of s limits)) b)
  unfolding end_book later asked9
  held_ends h m b = ap (λ (x : Option ℕ). end_book x s limits m b) (on thirteen nine h)

-- the same of k regions
module _ (o : Options) (p : Plan) (vel : List Float) (mask : List ℕ) (k long : ℕ) (number : k ≡ (regions_by o p vel mask).number) where
  pub number_held : book_holds (regions_of (sweep_by o vel mask) (limits_by o p)).number long ≡ book_holds k long
  unfolding regions_of
  number_held = ap (λ (x : ℕ). book_holds x long) (sym number)

  pub held_most : book_holds k long ≡ true → 6 * ((regions_by o p vel mask).number - 1) ≤ long
  unfolding book_holds holds
  held_most h = subst (λ (x : ℕ). 6 * (x - 1) ≤ long) number (omega (arith, leb-true (k - 1) _ h))

-- ---- what was found, entered: v the words and x the answer that merging left

module _ (o : Options) (p : Plan) (vel : List Float) (mask w : List ℕ) (d : List Float) (q : Finds o p vel mask w d) (v : List ℕ) (x : Finding) (same : length v ≡ length w)
    (R : Leaves (regions_by o p vel mask) (network_for o (regions_by o p vel mask) vel) (length vel) v x) where
  abbrev F : Found
  F = regions_by o p vel mask

  abbrev t : State
  t = network_for o F vel

  few : length (merges t) ≤ F.number - 1
  few = merges_less (two_nyquist o.nyquist) (shape_of o) F.number F.labels vel

  regions_few : F.number ≤ length vel
  regions_few = Solve.few o p vel mask w d q v x same R

  pub enter_asks : (long : ℕ) → 6 * (F.number - 1) ≤ long → EntersFound x v (length vel) long
  enter_asks long h = record { asks = λ r e. go r (Solve.accepted_run o p vel mask w d q v x same R r e) }
    where
      at_run : merges_in_range t ≡ true → Enters v (book_at (length vel) F.number) (length (merges t)) long
      at_run g = let E = R.tables.entries g in record {
        room = unfold book_at in omega (arith, few, regions_few, Solve.room o p vel mask w d q v x same R);
        holds = omega (arith, few);
        low = E.low;
        gains = E.gains;
      }

      go : (r : Run) → (merges_in_range t ≡ true) × (r ≡ record { regions = F.number; merges = length (merges t) }) → Enters v (book_at (length vel) r.regions) r.merges long
      go r h = subst (λ (y : Run). Enters v (book_at (length vel) y.regions) y.merges long) (sym h.1) (at_run h.0)

  -- the book is the definition's
  pub entered_is : (b : List ℤ) → entered_by x v (length vel) b ≡ book_after (first_no (ask 9 (unfolded (sweep_by o vel mask) (limits_by o p)).merges_in_range ∷ [])) (book_of (sweep_by o vel mask) (regions_of (sweep_by o vel mask) (limits_by o p))) b
  unfolding unfolded regions_of network_of
  entered_is b = go (merges_in_range t) refl
    where
      good : merges_in_range t ≡ true → entered_by x v (length vel) b ≡ over (book t (merges t)) b
      good g = ap (λ (y : Finding). entered_by y v (length vel) b) (Solve.run_found o p vel mask w d q v x same R g) ∙ ap (λ (vs : List Entry). over vs b) (R.tables.entries g).are

      range : (unfolded_by (sweep_by o vel mask) F).merges_in_range ≡ merges_in_range t
      range = range_same (sweep_by o vel mask) F

      yes : first_no (ask 9 (merges_in_range t) ∷ []) ≡ none → book_after (first_no (ask 9 (unfolded_by (sweep_by o vel mask) F).merges_in_range ∷ [])) (book_of (sweep_by o vel mask) F) b ≡ over (book t (merges t)) b
      yes e = unfold book_after in (λ i. book_after (first_no (ask 9 (range i) ∷ [])) (book_is (sweep_by o vel mask) F i) b) ∙ ap (λ (y : Option ℕ). book_after y (book t (merges t)) b) e

      nay : first_no (ask 9 (merges_in_range t) ∷ []) ≡ some 9 → book_after (first_no (ask 9 (unfolded_by (sweep_by o vel mask) F).merges_in_range ∷ [])) (book_of (sweep_by o vel mask) F) b ≡ b
      nay e = unfold book_after in (λ i. book_after (first_no (ask 9 (range i) ∷ [])) (book_of (sweep_by o vel mask) F) b) ∙ ap (λ (y : Option ℕ). book_after y (book_of (sweep_by o vel mask) F) b) e

      none_left : first_no [] ≡ none
      none_left = unfold first_no in refl

      go : (c : Bool) → merges_in_range t ≡ c → entered_by x v (length vel) b ≡ book_after (first_no (ask 9 (unfolded_by (sweep_by o vel mask) F).merges_in_range ∷ [])) (book_of (sweep_by o vel mask) F) b
      go true g = good g ∙ sym (yes (on (ask 9 (merges_in_range t)) [] g ∙ none_left))
      go false g = ap (λ (y : Finding). entered_by y v (length vel) b) (Solve.refused_found o p vel mask w d q v x same R g) ∙ sym (nay (no (ask 9 (merges_in_range t)) [] g))
