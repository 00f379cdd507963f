-- The call with a book, by the answer of questions 1 to 8, and over plain memory. Assumes nothing.
use Prim.Native.Nat.{ℕ}
use mathlib.Core.Path.{◌≡◌, sym, ap, ◌∙◌}
use mathlib.Core.List.{List}
use mathlib.Core.Option.{Option, none, some}
use lib.IntN.{ℤ}
use lib.ListN.{length}
use lib.Ieee.{Float}
use Rattle.arithmetic.specs.Intervals.{limits_of}
use Rattle.arithmetic.specs.declared.intervals.Plan.{Plan}
use Rattle.sweep.specs.Sweep.{Sweep}
use Rattle.sweep.specs.Questions.{first_no, eight_of, gates_in, own_limits, asked, answered}
use Rattle.sweep.specs.Call.{Memory, lengths, cleared_for, worked_on, ending}
use Rattle.sweep.specs.Inside.Planning.{own_plan}
use Rattle.sweep.proofs.QuestionLaws.{or_else, list_after}
use Rattle.sweep.proofs.PlanLaws.{limits_are}
use Rattle.sweep_book.specs.Book.{later, asked_book, book_after, end_book, call_book, book_answer_by}

module _ (s : Sweep) (m : Memory) (b : List ℤ) where
  -- the first no by that of questions 1 to 8
  asked_after : (o : Option ℕ) → first_no (eight_of s (lengths m)) ≡ o → asked_book s (lengths m) (length b) ≡ or_else o (first_no (later s (own_limits s) (length b)))
  unfolding asked_book
  asked_after o e = list_after (eight_of s (lengths m)) (later s (own_limits s) (length b)) ∙ ap (λ (x : Option ℕ). or_else x (first_no (later s (own_limits s) (length b)))) e

  pub book_missed : (k : ℕ) → first_no (eight_of s (lengths m)) ≡ some k → book_answer_by (record { number = k; memory = m }) b ≡ call_book s m b
  unfolding call_book worked_on asked end_book answered ending book_after
  book_missed k e = sym ((λ i. end_book (asked_after (some k) e i) s (own_limits s) (elim (e i) [ none ↦ cleared_for (gates_in s) m | some k ↦ m ]) b))

  pub book_on : first_no (eight_of s (lengths m)) ≡ none → end_book (first_no (later s (own_limits s) (length b))) s (own_limits s) (cleared_for (gates_in s) m) b ≡ call_book s m b
  unfolding call_book worked_on asked
  book_on h = sym (λ i. end_book (asked_after none h i) s (own_limits s) (elim (h i) [ none ↦ cleared_for (gates_in s) m | some k ↦ m ]) b)

  pub book_goes_on : (p : Plan) → p ≡ own_plan s → first_no (eight_of s (lengths m)) ≡ none
      → (let limits = limits_of s.nyquist s.splits p.add_start p.add_end p.number in end_book (first_no (later s limits (length b))) s limits (cleared_for (gates_in s) m) b ≡ call_book s m b)
  book_goes_on p e h = ap (λ (x : List Float). end_book (first_no (later s x (length b))) s x (cleared_for (gates_in s) m) b) (limits_are s p e) ∙ book_on h
