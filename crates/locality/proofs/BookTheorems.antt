-- The theorems of specs/BookEntry, on calls with a book. Assumes nothing.
use Prim.Native.Nat.{ℕ, ◌≤◌, ◌<◌}
use native.Mathlib.Omega.{arith}
use mathlib.Core.Path.{◌≡◌, refl, sym, ap, ◌∙◌, subst}
use mathlib.Core.Bool.{Bool, true, false, ◌&&◌}
use mathlib.Core.List.{List, [], ◌∷◌}
use mathlib.Core.Option.{Option, none, some}
use lib.Dec.{ltb}
use lib.ListN.{length, get_or}
use lib.IntN.{ℤ, pos}
use lib.Ieee.{Float}
use borrow.Author.Tests.{ltb-true}
use Rattle.lists.specs.Seq.{tabulate, all}
use Rattle.lists.proofs.SeqLaws.{tab_same}
use Rattle.lists.proofs.AllLaws.{and_left, and_right}
use Rattle.arithmetic.specs.Intervals.{two_nyquist}
use Rattle.labels.specs.Label.{Found}
use Rattle.network.specs.Network.{merges, count_of}
use Rattle.network.specs.Book.{Entry, replayed}
use Rattle.network.proofs.BookLaws.{book_counts, book_replays, book_holds_lem}
use Rattle.sweep.specs.Sweep.{Sweep, Unfolded, regions_of, network_of, early, ended, finished, final, offset_of, gate_count, unfolded_by, unfolded}
use Rattle.sweep.specs.Questions.{ask, first_no, eight_of, seven, gates_in, own_limits, answered, asked9}
use Rattle.sweep.specs.Call.{Memory, lengths, cleared_for, ending, call}
use Rattle.sweep.proofs.QuestionLaws.{on, no, no_meets}
use Rattle.sweep.proofs.CallLaws.{call_missed, call_on}
use Rattle.sweep.proofs.Early.{early_merges, early_counts}
use Rattle.sweep.proofs.EarlyEnd.{no_count}
use Rattle.sweep_book.specs.Book.{book_of, over, book_holds, BookAnswer, book_answer_by, book_after, call_book}
use Rattle.sweep_book.proofs.SolveLaws.{book_is, short_ends, held_ends}
use Rattle.sweep_book.proofs.CallLaws.{book_missed, book_on}
use Rattle.locality.specs.BookEntry.{SameAsSweep, ShortKept, ShortKeeps, RefusalKeepsBook, own_book, BookLeft, BookWritten, BookReplaysCounts, BookStands}

-- ---- the ways in which a call ends

module _ (s : Sweep) (m : Memory) (b : List ℤ) where
  abbrev limits : List Float
  limits = own_limits s

  abbrev cleared : Memory
  cleared = cleared_for (gates_in s) m

  abbrev nine : Option ℕ
  nine = first_no (ask 9 (unfolded s limits).merges_in_range ∷ [])

  -- a refusal by one of questions 1 to 8, by 13, or what question 9 leaves
  data Ends : BookAnswer → Type 0 where
    missed : (k : ℕ) → first_no (eight_of s (lengths m)) ≡ some k → Ends (book_answer_by (record { number = k; memory = m }) b)
    short : Ends (book_answer_by (record { number = 13; memory = cleared }) b)
    held : first_no (eight_of s (lengths m)) ≡ none → Ends (book_answer_by (ending (asked9 (unfolded s limits)) cleared) (book_after nine (book_of s (regions_of s limits)) b))

  book_ends : Ends (call_book s m b)
  book_ends = go (first_no (eight_of s (lengths m))) refl
    where
      on_13 : first_no (eight_of s (lengths m)) ≡ none → (c : Bool) → book_holds (regions_of s limits).number (length b) ≡ c → Ends (call_book s m b)
      on_13 e true h = subst Ends (sym (held_ends s limits (length b) h cleared b) ∙ book_on s m b e) (held e)
      on_13 e false h = subst Ends (short_ends s limits (length b) h cleared b ∙ book_on s m b e) short

      go : (o : Option ℕ) → first_no (eight_of s (lengths m)) ≡ o → Ends (call_book s m b)
      go (some k) e = subst Ends (book_missed s m b k e) (missed k e)
      go none e = on_13 e (book_holds (regions_of s limits).number (length b)) refl

  -- no question from 1 to 8 has the number 13, nor 0
  eight_number : (k : ℕ) → first_no (eight_of s (lengths m)) ≡ some k → (1 ≤ k) × (k ≤ 8)
  eight_number k e =
      let h : (ltb 0 k && ltb k 9) ≡ true = no_meets (λ j. ltb 0 j && ltb j 9) (eight_of s (lengths m)) k named e in
      (omega (arith, ltb-true 0 k (and_left (ltb 0 k) (ltb k 9) h)), omega (arith, ltb-true k 9 (and_right (ltb 0 k) (ltb k 9) h)))
    where
      named : all (λ q. ltb 0 q.number && ltb q.number 9) (eight_of s (lengths m)) ≡ true
      named = unfold all seven in refl

  -- what question 9 leaves, by its answer
  module _ (c : Bool) (r : (unfolded s limits).merges_in_range ≡ c) where
    nine_by : nine ≡ elim c [ true ↦ none | false ↦ some 9 ]
    nine_by = go c r
      where
        go : (c : Bool) → (unfolded s limits).merges_in_range ≡ c → nine ≡ elim c [ true ↦ none | false ↦ some 9 ]
        go true e = on (ask 9 (unfolded s limits).merges_in_range) [] e ∙ (unfold first_no in refl)
        go false e = no (ask 9 (unfolded s limits).merges_in_range) [] e

    number_by : (ending (asked9 (unfolded s limits)) cleared).number ≡ elim c [ true ↦ 0 | false ↦ 9 ]
    number_by = unfold asked9 in ap (λ (o : Option ℕ). (ending (answered o (unfolded s limits)) cleared).number) nine_by ∙ go c
      where
        go : (c : Bool) → (ending (answered (elim c [ true ↦ none | false ↦ some 9 ]) (unfolded s limits)) cleared).number ≡ elim c [ true ↦ 0 | false ↦ 9 ]
        go true = unfold ending answered in refl
        go false = unfold ending answered in refl

-- ---- the theorems

pub same_as_sweep : SameAsSweep
same_as_sweep s m b a e n = ap (λ (x : BookAnswer). x.answer) e ∙ go (call_book s m b) (book_ends s m b) (λ q. n (ap (λ (x : BookAnswer). x.answer.number) e ∙ q))
  where
    go : (x : BookAnswer) → Ends s m b x → (x.answer.number ≡ 13 → ⊥) → x.answer ≡ call s m
    go x (missed k h) n = call_missed s m k h
    go x short n = absurd (n refl)
    go x (held h) n = call_on s m h

pub short_keeps : ShortKeeps
short_keeps s m b a e h = subst (ShortKept s m b) (sym e) (go (call_book s m b) (book_ends s m b) (sym (ap (λ (x : BookAnswer). x.answer.number) e) ∙ h))
  where
    go : (x : BookAnswer) → Ends s m b x → x.answer.number ≡ 13 → ShortKept s m b x
    go x (missed k q) h = absurd (omega (arith, eight_number s m b k q, h))
    go x short h = record { memory = refl; book = refl }
    go x (held q) h = absurd (by (unfolded s (own_limits s)).merges_in_range refl)
      where
        by : (c : Bool) → (unfolded s (own_limits s)).merges_in_range ≡ c → ⊥
        by true r = omega (arith, number_by s m b true r, h)
        by false r = omega (arith, number_by s m b false r, h)

pub refusal_keeps_book : RefusalKeepsBook
refusal_keeps_book s m b a e h = ap (λ (x : BookAnswer). x.book) e ∙ go (call_book s m b) (book_ends s m b) (subst (λ (k : ℕ). 0 < k) (ap (λ (x : BookAnswer). x.answer.number) e) h)
  where
    go : (x : BookAnswer) → Ends s m b x → 0 < x.answer.number → x.book ≡ b
    go x (missed k q) h = refl
    go x short h = refl
    go x (held q) h = by (unfolded s (own_limits s)).merges_in_range refl
      where
        by : (c : Bool) → (unfolded s (own_limits s)).merges_in_range ≡ c → book_after (nine s m b) (own_book s) b ≡ b
        by true r = absurd (omega (arith, number_by s m b true r, h))
        by false r = ap (λ (o : Option ℕ). book_after o (own_book s) b) (nine_by s m b false r) ∙ (unfold book_after in refl)

-- what replaying gives a label
replays : (s : Sweep) (f : Found) (l : ℕ) → (replayed (book_of s f) l).count ≡ count_of (final (network_of s f)).regions l
unfolding final network_of
replays s f l = ap (λ (vs : List Entry). (replayed vs l).count) (book_is s f) ∙ book_replays (two_nyquist s.nyquist) s.shape f.number f.labels s.vel l

-- a sweep by whether it ends early
module _ (s : Sweep) (f : Found) where
  abbrev by_end : Bool → Unfolded
  by_end b = elim b [ true ↦ ended s f | false ↦ finished s f (network_of s f) ]

  counts_by_lem : (b : Bool) → early s f ≡ b → (by_end b).counts ≡ tabulate (length s.mask) (λ g. gate_count (by_end b).offset (get_or s.mask g 0) (replayed (book_of s f) (get_or f.labels g 0)).count)
  unfolding ended finished
  counts_by_lem true e = tab_same (λ g. pos 0) _ (length s.mask) (λ g h. sym (ap (gate_count (pos 0) (get_or s.mask g 0)) (replays s f (get_or f.labels g 0) ∙ early_counts s f e (get_or f.labels g 0)) ∙ no_count (get_or s.mask g 0)))
  counts_by_lem false e = tab_same _ _ (length s.mask) (λ g h. ap (gate_count (offset_of s (final (network_of s f))) (get_or s.mask g 0)) (sym (replays s f (get_or f.labels g 0))))

  -- the merges are the network's, also in an early end
  merges_by : (b : Bool) → early s f ≡ b → (by_end b).merges ≡ merges (network_of s f)
  unfolding ended finished
  merges_by true e = sym (early_merges s f e)
  merges_by false e = refl

pub book_replays_counts : BookReplaysCounts
unfolding unfolded unfolded_by
book_replays_counts s limits = counts_by_lem s (regions_of s limits) (early s (regions_of s limits)) refl

pub book_stands : BookStands
unfolding network_of
book_stands s limits before v after e =
    let f = regions_of s limits in
    book_holds_lem (two_nyquist s.nyquist) s.shape f.number f.labels s.vel before v after (sym (book_is s f) ∙ e)

-- ---- what a call that answers 0 leaves in the book

pub book_written : BookWritten
book_written s m b a e h = subst (BookLeft s b) (sym e) (go (call_book s m b) (book_ends s m b) (sym (ap (λ (x : BookAnswer). x.answer.number) e) ∙ h))
  where
    own_merges : (unfolded s (own_limits s)).merges ≡ merges (network_of s (regions_of s (own_limits s)))
    own_merges = unfold unfolded unfolded_by in merges_by s (regions_of s (own_limits s)) (early s (regions_of s (own_limits s))) refl

    many : length (own_book s) ≡ length (unfolded s (own_limits s)).merges
    many = ap length (book_is s (regions_of s (own_limits s))) ∙ book_counts (network_of s (regions_of s (own_limits s))) ∙ sym (ap length own_merges)

    go : (x : BookAnswer) → Ends s m b x → x.answer.number ≡ 0 → BookLeft s b x
    go x (missed k q) h = absurd (omega (arith, eight_number s m b k q, h))
    go x short h = absurd (omega (arith, h))
    go x (held q) h = record { book = by (unfolded s (own_limits s)).merges_in_range refl; number = many }
      where
        by : (c : Bool) → (unfolded s (own_limits s)).merges_in_range ≡ c → book_after (nine s m b) (own_book s) b ≡ over (own_book s) b
        by true r = ap (λ (o : Option ℕ). book_after o (own_book s) b) (nine_by s m b true r) ∙ (unfold book_after in refl)
        by false r = absurd (omega (arith, number_by s m b false r, h))
