-- The sweep entry with a book, of a file of at most 128 gates: a book of 762 numbers is never too short, so it answers what the sweep entry answers, and its
-- entries are the file's. Assumes nothing.
use Prim.Native.Nat.{ℕ, zero, suc, ◌-◌, ◌*◌, ◌/◌, ◌≤◌}
use native.Mathlib.Omega.{arith}
use mathlib.Core.Path.{◌≡◌, refl, sym, ap, ◌∙◌, subst}
use mathlib.Core.Bool.{Bool, true, false, cond}
use mathlib.Core.List.{List, [], ◌∷◌, map}
use mathlib.Core.Option.{Option, none, some}
use lib.Dec.{T}
use lib.ListN.{length, get_or, take}
use Rattle.std.specs.Simd.{first_chunks}
use lib.IntN.{ℤ}
use lib.Ieee.{Float, nan, binary32, fits, of_bits}
use lib.Ieee.Bits.{of_bits-fits}
use lib.Ieee.Fits.{nan-fits}
use borrow.Author.Tests.{le-leb}
use Rattle.arithmetic.specs.Intervals.{two_nyquist}
use Rattle.arithmetic.specs.Inside.Asked.{Rising}
use Rattle.arithmetic.proofs.Rising.{sweep_limits_rise}
use Rattle.labels.specs.Label.{Found}
use Rattle.labels.proofs.RegionLaws.{number_at_most}
use Rattle.network.specs.Network.{merges}
use Rattle.network.specs.Book.{Entry, book}
use Rattle.network.proofs.BookLaws.{merges_less, book_counts}
use Rattle.sweep.specs.Sweep.{Sweep, Unfolded, regions_of, network_of, early, ended, finished, unfolded_by, unfolded}
use Rattle.sweep.specs.Questions.{Question, ask, Outcome, refused, accepted, Lent, first_no, words_for, room, gates_in, seven, eight_of, nine_of, limits_few, own_limits, first_missed, answered, outcome}
use Rattle.sweep.specs.Call.{Memory, answer_by, lengths, cleared_for, worked_on, ending, call}
use Rattle.sweep.proofs.QuestionLaws.{on, or_else, list_after, none_all}
use Rattle.sweep.proofs.PassedLaws.{passed, seven_of_eight}
use Rattle.sweep.proofs.PlanLaws.{limits_yes}
use Rattle.sweep_book.specs.Book.{book_of, holds, book_holds, later, asked_book, BookAnswer, book_after, end_book, call_book, book_answer_by}
use Rattle.files.specs.Format.{sweep_in}
use Rattle.files.specs.Questions.{as_sweep, read_questions}
use Rattle.printout.specs.Unfold.{file_gates, lent_for, file_outcome, printed_by, printed_of}
use Rattle.printout.specs.Book.{book_text, file_book}
use Rattle.printout.specs.Inside.Folds.{folds_by, folds_of}
use Rattle.printout.specs.Inside.Booked.{rows_text, Booked, booked_by, booked_of}
use Rattle.printout.proofs.UnfoldLaws.{kept_over, outcome_some, outcome_none, file_unfolded, Accepted}
use Rattle.printout.proofs.BookLaws.{rows_are, rows_held}

-- ---- regions and merges of a sweep of n gates

-- what is asked of a sweep's floats: each is an f32's
pub record Floats (s : Sweep) : Type 0 where
  pub nyquist : T (fits binary32 s.nyquist)
  pub velocities : (i : ℕ) → T (fits binary32 (get_or s.vel i nan))

module _ (s : Sweep) (l : Lent) (n : ℕ) (single : Floats s) (words : l.words ≡ words_for n) where
  rises : first_no (eight_of s l) ≡ none → Rising (own_limits s)
  unfolding own_limits limits_few seven
  rises h =
      let k = passed s (room (gates_in s) l) (seven_of_eight s (room (gates_in s) l) h) in
      sweep_limits_rise s.nyquist s.splits s.vel s.mask single.nyquist single.velocities k.asked k.velocity_in_range
      (limits_yes _ (none_all (eight_of s l) h).1.1.1.1.1.1.1.0)

  -- there are no more regions than gates
  regions_few : first_no (eight_of s l) ≡ none → (regions_of s (own_limits s)).number ≤ n
  unfolding regions_of words_for room
  regions_few h =
      let k = passed s (room (gates_in s) l) (seven_of_eight s (room (gates_in s) l) h) in
      omega (arith, words, k.mask, k.words, number_at_most s.shape.gates s.vel s.mask (own_limits s) (rises h))

  -- question 13 gets a yes
  holds_all : (long : ℕ) → n ≤ 128 → 762 ≤ long → first_no (eight_of s l) ≡ none → book_holds (regions_of s (own_limits s)).number long ≡ true
  unfolding book_holds holds
  holds_all long h e y = le-leb ((regions_of s (own_limits s)).number - 1) (long / 6) (omega (arith, regions_few y))

  -- so that the first no is the sweep entry's
  asks_same : (long : ℕ) → n ≤ 128 → 762 ≤ long → asked_book s l long ≡ first_missed s l
  unfolding asked_book first_missed later
  asks_same long h e = list_after (eight_of s l) (later s (own_limits s) long) ∙ go (first_no (eight_of s l)) refl ∙ sym (list_after (eight_of s l) nine)
    where
      nine : List Question
      nine = ask 9 (unfolded s (own_limits s)).merges_in_range ∷ []

      go : (o : Option ℕ) → first_no (eight_of s l) ≡ o → or_else o (first_no (later s (own_limits s) long)) ≡ or_else o (first_no nine)
      go none y = on (ask 13 (book_holds (regions_of s (own_limits s)).number long)) nine (holds_all long h e y)
      go (some k) y = refl

module _ (s : Sweep) (limits : List Float) where
  abbrev found : Found
  found = regions_of s limits

  abbrev unfolded_if : Bool → Unfolded
  unfolded_if b = elim b [ true ↦ ended s found | false ↦ finished s found (network_of s found) ]

  abbrev entries_if : Bool → List Entry
  entries_if b = cond b [] (book (network_of s found) (merges (network_of s found)))

  -- an entry a merge
  merges_entries : length (unfolded s limits).merges ≡ length (book_of s found)
  unfolding unfolded unfolded_by book_of
  merges_entries = go (early s found)
    where
      go : (b : Bool) → length (unfolded_if b).merges ≡ length (entries_if b)
      go true = unfold ended in refl
      go false = unfold finished in sym (book_counts (network_of s found))

  -- and fewer of them than regions
  entries_few : length (book_of s found) ≤ found.number - 1
  unfolding book_of network_of
  entries_few = go (early s found)
    where
      go : (b : Bool) → length (entries_if b) ≤ found.number - 1
      go true = omega arith
      go false = omega (arith, book_counts (network_of s found), merges_less (two_nyquist s.nyquist) s.shape found.number found.labels s.vel)

-- ---- a call with a book that is long enough

module _ (s : Sweep) (m : Memory) (b : List ℤ) (same : asked_book s (lengths m) (length b) ≡ first_missed s (lengths m)) where
  call_answer : (call_book s m b).answer ≡ call s m
  unfolding call_book end_book call outcome
  call_answer = ap (λ (o : Option ℕ). ending (answered o (unfolded s (own_limits s))) (worked_on s m)) same

  call_booked : booked_by (call_book s m b).answer.number (get_or (call_book s m b).answer.memory.pair 1 0) (call_book s m b).book
      ≡ booked_of (outcome s (lengths m)) (book_of s (regions_of s (own_limits s))) (get_or m.pair 1 0) b
  unfolding call_book end_book outcome
  call_booked = ap left same ∙ go (first_missed s (lengths m))
    where
      u : Unfolded
      u = unfolded s (own_limits s)

      vs : List Entry
      vs = book_of s (regions_of s (own_limits s))

      left : Option ℕ → Booked
      left o = booked_by (ending (answered o u) (worked_on s m)).number (get_or (ending (answered o u) (worked_on s m)).memory.pair 1 0) (book_after o vs b)

      kept : (worked_on s m).pair ≡ m.pair
      kept = kept_over (λ (x : Memory). x.pair) s m (λ n. (unfold cleared_for in refl))

      go : (o : Option ℕ) → left o ≡ booked_of (answered o u) vs (get_or m.pair 1 0) b
      go none = unfold ending answered book_after booked_of in refl
      go (some k) = unfold ending answered book_after booked_of in ap (λ (p : List ℕ). booked_by k (get_or p 1 0) b) kept

-- ---- the answer to a file

pattern_fits : (bs : List ℕ) (i : ℕ) → T (fits binary32 (get_or (map (of_bits binary32) bs) i nan))
pattern_fits [] i = nan-fits binary32
pattern_fits (b ∷ bs) zero = of_bits-fits binary32 b
pattern_fits (b ∷ bs) (suc i) = pattern_fits bs i

file_floats : (f : List ℕ) → Floats (as_sweep (sweep_in f))
unfolding as_sweep
file_floats f = record { nyquist = of_bits-fits binary32 _; velocities = pattern_fits (sweep_in f).vel }

lent_words : (n : ℕ) → (lent_for n).words ≡ words_for n
unfolding lent_for
lent_words n = refl

-- a refusal leaves the book and how many entries it says
pub booked_refused : (f : List ℕ) (k n : ℕ) (lent : List ℤ) → file_outcome f ≡ refused k → booked_by k n lent ≡ booked_of (file_outcome f) (file_book f) n lent
unfolding booked_of
booked_refused f k n lent e = ap (λ (o : Outcome). booked_of o (file_book f) n lent) (sym e)

module _ (f : List ℕ) (s : Sweep) (m : Memory) (lent : List ℤ) (r : ℕ) (cs : List ℤ) (ds p w : List ℕ) (d : List Float) (after : List ℤ) (h : s ≡ as_sweep (sweep_in f))
    (o : file_outcome f ≡ outcome (as_sweep (sweep_in f)) (lent_for (file_gates f))) (l : lengths m ≡ lent_for (file_gates f)) (few : file_gates f ≤ 128) (long : 762 ≤ length lent)
    (t : book_answer_by (answer_by r cs ds p w d) after ≡ call_book s m lent) where
  abbrev same : Sweep
  same = as_sweep (sweep_in f)

  asks : asked_book same (lengths m) (length lent) ≡ first_missed same (lengths m)
  asks = asks_same same (lengths m) (file_gates f) (file_floats f) (ap (λ (x : Lent). x.words) l ∙ lent_words (file_gates f)) (length lent) few long

  given : book_answer_by (answer_by r cs ds p w d) after ≡ call_book same m lent
  given = t ∙ ap (λ (x : Sweep). call_book x m lent) h

  -- an answer with a book leaves the counts
  pub book_folds : folds_by r cs ≡ folds_of (file_outcome f) m.counts
  book_folds = file_unfolded f same m r cs ds p w d refl o l (ap (λ (x : BookAnswer). x.answer) given ∙ call_answer same m lent asks)

  -- and the entries
  pub book_booked : booked_by r (get_or p 1 0) after ≡ booked_of (file_outcome f) (file_book f) (get_or m.pair 1 0) lent
  unfolding file_book
  book_booked =
      ap (λ (x : BookAnswer). booked_by x.answer.number (get_or x.answer.memory.pair 1 0) x.book) given
      ∙ call_booked same m lent asks
      ∙ (λ i. booked_of (outcome same (l i)) (book_of same (regions_of same (own_limits same))) (get_or m.pair 1 0) lent)
      ∙ ap (λ (x : Outcome). booked_of x (book_of same (regions_of same (own_limits same))) (get_or m.pair 1 0) lent) (sym o)

-- ---- how many entries

-- an acceptance's number of merges, where there are these entries
abbrev Counted : List Entry → Outcome → Type 0
Counted vs (refused k) = Unit {0}
Counted vs (accepted counts doubtful regions merges) = (merges ≡ length vs) × (merges ≤ 127)

sweep_counted : (s : Sweep) (n : ℕ) → Floats s → n ≤ 128 → Counted (book_of s (regions_of s (own_limits s))) (outcome s (lent_for n))
unfolding outcome first_missed
sweep_counted s n single few = go (first_no (nine_of s (lent_for n))) (sym (list_after (eight_of s (lent_for n)) nine))
  where
    nine : List Question
    nine = ask 9 (unfolded s (own_limits s)).merges_in_range ∷ []

    eight_none : (o : Option ℕ) → or_else o (first_no nine) ≡ none → o ≡ none
    eight_none none h = refl
    eight_none (some k) h = h

    go : (o : Option ℕ) → or_else (first_no (eight_of s (lent_for n))) (first_no nine) ≡ o → Counted (book_of s (regions_of s (own_limits s))) (answered o (unfolded s (own_limits s)))
    go none h = unfold answered in
        let c = merges_entries s (own_limits s) in
        (c, omega (arith, c, entries_few s (own_limits s), regions_few s (lent_for n) n single (lent_words n) (eight_none (first_no (eight_of s (lent_for n))) h)))
    go (some k) h = unfold answered in tt

file_counted : (f : List ℕ) → file_gates f ≤ 128 → Counted (file_book f) (file_outcome f)
unfolding file_book
file_counted f few = go (first_no (read_questions f (file_gates f) (file_gates f))) refl
  where
    s : Sweep
    s = as_sweep (sweep_in f)

    go : (o : Option ℕ) → first_no (read_questions f (file_gates f) (file_gates f)) ≡ o → Counted (book_of s (regions_of s (own_limits s))) (file_outcome f)
    go none e = subst (Counted (book_of s (regions_of s (own_limits s)))) (sym (outcome_none f e)) (sweep_counted s (file_gates f) (file_floats f) few)
    go (some k) e = subst (Counted (book_of s (regions_of s (own_limits s)))) (sym (outcome_some f k e)) tt

-- ---- what is printed

-- n and b being what an acceptance left of a book
module _ (f : List ℕ) (few : file_gates f ≤ 128) (n j : ℕ) (b lent : List ℤ) (a : Accepted (file_outcome f)) (e : booked_by 0 n b ≡ booked_of (file_outcome f) (file_book f) j lent) where
  pub book_most : n ≤ 127
  unfolding booked_of
  book_most = go (file_outcome f) a (file_counted f few) e
    where
      go : (o : Outcome) → Accepted o → Counted (file_book f) o → booked_by 0 n b ≡ booked_of o (file_book f) j lent → n ≤ 127
      go (refused i) a c e = absurd a
      go (accepted cs ds r m) a c e = let q : n ≡ m = ap (λ (x : Booked). x.entries) e in omega (arith, c.1)

  pub book_prints : printed_by 0 (rows_text (first_chunks 6 (length (take (6 * n) b) / 6) (take (6 * n) b))) ≡ printed_of (λ counts. book_text (file_book f)) (file_outcome f)
  unfolding printed_of booked_of
  book_prints = go (file_outcome f) a (file_counted f few) e
    where
      go : (o : Outcome) → Accepted o → Counted (file_book f) o → booked_by 0 n b ≡ booked_of o (file_book f) j lent
          → printed_by 0 (rows_text (first_chunks 6 (length (take (6 * n) b) / 6) (take (6 * n) b))) ≡ printed_of (λ counts. book_text (file_book f)) o
      go (refused i) a c e = absurd a
      go (accepted cs ds r m) a c e =
          ap (λ (x : Booked). printed_by 0 (rows_text (first_chunks 6 (length (take (6 * x.entries) x.book) / 6) (take (6 * x.entries) x.book)))) e
          ∙ ap (λ (w : List (List ℤ)). printed_by 0 (rows_text w)) (rows_held (file_book f) lent m c.0)
          ∙ ap (printed_by 0) (rows_are (file_book f))
