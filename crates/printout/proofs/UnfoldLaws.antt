-- What the program `unfold` prints of the sweep entry's answer, and for a file. Assumes nothing.
use Rattle.std.proofs.Common.{◌≡◌, ℕ, ◌+◌, ◌*◌, ◌<◌, ◌≤◌, true, cond, leb, ltb, List, [], map, length, take, ℤ, refl, sym, ap, ◌∙◌, arith, le-leb, ltb-true, length-take-le}
use borrow.Author.Tests.{lt-leb}
use mathlib.Core.Option.{Option, none, some}
use lib.Ieee.{Float, binary32, of_bits}
use Rattle.lists.specs.Seq.{all}
use Rattle.network.specs.declared.options.Options.{Options as Settings}
use Rattle.sweep.specs.declared.refusal.Refusal.{Refusal}
use Rattle.sweep.specs.declared.refusal.Refusal.TheVariants.{Size, Lengths, Mask, Work, Nyquist, Options, Velocities, Limits, Merges, Counts, CutShort, Malformed, Book, Window}
use Rattle.sweep.specs.Entry.{sweep_by, answer_of}
use Rattle.sweep.specs.Refusal.{number_of}
use Rattle.sweep.specs.Sweep.{Sweep, unfolded}
use Rattle.sweep.specs.Questions.{Outcome, refused, accepted, Lent, first_no, words_for, floats_for, seven, nine_of, gates_in, own_limits, asked, first_missed, answered, outcome}
use Rattle.sweep.specs.Call.{Memory, Answer, memory_of, answer_by, lengths, cleared_for, worked_on, ending, call}
use Rattle.sweep.proofs.QuestionLaws.{zero_none, no_meets}
use Rattle.files.specs.declared.format.Header.{Header}
use Rattle.files.specs.Format.{stored, options_by, u16_at, sweep_in}
use Rattle.files.specs.Questions.{as_sweep, header_questions, read_questions}
use Rattle.files.specs.Calls.{Read, read, read_by}
use Rattle.files.proofs.CallLaws.{read_number, read_named, read_whole}
use Rattle.printout.specs.Unfold.{file_gates, lent_for, file_outcome, printed_by, printed_of, printed_with}
use Rattle.printout.specs.Inside.Folds.{Folds, folds_by, folds_of}

-- ---- the sweep entry's answer, of counts alone

-- what clearing the work memory leaves as it is
pub kept_over : {A : Type 0} (g : Memory → A) (s : Sweep) (m : Memory) → ((n : ℕ) → g (cleared_for n m) ≡ g m) → g (worked_on s m) ≡ g m
unfolding worked_on
kept_over g s m h = go (asked s (lengths m)) refl
  where
    go : (o : Option ℕ) → asked s (lengths m) ≡ o → g (worked_on s m) ≡ g m
    go none e = rw (e, worked_on) (h (gates_in s))
    go (some k) e = rw (e, worked_on) refl

kept_counts : (s : Sweep) (m : Memory) → (worked_on s m).counts ≡ m.counts
unfolding cleared_for
kept_counts s m = kept_over (λ (x : Memory). x.counts) s m (λ n. refl)

call_folds : (s : Sweep) (m : Memory) → folds_by (call s m).number (call s m).memory.counts ≡ folds_of (outcome s (lengths m)) m.counts
unfolding call
call_folds s m = go (outcome s (lengths m))
  where
    go : (o : Outcome) → folds_by (ending o (worked_on s m)).number (ending o (worked_on s m)).memory.counts ≡ folds_of o m.counts
    go (refused k) = unfold ending folds_of in ap (folds_by k) (kept_counts s m)
    go (accepted cs ds r k) = unfold ending folds_of in refl

-- ---- the answer to a file

pub outcome_some : (f : List ℕ) (k : ℕ) → first_no (read_questions f (file_gates f) (file_gates f)) ≡ some k → file_outcome f ≡ refused k
unfolding file_outcome
outcome_some f k h = rw (h, file_outcome) refl

pub outcome_none : (f : List ℕ) → first_no (read_questions f (file_gates f) (file_gates f)) ≡ none → file_outcome f ≡ outcome (as_sweep (sweep_in f)) (lent_for (file_gates f))
unfolding file_outcome
outcome_none f h = rw (h, file_outcome) refl

-- a refusal's number is not 0
named : (e : Refusal) → 0 < number_of e
named Size = omega arith
named Lengths = omega arith
named Mask = omega arith
named Work = omega arith
named Nyquist = omega arith
named Options = omega arith
named Velocities = omega arith
named Limits = omega arith
named Merges = omega arith
named Counts = omega arith
named CutShort = omega arith
named Malformed = omega arith
named Book = omega arith
named Window = omega arith

-- the reader's answer to a file, vs and ms being what it left of the memory lent
module _ (f vel mask : List ℕ) (a : length vel ≡ file_gates f) (b : length mask ≡ file_gates f) (vs ms : List ℕ) where
  number_is : (k : ℕ) (hd : Header) → read_by k hd vs ms ≡ read f vel mask → k ≡ answer_of (first_no (read_questions f (file_gates f) (file_gates f)))
  number_is k hd e = ap (λ (r : Read). r.number) e ∙ read_number f vel mask ∙ (λ i. answer_of (first_no (read_questions f (a i) (b i))))

  pub file_refused : (k : Refusal) (hd : Header) → read_by (number_of k) hd vs ms ≡ read f vel mask → file_outcome f ≡ refused (number_of k)
  file_refused k hd e = go (first_no (read_questions f (file_gates f) (file_gates f))) refl (number_is (number_of k) hd e)
    where
      go : (o : Option ℕ) → first_no (read_questions f (file_gates f) (file_gates f)) ≡ o → number_of k ≡ answer_of o → file_outcome f ≡ refused (number_of k)
      go none h z = absurd (omega (arith, named k, z))
      go (some j) h z = outcome_some f j h ∙ ap refused (sym z)

  module _ (hd : Header) (e : read_by 0 hd vs ms ≡ read f vel mask) where
    whole : first_no (read_questions f (file_gates f) (file_gates f)) ≡ none
    whole = zero_none (read_questions f (file_gates f) (file_gates f)) (read_named f (file_gates f) (file_gates f)) (sym (number_is 0 hd e))

    -- what the sweep entry is handed
    pub file_read : (o : Settings) (us : List Float) → o ≡ options_by hd → us ≡ map (of_bits binary32) vs
        → (sweep_by o us ms ≡ as_sweep (sweep_in f)) × (file_outcome f ≡ outcome (as_sweep (sweep_in f)) (lent_for (file_gates f)))
    unfolding as_sweep
    file_read o us p q =
        let same : stored hd vs ms ≡ sweep_in f = ap (λ (r : Read). r.sweep) (e ∙ read_whole f vel mask ((λ i. first_no (read_questions f (a i) (b i))) ∙ whole)) in
        ((λ i. sweep_by (p i) (q i) ms) ∙ ap as_sweep same, outcome_none f whole)

-- the counts that a refusal leaves
pub folds_refused : (f : List ℕ) (k : ℕ) (counts : List ℤ) → file_outcome f ≡ refused k → folds_by k counts ≡ folds_of (file_outcome f) counts
unfolding folds_of
folds_refused f k counts e = ap (λ (o : Outcome). folds_of o counts) (sym e)

-- and those of the sweep entry's answer
pub file_unfolded : (f : List ℕ) (s : Sweep) (m : Memory) (r : ℕ) (cs : List ℤ) (ds p w : List ℕ) (d : List Float) → s ≡ as_sweep (sweep_in f) → file_outcome f ≡ outcome (as_sweep (sweep_in f)) (lent_for (file_gates f))
    → lengths m ≡ lent_for (file_gates f) → answer_by r cs ds p w d ≡ call s m → folds_by r cs ≡ folds_of (file_outcome f) m.counts
file_unfolded f s m r cs ds p w d h o l t =
    ap (λ (x : Answer). folds_by x.number x.memory.counts) t
    ∙ call_folds s m
    ∙ (λ i. folds_of (outcome (h i) (l i)) m.counts)
    ∙ sym (ap (λ (x : Outcome). folds_of x m.counts) o)

-- ---- what is printed of an answer

-- the number of a refusal; any other than 0 of an acceptance
abbrev refusal_in : Outcome → ℕ
refusal_in (refused k) = k
refusal_in (accepted counts doubtful regions merges) = 1

above : (k : ℕ) → 0 < k → k ≡ 0 → ⊥
above k a b = omega arith

-- no question has the number 0
nine_named : (s : Sweep) (l : Lent) → all (λ q. ltb 0 q.number) (nine_of s l) ≡ true
unfolding all seven
nine_named s l = refl

sweep_zero : (s : Sweep) (l : Lent) → refusal_in (outcome s l) ≡ 0 → ⊥
unfolding outcome first_missed answered
sweep_zero s l h = go (first_no (nine_of s l)) refl h
  where
    go : (o : Option ℕ) → first_no (nine_of s l) ≡ o → refusal_in (answered o (unfolded s (own_limits s))) ≡ 0 → ⊥
    go none e h = above 1 (omega arith) h
    go (some k) e h = above k (ltb-true 0 k (no_meets (ltb 0) (nine_of s l) k (nine_named s l) e)) h

file_zero : (f : List ℕ) → refusal_in (file_outcome f) ≡ 0 → ⊥
file_zero f h = go (first_no (read_questions f (file_gates f) (file_gates f))) refl
  where
    go : (o : Option ℕ) → first_no (read_questions f (file_gates f) (file_gates f)) ≡ o → ⊥
    go none e = sweep_zero (as_sweep (sweep_in f)) (lent_for (file_gates f)) (sym (ap refusal_in (outcome_none f e)) ∙ h)
    go (some k) e = above k (ltb-true 0 k (no_meets (ltb 0) (read_questions f (file_gates f) (file_gates f)) k (read_named f (file_gates f) (file_gates f)) e)) (sym (ap refusal_in (outcome_some f k e)) ∙ h)

-- whether an answer is an acceptance; that to a file is one where its number is 0
abbrev pub Accepted : Outcome → Type 0
Accepted (refused k) = ⊥
Accepted (accepted counts doubtful regions merges) = Unit {0}

module _ (f : List ℕ) (text : List ℤ → List ℕ) (counts lent : List ℤ) where
  -- a refusal prints nothing
  pub refused_prints : (e : Refusal) → folds_by (number_of e) counts ≡ folds_of (file_outcome f) lent → printed_by (number_of e) [] ≡ printed_of text (file_outcome f)
  unfolding printed_of folds_of
  refused_prints e h = go (file_outcome f) h
    where
      go : (o : Outcome) → folds_by (number_of e) counts ≡ folds_of o lent → printed_by (number_of e) [] ≡ printed_of text o
      go (refused j) h = ap (λ (x : Folds). printed_by x.number []) h
      go (accepted cs ds r m) h = absurd (above (number_of e) (named e) (ap (λ (x : Folds). x.number) h))

  pub folds_accepted : folds_by 0 counts ≡ folds_of (file_outcome f) lent → Accepted (file_outcome f)
  unfolding folds_of
  folds_accepted h = go (file_outcome f) (file_zero f) h
    where
      go : (o : Outcome) → (refusal_in o ≡ 0 → ⊥) → folds_by 0 counts ≡ folds_of o lent → Accepted o
      go (refused j) n h = n (sym (ap (λ (x : Folds). x.number) h))
      go (accepted cs ds r m) n h = tt

  -- and an acceptance its counts
  pub counts_print : folds_by 0 counts ≡ folds_of (file_outcome f) lent → printed_by 0 (text counts) ≡ printed_of text (file_outcome f)
  unfolding printed_of folds_of
  counts_print h = go (file_outcome f) (folds_accepted h) h
    where
      go : (o : Outcome) → Accepted o → folds_by 0 counts ≡ folds_of o lent → printed_by 0 (text counts) ≡ printed_of text o
      go (refused j) a h = absurd a
      go (accepted cs ds r m) a h = ap (λ (x : Folds). printed_by 0 (text x.counts)) h

-- ---- what is printed for a file

module _ (f : List ℕ) (text : List ℤ → List ℕ) where
  pub fault_prints : (k : ℕ) → some k ≡ first_no (header_questions f) → printed_by k [] ≡ printed_with text f
  unfolding printed_with
  fault_prints k e = sym (rw (sym e, printed_with) refl)

  module _ (e : none ≡ first_no (header_questions f)) (n : ℕ) (g : n ≡ file_gates f) where
    by_gates : printed_with text f ≡ cond (leb (file_gates f) 128) (printed_of text (file_outcome f)) (printed_by 0 [])
    unfolding printed_with
    by_gates = rw (sym e, printed_with) refl

    pub many_print : 128 < n → printed_by 0 [] ≡ printed_with text f
    many_print h = sym (by_gates ∙ rw (lt-leb (file_gates f) 128 (omega (arith, g))) refl)

    pub few_print : n ≤ 128 → printed_of text (file_outcome f) ≡ printed_with text f
    few_print h = sym (by_gates ∙ rw (le-leb (file_gates f) 128 (omega (arith, g))) refl)

-- ---- lengths

-- what is lent of a memory that is long enough
module _ (f : List ℕ) (counts : List ℤ) (doubtful pair words : List ℕ) (floats : List Float) where
  abbrev pub part_lent : Memory
  part_lent = memory_of counts (take (length counts) doubtful) pair (take (96 * length counts + 64) words) (take (16 * length counts + 16) floats)

  pub lent_is : length counts ≡ file_gates f → length pair ≡ 2 → length counts ≤ length doubtful → 96 * length counts + 64 ≤ length words → 16 * length counts + 16 ≤ length floats → lengths part_lent ≡ lent_for (file_gates f)
  unfolding lengths lent_for words_for floats_for
  lent_is e p d w x =
      let a = length-take-le (length counts) doubtful d in
      let b = length-take-le (96 * length counts + 64) words w in
      let c = length-take-le (16 * length counts + 16) floats x in
      λ i. record { counts = e i; doubtful = (a ∙ e) i; pair = p i; words = (b ∙ ap (λ (k : ℕ). 96 * k + 64) e) i; floats = (c ∙ ap (λ (k : ℕ). 16 * k + 16) e) i }

pub gates_are : (f : List ℕ) (rays gates n : ℕ) → rays ≡ u16_at f 3 → gates ≡ u16_at f 5 → n ≡ rays * gates → n ≡ file_gates f
unfolding file_gates
gates_are f rays gates n r g e = e ∙ (λ i. r i * g i)
