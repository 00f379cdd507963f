-- The calls that fill a test sweep by the answer of their questions, and one word of state written. Assumes nothing.
use Rattle.std.proofs.Common.{◌≡◌, ℕ, ◌*◌, Bool, true, false, eqb, List, [], ◌∷◌, length, get_or, set, sym, refl, ap, ◌∙◌, true≢false, arith, ne_eqb}
use mathlib.Core.Option.{Option, none, some}
use lib.Ieee.{Float}
use Rattle.lists.specs.Seq.{all}
use Rattle.sweep.specs.Entry.{answer_of}
use Rattle.sweep.proofs.FillLaws.{one_set}
use Rattle.sweep.proofs.PassedLaws.{long_are}
use Rattle.sweep.proofs.QuestionLaws.{zero_none, all_yes}
use Rattle.test_sweep.specs.Generator.{state_after, velocities, mask_bytes}
use Rattle.test_sweep.specs.Call.{Slices, slices_of, filled, asked_test, FillAnswer, fill_answer_by, call_fill, TestAnswer, test_answer_by, call_test}
use Rattle.test_sweep.specs.Theorems.{TestAnswerIs, TestSweepIs, TestRefusalKeeps, HostSame}

-- ---- questions 1 and 2
module _ (rays gates : ℕ) (m : Slices) (own : Bool) where
  -- a code's answer of 0 says that none got a no
  pub none_missed : (r : ℕ) → r ≡ answer_of (asked_test rays gates m own) → r ≡ 0 → asked_test rays gates m own ≡ none
  unfolding asked_test all
  none_missed r e z = zero_none _ refl (sym e ∙ z)

  -- any other is the number of the first no
  pub some_missed : (r : ℕ) → r ≡ answer_of (asked_test rays gates m own) → (r ≡ 0 → ⊥) → asked_test rays gates m own ≡ some r
  some_missed r e h = go (asked_test rays gates m own) e
    where
      go : (o : Option ℕ) → r ≡ answer_of o → o ≡ some r
      go none e = absurd (h e)
      go (some k) e = ap some (sym e)

  pub lengths : asked_test rays gates m own ≡ none → (length m.vel ≡ rays * gates) × (length m.mask ≡ rays * gates) × (own ≡ true)
  unfolding asked_test
  lengths h = long_are (rays * gates) m.vel m.mask own (all_yes _ _ (all_yes _ _ h).1).0

-- ---- the library function's call
module _ (rays gates state : ℕ) (m : Slices) where
  -- its end by the first no
  abbrev fill_end : Option ℕ → FillAnswer
  fill_end o = elim o [ none ↦ fill_answer_by 0 (state_after (rays * gates) state) (filled (rays * gates) state) | some k ↦ fill_answer_by k state m ]

  fill_ends : call_fill rays gates state m ≡ fill_end (asked_test rays gates m true)
  unfolding call_fill
  fill_ends = refl

  pub fill_answer_is : (call_fill rays gates state m).number ≡ answer_of (asked_test rays gates m true)
  fill_answer_is = ap (λ (a : FillAnswer). a.number) fill_ends ∙ go (asked_test rays gates m true)
    where
      go : (o : Option ℕ) → (fill_end o).number ≡ answer_of o
      go none = refl
      go (some k) = refl

  pub fill_refused : (r : ℕ) → asked_test rays gates m true ≡ some r → fill_answer_by r state m ≡ call_fill rays gates state m
  fill_refused r h = sym (fill_ends ∙ ap fill_end h)

  pub fill_accepted : asked_test rays gates m true ≡ none → call_fill rays gates state m ≡ fill_answer_by 0 (state_after (rays * gates) state) (filled (rays * gates) state)
  fill_accepted h = fill_ends ∙ ap fill_end h

  -- what the loop left, n being the length of the slices
  pub fill_done : (r : ℕ) (vel : List Float) (mask : List ℕ) → asked_test rays gates m true ≡ none
      → (let n = length m.vel in (r ≡ state_after n state) × (vel ≡ velocities n state) × (mask ≡ mask_bytes n state)) → fill_answer_by 0 r (slices_of vel mask) ≡ call_fill rays gates state m
  unfolding filled
  fill_done r vel mask h e =
      let l = (lengths rays gates m true h).0 in
      (λ i. fill_answer_by 0 ((e.0 ∙ ap (λ (j : ℕ). state_after j state) l) i) (slices_of ((e.1 ∙ ap (λ (j : ℕ). velocities j state) l) i) ((e.2 ∙ ap (λ (j : ℕ). mask_bytes j state) l) i)))
      ∙ sym (fill_accepted h)

-- ---- the exported call
module _ (rays gates : ℕ) (word : List ℕ) (m : Slices) where
  abbrev own : Bool
  own = eqb (length word) 1

  abbrev test_end : Option ℕ → TestAnswer
  test_end o = elim o [ none ↦ test_answer_by 0 (state_after (rays * gates) (get_or word 0 0) ∷ []) (filled (rays * gates) (get_or word 0 0)) | some k ↦ test_answer_by k word m ]

  test_ends : call_test rays gates word m ≡ test_end (asked_test rays gates m own)
  unfolding call_test
  test_ends = refl

  test_refused : (r : ℕ) → asked_test rays gates m own ≡ some r → test_answer_by r word m ≡ call_test rays gates word m
  test_refused r h = sym (test_ends ∙ ap test_end h)

  -- a state of another length than one word
  pub test_other : (length word ≡ 1 → ⊥) → (o : Option ℕ) → o ≡ asked_test rays gates m false → test_answer_by (answer_of o) word m ≡ call_test rays gates word m
  test_other h none e = absurd (true≢false (sym (lengths rays gates m false (sym e)).2))
  test_other h (some k) e = test_refused k (ap (asked_test rays gates m) (ne_eqb (length word) 1 h) ∙ sym e)

-- with one word it is the library function's call
pub host_same : HostSame
unfolding call_test call_fill
host_same rays gates state m = go (asked_test rays gates m true)
  where
    go : (o : Option ℕ) → test_end rays gates (state ∷ []) m o ≡ (let a = fill_end rays gates state m o in test_answer_by a.number (a.state ∷ []) a.slices)
    go none = refl
    go (some k) = refl

-- one word, read
one_read : (l : List ℕ) → length l ≡ 1 → get_or l 0 0 ∷ [] ≡ l
one_read [] e = absurd (omega arith)
one_read (x ∷ []) e = refl
one_read (x ∷ y ∷ l) e = absurd (omega arith)

module _ (rays gates : ℕ) (word : List ℕ) (m : Slices) (h : length word ≡ 1) where
  -- the library function's call on the word, and its state in place of it
  word_done : (a : FillAnswer) → a ≡ call_fill rays gates (get_or word 0 0) m → test_answer_by a.number (a.state ∷ []) a.slices ≡ call_test rays gates word m
  word_done a e =
      ap (λ (x : FillAnswer). test_answer_by x.number (x.state ∷ []) x.slices) e
      ∙ sym (host_same rays gates (get_or word 0 0) m)
      ∙ ap (λ (w : List ℕ). call_test rays gates w m) (one_read word h)

  -- the state written there
  pub test_done : (a : FillAnswer) → a ≡ call_fill rays gates (get_or word 0 0) m → test_answer_by a.number (set word 0 a.state) a.slices ≡ call_test rays gates word m
  test_done a e = ap (λ (w : List ℕ). test_answer_by a.number w a.slices) (one_set word a.state h) ∙ word_done a e

  -- a refusal, which leaves the word
  pub test_kept : (k : ℕ) (s : Slices) → fill_answer_by k (get_or word 0 0) s ≡ call_fill rays gates (get_or word 0 0) m → test_answer_by k word s ≡ call_test rays gates word m
  test_kept k s e = ap (λ (w : List ℕ). test_answer_by k w s) (sym (one_read word h)) ∙ word_done (fill_answer_by k (get_or word 0 0) s) e

-- ---- the other statements on one call

pub test_answer_is : TestAnswerIs
test_answer_is rays gates word m = ap (λ (a : TestAnswer). a.number) (test_ends rays gates word m) ∙ go (asked_test rays gates m (eqb (length word) 1))
  where
    go : (o : Option ℕ) → (test_end rays gates word m o).number ≡ answer_of o
    go none = refl
    go (some k) = refl

pub test_sweep_is : TestSweepIs
test_sweep_is rays gates word m e = test_ends rays gates word m ∙ ap (test_end rays gates word m) (none_missed rays gates m (eqb (length word) 1) _ (test_answer_is rays gates word m) e)

pub test_refusal_keeps : TestRefusalKeeps
test_refusal_keeps rays gates word m h = sym (test_refused rays gates word m _ (some_missed rays gates m (eqb (length word) 1) _ (test_answer_is rays gates word m) h))
