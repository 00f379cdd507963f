-- What a caller of `jivakkol_dealias_sweep` may rely on, from its contract alone: the statements of Theorems, proved. Assumes nothing.
use Prim.Native.Nat.{ℕ, ◌<◌}
use native.Mathlib.Omega.{arith}
use mathlib.Core.Path.{◌≡◌, refl, sym, ap, ◌∙◌}
use mathlib.Core.List.{List}
use mathlib.Core.Option.{Option, none, some}
use lib.ListN.{length, get_or}
use lib.IntN.{ℤ, pos, ◌+ℤ◌, +ℤ_idr}
use Rattle.network.specs.Network.{replay, trace}
use Rattle.sweep.specs.Sweep.{Sweep, Unfolded, unfolded}
use Rattle.sweep.specs.Questions.{accepted, gates_in, asked, first_missed, answered, outcome, own_limits}
use Rattle.sweep.specs.Call.{Memory, Answer, lengths, cleared_for, worked_on, ending, call}
use Rattle.sweep.specs.Entry.{answer_of}
use Rattle.sweep.proofs.PassedLaws.{missed_none}
use Rattle.locality.specs.Demand3.{Accepted, Does, label_at, first, count_at, mark_at, uncentred, offset}
use Rattle.locality.specs.Theorems.{Called, AnswerIs, RefusalKeeps, CountsAre, MarksMean, WorkCleared, EchoCounts, EchoLists}
use Rattle.locality.proofs.GateCounts.{valid_counts, no_offset, same_region}
use Rattle.locality.proofs.GateMarks.{mark_byte, gate_marks, mark_some, some_mark, mark_labelled, mark_valid}
use Rattle.locality.proofs.Demand3Laws.{merge_lists, two_sweeps}

-- ---- the end of a call by the first question that gets a no

module _ (s : Sweep) (m : Memory) where
  -- the sweep by its own limits
  abbrev own : Unfolded
  own = unfolded s (own_limits s)

  -- the end of the call, o being the first no and w the memory worked on
  abbrev end : Option ℕ → Memory → Answer
  end o w = ending (answered o own) w

  call_ends : call s m ≡ end (first_missed s (lengths m)) (worked_on s m)
  unfolding call outcome
  call_ends = refl

  number_ends : (o : Option ℕ) (w : Memory) → (end o w).number ≡ answer_of o
  unfolding ending answered
  number_ends none w = refl
  number_ends (some k) w = refl

  keeps_ends : (o : Option ℕ) (w : Memory) → 0 < answer_of o → (end o w).memory ≡ w
  unfolding ending answered
  keeps_ends none w h = absurd (omega arith)
  keeps_ends (some k) w h = refl

  words_end : (o : Option ℕ) (w : Memory) → ((end o w).memory.words ≡ w.words) × ((end o w).memory.floats ≡ w.floats)
  unfolding ending answered
  words_end none w = (refl, refl)
  words_end (some k) w = (refl, refl)

  -- the memory worked on, o being the first no of questions 1 to 8
  abbrev worked : Option ℕ → Memory
  worked o = elim o [ none ↦ cleared_for (gates_in s) m | some k ↦ m ]

  worked_by : {o : Option ℕ} → asked s (lengths m) ≡ o → worked_on s m ≡ worked o
  unfolding worked_on
  worked_by e = ap worked e

  worked_keeps : (o : Option ℕ) → ((worked o).counts ≡ m.counts) × ((worked o).doubtful ≡ m.doubtful) × ((worked o).pair ≡ m.pair)
  unfolding cleared_for
  worked_keeps none = (refl, refl, refl)
  worked_keeps (some k) = (refl, refl, refl)

-- ---- the theorems

pub answer_is : AnswerIs
answer_is s m a c = ap (λ (x : Answer). x.number) (c ∙ call_ends s m) ∙ number_ends s m (first_missed s (lengths m)) (worked_on s m)

pub refusal_keeps : RefusalKeeps
refusal_keeps s m a c h =
    let e : a.memory ≡ worked_on s m = ap (λ (x : Answer). x.memory) (c ∙ call_ends s m) ∙ keeps_ends s m (first_missed s (lengths m)) (worked_on s m) (rw (← answer_is s m a c) h) in
    let f : a.memory ≡ worked s m (asked s (lengths m)) = e ∙ worked_by s m refl in
    let k = worked_keeps s m (asked s (lengths m)) in
    record { counts = ap (λ (x : Memory). x.counts) f ∙ k.0; doubtful = ap (λ (x : Memory). x.doubtful) f ∙ k.1; pair = ap (λ (x : Memory). x.pair) f ∙ k.2; all = λ j w. e ∙ worked_by s m w }

-- a call that answers 0 ends as one with no question missed
accepts : (s : Sweep) (m : Memory) (a : Answer) → Called s m a → a.number ≡ 0 → (first_missed s (lengths m) ≡ none) × (a ≡ end s m none (worked_on s m))
accepts s m a c h =
    let e = missed_none s (lengths m) (sym (answer_is s m a c) ∙ h) in
    (e, c ∙ call_ends s m ∙ ap (λ (o : Option ℕ). end s m o (worked_on s m)) e)

pub counts_are : CountsAre
unfolding ending answered
counts_are s m a c h =
    let e = (accepts s m a c h).1 in
    record { counts = ap (λ (x : Answer). x.memory.counts) e; doubtful = ap (λ (x : Answer). x.memory.doubtful) e; pair = ap (λ (x : Answer). x.memory.pair) e }

pub marks_mean : MarksMean
marks_mean s m a c h g =
    let limits = own_limits s in
    let e : get_or a.memory.doubtful g 0 ≡ mark_at s limits (trace (first s limits) (unfolded s limits).merges) g = ap (λ (x : List ℕ). get_or x g 0) (counts_are s m a c h).doubtful ∙ gate_marks s limits g in
    record {
      byte = rw e (unfold mark_at in mark_byte (trace (first s limits) (unfolded s limits).merges) (label_at s limits g));
      doubted = λ w. mark_some s limits g (sym e ∙ w);
      one = λ d. e ∙ some_mark s limits g d;
      valid = λ w. mark_valid s limits g (sym e ∙ w);
      labelled = λ w. mark_labelled s limits g (sym e ∙ w);
    }

pub work_cleared : WorkCleared
work_cleared s m a c h =
    let e = c ∙ call_ends s m in
    let k = words_end s m (first_missed s (lengths m)) (worked_on s m) in
    let w : worked_on s m ≡ cleared_for (gates_in s) m = worked_by s m h in
    record {
      words = ap (λ (x : Answer). x.memory.words) e ∙ k.0 ∙ ap (λ (x : Memory). x.words) w;
      floats = ap (λ (x : Answer). x.memory.floats) e ∙ k.1 ∙ ap (λ (x : Memory). x.floats) w;
    }

-- a call that answers 0 has an accepted sweep, and the counts and marks it leaves are the sweep's
call_accepts : (s : Sweep) (m : Memory) (a : Answer) → Called s m a → a.number ≡ 0 → Accepted s a.memory.counts a.memory.doubtful
unfolding outcome answered
call_accepts s m a c h = record {
  lent = lengths m;
  regions = (own s m).regions;
  merges = length (own s m).merges;
  yes =
      ap (λ (o : Option ℕ). answered o (own s m)) (accepts s m a c h).0
      ∙ (λ i. accepted (sym (counts_are s m a c h).counts i) (sym (counts_are s m a c h).doubtful i) (own s m).regions (length (own s m).merges));
}

pub echo_counts : EchoCounts
echo_counts E s t m n a b c d y z alike p q = two_sweeps E s t a.memory.counts b.memory.counts a.memory.doubtful b.memory.doubtful (call_accepts s m a c y) (call_accepts t n b d z) alike p q

pub echo_lists : EchoLists
echo_lists E s m a c y p l is = record { does = d; counts = at_gate; marks = λ g. ap (λ (x : List ℕ). get_or x g 0) (counts_are s m a c y).doubtful ∙ sym (d.marks g) }
  where
    d : Does s (own_limits s) l
    d = merge_lists E s a.memory.counts a.memory.doubtful (call_accepts s m a c y) p l is

    at_gate : (g : ℕ) → get_or s.mask g 0 ≡ 1 → get_or a.memory.counts g (pos 0) +ℤ offset s ≡ count_at s (own_limits s) (replay (first s (own_limits s)) l) g
    at_gate g h =
        ap (λ (x : List ℤ). get_or x g (pos 0) +ℤ offset s) (counts_are s m a c y).counts
        ∙ valid_counts s (own_limits s) g h
        ∙ sym (same_region s (own_limits s) g)
        ∙ sym (valid_counts (uncentred s) (own_limits s) g (unfold uncentred in h))
        ∙ ap (λ (z : ℤ). get_or (unfolded (uncentred s) (own_limits s)).counts g (pos 0) +ℤ z) (no_offset (uncentred s) (own_limits s) (unfold uncentred in refl))
        ∙ +ℤ_idr (get_or (unfolded (uncentred s) (own_limits s)).counts g (pos 0))
        ∙ sym (d.counts g)
