-- From what finding leaves in the work memory to the counts, the marks and the pair of the definition. Assumes nothing.
use Rattle.std.proofs.Common.{◌≡◌, ℕ, zero, suc, ◌+◌, ◌*◌, ◌<◌, ◌≤◌, Bool, true, false, cond, not, ◌&&◌, eqb, List, length, get_or, ℤ, pos, sym, refl, ap, ◌∙◌, subst, true≢false, arith}
use lib.IntN.{sub_ℕ}
use lib.Ieee.{Float, binary64, div}
use Rattle.arithmetic.specs.Rounding.{round_even, real}
use Rattle.lists.specs.Seq.{tabulate}
use Rattle.arithmetic.specs.Intervals.{two_nyquist}
use Rattle.lists.proofs.SeqLaws.{tab_at, tab_same}
use Rattle.lists.proofs.SegLaws.{get_or-seg}
use Rattle.labels.specs.Label.{Found}
use Rattle.network.specs.Network.{State, Event, size_in, replay, merges, trace, count_of, gates_of, marked, mark_of, network_by, merges_in_range}
use Rattle.edges.specs.Edges.{pairs, used}
use Rattle.merge.specs.Inside.Steps.{unbias}
use Rattle.memory.specs.Inside.Layout.{sizes_at, counts_at, marks_at}
use Rattle.memory.specs.Size.{gates_of_largest}
use Rattle.network.specs.Inside.Find.{Finding, shape_of, network_for, finding_of, Leaves}
use Rattle.network.proofs.Joint.{gates_from, gates_most}
use Rattle.network.proofs.Settles.{ran_no, ran_yes}
use Rattle.network.proofs.BookLaws.{merges_less}
use Rattle.network.specs.declared.options.Options.{Options}
use Rattle.network.specs.declared.find.Run.{Run}
use Rattle.std.specs.Prelude.{Ok, Err}
use Rattle.network.specs.Inside.Settle.{refused as run_refused}
use Rattle.sweep.specs.Sweep.{Sweep, or_zero, weighed, mean_of, network_of, offset_of, final, gate_count, finished, unfolded_by}
use Rattle.sweep.specs.Questions.{refused, accepted, first_no, answered, asked9}
use Rattle.sweep.specs.Entry.{sweep_by}
use Rattle.sweep.specs.Inside.Mean.{sum_from, size_at, held_at}
use Rattle.sweep.specs.Inside.Finish.{offset_by, counts_by, marks_by, WritesMarks, Finishes, WritesFound, outcome_by}
use Rattle.sweep.proofs.MeanLaws.{weighed_is, gates_is, last_labels, last_sizes}
use Rattle.sweep.proofs.EarlyEnd.{ends_same}

-- ---- sums

sum_same : (f g : ℕ → ℕ) (i k : ℕ) → ((j : ℕ) → i ≤ j → j < i + k → f j ≡ g j) → sum_from f i k ≡ sum_from g i k
unfolding sum_from
sum_same f g i zero h = refl
sum_same f g i (suc k) h = ap (λ (x : ℕ). x + sum_from f (suc i) k) (h i (omega arith) (omega arith)) ∙ ap (λ (x : ℕ). g i + x) (sum_same f g (suc i) k (λ j p q. h j (omega arith) (omega arith)))

-- regions hold no more gates than there are
sizes_sum_up : (L : List ℕ) (i k : ℕ) → gates_from L i k ≡ sum_from (size_in L) i k
unfolding gates_from sum_from
sizes_sum_up L i zero = refl
sizes_sum_up L i (suc k) = ap (λ (x : ℕ). size_in L i + x) (sizes_sum_up L (suc i) k)

pub sizes_few : (L : List ℕ) (i k : ℕ) → sum_from (size_in L) i k ≤ length L
sizes_few L i k = omega (arith, gates_most L i k, sizes_sum_up L i k)

-- a mark is 0 or 1
mark_most : (vs : List Event) (l : ℕ) → mark_of vs l ≤ 1
unfolding mark_of
mark_most vs l = go (not (eqb l 0) && marked vs l)
  where
    go : (b : Bool) → cond b 1 0 ≤ 1
    go true = omega arith
    go false = omega arith

-- ---- what was found

abbrev accepts : Finding → Bool
accepts (Ok r) = true
accepts (Err e) = false

abbrev run_of : Finding → Run
run_of (Ok r) = r
run_of (Err e) = record { regions = 0; merges = 0 }

-- F being the regions of n gates, v the words and x the answer that finding left
module _ (o : Options) (vel : List Float) (mask : List ℕ) (F : Found) (n : ℕ) (v : List ℕ) (x : Finding) (R : Leaves F (network_for o F vel) n v x)
    (masks : length mask ≡ n) (small : n ≤ gates_of_largest) (room : 77 * n + 64 ≤ length v) (few : F.number ≤ n) (long : length F.labels ≡ n) (low : (g : ℕ) → get_or F.labels g 0 ≤ F.number) where
  abbrev t : State
  t = network_for o F vel

  abbrev k : ℕ
  k = F.number

  abbrev L : List ℕ
  L = F.labels

  size_at_lem : (l : ℕ) → l ≤ k → size_at v n l ≡ size_in L l
  unfolding size_at
  size_at_lem l h = sym (get_or-seg v (sizes_at n) (k + 1) l 0 (omega arith)) ∙ ap (λ (x : List ℕ). get_or x l 0) R.tables.sizes ∙ tab_at (size_in L) (k + 1) l 0 (omega arith)

  sizes_sum : sum_from (size_at v n) 1 k ≡ sum_from (size_in L) 1 k
  sizes_sum = sum_same (size_at v n) (size_in L) 1 k (λ j a b. size_at_lem j (omega arith))

  held_sum : sum_from (held_at v n k) 1 k ≡ sum_from (λ l. size_in L l * get_or v (counts_at n k + l) 0) 1 k
  unfolding held_at
  held_sum = sum_same (held_at v n k) (λ l. size_in L l * get_or v (counts_at n k + l) 0) 1 k (λ j a b. ap (λ (x : ℕ). x * get_or v (counts_at n k + j) 0) (size_at_lem j (omega arith)))

  label_at : (g : ℕ) → g < n → get_or v g 0 ≡ get_or L g 0
  label_at g h =
      let z : g ≡ 0 + g = omega arith in
      ap (λ (i : ℕ). get_or v i 0) z ∙ sym (get_or-seg v 0 n g 0 h) ∙ ap (λ (x : List ℕ). get_or x g 0) R.tables.labels

  label_most : (g : ℕ) → g < n → get_or v g 0 ≤ k
  label_most g h = omega (arith, label_at g h, low g)

  -- ---- what was found, by question 9

  pub found_no : merges_in_range t ≡ false → x ≡ run_refused
  found_no g = R.answer ∙ ap (finding_of k) (ran_no t g)

  pub found_yes : merges_in_range t ≡ true → x ≡ Ok (record { regions = k; merges = length (merges t) })
  found_yes g = R.answer ∙ ap (finding_of k) (ran_yes t g)

  -- ---- what writing asks

  pub good_if : (r : Run) → x ≡ Ok r → merges_in_range t ≡ true
  good_if r e = go (merges_in_range t) refl
    where
      go : (b : Bool) → merges_in_range t ≡ b → merges_in_range t ≡ true
      go true g = g
      go false g = absurd (true≢false (ap accepts (sym e ∙ found_no g)))

  pub run_is : (r : Run) → x ≡ Ok r → r ≡ record { regions = k; merges = length (merges t) }
  run_is r e = ap run_of (sym e ∙ found_yes (good_if r e))

  finishes : merges_in_range t ≡ true → (m : ℕ) → m ≡ n → (c : ℕ) → c ≡ n → Finishes v m k mask c
  finishes g m em c ec = subst (λ (z : ℕ). Finishes v z k mask c) (sym em) (record {
    tabled = record {
      room = omega (arith, few, room);
      few = omega (arith, sizes_sum, sizes_few L 1 k, long, small);
      most = R.tables.most g;
    };
    masks = masks;
    counts = ec;
    label = label_most;
  })

  marks_ask : merges_in_range t ≡ true → (m : ℕ) → m ≡ n → (b : ℕ) → b ≡ n → WritesMarks v m k b
  marks_ask g m em b eb = subst (λ (z : ℕ). WritesMarks v z k b) (sym em) (record {
    room = omega (arith, few, room);
    bytes = eb;
    label = label_most;
    most = λ l h. omega (arith, R.tables.marks g l h, mark_most (trace t (merges t)) l);
  })

  pub ready : (c b two : ℕ) → c ≡ n → b ≡ n → two ≡ 2 → WritesFound x v mask c b two
  ready c b two ec eb et = record {
    tables = λ r e. subst (λ (z : ℕ). Finishes v (length mask) z mask c) (sym (ap (λ (y : Run). y.regions) (run_is r e))) (finishes (good_if r e) (length mask) masks c ec);
    marks = λ r e. subst (λ (z : ℕ). WritesMarks v (length mask) z b) (sym (ap (λ (y : Run). y.regions) (run_is r e))) (marks_ask (good_if r e) (length mask) masks b eb);
    few = λ r e. (
      omega (arith, ap (λ (y : Run). y.regions) (run_is r e), few, small),
      omega (arith, ap (λ (y : Run). y.merges) (run_is r e), merges_less (two_nyquist o.nyquist) (shape_of o) k L vel, few, small),
    );
    pair = et;
  }

  -- ---- what is written is the definition's

  abbrev s : Sweep
  s = sweep_by o vel mask

  module _ (good : merges_in_range t ≡ true) where
    last_weighed : weighed (replay t (merges t)).regions ≡ sub_ℕ (sum_from (held_at v n k) 1 k) (1000 * sum_from (size_at v n) 1 k)
    last_weighed =
        let S : ℕ → ℕ = size_in L in
        let C : ℕ → ℕ = λ l. get_or v (counts_at n k + l) 0 in
        let es = used k (pairs (shape_of o) L vel) in
        weighed_is (replay t (merges t)).regions k 1 S C (unfold network_by in last_labels (two_nyquist o.nyquist) es k S (merges t)) (unfold network_by in last_sizes (two_nyquist o.nyquist) es k S (merges t))
        (λ l a b. sym (R.tables.counts good l (omega arith)))
        ∙ ap (λ (x : ℕ). sub_ℕ x (1000 * sum_from S 1 k)) (sym held_sum) ∙ ap (λ (x : ℕ). sub_ℕ (sum_from (held_at v n k) 1 k) (1000 * x)) (sym sizes_sum)

    last_gates : gates_of (replay t (merges t)).regions ≡ sum_from (size_at v n) 1 k
    last_gates =
        let S : ℕ → ℕ = size_in L in
        let es = used k (pairs (shape_of o) L vel) in
        gates_is (replay t (merges t)).regions k 1 S (unfold network_by in last_sizes (two_nyquist o.nyquist) es k S (merges t)) ∙ sym sizes_sum

    offset_is : offset_by v n k o.centred ≡ offset_of s (final t)
    unfolding offset_of mean_of final
    offset_is =
        ap (λ (z : ℤ). cond (eqb o.centred 1) z (pos 0))
        (sym (ap (λ (z : ℤ). or_zero (round_even (div binary64 (real z) (real (pos (gates_of (replay t (merges t)).regions)))))) last_weighed
        ∙ ap (λ (x : ℕ). or_zero (round_even (div binary64 (real (sub_ℕ (sum_from (held_at v n k) 1 k) (1000 * sum_from (size_at v n) 1 k))) (real (pos x))))) last_gates))

    counts_are : counts_by v (length mask) k mask o.centred ≡ tabulate (length mask) (λ g. gate_count (offset_of s (final t)) (get_or mask g 0) (count_of (final t).regions (get_or L g 0)))
    unfolding final
    counts_are =
        let off : ℤ = offset_of s (final t) in
        ap (λ (m : ℕ). counts_by v m k mask o.centred) masks
        ∙ ap (λ (z : ℤ). tabulate n (λ g. gate_count z (get_or mask g 0) (unbias (get_or v (counts_at n k + get_or v g 0) 0)))) offset_is
        ∙ tab_same (λ g. gate_count off (get_or mask g 0) (unbias (get_or v (counts_at n k + get_or v g 0) 0))) (λ g. gate_count off (get_or mask g 0) (count_of (replay t (merges t)).regions (get_or L g 0))) n
        (λ g h. ap (gate_count off (get_or mask g 0)) (R.tables.counts good (get_or v g 0) (label_most g h) ∙ ap (count_of (replay t (merges t)).regions) (label_at g h)))
        ∙ ap (λ (m : ℕ). tabulate m (λ g. gate_count off (get_or mask g 0) (count_of (replay t (merges t)).regions (get_or L g 0)))) (sym masks)

    marks_are : marks_by v (length mask) k ≡ tabulate (length mask) (λ g. mark_of (trace t (merges t)) (get_or L g 0))
    marks_are =
        ap (λ (m : ℕ). marks_by v m k) masks
        ∙ tab_same (λ g. get_or v (marks_at n k + get_or v g 0) 0) (λ g. mark_of (trace t (merges t)) (get_or L g 0)) n
        (λ g h. R.tables.marks good (get_or v g 0) (label_most g h) ∙ ap (mark_of (trace t (merges t))) (label_at g h))
        ∙ ap (λ (m : ℕ). tabulate m (λ g. mark_of (trace t (merges t)) (get_or L g 0))) (sym masks)

    outcome_good : outcome_by x v mask o.centred ≡ asked9 (finished s F t)
    outcome_good =
        ap (λ (y : Finding). outcome_by y v mask o.centred) (found_yes good)
        ∙ (λ i. accepted (counts_are i) (marks_are i) k (length (merges t))) ∙ sym (accepted_end good)
      where
        accepted_end : merges_in_range t ≡ true → asked9 (finished s F t) ≡ accepted
            (tabulate (length mask) (λ g. gate_count (offset_of s (final t)) (get_or mask g 0) (count_of (final t).regions (get_or L g 0))))
            (tabulate (length mask) (λ g. mark_of (trace t (merges t)) (get_or L g 0))) k (length (merges t))
        accepted_end e = unfold asked9 answered first_no finished in rw e refl

  outcome_bad : merges_in_range t ≡ false → outcome_by x v mask o.centred ≡ asked9 (finished s F t)
  outcome_bad e = ap (λ (y : Finding). outcome_by y v mask o.centred) (found_no e) ∙ sym (refused_end e)
    where
      refused_end : merges_in_range t ≡ false → asked9 (finished s F t) ≡ refused 9
      refused_end e = unfold asked9 answered first_no finished in rw e refl

  pub outcome_is : outcome_by x v mask o.centred ≡ asked9 (unfolded_by s F)
  outcome_is = go (merges_in_range t) refl ∙ (unfold network_of in ends_same s F)
    where
      go : (b : Bool) → merges_in_range t ≡ b → outcome_by x v mask o.centred ≡ asked9 (finished s F t)
      go true e = outcome_good e
      go false e = outcome_bad e
