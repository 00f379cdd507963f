-- From pairs to edges, over plain values. Assumes nothing.
use Rattle.std.proofs.Common.{◌≡◌, ℕ, zero, suc, ◌+◌, ◌-◌, ◌*◌, ◌/◌, ◌%◌, ◌<◌, ◌≤◌, Bool, true, false, cond, eqb, ltb, List, [], ◌∷◌, map, length, get_or, sym, refl, ap, ◌∙◌, subst, arith, ext_get_or, eq-eqb, ne_eqb}
use mathlib.Core.Option.{Option, none, some}
use lib.ListN.{length-map}
use lib.Ieee.{Float}
use Rattle.lists.specs.Inside.Seg.{seg, put}
use Rattle.lists.proofs.SegLaws.{length-seg, get_or-seg, length-put, seg-put_below, seg-put_same}
use Rattle.lists.specs.Seq.{upto, each, sum, All}
use Rattle.lists.proofs.SeqLaws.{upto-length, upto_at, map_at}
use Rattle.memory.specs.Inside.Sort.{sorted}
use Rattle.memory.proofs.SortLaws.{all_sorted}
use Rattle.edges.specs.Edges.{Shape, Left, Right, Top, Bottom, sees, bridges, Pair, plus_one_if, difference, pairs, used}
use Rattle.edges.specs.declared.edges.Shape.{Shape}
use Rattle.edges.specs.Inside.GatePairs.{GatePair, both, gates_by, coded, gate_word, far_word, gate_pair_to, gate_pairs_of, gate_pairs_at, gate_pairs, pair_of, AddsPairs}
use Rattle.edges.specs.Inside.Order.{ordered, runs}
use Rattle.edges.specs.Inside.Sorts.{labels_of, Sorts, Sorted}
use Rattle.edges.specs.Inside.Gather.{sorted_at, pair_at, later, ReadsPairs, tables, Gathers, Gathered}
use Rattle.edges.specs.Inside.Whole.{FindsEdges, Edged}
use Rattle.lists.proofs.AllLaws.{all_append, all_each, all_index, index_all}
use Rattle.edges.proofs.Stored.{gates, fars, adds_labels, adds_length, adds_gates, adds_fars}
use Rattle.edges.proofs.GatePairLaws.{sees_in}
use Rattle.edges.proofs.PairTurn.{label_at}
use Rattle.edges.proofs.Sorting.{blank, two_passes, used_runs}
use Rattle.edges.proofs.RunCount.{runs_few}
use Rattle.edges.proofs.Weights.{weights, spans}
use Rattle.edges.proofs.GatherLaws.{tables_labels}
use Rattle.edges.specs.declared.edges.EdgeRecord.{EdgeRecord}

-- ---- the gates of the pairs are in the sweep

record Within (n : ℕ) (t : GatePair) : Type 0 where
  pub gate : t.gate < n
  pub far : t.far < n

module _ (s : Shape) (L : List ℕ) (n : ℕ) (w : n ≡ s.rays * s.gates) where
  to_within : (g : ℕ) (x : Bool) (o : Option ℕ) → g < n → ((h : ℕ) → o ≡ some h → h < n) → All (Within n) (gate_pair_to L g x o)
  unfolding gate_pair_to
  to_within g x none i k = tt
  to_within g x (some h) i k = go (ltb (get_or L h 0) (get_or L g 0))
    where
      go : (b : Bool) → All (Within n) (cond b (both g h x ∷ []) [])
      go true = (record { gate = i; far = k h refl }, tt)
      go false = tt

  at_within : (g : ℕ) → g < n → All (Within n) (gate_pairs_at s L g)
  unfolding gate_pairs_at
  at_within g i = go (eqb (get_or L g 0) 0) (all_each (Within n) (gate_pairs_of s L g) (Left ∷ Right ∷ Top ∷ Bottom ∷ []) (λ d. to_within g (bridges s L d g) (sees s L d g) i (λ h e. omega (arith, sees_in s d L g h (omega arith) e))))
    where
      go : (b : Bool) → All (Within n) (each (gate_pairs_of s L g) (Left ∷ Right ∷ Top ∷ Bottom ∷ [])) → All (Within n) (cond b [] (each (gate_pairs_of s L g) (Left ∷ Right ∷ Top ∷ Bottom ∷ [])))
      go true h = tt
      go false h = h

  from_within : (m k : ℕ) → k + m ≤ n → All (Within n) (each (gate_pairs_at s L) (upto m k))
  unfolding each upto
  from_within zero k h = tt
  from_within (suc m) k h = all_append (Within n) (gate_pairs_at s L k) (each (gate_pairs_at s L) (upto m (suc k))) (at_within k (omega arith)) (from_within m (suc k) (omega arith))

  links_within : length L ≡ n → All (Within n) (gate_pairs s L)
  unfolding gate_pairs
  links_within e = from_within (length L) 0 (omega arith)

-- ---- lists by their places

map_places : {A : Type 0} (F G : ℕ → A) (S : List ℕ) (k : ℕ) → ((i : ℕ) → i < length S → F (k + i) ≡ G (get_or S i 0)) → map F (upto (length S) k) ≡ map G S
unfolding upto
map_places F G [] k h = refl
map_places F G (x ∷ S) k h = rw (ap F {x = k} {y = k + 0} (omega arith) ∙ h 0 (omega arith), map_places F G S (suc k) (λ i g. ap F {x = suc k + i} {y = k + suc i} (omega arith) ∙ h (suc i) (omega arith))) refl

keys_same : (w : List ℕ) (vel : List Float) (n : ℕ) (ts : List GatePair) (f : GatePair → ℕ) (key : Pair → ℕ) → ((t : GatePair) → Within n t → key (pair_of (seg w 0 n) vel t) ≡ get_or w (f t / 2) 0) → All (Within n) ts → map (λ x. get_or w (x / 2) 0) (map f ts) ≡ map key (map (pair_of (seg w 0 n) vel) ts)
keys_same w vel n [] f key h s = refl
keys_same w vel n (t ∷ ts) f key h s = rw (h t s.0, keys_same w vel n ts f key h s.1) refl

-- ---- the words of a pair

half : (b : Bool) (g : ℕ) → coded b g / 2 ≡ g
unfolding coded plus_one_if
half true g = omega arith
half false g = omega arith

odd : (b : Bool) (g : ℕ) → eqb (coded b g % 2) 1 ≡ b
unfolding coded plus_one_if
odd true g = eq-eqb (suc (2 * g) % 2) 1 (omega arith)
odd false g = ne_eqb (2 * g % 2) 1 (λ e. omega (arith, e))

words_back : (t : GatePair) → gates_by (gate_word t) (far_word t) ≡ t
words_back t = λ j. record { gate = half t.bridged t.gate j; far = half t.bridged t.far j; bridged = odd t.bridged t.far j }

-- no pair of gates
nowhere : GatePair
nowhere = both 0 0 false

-- ---- the three calls

module _ {f : Shape} {u : List ℕ} {a vel : List Float} {n k t : ℕ} (q : FindsEdges f u a vel n k t) where
  module _ {w : List ℕ} {m : ℕ} (p : AddsPairs n u w 0 m (gate_pairs f (seg u 0 n))) (few : m ≤ 4 * n) where
    lw : length w ≡ length u
    lw = adds_length n u w 0 m (gate_pairs f (seg u 0 n)) p

    labels_w : seg w 0 n ≡ seg u 0 n
    labels_w = adds_labels n u w 0 m (gate_pairs f (seg u 0 n)) p

    inside : All (Within n) (gate_pairs f (seg u 0 n))
    inside = links_within f (seg u 0 n) n q.whole (length-seg u 0 n (omega (arith, q.scratch)))

    ms : m ≡ length (gate_pairs f (seg u 0 n))
    ms = omega (arith, p.count)

    gates_w : seg w n m ≡ gates (gate_pairs f (seg u 0 n))
    gates_w = adds_gates n u w m (gate_pairs f (seg u 0 n)) p (omega (arith, q.scratch)) few

    fars_w : seg w (5 * n) m ≡ fars (gate_pairs f (seg u 0 n))
    fars_w = adds_fars n u w m (gate_pairs f (seg u 0 n)) p (omega (arith, q.scratch)) few

    gate_at_lem : (i : ℕ) → i < m → get_or w (n + i) 0 ≡ gate_word (get_or (gate_pairs f (seg u 0 n)) i nowhere)
    gate_at_lem i h = sym (get_or-seg w n m i 0 h) ∙ ap (λ (l : List ℕ). get_or l i 0) gates_w ∙ map_at gate_word (gate_pairs f (seg u 0 n)) i nowhere 0 (omega (arith, ms))

    far_at_lem : (i : ℕ) → i < m → get_or w (5 * n + i) 0 ≡ far_word (get_or (gate_pairs f (seg u 0 n)) i nowhere)
    far_at_lem i h = sym (get_or-seg w (5 * n) m i 0 h) ∙ ap (λ (l : List ℕ). get_or l i 0) fars_w ∙ map_at far_word (gate_pairs f (seg u 0 n)) i nowhere 0 (omega (arith, ms))

    gate_half : (i : ℕ) → i < m → get_or w (n + i) 0 / 2 ≡ (get_or (gate_pairs f (seg u 0 n)) i nowhere).gate
    gate_half i h = let p : GatePair = get_or (gate_pairs f (seg u 0 n)) i nowhere in ap (λ (x : ℕ). x / 2) (gate_at_lem i h) ∙ half p.bridged p.gate

    far_half : (i : ℕ) → i < m → get_or w (5 * n + i) 0 / 2 ≡ (get_or (gate_pairs f (seg u 0 n)) i nowhere).far
    far_half i h = let p : GatePair = get_or (gate_pairs f (seg u 0 n)) i nowhere in ap (λ (x : ℕ). x / 2) (far_at_lem i h) ∙ half p.bridged p.far

    within_at : (i : ℕ) → i < m → Within n (get_or (gate_pairs f (seg u 0 n)) i nowhere)
    within_at i h = all_index (Within n) (gate_pairs f (seg u 0 n)) nowhere inside i (omega (arith, ms))

    pub sorts : Sorts w n m (k + 1)
    sorts = record {
      room = omega (arith, q.scratch, lw, few);
      few = few;
      small = omega (arith, q.small, few);
      gate = λ i h. omega (arith, gate_half i h, (within_at i h).gate);
      far = λ i h. omega (arith, far_half i h, (within_at i h).far);
      label = λ j h. omega (arith, q.label j h, label_at u n j h, label_at w n j h, ap (λ (l : List ℕ). get_or l j 0) labels_w);
    }

    keys_one : labels_of w n m ≡ map (λ p. p.one) (map (pair_of (seg u 0 n) vel) (gate_pairs f (seg u 0 n)))
    unfolding labels_of pair_of
    keys_one =
        ap (map (λ x. get_or w (x / 2) 0)) gates_w
        ∙ keys_same w vel n (gate_pairs f (seg u 0 n)) gate_word (λ p. p.one) (λ x i. label_at w n x.gate i.gate ∙ ap (λ (z : ℕ). get_or w z 0) (sym (half x.bridged x.gate))) inside
        ∙ ap (λ (l : List ℕ). map (λ (p : Pair). p.one) (map (pair_of l vel) (gate_pairs f (seg u 0 n)))) labels_w

    keys_two : labels_of w (5 * n) m ≡ map (λ p. p.two) (map (pair_of (seg u 0 n) vel) (gate_pairs f (seg u 0 n)))
    unfolding labels_of pair_of
    keys_two =
        ap (map (λ x. get_or w (x / 2) 0)) fars_w
        ∙ keys_same w vel n (gate_pairs f (seg u 0 n)) far_word (λ p. p.two) (λ x i. label_at w n x.far i.far ∙ ap (λ (z : ℕ). get_or w z 0) (sym (half x.bridged x.far))) inside
        ∙ ap (λ (l : List ℕ). map (λ (p : Pair). p.two) (map (pair_of l vel) (gate_pairs f (seg u 0 n)))) labels_w

    module _ {v : List ℕ} (lv : length v ≡ length w) (o : Sorted w v n m (k + 1)) where
      numbers : length (seg v (9 * n) m) ≡ m
      numbers = length-seg v (9 * n) m (omega (arith, q.scratch, lv, lw, few))

      number_lt : (i : ℕ) → i < m → get_or (seg v (9 * n) m) i 0 < m
      number_lt i h =
          let s : All (λ x. x < m) (seg v (9 * n) m) = rw o.order (all_sorted (labels_of w (5 * n) m) (λ x. x < m) (k + 1) (sorted (labels_of w n m) (k + 1) (upto m 0)) (all_sorted (labels_of w n m) (λ x. x < m) (k + 1) (upto m 0) (index_all (λ x. x < m) (upto m 0) 0 (λ i q. omega (arith, upto-length m 0, upto_at m 0 i (omega (arith, upto-length m 0))))))) in
          all_index (λ x. x < m) (seg v (9 * n) m) 0 s i (omega (arith, numbers))

      labels_v : seg v 0 n ≡ seg u 0 n
      labels_v =
          let a : length (seg v 0 n) ≡ n = length-seg v 0 n (omega (arith, q.scratch, lv, lw)) in
          let b : length (seg u 0 n) ≡ n = length-seg u 0 n (omega (arith, q.scratch)) in
          ext_get_or 0 (seg v 0 n) (seg u 0 n) (a ∙ sym b) (λ j h. label_at v n j (omega arith) ∙ o.kept j (omega arith) ∙ sym (label_at w n j (omega arith)) ∙ ap (λ (l : List ℕ). get_or l j 0) labels_w)

      place : (i : ℕ) → i < m → pair_at v vel n i ≡ get_or (map (pair_of (seg u 0 n) vel) (gate_pairs f (seg u 0 n))) (get_or (seg v (9 * n) m) i 0) blank
      unfolding pair_at sorted_at pair_of
      place i h =
          let X : ℕ = get_or (seg v (9 * n) m) i 0 in
          let x : get_or v (9 * n + i) 0 ≡ X = sym (get_or-seg v (9 * n) m i 0 h) in
          let xl : X < m = number_lt i h in
          let p : GatePair = get_or (gate_pairs f (seg u 0 n)) X nowhere in
          let g : get_or v (n + X) 0 ≡ gate_word p = o.kept (n + X) (omega (arith, few)) ∙ gate_at_lem X xl in
          let r : get_or v (5 * n + X) 0 ≡ far_word p = o.kept (5 * n + X) (omega (arith, few)) ∙ far_at_lem X xl in
          ap (λ (y : ℕ). pair_of (seg v 0 n) vel (gates_by (get_or v (n + y) 0) (get_or v (5 * n + y) 0))) x
          ∙ ap (λ (y : ℕ). pair_of (seg v 0 n) vel (gates_by y (get_or v (5 * n + X) 0))) g
          ∙ ap (λ (y : ℕ). pair_of (seg v 0 n) vel (gates_by (gate_word p) y)) r
          ∙ ap (pair_of (seg v 0 n) vel) (words_back p)
          ∙ ap (λ (l : List ℕ). pair_of l vel (get_or (gate_pairs f (seg u 0 n)) X nowhere)) labels_v
          ∙ sym (map_at (pair_of (seg u 0 n) vel) (gate_pairs f (seg u 0 n)) X nowhere blank (omega (arith, ms)))

      later_is : later v vel n m 0 ≡ ordered (suc k) (map (pair_of (seg u 0 n) vel) (gate_pairs f (seg u 0 n)))
      unfolding later
      later_is =
          let P : List Pair = map (pair_of (seg u 0 n) vel) (gate_pairs f (seg u 0 n)) in
          let lp : length P ≡ m = length-map (gate_pairs f (seg u 0 n)) (pair_of (seg u 0 n) vel) ∙ sym ms in
          ap (λ (x : ℕ). map (pair_at v vel n) (upto x 0)) {x = m - 0} {y = length (seg v (9 * n) m)} (omega (arith, numbers))
          ∙ map_places (pair_at v vel n) (λ x. get_or P x blank) (seg v (9 * n) m) 0 (λ i h. ap (pair_at v vel n) {x = 0 + i} {y = i} (omega arith) ∙ place i (omega (arith, numbers)))
          ∙ ap (map (λ x. get_or P x blank)) o.order
          ∙ ap (λ (l : List ℕ). map (λ x. get_or P x blank) (sorted l (k + 1) (sorted (labels_of w n m) (k + 1) (upto m 0)))) keys_two
          ∙ ap (λ (l : List ℕ). map (λ x. get_or P x blank) (sorted (map (λ p. p.two) P) (k + 1) (sorted l (k + 1) (upto m 0)))) keys_one
          ∙ ap (λ (x : ℕ). map (λ x. get_or P x blank) (sorted (map (λ p. p.two) P) (k + 1) (sorted (map (λ p. p.one) P) (k + 1) (upto x 0)))) (sym lp)
          ∙ two_passes P (k + 1)
          ∙ ap (λ (x : ℕ). ordered x P) {x = k + 1} {y = suc k} (omega arith)

      runs_are : runs (later v vel n m 0) ≡ used k (pairs f (seg u 0 n) vel)
      runs_are = ap runs later_is ∙ sym (used_runs (seg u 0 n) vel f k)

      pub ready : ReadsPairs v vel n m
      ready = record {
        room = omega (arith, q.scratch, lv, lw, few);
        few = few;
        small = omega (arith, q.small, few);
        little = omega (arith, q.small);
        vels = q.vels;
        index = λ i h. omega (arith, get_or-seg v (9 * n) m i 0 h, number_lt i h);
        gate = λ x h. subst (λ (y : ℕ). y / 2 < n) (sym (o.kept (n + x) (omega (arith, few)))) (omega (arith, gate_half x h, (within_at x h).gate));
        far = λ x h. subst (λ (y : ℕ). y / 2 < n) (sym (o.kept (5 * n + x) (omega (arith, few)))) (omega (arith, far_half x h, (within_at x h).far));
      }

      later_long : length (later v vel n m 0) ≡ m
      unfolding later
      later_long = length-map (upto (m - 0) 0) (pair_at v vel n) ∙ upto-length (m - 0) 0 ∙ omega arith

      module _ {c : ℕ} (rc : c ≡ length (runs (later v vel n m 0))) where
        few_edges : c ≤ 4 * n
        few_edges = omega (arith, rc, runs_few (later v vel n m 0), later_long, few)

        pub gathers : Gathers v a vel n m t c
        gathers = record {
          ready = ready;
          above = omega (arith, q.above, few);
          words = omega (arith, q.words, few_edges, lv, lw);
          diffs = omega (arith, q.diffs, few_edges);
          fits = omega (arith, rc);
        }

        pub edged : {two_nyquist : Float} {y : List ℕ} {b : List Float} {e : ℕ} → Gathered two_nyquist v y a b t c e (runs (later v vel n m 0)) → Edged two_nyquist n u y b t e (used k (pairs f (seg u 0 n) vel))
        unfolding tables
        edged {two_nyquist} {y} {b} {e} r =
            let R : List EdgeRecord = runs (later v vel n m 0) in
            let fit : e ≤ c = omega (arith, r.count, rc) in
            let ce : c ≡ e = rc ∙ sym r.count in
            let low : c ≤ 4 * n = few_edges in
            let l_x : length (map (λ (r : EdgeRecord). r.count) R) ≡ e = length-map R (λ r. r.count) ∙ sym r.count in
            let l_y : length (map (λ (r : EdgeRecord). r.one) R) ≡ e = length-map R (λ r. r.one) ∙ sym r.count in
            let l_z : length (map (λ (r : EdgeRecord). r.two) R) ≡ e = length-map R (λ r. r.two) ∙ sym r.count in
            let l_u : length (map (λ (r : EdgeRecord). r.bridged) R) ≡ e = length-map R (λ r. r.bridged) ∙ sym r.count in
            let l_d : length (map (difference two_nyquist) R) ≡ e = length-map R (difference two_nyquist) ∙ sym r.count in
            let W1 : List ℕ = put v t (map (λ r. r.count) R) in
            let W2 : List ℕ = put W1 (t + 3 * c) (map (λ r. r.one) R) in
            let l1 : length W1 ≡ length v = length-put v t (map (λ r. r.count) R) in
            let l2 : length W2 ≡ length v = length-put W1 (t + 3 * c) (map (λ r. r.one) R) ∙ l1 in
            let W3 : List ℕ = put W2 (t + 4 * c) (map (λ r. r.two) R) in
            let l3 : length W3 ≡ length v = length-put W2 (t + 4 * c) (map (λ r. r.two) R) ∙ l2 in
            record {
              count = r.count ∙ ap length runs_are;
              few = omega arith;
              light = omega (arith, sym (ap (λ (l : List EdgeRecord). sum (map (λ r. r.count) l)) runs_are) ∙ weights (later v vel n m 0), later_long, few);
              spans = omega (arith, spans (later v vel n m 0), ap (λ (l : List EdgeRecord). sum (map (λ r. r.bridged) l)) runs_are, later_long, few);
              weight =
                  ap (λ (l : List ℕ). seg l t e) r.words
                  ∙ seg-put_below W3 (t + 5 * c) (map (λ r. r.bridged) R) t e (omega arith)
                  ∙ seg-put_below W2 (t + 4 * c) (map (λ r. r.two) R) t e (omega arith)
                  ∙ seg-put_below W1 (t + 3 * c) (map (λ r. r.one) R) t e (omega arith)
                  ∙ ap (λ (x : ℕ). seg W1 t x) (sym l_x) ∙ seg-put_same v t (map (λ r. r.count) R) (omega (arith, q.words, lv, lw))
                  ∙ ap (map (λ (r : EdgeRecord). r.count)) runs_are;
              first =
                  ap (λ (x : ℕ). seg y (t + 3 * x) e) (sym ce)
                  ∙ ap (λ (l : List ℕ). seg l (t + 3 * c) e) r.words
                  ∙ seg-put_below W3 (t + 5 * c) (map (λ r. r.bridged) R) (t + 3 * c) e (omega arith)
                  ∙ seg-put_below W2 (t + 4 * c) (map (λ r. r.two) R) (t + 3 * c) e (omega arith)
                  ∙ ap (λ (x : ℕ). seg W2 (t + 3 * c) x) (sym l_y) ∙ seg-put_same W1 (t + 3 * c) (map (λ r. r.one) R) (omega (arith, q.words, lv, lw))
                  ∙ ap (map (λ (r : EdgeRecord). r.one)) runs_are;
              second =
                  ap (λ (x : ℕ). seg y (t + 4 * x) e) (sym ce)
                  ∙ ap (λ (l : List ℕ). seg l (t + 4 * c) e) r.words
                  ∙ seg-put_below W3 (t + 5 * c) (map (λ r. r.bridged) R) (t + 4 * c) e (omega arith)
                  ∙ ap (λ (x : ℕ). seg W3 (t + 4 * c) x) (sym l_z) ∙ seg-put_same W2 (t + 4 * c) (map (λ r. r.two) R) (omega (arith, q.words, lv, lw))
                  ∙ ap (map (λ (r : EdgeRecord). r.two)) runs_are;
              bridged =
                  ap (λ (x : ℕ). seg y (t + 5 * x) e) (sym ce)
                  ∙ ap (λ (l : List ℕ). seg l (t + 5 * c) e) r.words
                  ∙ ap (λ (x : ℕ). seg (put W3 (t + 5 * c) (map (λ r. r.bridged) R)) (t + 5 * c) x) (sym l_u) ∙ seg-put_same W3 (t + 5 * c) (map (λ r. r.bridged) R) (omega (arith, q.words, lv, lw))
                  ∙ ap (map (λ (r : EdgeRecord). r.bridged)) runs_are;
              diff =
                  ap (λ (l : List Float). seg l 0 e) r.diffs
                  ∙ ap (λ (x : ℕ). seg (put a 0 (map (difference two_nyquist) R)) 0 x) (sym l_d) ∙ seg-put_same a 0 (map (difference two_nyquist) R) (omega (arith, q.diffs))
                  ∙ ap (map (difference two_nyquist)) runs_are;
              labels = ap (λ (l : List ℕ). seg l 0 n) r.words ∙ tables_labels v t c R n (omega (arith, q.above)) ∙ labels_v;
            }
