-- From labels to merged regions, over plain values: what each call of finding asks, and what finding leaves. Assumes nothing.
use Prim.Native.Nat.{ℕ, zero, suc, ◌+◌, ◌≤◌, ◌<◌}
use native.Mathlib.Omega.{arith}
use mathlib.Core.Path.{◌≡◌, refl, sym, ap, ◌∙◌, subst}
use mathlib.Core.List.{List, []}
use lib.IntN.{pos}
use lib.ListN.{length, get_or, replicate, length-replicate}
use lib.Ieee.{Float, binary64, mul, of_bits, of_int}
use Rattle.arithmetic.specs.Intervals.{two_nyquist}
use Rattle.arithmetic.specs.Rounding.{real}
use Rattle.lists.specs.Inside.Seg.{seg, put}
use Rattle.lists.specs.Seq.{tabulate}
use Rattle.arithmetic.specs.declared.intervals.Plan.{Plan}
use Rattle.lists.proofs.SeqLaws.{tab_length}
use Rattle.lists.proofs.SegLaws.{get_or-seg, get_or-put_in, get_or-put_below, seg-put_below, seg-put_same, length-put}
use Rattle.labels.specs.Label.{Found}
use Rattle.labels.proofs.RegionLaws.{label_at_most, number_at_most}
use Rattle.memory.specs.Inside.Layout.{sizes_at, counts_at, marks_at, book_at}
use Rattle.merge.specs.Inside.Steps.{unbias}
use Rattle.edges.specs.Edges.{pairs, used}
use Rattle.edges.specs.declared.edges.Shape.{Shape}
use Rattle.network.specs.Book.{book}
use Rattle.network.specs.Inside.Log.{Entries}
use Rattle.network.proofs.LogIs.{entries_none}
use Rattle.network.specs.Network.{size_in, network_by}
use Rattle.network.specs.Inside.Reduce.{Reduces, Reduced, TablesLeft}
use Rattle.network.proofs.Settles.{ran_yes}
use Rattle.network.specs.Inside.Find.{shape_of, limits_by, regions_by, found_in, network_for, Labelled, Few, Merges, Finds, finding_of, Leaves}
use Rattle.network.specs.declared.options.Options.{Options}
use Rattle.std.proofs.Common.{Result, Ok}
use Rattle.network.specs.declared.find.Run.{Run}
use Rattle.merge.specs.declared.merge.MergeRefused.{MergeRefused}
use Rattle.network.proofs.FewRegions.{used_few, no_merges, no_refusal, no_counts, no_marks}

-- the same value at each place of a part
replicate_at : (k x i : ℕ) → i < k → get_or (replicate k x) i 0 ≡ x
replicate_at zero x i h = absurd (omega arith)
replicate_at (suc k) x zero h = refl
replicate_at (suc k) x (suc i) h = replicate_at k x i (omega arith)

-- 2 × Nyquist as the code has it
pub width_is : (x : Float) → mul binary64 (of_bits binary64 4611686018427387904) x ≡ two_nyquist x
unfolding two_nyquist
width_is x = ap (λ (y : Float). mul binary64 y x) two_is
  where
    two_is : of_bits binary64 4611686018427387904 ≡ real (pos 2)
    two_is = unfold of_bits real of_int in refl

-- ---- merging the regions of labelled gates

module _ (o : Options) (vel : List Float) (v : List ℕ) (d : List Float) (k : ℕ) (q : Merges o vel v d k) where
  abbrev n : ℕ
  n = length vel

  -- ---- below two regions

  pub few_ask : k < 2 → Few v n k
  few_ask h = record { few = h; room = omega (arith, q.words); small = q.small; label = q.label }

  module _ (h : k < 2) (u : List ℕ)
      (e : u ≡ put (put (put v n (tabulate (k + 1) (size_in (seg v 0 n)))) (n + (k + 1)) (replicate (k + 1) 1000)) (n + (k + 1) + (k + 1)) (replicate (k + 1) 0)) where
    abbrev sized : List ℕ
    sized = put v n (tabulate (k + 1) (size_in (seg v 0 n)))

    abbrev counted : List ℕ
    counted = put sized (n + (k + 1)) (replicate (k + 1) 1000)

    ls : length (tabulate (k + 1) (size_in (seg v 0 n))) ≡ k + 1
    ls = tab_length (size_in (seg v 0 n)) (k + 1)

    lv : length sized ≡ length v
    lv = length-put v n (tabulate (k + 1) (size_in (seg v 0 n)))

    lc : length counted ≡ length v
    lc = length-put sized (n + (k + 1)) (replicate (k + 1) 1000) ∙ lv

    lr : (x : ℕ) → length {A = ℕ} (replicate (k + 1) x) ≡ k + 1
    lr x = length-replicate (k + 1) x

    no_edges : used k (pairs (shape_of o) (seg v 0 n) vel) ≡ []
    no_edges = used_few k (pairs (shape_of o) (seg v 0 n) vel) h

    count_at_lem : (l : ℕ) → l ≤ k → get_or u (counts_at n k + l) 0 ≡ 1000
    unfolding counts_at
    count_at_lem l g =
        ap (λ (x : List ℕ). get_or x (n + (k + 1) + l) 0) e
        ∙ get_or-put_below counted (n + (k + 1) + (k + 1)) (replicate (k + 1) 0) (n + (k + 1) + l) 0 (omega arith)
        ∙ get_or-put_in sized (n + (k + 1)) (replicate (k + 1) 1000) l 0 (omega (arith, lr 1000)) (omega (arith, lv, q.words))
        ∙ replicate_at (k + 1) 1000 l (omega arith)

    mark_at_lem : (l : ℕ) → l ≤ k → get_or u (marks_at n k + l) 0 ≡ 0
    unfolding marks_at
    mark_at_lem l g =
        ap (λ (x : List ℕ). get_or x (n + (k + 1) + (k + 1) + l) 0) e
        ∙ get_or-put_in counted (n + (k + 1) + (k + 1)) (replicate (k + 1) 0) l 0 (omega (arith, lr 0)) (omega (arith, lc, q.words))
        ∙ replicate_at (k + 1) 0 l (omega arith)

    no_turn : unbias 1000 ≡ pos 0
    unfolding unbias
    no_turn = refl

    low : (a b : ℕ) → a + b ≤ n + (k + 1) → seg u a b ≡ seg sized a b
    low a b g =
        ap (λ (x : List ℕ). seg x a b) e
        ∙ seg-put_below counted (n + (k + 1) + (k + 1)) (replicate (k + 1) 0) a b (omega arith)
        ∙ seg-put_below sized (n + (k + 1)) (replicate (k + 1) 1000) a b g

    tables : TablesLeft (network_by (two_nyquist o.nyquist) (shape_of o) k (seg v 0 n) vel) n k (seg v 0 n) u
    tables = record {
      counts = λ g l a. ap unbias (count_at_lem l a) ∙ no_turn ∙ sym (no_counts (two_nyquist o.nyquist) (shape_of o) k (seg v 0 n) vel no_edges l);
      most = λ g l a. omega (arith, count_at_lem l a);
      marks = λ g l a. mark_at_lem l a ∙ sym (no_marks (two_nyquist o.nyquist) (shape_of o) k (seg v 0 n) vel no_edges l);
      entries = λ g. subst (λ (l : List ℕ). Entries (λ j. get_or u (book_at n k + j) 0) (length l) (book (network_by (two_nyquist o.nyquist) (shape_of o) k (seg v 0 n) vel) l))
          (sym (no_merges (two_nyquist o.nyquist) (shape_of o) k (seg v 0 n) vel no_edges)) (unfold book in entries_none (λ j. get_or u (book_at n k + j) 0));
      sizes = unfold sizes_at in low n (k + 1) (omega arith)
          ∙ ap (seg sized n) (sym ls)
          ∙ seg-put_same v n (tabulate (k + 1) (size_in (seg v 0 n))) (omega (arith, ls, q.words));
      labels = low 0 n (omega arith) ∙ seg-put_below v n (tabulate (k + 1) (size_in (seg v 0 n))) 0 n (omega arith);
    }

    pub few_left : Leaves (found_in v n k) (network_for o (found_in v n k) vel) n u (Ok (record { regions = k; merges = 0 }))
    few_left =
        let t = network_by (two_nyquist o.nyquist) (shape_of o) k (seg v 0 n) vel in
        record {
          answer = ap (λ (l : List ℕ). Ok (record { regions = k; merges = length l })) (sym (no_merges (two_nyquist o.nyquist) (shape_of o) k (seg v 0 n) vel no_edges))
              ∙ sym (ap (finding_of k) (ran_yes t (no_refusal (two_nyquist o.nyquist) (shape_of o) k (seg v 0 n) vel no_edges)));
          tables = tables;
        }

  -- ---- from two regions on

  pub reduce_asks : 2 ≤ k → (f : Shape) → f ≡ shape_of o → Reduces f v d vel n k
  reduce_asks h f e = subst (λ (x : Shape). Reduces x v d vel n k) (sym e) (record {
    whole = q.whole;
    some = omega (arith, h);
    few = q.few;
    small = q.small;
    vels = refl;
    label = q.label;
    words = q.words;
    floats = q.floats;
  })

  pub reduced_left : (u : List ℕ) (x : Result ℕ MergeRefused) (f : Shape) (x2 : Float) → f ≡ shape_of o → x2 ≡ two_nyquist o.nyquist → Reduced (network_by x2 f k (seg v 0 n) vel) n k v u x → (r : Result Run MergeRefused) → r ≡ finding_of k x
      → Leaves (found_in v n k) (network_for o (found_in v n k) vel) n u r
  reduced_left u x f x2 ef ew R r e =
      let R' : Reduced (network_by (two_nyquist o.nyquist) (shape_of o) k (seg v 0 n) vel) n k v u x =
      subst (λ (y : Shape). Reduced (network_by (two_nyquist o.nyquist) y k (seg v 0 n) vel) n k v u x) ef
      (subst (λ (y : Float). Reduced (network_by y f k (seg v 0 n) vel) n k v u x) ew R) in
      record { answer = e ∙ ap (finding_of k) R'.answer; tables = R'.tables }

-- ---- after the labels by the limits of a plan

module _ (o : Options) (p : Plan) (vel : List Float) (mask w : List ℕ) (d : List Float) (q : Finds o p vel mask w d) (k : ℕ) (v : List ℕ) (same : length v ≡ length w) (L : Labelled (regions_by o p vel mask) (length vel) k v) where
  abbrev F : Found
  F = regions_by o p vel mask

  -- the regions as the words have them
  found : found_in v (length vel) k ≡ F
  found = λ i. record { labels = L.labels i; number = L.number i }

  pub by_found : (u : List ℕ) (r : Result Run MergeRefused) → Leaves (found_in v (length vel) k) (network_for o (found_in v (length vel) k) vel) (length vel) u r → Leaves F (network_for o F vel) (length vel) u r
  by_found u r = subst (λ (x : Found). Leaves x (network_for o x vel) (length vel) u r) found

  label_few : (j : ℕ) → j < length vel → get_or v j 0 ≤ k
  label_few j h =
      let z : 0 + j ≡ j = omega arith in
      let e : get_or v j 0 ≡ get_or F.labels j 0 = sym (ap (λ (i : ℕ). get_or v i 0) z) ∙ sym (get_or-seg v 0 (length vel) j 0 h) ∙ ap (λ (l : List ℕ). get_or l j 0) L.labels in
      omega (arith, e, L.number, label_at_most o.gates vel mask (limits_by o p) q.limited.rising j)

  region_few : k ≤ length vel
  region_few = omega (arith, L.number, number_at_most o.gates vel mask (limits_by o p) q.limited.rising, q.limited.masks)

  pub merges_ask : Merges o vel v d k
  merges_ask = record { sound = q.limited.planned.sound; few = region_few; label = label_few; small = q.limited.small; whole = q.whole; words = omega (arith, same, q.words); floats = q.floats }
