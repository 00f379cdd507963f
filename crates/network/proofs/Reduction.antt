-- From labels to counts, marks and log, call by call, over plain values. Assumes nothing.
use Prim.Native.Nat.{ℕ, ◌+◌, ◌*◌, ◌-◌, ◌≤◌, ◌<◌}
use native.Mathlib.Omega.{arith}
use mathlib.Core.Path.{◌≡◌, refl, sym, ap, ◌∙◌, subst}
use mathlib.Core.Logic.{⊎_elim}
use mathlib.Core.Bool.{true}
use mathlib.Core.List.{List}
use lib.IntN.{pos}
use lib.ListN.{length, get_or, set, length-set}
use lib.Seq.{get_or-set_same, get_or-set_other}
use lib.Ieee.{Float}
use borrow.Rule.Slice.PartMut.{put_mid}
use Rattle.lists.specs.Seq.{tabulate}
use Rattle.lists.proofs.SeqLaws.{tab_length}
use Rattle.lists.specs.Inside.Seg.{seg, put}
use Rattle.lists.proofs.SegLaws.{eq_or_ne, length-put, length-seg, get_or-seg, get_or-put_in, get_or-put_below, get_or-put_above, seg-put_below, seg-put_above, seg-put_same, seg-set_out, seg_part, put_mid_lem, lent_seg}
use Rattle.edges.specs.Edges.{pairs, used}
use Rattle.edges.specs.declared.edges.Pair.{Pair}
use Rattle.network.specs.Book.{book}
use Rattle.network.specs.Inside.Log.{log_in}
use Rattle.network.proofs.LogIs.{entries_same}
use Rattle.network.proofs.BookLaws.{merges_less}
use Rattle.network.specs.Network.{State, size_in, merges, replay, trace, count_of, mark_of, network_by, merges_in_range}
use Rattle.edges.specs.Inside.Whole.{Edged}
use Rattle.network.specs.Inside.Sizes.{Sizes}
use Rattle.merge.specs.Inside.Tables.{view}
use Rattle.merge.specs.Inside.Table.{count, mark}
use Rattle.merge.specs.Inside.Steps.{unbias}
use Rattle.network.specs.Inside.Begin.{Space, Raw, AllIs}
use Rattle.memory.specs.Inside.Layout.{sizes_at, counts_at, marks_at, book_at}
use Rattle.network.specs.Inside.Reduce.{Reduces, Reduced}
use Rattle.edges.specs.declared.edges.Shape.{Shape}
use Rattle.std.proofs.Common.{Result}
use Rattle.merge.specs.declared.merge.MergeRefused.{MergeRefused}
use Rattle.network.proofs.Joint.{Filled, raw}
use Rattle.network.proofs.Started.{network, Left, few_edges, answer, left, no_region_0}

module _ (f : Shape) (u : List ℕ) (d vel : List Float) (n k : ℕ) (two_nyquist : Float) (q : Reduces f u d vel n k) where
  abbrev ps : List Pair
  ps = pairs f (seg u 0 n) vel

  module _ (v1 : List ℕ) (d1 : List Float) (e : ℕ) (l1 : length v1 ≡ length u) (ld : length d1 ≡ length d) (E : Edged two_nyquist n u v1 d1 (13 * n) e (used k ps)) where
    pub sizes_ask : Sizes v1 n n (k + 1)
    sizes_ask = record {
      above = omega arith;
      room = omega (arith, q.words, q.few);
      small = omega (arith, q.small);
      label = λ g h. omega (arith, q.label g h, sym (get_or-seg u 0 n g 0 h), ap (λ (i : ℕ). get_or u i 0) {x = 0 + g} {y = g} (omega arith), ap (λ (x : List ℕ). get_or x g 0) E.labels, get_or-seg v1 0 n g 0 h, ap (λ (i : ℕ). get_or v1 i 0) {x = 0 + g} {y = g} (omega arith));
    }

    module _ (v2 : List ℕ) (e2 : v2 ≡ put v1 n (tabulate (k + 1) (size_in (seg v1 0 n)))) where
      abbrev sizes : List ℕ
      sizes = tabulate (k + 1) (size_in (seg u 0 n))

      ls : length (tabulate (k + 1) (size_in (seg u 0 n))) ≡ k + 1
      ls = tab_length (size_in (seg u 0 n)) (k + 1)

      e2' : v2 ≡ put v1 n (tabulate (k + 1) (size_in (seg u 0 n)))
      e2' = e2 ∙ ap (λ (x : List ℕ). put v1 n (tabulate (k + 1) (size_in x))) E.labels

      l2 : length v2 ≡ length u
      l2 = ap length e2' ∙ length-put v1 n (tabulate (k + 1) (size_in (seg u 0 n))) ∙ l1

      -- the sizes, and what lies before and after them
      sizes_2 : seg v2 n (k + 1) ≡ tabulate (k + 1) (size_in (seg u 0 n))
      sizes_2 = ap (λ (x : List ℕ). seg x n (k + 1)) e2' ∙ ap (seg (put v1 n (tabulate (k + 1) (size_in (seg u 0 n)))) n) (sym ls) ∙ seg-put_same v1 n (tabulate (k + 1) (size_in (seg u 0 n))) (omega (arith, ls, l1, q.words, q.few))

      module _ (v3 : List ℕ) (e3 : v3 ≡ put v2 (13 * n + 8 * e + 3 * (k + 1)) (seg v2 n (k + 1))) where
        e3' : v3 ≡ put v2 (13 * n + 8 * e + 3 * (k + 1)) (tabulate (k + 1) (size_in (seg u 0 n)))
        e3' = e3 ∙ ap (put v2 (13 * n + 8 * e + 3 * (k + 1))) sizes_2

        l3 : length v3 ≡ length u
        l3 = ap length e3' ∙ length-put v2 (13 * n + 8 * e + 3 * (k + 1)) (tabulate (k + 1) (size_in (seg u 0 n))) ∙ l2

        -- a table of edges is as the edges were found
        table : (a b : ℕ) → 13 * n ≤ a → a + b ≤ 13 * n + 8 * e → seg v3 a b ≡ seg v1 a b
        table a b g h =
            ap (λ (x : List ℕ). seg x a b) e3' ∙ seg-put_below v2 (13 * n + 8 * e + 3 * (k + 1)) (tabulate (k + 1) (size_in (seg u 0 n))) a b (omega arith)
            ∙ ap (λ (x : List ℕ). seg x a b) e2' ∙ seg-put_above v1 n (tabulate (k + 1) (size_in (seg u 0 n))) a b (omega (arith, ls, q.few, q.some))

        module _ (c : ℕ) (ec : c ≡ 8 * e + 8 * (k + 1) + 6 * e) where
          abbrev part : List ℕ
          part = seg v3 (13 * n) c

          room : 13 * n + c ≤ length v3
          room = omega (arith, l3, q.words, q.few, E.few)

          pub space : Space e (k + 1) (seg v3 (13 * n) c) d1
          space = record {
            words = omega (arith, length-seg v3 (13 * n) c room);
            diffs = omega (arith, ld, q.floats, E.few);
            small = omega (arith, q.small, q.few, E.few);
          }

          pub filled : Filled two_nyquist k e (seg u 0 n) (used k ps) (view e (k + 1) (seg v3 (13 * n) c) d1)
          unfolding view
          filled = record {
            count = E.count;
            weight = seg_part v3 (13 * n) c 0 e (omega arith) room ∙ ap (λ (a : ℕ). seg v3 a e) (omega arith) ∙ table (13 * n) e (omega arith) (omega arith) ∙ E.weight;
            first = seg_part v3 (13 * n) c (3 * e) e (omega arith) room ∙ table (13 * n + 3 * e) e (omega arith) (omega arith) ∙ E.first;
            second = seg_part v3 (13 * n) c (4 * e) e (omega arith) room ∙ table (13 * n + 4 * e) e (omega arith) (omega arith) ∙ E.second;
            bridged = seg_part v3 (13 * n) c (5 * e) e (omega arith) room ∙ table (13 * n + 5 * e) e (omega arith) (omega arith) ∙ E.bridged;
            diff = E.diff;
            size =
                seg_part v3 (13 * n) c (8 * e + 3 * (k + 1)) (k + 1) (omega arith) room
                ∙ ap (λ (x : List ℕ). seg x (13 * n + (8 * e + 3 * (k + 1))) (k + 1)) e3'
                ∙ ap (λ (a : ℕ). seg (put v2 (13 * n + 8 * e + 3 * (k + 1)) (tabulate (k + 1) (size_in (seg u 0 n)))) a (k + 1)) (omega arith)
                ∙ ap (seg (put v2 (13 * n + 8 * e + 3 * (k + 1)) (tabulate (k + 1) (size_in (seg u 0 n)))) (13 * n + 8 * e + 3 * (k + 1))) (sym ls)
                ∙ seg-put_same v2 (13 * n + 8 * e + 3 * (k + 1)) (tabulate (k + 1) (size_in (seg u 0 n))) (omega (arith, ls, l2, q.words, q.few, E.few));
          }

          pub raw_ask : Raw e (k + 1) (view e (k + 1) (seg v3 (13 * n) c) d1)
          raw_ask = raw two_nyquist k e (seg u 0 n) ps (view e (k + 1) (seg v3 (13 * n) c) d1) filled n E.light E.spans (omega (arith, q.small)) (length-seg u 0 n (omega (arith, q.words)))

          module _ (y : List ℕ) (d2 : List Float) (r : Result ℕ MergeRefused) (ly : length y ≡ length (seg v3 (13 * n) c)) (A : AllIs e (k + 1) (view e (k + 1) (seg v3 (13 * n) c) d1) y d2 r)
              (v4 : List ℕ) (e4 : v4 ≡ put_mid (13 * n) c v3 y) where
            lc : length y ≡ c
            lc = ly ∙ length-seg v3 (13 * n) c room

            e4' : v4 ≡ put v3 (13 * n) y
            e4' = e4 ∙ put_mid_lem v3 (13 * n) c y lc room

            l4 : length v4 ≡ length u
            l4 = ap length e4' ∙ length-put v3 (13 * n) y ∙ l3

            -- a table of the nodes, as merging left it
            left_4 : (t : ℕ) → t ≤ 7 * (k + 1) → seg v4 (13 * n + 8 * e + t) (k + 1) ≡ seg y (8 * e + t) (k + 1)
            left_4 t h =
                ap (λ (a : ℕ). seg v4 a (k + 1)) {x = 13 * n + 8 * e + t} {y = 13 * n + (8 * e + t)} (omega arith)
                ∙ sym (seg_part v4 (13 * n) c (8 * e + t) (k + 1) (omega arith) (omega (arith, l4, q.words, q.few, E.few)))
                ∙ ap (λ (x : List ℕ). seg x (8 * e + t) (k + 1)) (ap (λ (x : List ℕ). seg x (13 * n) c) e4 ∙ lent_seg v3 (13 * n) c y lc room)

            module _ (v5 : List ℕ) (e5 : v5 ≡ put v4 (n + (k + 1)) (seg v4 (13 * n + 8 * e + 6 * (k + 1)) (k + 1))) where
              l_c : length (seg v4 (13 * n + 8 * e + 6 * (k + 1)) (k + 1)) ≡ k + 1
              l_c = length-seg v4 (13 * n + 8 * e + 6 * (k + 1)) (k + 1) (omega (arith, l4, q.words, q.few, E.few))

              l5 : length v5 ≡ length u
              l5 = ap length e5 ∙ length-put v4 (n + (k + 1)) (seg v4 (13 * n + 8 * e + 6 * (k + 1)) (k + 1)) ∙ l4

              module _ (v6 : List ℕ) (e6 : v6 ≡ put v5 (n + (k + 1) + (k + 1)) (seg v5 (13 * n + 8 * e + 7 * (k + 1)) (k + 1))) where
                l_m : length (seg v5 (13 * n + 8 * e + 7 * (k + 1)) (k + 1)) ≡ k + 1
                l_m = length-seg v5 (13 * n + 8 * e + 7 * (k + 1)) (k + 1) (omega (arith, l5, q.words, q.few, E.few))

                l6 : length v6 ≡ length u
                l6 = ap length e6 ∙ length-put v5 (n + (k + 1) + (k + 1)) (seg v5 (13 * n + 8 * e + 7 * (k + 1)) (k + 1)) ∙ l5

                abbrev kept : List ℕ
                kept = seg v6 (13 * n + 8 * e + 8 * (k + 1)) (6 * (k - 1))

                l_k : length kept ≡ 6 * (k - 1)
                l_k = length-seg v6 (13 * n + 8 * e + 8 * (k + 1)) (6 * (k - 1)) (omega (arith, l6, q.words, q.few, E.few))

                module _ (v v7 v8 : List ℕ) (eb : v ≡ put v6 (n + (k + 1) + (k + 1) + (k + 1)) kept) (e7 : v7 ≡ set v (n + (k + 1)) 1000) (e8 : v8 ≡ set v7 (n + (k + 1) + (k + 1)) 0) where
                  lv : length v ≡ length u
                  lv = ap length eb ∙ length-put v6 (n + (k + 1) + (k + 1) + (k + 1)) kept ∙ l6

                  -- what lies below the counts is as it was
                  low : (a b : ℕ) → a + b ≤ n + (k + 1) → seg v8 a b ≡ seg v3 a b
                  low a b h =
                      ap (λ (x : List ℕ). seg x a b) e8 ∙ seg-set_out v7 (n + (k + 1) + (k + 1)) 0 a b (λ p g. omega arith)
                      ∙ ap (λ (x : List ℕ). seg x a b) e7 ∙ seg-set_out v (n + (k + 1)) 1000 a b (λ p g. omega arith)
                      ∙ ap (λ (x : List ℕ). seg x a b) eb ∙ seg-put_below v6 (n + (k + 1) + (k + 1) + (k + 1)) kept a b (omega arith)
                      ∙ ap (λ (x : List ℕ). seg x a b) e6 ∙ seg-put_below v5 (n + (k + 1) + (k + 1)) (seg v5 (13 * n + 8 * e + 7 * (k + 1)) (k + 1)) a b (omega arith)
                      ∙ ap (λ (x : List ℕ). seg x a b) e5 ∙ seg-put_below v4 (n + (k + 1)) (seg v4 (13 * n + 8 * e + 6 * (k + 1)) (k + 1)) a b h
                      ∙ ap (λ (x : List ℕ). seg x a b) e4' ∙ seg-put_below v3 (13 * n) y a b (omega (arith, q.few, q.some))

                  -- the words that are not label 0's are as they were copied
                  copied : (i : ℕ) → (i ≡ n + (k + 1) → ⊥) → (i ≡ n + (k + 1) + (k + 1) → ⊥) → get_or v8 i 0 ≡ get_or v i 0
                  copied i a b =
                      ap (λ (x : List ℕ). get_or x i 0) e8 ∙ get_or-set_other v7 (n + (k + 1) + (k + 1)) i 0 0 b
                      ∙ ap (λ (x : List ℕ). get_or x i 0) e7 ∙ get_or-set_other v (n + (k + 1)) i 1000 0 a

                  -- what lies below the log is as it was when the marks were copied
                  under : (i : ℕ) → i < n + (k + 1) + (k + 1) + (k + 1) → get_or v i 0 ≡ get_or v6 i 0
                  under i h = ap (λ (x : List ℕ). get_or x i 0) eb ∙ get_or-put_below v6 (n + (k + 1) + (k + 1) + (k + 1)) kept i 0 h

                  -- the count and the mark of label l
                  count_of_lem : (l : ℕ) → 1 ≤ l → l ≤ k → get_or v8 (n + (k + 1) + l) 0 ≡ get_or ((view e (k + 1) y d2).at count) l 0
                  unfolding view
                  count_of_lem l a b =
                      copied (n + (k + 1) + l) (λ p. omega arith) (λ p. omega arith) ∙ under (n + (k + 1) + l) (omega arith)
                      ∙ ap (λ (x : List ℕ). get_or x (n + (k + 1) + l) 0) e6 ∙ get_or-put_below v5 (n + (k + 1) + (k + 1)) (seg v5 (13 * n + 8 * e + 7 * (k + 1)) (k + 1)) (n + (k + 1) + l) 0 (omega arith)
                      ∙ ap (λ (x : List ℕ). get_or x (n + (k + 1) + l) 0) e5
                      ∙ get_or-put_in v4 (n + (k + 1)) (seg v4 (13 * n + 8 * e + 6 * (k + 1)) (k + 1)) l 0 (omega (arith, l_c)) (omega (arith, l4, q.words, q.few))
                      ∙ ap (λ (x : List ℕ). get_or x l 0) (left_4 (6 * (k + 1)) (omega arith))

                  mark_of_lem : (l : ℕ) → 1 ≤ l → l ≤ k → get_or v8 (n + (k + 1) + (k + 1) + l) 0 ≡ get_or ((view e (k + 1) y d2).at mark) l 0
                  unfolding view
                  mark_of_lem l a b =
                      copied (n + (k + 1) + (k + 1) + l) (λ p. omega arith) (λ p. omega arith) ∙ under (n + (k + 1) + (k + 1) + l) (omega arith)
                      ∙ ap (λ (x : List ℕ). get_or x (n + (k + 1) + (k + 1) + l) 0) e6
                      ∙ get_or-put_in v5 (n + (k + 1) + (k + 1)) (seg v5 (13 * n + 8 * e + 7 * (k + 1)) (k + 1)) l 0 (omega (arith, l_m)) (omega (arith, l5, q.words, q.few))
                      ∙ ap (λ (x : List ℕ). get_or x l 0) (ap (λ (x : List ℕ). seg x (13 * n + 8 * e + 7 * (k + 1)) (k + 1)) e5
                      ∙ seg-put_above v4 (n + (k + 1)) (seg v4 (13 * n + 8 * e + 6 * (k + 1)) (k + 1)) (13 * n + 8 * e + 7 * (k + 1)) (k + 1) (omega (arith, l_c, q.few, q.some)) ∙ left_4 (7 * (k + 1)) (omega arith))

                  -- a word of the log
                  log_of : (j : ℕ) → j < 6 * (k - 1) → j < 6 * e → get_or v8 (n + (k + 1) + (k + 1) + (k + 1) + j) 0 ≡ log_in (view e (k + 1) y d2) j
                  unfolding view
                  log_of j a b =
                      let at : ℕ = 13 * n + 8 * e + 8 * (k + 1) + j in
                      let z : at ≡ 13 * n + (8 * e + 8 * (k + 1) + j) = omega arith in
                      copied (n + (k + 1) + (k + 1) + (k + 1) + j) (λ p. omega arith) (λ p. omega arith)
                      ∙ ap (λ (x : List ℕ). get_or x (n + (k + 1) + (k + 1) + (k + 1) + j) 0) eb
                      ∙ get_or-put_in v6 (n + (k + 1) + (k + 1) + (k + 1)) kept j 0 (omega (arith, l_k)) (omega (arith, l6, q.words, q.few))
                      ∙ get_or-seg v6 (13 * n + 8 * e + 8 * (k + 1)) (6 * (k - 1)) j 0 a
                      ∙ ap (λ (x : List ℕ). get_or x at 0) e6 ∙ get_or-put_above v5 (n + (k + 1) + (k + 1)) (seg v5 (13 * n + 8 * e + 7 * (k + 1)) (k + 1)) at 0 (omega (arith, l_m, q.few, q.some))
                      ∙ ap (λ (x : List ℕ). get_or x at 0) e5 ∙ get_or-put_above v4 (n + (k + 1)) (seg v4 (13 * n + 8 * e + 6 * (k + 1)) (k + 1)) at 0 (omega (arith, l_c, q.few, q.some))
                      ∙ ap (λ (x : List ℕ). get_or x at 0) e4' ∙ ap (λ (i : ℕ). get_or (put v3 (13 * n) y) i 0) z
                      ∙ get_or-put_in v3 (13 * n) y (8 * e + 8 * (k + 1) + j) 0 (omega (arith, lc)) (omega (arith, room))
                      ∙ sym (get_or-seg y (8 * e + 8 * (k + 1)) (6 * e) j 0 b)

                  count_0 : get_or v8 (n + (k + 1) + 0) 0 ≡ 1000
                  count_0 =
                      ap (λ (i : ℕ). get_or v8 i 0) {x = n + (k + 1) + 0} {y = n + (k + 1)} (omega arith)
                      ∙ ap (λ (x : List ℕ). get_or x (n + (k + 1)) 0) e8 ∙ get_or-set_other v7 (n + (k + 1) + (k + 1)) (n + (k + 1)) 0 0 (λ p. omega arith)
                      ∙ ap (λ (x : List ℕ). get_or x (n + (k + 1)) 0) e7 ∙ get_or-set_same v (n + (k + 1)) 1000 0 (omega (arith, lv, q.words, q.few))

                  mark_0 : get_or v8 (n + (k + 1) + (k + 1) + 0) 0 ≡ 0
                  mark_0 =
                      ap (λ (i : ℕ). get_or v8 i 0) {x = n + (k + 1) + (k + 1) + 0} {y = n + (k + 1) + (k + 1)} (omega arith)
                      ∙ ap (λ (x : List ℕ). get_or x (n + (k + 1) + (k + 1)) 0) e8
                      ∙ get_or-set_same v7 (n + (k + 1) + (k + 1)) 0 0 (omega (arith, ap length e7, length-set v (n + (k + 1)) 1000, lv, q.words, q.few))

                  net : network_by two_nyquist f k (seg u 0 n) vel ≡ network two_nyquist k e (seg u 0 n) ps (view e (k + 1) (seg v3 (13 * n) c) d1) filled
                  net = unfold network_by network in refl

                  pub reduced : Reduced (network_by two_nyquist f k (seg u 0 n) vel) n k u v8 r
                  reduced = rw net (record {
                    answer = answer two_nyquist k e (seg u 0 n) ps (view e (k + 1) (seg v3 (13 * n) c) d1) filled y d2 r A;
                    tables = record {
                      counts = λ g l h. ⊎_elim
                          (λ z. ap (λ (i : ℕ). unbias (get_or v8 (counts_at n k + i) 0)) z ∙ ap unbias count_0' ∙ zero_count ∙ ap (count_of _) (sym z))
                          (λ z. ap unbias (count_of' l (omega arith) h) ∙ (leaves g).counts l (omega arith) h)
                          (eq_or_ne l 0);
                      most = λ g l h. ⊎_elim
                          (λ z. omega (arith, ap (λ (i : ℕ). get_or v8 (counts_at n k + i) 0) z, count_0'))
                          (λ z. omega (arith, count_of' l (omega arith) h, (leaves g).most l h))
                          (eq_or_ne l 0);
                      marks = λ g l h. ⊎_elim
                          (λ z. ap (λ (i : ℕ). get_or v8 (marks_at n k + i) 0) z ∙ mark_0' ∙ sym zero_mark ∙ ap (mark_of _) (sym z))
                          (λ z. mark_of' l (omega arith) h ∙ (leaves g).marks l (omega arith) h)
                          (eq_or_ne l 0);
                      entries = λ g. entries_same _ (λ j. get_or v8 (book_at n k + j) 0) (length (merges net_is)) (book net_is (merges net_is)) (λ j h. log_of' j (omega (arith, few_merges, h)) (omega (arith, merges_in, h))) (leaves g).entries;
                      sizes = unfold sizes_at in low n (k + 1) (omega arith) ∙ sizes_3;
                      labels = low 0 n (omega arith) ∙ labels_3;
                    };
                  })
                    where
                      leaves : merges_in_range (network two_nyquist k e (seg u 0 n) ps (view e (k + 1) (seg v3 (13 * n) c) d1) filled) ≡ true → Left two_nyquist k e (seg u 0 n) ps (view e (k + 1) (seg v3 (13 * n) c) d1) filled y d2
                      leaves g = unfold merges_in_range in left two_nyquist k e (seg u 0 n) ps (view e (k + 1) (seg v3 (13 * n) c) d1) filled y d2 r A g

                      net_is : State
                      net_is = network two_nyquist k e (seg u 0 n) ps (view e (k + 1) (seg v3 (13 * n) c) d1) filled

                      few_merges : length (merges net_is) ≤ k - 1
                      few_merges = subst (λ (t : State). length (merges t) ≤ k - 1) net (merges_less two_nyquist f k (seg u 0 n) vel)

                      merges_in : length (merges net_is) ≤ e
                      merges_in = few_edges two_nyquist k e (seg u 0 n) ps (view e (k + 1) (seg v3 (13 * n) c) d1) filled

                      log_of' : (j : ℕ) → j < 6 * (k - 1) → j < 6 * e → get_or v8 (book_at n k + j) 0 ≡ log_in (view e (k + 1) y d2) j
                      log_of' j a b = unfold book_at in log_of j a b

                      no_turn : unbias 1000 ≡ pos 0
                      no_turn = unfold unbias in refl

                      zero_count : unbias 1000 ≡ count_of (replay (network two_nyquist k e (seg u 0 n) ps (view e (k + 1) (seg v3 (13 * n) c) d1) filled) (merges (network two_nyquist k e (seg u 0 n) ps (view e (k + 1) (seg v3 (13 * n) c) d1) filled))).regions 0
                      zero_count = no_turn ∙ sym (no_region_0 two_nyquist k e (seg u 0 n) ps (view e (k + 1) (seg v3 (13 * n) c) d1) filled)

                      count_0' : get_or v8 (counts_at n k + 0) 0 ≡ 1000
                      count_0' = unfold counts_at in count_0

                      count_of' : (l : ℕ) → 1 ≤ l → l ≤ k → get_or v8 (counts_at n k + l) 0 ≡ get_or ((view e (k + 1) y d2).at count) l 0
                      count_of' l a b = unfold counts_at in count_of_lem l a b

                      zero_mark : mark_of (trace (network two_nyquist k e (seg u 0 n) ps (view e (k + 1) (seg v3 (13 * n) c) d1) filled) (merges (network two_nyquist k e (seg u 0 n) ps (view e (k + 1) (seg v3 (13 * n) c) d1) filled))) 0 ≡ 0
                      zero_mark = unfold mark_of in refl

                      mark_0' : get_or v8 (marks_at n k + 0) 0 ≡ 0
                      mark_0' = unfold marks_at in mark_0

                      mark_of' : (l : ℕ) → 1 ≤ l → l ≤ k → get_or v8 (marks_at n k + l) 0 ≡ get_or ((view e (k + 1) y d2).at mark) l 0
                      mark_of' l a b = unfold marks_at in mark_of_lem l a b

                      sizes_3 : seg v3 n (k + 1) ≡ tabulate (k + 1) (size_in (seg u 0 n))
                      sizes_3 = ap (λ (x : List ℕ). seg x n (k + 1)) e3' ∙ seg-put_below v2 (13 * n + 8 * e + 3 * (k + 1)) (tabulate (k + 1) (size_in (seg u 0 n))) n (k + 1) (omega (arith, q.few, q.some)) ∙ sizes_2

                      labels_3 : seg v3 0 n ≡ seg u 0 n
                      labels_3 =
                          ap (λ (x : List ℕ). seg x 0 n) e3' ∙ seg-put_below v2 (13 * n + 8 * e + 3 * (k + 1)) (tabulate (k + 1) (size_in (seg u 0 n))) 0 n (omega arith)
                          ∙ ap (λ (x : List ℕ). seg x 0 n) e2' ∙ seg-put_below v1 n (tabulate (k + 1) (size_in (seg u 0 n))) 0 n (omega arith) ∙ E.labels
