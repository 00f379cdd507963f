-- What `sort_pairs` does between its calls, over plain values. Assumes nothing.
use Rattle.std.proofs.Common.{◌≡◌, ℕ, suc, ◌+◌, ◌*◌, ◌/◌, ◌<◌, ◌≤◌, List, [], ◌∷◌, map, length, get_or, sym, refl, ap, ◌∙◌, subst, arith}
use Rattle.lists.specs.Seq.{upto}
use Rattle.lists.proofs.SeqLaws.{upto-length, upto_at, map_at}
use Rattle.lists.specs.Inside.Seg.{seg, put}
use Rattle.lists.proofs.SegLaws.{length-put, length-seg, get_or-seg, get_or-put_below, seg-put_below, seg-put_same}
use Rattle.memory.specs.Inside.Sort.{sorted}
use Rattle.memory.specs.Inside.TwoKeys.{Lay, both}
use Rattle.edges.specs.Inside.Sorts.{labels_of, with_labels, Reads, Sorts, Sorted}
use Rattle.edges.proofs.Fills.{length_labels, length_with, with_below}

map_below : (w : List ℕ) (b : ℕ) (vs S : List ℕ) → ((i : ℕ) → i < length S → get_or S i 0 / 2 < b) → map (λ x. get_or (put w b vs) (x / 2) 0) S ≡ map (λ x. get_or w (x / 2) 0) S
map_below w b vs [] h = refl
map_below w b vs (x ∷ S) h = rw (get_or-put_below w b vs (x / 2) 0 (h 0 (omega arith)), map_below w b vs S (λ i g. h (suc i) (omega arith))) refl

labels_kept : (w : List ℕ) (b : ℕ) (vs : List ℕ) (src m : ℕ) → src + m ≤ b → src + m ≤ length w → ((i : ℕ) → i < m → get_or w (src + i) 0 / 2 < b) → labels_of (put w b vs) src m ≡ labels_of w src m
unfolding labels_of
labels_kept w b vs src m h r g =
    ap (map (λ x. get_or (put w b vs) (x / 2) 0)) (seg-put_below w b vs src m h)
    ∙ map_below w b vs (seg w src m) (λ i l. subst (λ (x : ℕ). x / 2 < b) (sym (get_or-seg w src m i 0 (omega (arith, length-seg w src m r)))) (g i (omega (arith, length-seg w src m r))))

labels_at : (w : List ℕ) (src m k i : ℕ) → src + m ≤ length w → i < m → get_or w (get_or w (src + i) 0 / 2) 0 < k → get_or (labels_of w src m) i 0 < k
unfolding labels_of
labels_at w src m k i r h g = rw (map_at (λ x. get_or w (x / 2) 0) (seg w src m) i 0 0 (omega (arith, length-seg w src m r)) ∙ ap (λ (x : ℕ). get_or w (x / 2) 0) (get_or-seg w src m i 0 h)) g

module _ {u : List ℕ} {n m k : ℕ} (lay : Sorts u n m k) where
  module _ {v : List ℕ} (e : v ≡ put u (9 * n) (upto m 0)) where
    lv : length v ≡ length u
    lv = ap length e ∙ length-put u (9 * n) (upto m 0)

    below_v : (j : ℕ) → j < 9 * n → get_or v j 0 ≡ get_or u j 0
    below_v j h = ap (λ (l : List ℕ). get_or l j 0) e ∙ get_or-put_below u (9 * n) (upto m 0) j 0 h

    pub reads : Reads v n m
    reads = record {
      room = omega (arith, lay.room, lv);
      few = lay.few;
      gate = λ i h. subst (λ (x : ℕ). x / 2 < n) (sym (below_v (n + i) (omega (arith, lay.few)))) (lay.gate i h);
      far = λ i h. subst (λ (x : ℕ). x / 2 < n) (sym (below_v (5 * n + i) (omega (arith, lay.few)))) (lay.far i h);
    }

    labels_v : (src : ℕ) → src + m ≤ 9 * n → ((i : ℕ) → i < m → get_or u (src + i) 0 / 2 < n) → labels_of v src m ≡ labels_of u src m
    labels_v src h g = ap (λ (l : List ℕ). labels_of l src m) e ∙ labels_kept u (9 * n) (upto m 0) src m h (omega (arith, lay.room)) (λ i l. omega (arith, g i l))

    module _ {y : List ℕ} (g : y ≡ with_labels v n m m) where
      ly : length y ≡ length u
      ly = ap length g ∙ length_with v n m m ∙ lv

      below_y : (j : ℕ) → j < 9 * n → get_or y j 0 ≡ get_or u j 0
      below_y j h = ap (λ (l : List ℕ). get_or l j 0) g ∙ with_below v n m m j (omega arith) ∙ below_v j h

      abbrev X : List ℕ
      X = put v (9 * n + m + m) (labels_of v n m)

      part_two : seg y (9 * n + m + m + m) m ≡ labels_of u (5 * n) m
      unfolding with_labels
      part_two =
          let l : length (labels_of v (5 * n) m) ≡ m = length_labels v (5 * n) m (omega (arith, lay.room, lv, lay.few)) in
          ap (λ (z : List ℕ). seg z (9 * n + m + m + m) m) g
          ∙ ap (λ (z : ℕ). seg (put X (9 * n + m + m + m) (labels_of v (5 * n) m)) (9 * n + m + m + m) z) (sym l)
          ∙ seg-put_same X (9 * n + m + m + m) (labels_of v (5 * n) m) (omega (arith, lay.room, lv, length-put v (9 * n + m + m) (labels_of v n m), l))
          ∙ labels_v (5 * n) (omega (arith, lay.few)) lay.far

      part_one : seg y (9 * n + m + m) m ≡ labels_of u n m
      unfolding with_labels
      part_one =
          let l : length (labels_of v n m) ≡ m = length_labels v n m (omega (arith, lay.room, lv, lay.few)) in
          ap (λ (z : List ℕ). seg z (9 * n + m + m) m) g
          ∙ seg-put_below X (9 * n + m + m + m) (labels_of v (5 * n) m) (9 * n + m + m) m (omega arith)
          ∙ ap (λ (z : ℕ). seg X (9 * n + m + m) z) (sym l)
          ∙ seg-put_same v (9 * n + m + m) (labels_of v n m) (omega (arith, lay.room, lv, l))
          ∙ labels_v n (omega (arith, lay.few)) lay.gate

      part_numbers : seg y (9 * n) m ≡ upto m 0
      unfolding with_labels
      part_numbers =
          let l : length (upto m 0) ≡ m = upto-length m 0 in
          ap (λ (z : List ℕ). seg z (9 * n) m) g
          ∙ seg-put_below X (9 * n + m + m + m) (labels_of v (5 * n) m) (9 * n) m (omega arith)
          ∙ seg-put_below v (9 * n + m + m) (labels_of v n m) (9 * n) m (omega arith)
          ∙ ap (λ (z : List ℕ). seg z (9 * n) m) e
          ∙ ap (λ (z : ℕ). seg (put u (9 * n) (upto m 0)) (9 * n) z) (sym l)
          ∙ seg-put_same u (9 * n) (upto m 0) (omega (arith, lay.room, l))

      pub sort_lay : Lay y (9 * n) m m k
      sort_lay = record {
        fit = omega (arith, lay.room, ly);
        small = lay.small;
        index = λ i h. omega (arith, get_or-seg y (9 * n) m i 0 h, ap (λ (z : List ℕ). get_or z i 0) part_numbers, upto_at m 0 i h);
        first = λ j h. omega (arith, get_or-seg y (9 * n + m + m) m j 0 h, ap (λ (z : List ℕ). get_or z j 0) part_one, labels_at u n m k j (omega (arith, lay.room, lay.few)) h (lay.label (get_or u (n + j) 0 / 2) (lay.gate j h)));
        second = λ j h. omega (arith, get_or-seg y (9 * n + m + m + m) m j 0 h, ap (λ (z : List ℕ). get_or z j 0) part_two, labels_at u (5 * n) m k j (omega (arith, lay.room, lay.few)) h (lay.label (get_or u (5 * n + j) 0 / 2) (lay.far j h)));
      }

      pub sort_done : {r : List ℕ} → seg r (9 * n) m ≡ both y (9 * n) m m k → ((j : ℕ) → (9 * n ≤ j → j < 9 * n + m + m → ⊥) → (9 * n + m + m + m + m ≤ j → j < 9 * n + m + m + m + m + k → ⊥) → get_or r j 0 ≡ get_or y j 0) → Sorted u r n m k
      unfolding both
      sort_done s t = record {
        order = s ∙ ap (λ (z : List ℕ). sorted z k (sorted (seg y (9 * n + m + m) m) k (seg y (9 * n) m))) part_two ∙ ap (λ (z : List ℕ). sorted (labels_of u (5 * n) m) k (sorted z k (seg y (9 * n) m))) part_one ∙ ap (λ (z : List ℕ). sorted (labels_of u (5 * n) m) k (sorted (labels_of u n m) k z)) part_numbers;
        kept = λ j h. t j (λ a b. omega arith) (λ a b. omega arith) ∙ below_y j h;
      }
