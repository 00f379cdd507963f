-- The turns of `labels_of`, over plain values. Assumes nothing.
use Rattle.std.proofs.Common.{◌≡◌, ℕ, ◌+◌, ◌*◌, ◌/◌, ◌<◌, ◌≤◌, List, [], ◌∷◌, ◌++◌, map, length, get_or, set, sym, ap, ◌∙◌, subst, arith, get_or-set_other}
use lib.ListN.{length-map}
use Rattle.lists.proofs.SeqLaws.{map_append}
use Rattle.lists.specs.Inside.Seg.{seg, put}
use Rattle.lists.proofs.SegLaws.{length-put, length-seg, put_nil, get_or-put_below, seg_snoc}
use Rattle.edges.specs.Inside.GatePairs.{GatePair, gates_by}
use Rattle.edges.specs.Inside.Sorts.{labels_of, with_labels, Reads}
use Rattle.edges.proofs.GrowLaws.{two}

pub length_labels : (w : List ℕ) (src m : ℕ) → src + m ≤ length w → length (labels_of w src m) ≡ m
unfolding labels_of
length_labels w src m h = length-map (seg w src m) (λ x. get_or w (x / 2) 0) ∙ length-seg w src m h

labels_more : (w : List ℕ) (src i : ℕ) → src + i < length w → labels_of w src i ++ (get_or w (get_or w (src + i) 0 / 2) 0 ∷ []) ≡ labels_of w src (i + 1)
unfolding labels_of
labels_more w src i h = sym (map_append (λ x. get_or w (x / 2) 0) (seg w src i) (get_or w (src + i) 0 ∷ [])) ∙ ap (map (λ x. get_or w (x / 2) 0)) (sym (seg_snoc w src i 0 h))

pub length_with : (w : List ℕ) (n m i : ℕ) → length (with_labels w n m i) ≡ length w
unfolding with_labels
length_with w n m i = length-put (put w (9 * n + m + m) (labels_of w n i)) (9 * n + m + m + m) (labels_of w (5 * n) i) ∙ length-put w (9 * n + m + m) (labels_of w n i)

pub with_below : (w : List ℕ) (n m i j : ℕ) → j < 9 * n + m + m → get_or (with_labels w n m i) j 0 ≡ get_or w j 0
unfolding with_labels
with_below w n m i j h =
    get_or-put_below (put w (9 * n + m + m) (labels_of w n i)) (9 * n + m + m + m) (labels_of w (5 * n) i) j 0 (omega arith) ∙ get_or-put_below w (9 * n + m + m) (labels_of w n i) j 0 h

-- a turn at pair p: its gates are in the sweep, and the two stores leave the memory at i + 1
pub record Turn (w₀ w : List ℕ) (n m i : ℕ) (p : GatePair) : Type 0 where
  pub g_lt : p.gate < n
  pub h_lt : p.far < n
  pub step : (let v : List ℕ = set w (9 * n + m + m + i) (get_or w p.gate 0) in set v (9 * n + m + m + m + i) (get_or v p.far 0) ≡ with_labels w₀ n m (i + 1))

pub labels_begin : (w : List ℕ) (n m : ℕ) → w ≡ with_labels w n m 0
unfolding with_labels labels_of seg
labels_begin w n m = sym (put_nil (put w (9 * n + m + m) []) (9 * n + m + m + m) ∙ put_nil w (9 * n + m + m))

turn_at : (w₀ w : List ℕ) (n m i : ℕ) → Reads w₀ n m → w ≡ with_labels w₀ n m i → i < m → Turn w₀ w n m i (gates_by (get_or w (n + i) 0) (get_or w (5 * n + i) 0))
unfolding with_labels
turn_at w₀ w n m i lay e h =
    let O : ℕ = 9 * n + m + m in
    let T : ℕ = 9 * n + m + m + m in
    let same : (j : ℕ) → j < O → get_or w j 0 ≡ get_or w₀ j 0 = λ j l. ap (λ (x : List ℕ). get_or x j 0) e ∙ with_below w₀ n m i j l in
    let ge : get_or w (n + i) 0 ≡ get_or w₀ (n + i) 0 = same (n + i) (omega (arith, lay.few)) in
    let he : get_or w (5 * n + i) 0 ≡ get_or w₀ (5 * n + i) 0 = same (5 * n + i) (omega (arith, lay.few)) in
    let gl : get_or w (n + i) 0 / 2 < n = subst (λ (x : ℕ). x / 2 < n) (sym ge) (lay.gate i h) in
    let hl : get_or w (5 * n + i) 0 / 2 < n = subst (λ (x : ℕ). x / 2 < n) (sym he) (lay.far i h) in
    let x : ℕ = get_or w (get_or w (n + i) 0 / 2) 0 in
    let xe : x ≡ get_or w₀ (get_or w₀ (n + i) 0 / 2) 0 = same (get_or w (n + i) 0 / 2) (omega (arith, gl)) ∙ ap (λ (y : ℕ). get_or w₀ (y / 2) 0) ge in
    let ye : get_or (set w (O + i) x) (get_or w (5 * n + i) 0 / 2) 0 ≡ get_or w₀ (get_or w₀ (5 * n + i) 0 / 2) 0 =
    get_or-set_other w (O + i) (get_or w (5 * n + i) 0 / 2) x 0 (λ q. omega (arith, hl, q)) ∙ same (get_or w (5 * n + i) 0 / 2) (omega (arith, hl)) ∙ ap (λ (y : ℕ). get_or w₀ (y / 2) 0) he in
    let A : List ℕ = labels_of w₀ n i in
    let B : List ℕ = labels_of w₀ (5 * n) i in
    let l_a : length A ≡ i = length_labels w₀ n i (omega (arith, lay.room, lay.few)) in
    let l_b : length B ≡ i = length_labels w₀ (5 * n) i (omega (arith, lay.room, lay.few)) in
    record {
      g_lt = gl;
      h_lt = hl;
      step =
          ap (set (set w (O + i) x) (T + i)) ye
          ∙ (λ j. set (set (e j) (O + i) (xe j)) (T + i) (get_or w₀ (get_or w₀ (5 * n + i) 0 / 2) 0))
          ∙ two w₀ O T i A B (get_or w₀ (get_or w₀ (n + i) 0 / 2) 0) (get_or w₀ (get_or w₀ (5 * n + i) 0 / 2) 0) l_a l_b (omega arith)
          ∙ (λ j. put (put w₀ O (labels_more w₀ n i (omega (arith, lay.room, lay.few)) j)) T (labels_more w₀ (5 * n) i (omega (arith, lay.room, lay.few)) j));
    }

pub turn : (w₀ w : List ℕ) (n m i : ℕ) (p : GatePair) → Reads w₀ n m → w ≡ with_labels w₀ n m i → i < m → p ≡ gates_by (get_or w (n + i) 0) (get_or w (5 * n + i) 0) → Turn w₀ w n m i p
turn w₀ w n m i p lay e h q = subst (Turn w₀ w n m i) (sym q) (turn_at w₀ w n m i lay e h)
