-- One block of intervals in the slice: labels in the first n words, the block's own work after them. Assumes nothing.
use Rattle.std.proofs.Common.{◌≡◌, ℕ, suc, ◌+◌, ◌-◌, ◌^◌, ◌<◌, ◌≤◌, min, List, ◌++◌, length, get_or, take, drop, replicate, sym, ap, ◌∙◌, arith, length-drop, length-take, take_all, ext_get_or}
use Rattle.std.proofs.lemmas.List.{take-append-le}
use lib.Ieee.{Float}
use lib.ListN.{length-replicate}
use borrow.Rule.Slice.PartMut.{mid_of, put_mid, mid_len}
use Rattle.lists.specs.Inside.Seg.{seg, put}
use Rattle.lists.proofs.SegLaws.{length-seg, get_or-seg, lent_seg, lent_else, put_mid_lem, length-put, seg-put_below, seg-put_same, seg_all, seg_add}
use Rattle.labels.specs.Label.{Found}
use Rattle.labels.specs.Regions.{over, added, nothing, regions}
use Rattle.labels.specs.Inside.Sheet.{IsSound}
use Rattle.labels.proofs.OverLaws.{added_at, added_long, added_number}
use Rattle.labels.proofs.RegionFacts.{regions_are}
use Rattle.labels.proofs.BlockLaws.{begin, next, rising_part}

-- ---- one block: u at first, ys the part that was lent, x with the labels put over
module _ (gates : ℕ) (vel : List Float) (mask : List ℕ) (limits : List Float) (u : List ℕ) (n : ℕ) (S : IsSound n gates vel mask limits) (fits : n + n + n + (length limits - 1) ≤ length u) where
  module _ (ys : List ℕ) (r : ℕ) (kept : length ys ≡ length (mid_of n (n + n + n + (length limits - 1) - n) u)) (E : record { labels = seg ys 0 n; number = r } ≡ regions gates vel mask limits) where
    v : List ℕ
    v = put_mid n (n + n + n + (length limits - 1) - n) u ys

    ys_long : length ys ≡ n + n + n + (length limits - 1) - n
    ys_long = kept ∙ mid_len n (n + n + n + (length limits - 1)) u fits

    inside_u : n + (n + n + n + (length limits - 1) - n) ≤ length u
    inside_u = omega (arith, fits)

    pub v_long : length (put_mid n (n + n + n + (length limits - 1) - n) u ys) ≡ length u
    v_long = ap length (put_mid_lem u n (n + n + n + (length limits - 1) - n) ys ys_long inside_u) ∙ length-put u n ys

    old_at : (i : ℕ) → i < n → get_or v i 0 ≡ get_or u i 0
    unfolding v
    old_at i h = lent_else u n (n + n + n + (length limits - 1) - n) ys ys_long inside_u i 0 (λ p q. omega arith)

    new_at : (i : ℕ) → i < n → get_or v (n + i) 0 ≡ get_or (regions gates vel mask limits).labels i 0
    unfolding v
    new_at i h =
        sym (get_or-seg v n (n + n + n + (length limits - 1) - n) i 0 (omega arith))
        ∙ ap (λ (l : List ℕ). get_or l i 0) (lent_seg u n (n + n + n + (length limits - 1) - n) ys ys_long inside_u)
        ∙ sym (get_or-seg ys 0 n i 0 h ∙ ap (λ (y : ℕ). get_or ys y 0) (omega arith))
        ∙ ap (λ (f : Found). get_or f.labels i 0) E

    number_is : r ≡ (regions gates vel mask limits).number
    number_is = ap (λ (f : Found). f.number) E

    pub over_asks : (from : ℕ) → from + (regions gates vel mask limits).number < 2 ^ 32 → (i : ℕ) → i < n → get_or (put_mid n (n + n + n + (length limits - 1) - n) u ys) (n + i) 0 + from < 2 ^ 32
    unfolding v
    over_asks from h i q = omega (arith, new_at i q, (regions_are gates vel mask limits S.rising).low i)

    pub block_found : (from : ℕ) (x : List ℕ) → length x ≡ length (put_mid n (n + n + n + (length limits - 1) - n) u ys)
        → ((i : ℕ) → i < n → get_or x i 0 ≡ over from (get_or (put_mid n (n + n + n + (length limits - 1) - n) u ys) i 0) (get_or (put_mid n (n + n + n + (length limits - 1) - n) u ys) (n + i) 0))
        → record { labels = seg x 0 n; number = from + r } ≡ added (record { labels = seg u 0 n; number = from }) (regions gates vel mask limits)
    unfolding v
    block_found from x e P =
        let f : Found = record { labels = seg u 0 n; number = from } in
        let a : Found = regions gates vel mask limits in
        let lx : length (seg x 0 n) ≡ n = length-seg x 0 n (omega (arith, v_long, fits)) in
        let lu : length (seg u 0 n) ≡ n = length-seg u 0 n (omega (arith, fits)) in
        let at_u : (i : ℕ) → i < n → get_or (seg u 0 n) i 0 ≡ get_or u i 0 = λ i q. get_or-seg u 0 n i 0 q ∙ ap (λ (y : ℕ). get_or u y 0) (omega arith) in
        let l : seg x 0 n ≡ (added f a).labels =
        ext_get_or 0 (seg x 0 n) (added f a).labels (lx ∙ sym (added_long f a ∙ lu))
        (λ i q.
        let h : i < n = omega arith in
        get_or-seg x 0 n i 0 h
        ∙ ap (λ (y : ℕ). get_or x y 0) (omega arith)
        ∙ P i h
        ∙ ap (λ (y : ℕ). over from y (get_or v (n + i) 0)) (old_at i h ∙ sym (at_u i h))
        ∙ ap (over from (get_or (seg u 0 n) i 0)) (new_at i h)
        ∙ sym (added_at f a i (omega arith))) in
        let m : from + r ≡ (added f a).number = ap (λ (y : ℕ). from + y) number_is ∙ sym (added_number f a) in
        λ i. record { labels = l i; number = m i }

-- ---- block after block: what the intervals up to limit i have, in u
pub record Growing (gates : ℕ) (vel : List Float) (mask : List ℕ) (limits : List Float) (n : ℕ) (u : List ℕ) (k i : ℕ) : Type 0 where
  pub found : record { labels = seg u 0 n; number = k } ≡ regions gates vel mask (take (suc i) limits)

module _ (gates : ℕ) (vel : List Float) (mask : List ℕ) (limits : List Float) (n : ℕ) (S : IsSound n gates vel mask limits) where
  -- no labels yet
  pub grow_begin : (u v : List ℕ) → n ≤ length u → v ≡ put u 0 (replicate n 0) → Growing gates vel mask limits n v 0 0
  unfolding nothing
  grow_begin u v fits c =
      let l : length (replicate {A = ℕ} n 0) ≡ n = length-replicate n 0 in
      let s : seg v 0 n ≡ replicate (length mask) 0 = ap (λ (y : List ℕ). seg y 0 n) c ∙ ap (seg (put u 0 (replicate n 0)) 0) (sym l) ∙ seg-put_same u 0 (replicate n 0) (omega arith) ∙ ap (λ (y : ℕ). replicate y 0) (sym S.masks) in
      record { found = ap (λ (t : List ℕ). record { labels = t; number = 0 }) s ∙ sym (begin gates vel mask limits) }

  module _ (u : List ℕ) (k i j : ℕ) (G : Growing gates vel mask limits n u k i) (low : i < j) (high : j < length limits) where
    size : j + 1 - i ≡ suc (j - i)
    size = omega arith

    part : List Float
    part = take (j + 1 - i) (drop i limits)

    together : added (record { labels = seg u 0 n; number = k }) (regions gates vel mask (take (j + 1 - i) (drop i limits))) ≡ regions gates vel mask (take (suc j) limits)
    together =
        ap (λ (f : Found). added f (regions gates vel mask (take (j + 1 - i) (drop i limits)))) G.found
        ∙ ap (λ (y : ℕ). added (regions gates vel mask (take (suc i) limits)) (regions gates vel mask (take y (drop i limits)))) size
        ∙ sym (next gates vel mask limits i j (omega arith) high)

    -- the part of the limits is sound too, and its labels fit
    pub part_sound : IsSound n gates vel mask (take (j + 1 - i) (drop i limits))
    part_sound =
        let a : length (take (j + 1 - i) (drop i limits)) ≡ min (j + 1 - i) (length (drop i limits)) = length-take (j + 1 - i) (drop i limits) in
        record {
          velocities = S.velocities;
          masks = S.masks;
          small = S.small;
          some_gates = S.some_gates;
          rising = rising_part limits S.rising i (j + 1 - i);
          few_limits = omega (arith, length-drop i limits, S.few_limits);
        }

    pub part_number : k + (regions gates vel mask (take (j + 1 - i) (drop i limits))).number < 2 ^ 32
    unfolding part
    part_number =
        let t : k + (regions gates vel mask part).number ≡ (regions gates vel mask (take (suc j) limits)).number = sym (added_number (record { labels = seg u 0 n; number = k }) (regions gates vel mask part)) ∙ ap (λ (f : Found). f.number) together in
        let f : (regions gates vel mask (take (suc j) limits)).number ≤ length mask = (regions_are gates vel mask (take (suc j) limits) (rising_part limits S.rising 0 (suc j))).few in
        omega (arith, S.masks, S.small)

    pub grow_next : (x : List ℕ) (r : ℕ) → record { labels = seg x 0 n; number = r } ≡ added (record { labels = seg u 0 n; number = k }) (regions gates vel mask (take (j + 1 - i) (drop i limits))) → Growing gates vel mask limits n x r j
    grow_next x r e = record { found = e ∙ together }

  pub grow_end : (u : List ℕ) (k i : ℕ) → Growing gates vel mask limits n u k i → length limits ≤ i + 1 → record { labels = seg u 0 n; number = k } ≡ regions gates vel mask limits
  grow_end u k i G h = G.found ∙ ap (regions gates vel mask) (take_all (suc i) limits (omega arith))

-- ---- all intervals at once, in the first words ys of the slice
pub front_found : (ys zs : List ℕ) (n r : ℕ) (f : Found) → n ≤ length ys → record { labels = seg ys 0 n; number = r } ≡ f → record { labels = seg (ys ++ zs) 0 n; number = r } ≡ f
unfolding seg
front_found ys zs n r f h E = ap (λ (t : List ℕ). record { labels = t; number = r }) (take-append-le n ys zs h) ∙ E

-- ---- labels, and zeros after them
pub zeros_after : (u v : List ℕ) (n m : ℕ) (f : Found) (r : ℕ) → length u ≡ n + m → record { labels = seg u 0 n; number = r } ≡ f → v ≡ put u n (replicate m 0) → (r ≡ f.number) × (v ≡ f.labels ++ replicate m 0)
zeros_after u v n m f r e E z =
    let l : length (replicate {A = ℕ} m 0) ≡ m = length-replicate m 0 in
    let a : seg v 0 n ≡ f.labels = ap (λ (t : List ℕ). seg t 0 n) z ∙ seg-put_below u n (replicate m 0) 0 n (omega arith) ∙ ap (λ (t : Found). t.labels) E in
    let b : seg v n m ≡ replicate m 0 = ap (λ (t : List ℕ). seg t n m) z ∙ ap (seg (put u n (replicate m 0)) n) (sym l) ∙ seg-put_same u n (replicate m 0) (omega arith) in (
      ap (λ (t : Found). t.number) E,
      sym (seg_all v (n + m) (ap length z ∙ length-put u n (replicate m 0) ∙ e)) ∙ seg_add v 0 n m ∙ ap (λ (t : ℕ). seg v 0 n ++ seg v t m) (omega arith)
          ∙ ap (λ (t : List ℕ). t ++ seg v n m) a ∙ ap (λ (t : List ℕ). f.labels ++ t) b,
    )
