-- The call from phase to phase, over plain values. Assumes nothing.
use Rattle.std.proofs.Common.{◌≡◌, ℕ, suc, ◌+◌, ◌-◌, ◌^◌, ◌<◌, ◌≤◌, List, length, get_or, drop, replicate, sym, refl, ap, ◌∙◌, subst, arith}
use lib.Ieee.{Float}
use lib.ListN.{length-replicate}
use Rattle.arithmetic.specs.Inside.Asked.{Rising}
use Rattle.lists.specs.Inside.Seg.{seg, put}
use Rattle.lists.specs.Seq.{tabulate, sum}
use Rattle.lists.proofs.SegLaws.{sums_are}
use Rattle.lists.proofs.SeqLaws.{tab_at, tab_length}
use Rattle.labels.specs.Regions.{regions}
use Rattle.labels.specs.Inside.Forest.{Forest}
use Rattle.labels.specs.Inside.Areas.{AreasOf}
use Rattle.labels.specs.Inside.Bands.{Bands, marks, joint}
use Rattle.labels.specs.Inside.Numbering.{sizes, NumbersGates, Numbering}
use Rattle.labels.specs.Inside.Sheet.{IsSound}
use Rattle.labels.proofs.RegionFacts.{regions_are}
use Rattle.labels.proofs.JointLaws.{joint_own}
use Rattle.labels.proofs.FoldLaws.{number_is, by_bands, sizes_suc, sizes_below, band_few}
use Rattle.labels.proofs.SheetLaws.{words_long, counts_long, count_at_lem, put_counts, put_others}

module _ (gates : ℕ) (vel : List Float) (mask : List ℕ) (limits : List Float) (iv w : List ℕ) (long : length mask ≡ length w) (small : length w + 1 < 2 ^ 32) (rising : Rising limits)
    (B : Bands limits vel mask iv) (F : Forest (marks iv) w (joint gates iv)) where
  few : sizes iv (joint gates iv) (length limits - 1) ≤ length w
  few = omega (arith, number_is gates vel mask limits iv B, (regions_are gates vel mask limits rising).few)

  number_room : (c : List ℕ) → length c ≡ length limits - 1 → ((j : ℕ) → j < length c → get_or c j 0 ≡ sizes iv (joint gates iv) j) → NumbersGates w iv c
  number_room c e s =
      record {
        rs = joint gates iv;
        forest = F;
        small = small;
        band = λ i. omega (arith, band_few limits vel mask iv B i);
        bands = joint_own gates iv;
        fits = λ j q. omega (arith, s j q, few, sizes_below iv (joint gates iv) j (length limits - 1) (omega arith));
      }

  result : (c c₂ labels : List ℕ) (r : ℕ) → length c ≡ length limits - 1 → ((j : ℕ) → j < length c → get_or c j 0 ≡ sizes iv (joint gates iv) j) → r ≡ sizes iv (joint gates iv) (length c)
      → Numbering iv (joint gates iv) c labels c₂ (length w) → record { labels = labels; number = r } ≡ regions gates vel mask limits
  result c c₂ labels r e s n N =
      by_bands gates vel mask limits iv B c (λ j h. s j (omega arith)) (λ i l z. N.numbered i (omega arith) z) labels r (N.long ∙ B.long) (λ i l. N.done i (omega arith)) (n ∙ ap (sizes iv (joint gates iv)) e)

-- the counters of u become 0
pub cleared : (limits : List Float) (u v : List ℕ) (n k : ℕ) → length u ≡ n + n + (length limits - 1) → k ≡ length limits - 1 → v ≡ put u (n + n) (replicate k 0) → drop (n + n) v ≡ replicate (length limits - 1) 0
cleared limits u v n k long e z =
    ap (drop (n + n)) z ∙ put_counts u n (omega arith) (replicate k 0) (length-replicate k 0 ∙ omega arith) ∙ ap (λ (y : ℕ). replicate y 0) e

-- u with gates joined and counted, v with the counters' starts, x with the labels
module _ (gates : ℕ) (vel : List Float) (mask : List ℕ) (limits : List Float) (u : List ℕ) (n : ℕ) (S : IsSound n gates vel mask limits) (long : length u ≡ n + n + (length limits - 1)) (k : ℕ) (counters_are : k ≡ length limits - 1)
    (B : Bands limits vel mask (seg u 0 n)) (P : AreasOf gates (seg u 0 n) (seg u n n) (drop (n + n) u)) where
  fits : n + n ≤ length u
  fits = omega (arith, long)

  as_many : length mask ≡ length (seg u n n)
  as_many = S.masks ∙ sym (words_long u n fits)

  small : length (seg u n n) + 1 < 2 ^ 32
  small = omega (arith, words_long u n fits, S.small)

  counters : length (drop (n + n) u) ≡ k
  counters = counts_long u n fits ∙ omega arith

  -- the sums of the counters
  summed : (j : ℕ) → j ≤ k → sum (seg u (n + n) j) ≡ sizes (seg u 0 n) (joint gates (seg u 0 n)) j
  summed =
      sums_are u (n + n) k (sizes (seg u 0 n) (joint gates (seg u 0 n))) (omega (arith, fits)) (unfold sizes in refl)
      (λ j h. omega (arith, sizes_suc (seg u 0 n) (joint gates (seg u 0 n)) j, P.counts j (omega (arith, counters)), count_at_lem u n fits j))

  -- they fit: there are no more regions than gates
  pub starts_bound : sum (seg u (n + n) k) < 2 ^ 32
  starts_bound =
      omega (arith, summed k (omega arith), ap (sizes (seg u 0 n) (joint gates (seg u 0 n))) counters_are, few gates vel mask limits (seg u 0 n) (seg u n n) as_many small S.rising B P.forest, small)

  module _ (v : List ℕ) (r : ℕ) (R : r ≡ sum (seg u (n + n) k)) (E : v ≡ put u (n + n) (tabulate k (λ j. sum (seg u (n + n) j)))) where
    -- how many regions the bands before each have
    starts : List ℕ
    starts = tabulate k (λ j. sum (seg u (n + n) j))

    starts_long : length starts ≡ k
    unfolding starts
    starts_long = tab_length (λ j. sum (seg u (n + n) j)) k

    all_starts : length starts ≡ length u - (n + n)
    all_starts = omega (arith, starts_long)

    -- only the counters differ
    v_bands : seg v 0 n ≡ seg u 0 n
    unfolding starts
    v_bands = ap (λ (l : List ℕ). seg l 0 n) E ∙ (put_others u n fits starts all_starts).0

    v_words : seg v n n ≡ seg u n n
    unfolding starts
    v_words = ap (λ (l : List ℕ). seg l n n) E ∙ (put_others u n fits starts all_starts).1

    v_counts : drop (n + n) v ≡ starts
    unfolding starts
    v_counts = ap (drop (n + n)) E ∙ put_counts u n fits starts all_starts

    v_counters : length (drop (n + n) v) ≡ length limits - 1
    v_counters = ap length v_counts ∙ starts_long ∙ omega (arith, long)

    starts_are : (j : ℕ) → j < length (drop (n + n) v) → get_or (drop (n + n) v) j 0 ≡ sizes (seg u 0 n) (joint gates (seg u 0 n)) j
    unfolding starts
    starts_are j q =
        let h : j < k = omega (arith, v_counters, long) in
        ap (λ (l : List ℕ). get_or l j 0) v_counts ∙ tab_at (λ j. sum (seg u (n + n) j)) k j 0 h ∙ summed j (omega arith)

    -- what the numbering asks
    pub number_asks : NumbersGates (seg v n n) (seg v 0 n) (drop (n + n) v)
    number_asks = rw (v_words, v_bands) (number_room gates vel mask limits (seg u 0 n) (seg u n n) as_many small S.rising B P.forest (drop (n + n) v) v_counters starts_are)

    -- and what it gives are the regions
    pub whole : (x : List ℕ) → ((rs : List ℕ) → Forest (marks (seg v 0 n)) (seg v n n) rs → ((i r : ℕ) → get_or rs i 0 ≡ suc r → get_or (seg v 0 n) r 0 ≡ get_or (seg v 0 n) i 0) → Numbering (seg v 0 n) rs (drop (n + n) v) (seg x 0 n) (drop (n + n) x) n)
        → record { labels = seg x 0 n; number = r } ≡ regions gates vel mask limits
    whole x N =
        let N₂ : (rs : List ℕ) → Forest (marks (seg u 0 n)) (seg u n n) rs → ((i r : ℕ) → get_or rs i 0 ≡ suc r → get_or (seg u 0 n) r 0 ≡ get_or (seg u 0 n) i 0) → Numbering (seg u 0 n) rs (drop (n + n) v) (seg x 0 n) (drop (n + n) x) n = rw (v_words, v_bands) at N in
        result gates vel mask limits (seg u 0 n) (seg u n n) as_many small S.rising B P.forest (drop (n + n) v) (drop (n + n) x) (seg x 0 n) r v_counters starts_are
        (R ∙ summed k (omega arith) ∙ ap (sizes (seg u 0 n) (joint gates (seg u 0 n))) (omega (arith, v_counters, long)))
        (subst (Numbering (seg u 0 n) (joint gates (seg u 0 n)) (drop (n + n) v) (seg x 0 n) (drop (n + n) x)) (sym (words_long u n fits)) (N₂ (joint gates (seg u 0 n)) P.forest (joint_own gates (seg u 0 n))))
