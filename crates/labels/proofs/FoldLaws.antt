-- The definition's fold over intervals, seen through the bands. Assumes nothing.
use Rattle.std.proofs.Common.{◌≡◌, ℕ, zero, suc, ◌+◌, ◌-◌, ◌<◌, ◌≤◌, Bool, false, cond, eqb, List, length, get_or, drop, sym, refl, ap, ◌∙◌, subst, ⊎_elim, add-one, arith, ext_get_or, eq-eqb, ne_eqb}
use mathlib.Core.List.{foldl}
use lib.Ieee.{Float, nan}
use lib.ListN.{length-replicate, get_or-replicate, get_or-eq_default}
use Rattle.labels.specs.Regions.{inside, within, over, added, grow, regions, nothing, windows, Interval}
use Rattle.labels.specs.Label.{roots, firsts, rank, labelled, areas, Found}
use Rattle.lists.proofs.SeqLaws.{tab_at, tab_length, map_at}
use Rattle.lists.proofs.SegLaws.{eq_or_ne, lt_or_le}
use Rattle.labels.proofs.RankLaws.{rank_zero}
use Rattle.labels.proofs.OverLaws.{over_old, over_new, added_at, added_long}
use Rattle.labels.proofs.WindowLaws.{windows_step, windows_end}
use Rattle.labels.specs.Inside.Bands.{Bands, window, part, joint}
use Rattle.labels.specs.Inside.Numbering.{final, sizes}
use Rattle.labels.proofs.JointLaws.{roots_part, length_part, part_in, part_out}

module _ (gates : ℕ) (vel : List Float) (mask : List ℕ) (limits : List Float) (iv : List ℕ) (B : Bands limits vel mask iv) where
  R : List ℕ
  R = joint gates iv

  ins : ℕ → List Bool
  ins j = inside vel mask (window limits j)

  ins_long : (j : ℕ) → length (ins j) ≡ length iv
  unfolding ins inside
  ins_long j = tab_length (λ g. within (window limits j) (get_or vel g nan) (get_or mask g 0)) (length mask) ∙ sym B.long

  agree : (j : ℕ) → suc j < length limits → (i : ℕ) → get_or (ins j) i false ≡ eqb (get_or iv i 0) (suc j)
  unfolding ins inside
  agree j h i = ⊎_elim
      (λ l. tab_at (λ g. within (window limits j) (get_or vel g nan) (get_or mask g 0)) (length mask) i false l ∙ (B.at i l).is j h)
      (λ l. get_or-eq_default (ins j) false (omega (arith, ins_long j, B.long)) ∙ sym (ne_eqb (get_or iv i 0) (suc j) (λ q. bad (get_or-eq_default iv 0 (omega (arith, B.long))) q)))
      (lt_or_le i (length mask))
    where
      bad : get_or iv i 0 ≡ 0 → get_or iv i 0 ≡ suc j → ⊥
      bad a b = omega arith

  roots_are : (j : ℕ) → suc j < length limits → roots gates (ins j) ≡ part iv R j
  unfolding R
  roots_are j h = roots_part gates iv (ins j) j (agree j h) (ins_long j)

  -- one interval
  next : Found → ℕ → Found
  next f j = grow gates vel mask f (record { lower = get_or limits j nan; upper = get_or limits (j + 1) nan })

  next_is : (f : Found) (j : ℕ) → suc j < length limits → next f j ≡ added f (labelled (part iv R j))
  unfolding next grow areas ins window
  next_is f j h =
      ap (λ (y : ℕ). added f (labelled (roots gates (inside vel mask (record { lower = get_or limits j nan; upper = get_or limits y nan }))))) (add-one j)
      ∙ ap (λ (t : List ℕ). added f (labelled t)) (roots_are j h)

  step_left : (f : Found) (j : ℕ) → suc j < length limits → foldl (grow gates vel mask) f (windows (drop j limits)) ≡ foldl (grow gates vel mask) (added f (labelled (part iv R j))) (windows (drop (suc j) limits))
  unfolding next
  step_left f j h =
      ap (foldl (grow gates vel mask) f) (windows_step limits j (omega arith))
      ∙ ap (λ (t : Found). foldl (grow gates vel mask) t (windows (drop (j + 1) limits))) (next_is f j h)
      ∙ ap (λ (y : ℕ). foldl (grow gates vel mask) (added f (labelled (part iv R j))) (windows (drop y limits))) (add-one j)

  -- ---- the number
  numbers : (d j : ℕ) (f : Found) → j + d ≡ length limits - 1 → f.number ≡ sizes iv R j → (foldl (grow gates vel mask) f (windows (drop j limits))).number ≡ sizes iv R (length limits - 1)
  unfolding sizes added labelled
  numbers zero j f e n =
      let q : j ≡ length limits - 1 = omega arith in
      ap (λ (ws : List Interval). (foldl (grow gates vel mask) f ws).number) (windows_end limits j (omega arith)) ∙ n ∙ ap (sizes iv R) q
  numbers (suc d) j f e n =
      ap (λ (t : Found). t.number) (step_left f j (omega arith))
      ∙ numbers d (suc j) (added f (labelled (part iv R j))) (omega arith) (ap (λ (y : ℕ). y + length (firsts (part iv R j))) n)

  pub number_is : (regions gates vel mask limits).number ≡ sizes iv (joint gates iv) (length limits - 1)
  unfolding regions nothing sizes R
  number_is = numbers (length limits - 1) 0 (nothing (length mask)) (omega arith) refl

  -- ---- the labels
  module _ (c₀ : List ℕ) (starts : (j : ℕ) → suc j < length limits → get_or c₀ j 0 ≡ sizes iv (joint gates iv) j)
      (pos : (i : ℕ) → i < length mask → (get_or iv i 0 ≡ 0 → ⊥) → 0 < rank (firsts (part iv (joint gates iv) (get_or iv i 0 - 1))) (get_or (joint gates iv) i 0)) where
    record State (f : Found) (j : ℕ) : Type 0 where
      long : length f.labels ≡ length mask
      number : f.number ≡ sizes iv R j
      new : (i : ℕ) → i < length mask → get_or iv i 0 ≤ j → get_or f.labels i 0 ≡ final iv R c₀ i
      none : (i : ℕ) → i < length mask → j < get_or iv i 0 → get_or f.labels i 0 ≡ 0

    module _ (f : Found) (j : ℕ) (S : State f j) (h : suc j < length limits) where
      label : (i : ℕ) → i < length mask → get_or (added f (labelled (part iv R j))).labels i 0 ≡ over f.number (get_or f.labels i 0) (rank (firsts (part iv R j)) (get_or (part iv R j) i 0))
      unfolding labelled R
      label i l =
          added_at f (labelled (part iv R j)) i (omega (arith, S.long))
          ∙ ap (over f.number (get_or f.labels i 0)) (map_at (rank (firsts (part iv R j))) (part iv R j) i 0 0 (omega (arith, length_part iv R j, B.long)))

      -- a gate of this band gets its label
      here : (i : ℕ) → i < length mask → get_or iv i 0 ≡ suc j → get_or (added f (labelled (part iv R j))).labels i 0 ≡ final iv R c₀ i
      unfolding final R
      here i l e =
          let p : get_or (part iv R j) i 0 ≡ get_or R i 0 = part_in iv R j i e in
          let k : get_or iv i 0 - 1 ≡ j = omega arith in
          let r : 0 < rank (firsts (part iv R j)) (get_or R i 0) = subst (λ (y : ℕ). 0 < rank (firsts (part iv R y)) (get_or R i 0)) k (pos i l (λ z. omega arith)) in
          label i l
          ∙ ap (λ (y : ℕ). over f.number (get_or f.labels i 0) (rank (firsts (part iv R j)) y)) p
          ∙ over_new f.number (get_or f.labels i 0) (rank (firsts (part iv R j)) (get_or R i 0)) r
          ∙ omega (arith, S.number, starts j h)
          ∙ sym (ap (λ (t : Bool). cond t 0 (get_or c₀ (get_or iv i 0 - 1) 0 + rank (firsts (part iv R (get_or iv i 0 - 1))) (get_or R i 0))) (ne_eqb (get_or iv i 0) 0 (λ z. omega arith)) ∙ ap (λ (y : ℕ). get_or c₀ y 0 + rank (firsts (part iv R y)) (get_or R i 0)) k)

      -- any other keeps what it has
      kept : (i : ℕ) → i < length mask → (get_or iv i 0 ≡ suc j → ⊥) → get_or (added f (labelled (part iv R j))).labels i 0 ≡ get_or f.labels i 0
      unfolding R
      kept i l n =
          label i l
          ∙ over_old f.number (get_or f.labels i 0) (rank (firsts (part iv R j)) (get_or (part iv R j) i 0)) (ap (rank (firsts (part iv R j))) (part_out iv R j i n) ∙ rank_zero (part iv R j))

      next_state_lem : State (added f (labelled (part iv R j))) (suc j)
      unfolding added labelled sizes R
      next_state_lem =
          record {
            long = added_long f (labelled (part iv R j)) ∙ S.long;
            number = ap (λ (y : ℕ). y + length (firsts (part iv R j))) S.number;
            new = λ i l q. ⊎_elim (λ e. here i l e) (λ n. kept i l n ∙ S.new i l (less i q n)) (eq_or_ne (get_or iv i 0) (suc j));
            none = λ i l q. kept i l (λ e. omega arith) ∙ S.none i l (omega arith);
          }
        where
          less : (i : ℕ) → get_or iv i 0 ≤ suc j → (get_or iv i 0 ≡ suc j → ⊥) → get_or iv i 0 ≤ j
          less i q n = omega arith

    all : (d j : ℕ) (f : Found) → j + d ≡ length limits - 1 → State f j → State (foldl (grow gates vel mask) f (windows (drop j limits))) (length limits - 1)
    all zero j f e S = subst (λ (ws : List Interval). State (foldl (grow gates vel mask) f ws) (length limits - 1)) (sym (windows_end limits j (omega arith))) (subst (State f) (to_end e) S)
      where
        to_end : j + 0 ≡ length limits - 1 → j ≡ length limits - 1
        to_end q = omega arith
    all (suc d) j f e S =
        subst (λ (t : Found). State t (length limits - 1)) (sym (step_left f j (omega arith)))
        (all d (suc j) (added f (labelled (part iv R j))) (omega arith) (next_state_lem f j S (omega arith)))

    begin : State (nothing (length mask)) 0
    unfolding nothing sizes final
    begin =
        record {
          long = length-replicate (length mask) 0;
          number = refl;
          new = λ i l q. get_or-replicate (length mask) i 0 0 l ∙ sym (ap (λ (t : Bool). cond t 0 (get_or c₀ (get_or iv i 0 - 1) 0 + rank (firsts (part iv R (get_or iv i 0 - 1))) (get_or R i 0))) (eq-eqb (get_or iv i 0) 0 (omega arith)));
          none = λ i l q. get_or-replicate (length mask) i 0 0 l;
        }

    pub labels_are : (i : ℕ) → i < length mask → get_or (regions gates vel mask limits).labels i 0 ≡ final iv (joint gates iv) c₀ i
    unfolding regions R
    labels_are i l =
        (all (length limits - 1) 0 (nothing (length mask)) (omega arith) begin).new i l (small i l)
      where
        small : (i : ℕ) → i < length mask → get_or iv i 0 ≤ length limits - 1
        small i l = ⊎_elim (λ z. omega arith) (λ z. omega (arith, (B.at i l).small (pos_of z))) (eq_or_ne (get_or iv i 0) 0)
          where
            pos_of : (get_or iv i 0 ≡ 0 → ⊥) → 0 < get_or iv i 0
            pos_of m = omega arith

    pub by_bands : (labels : List ℕ) (r : ℕ) → length labels ≡ length mask → ((i : ℕ) → i < length mask → get_or labels i 0 ≡ final iv (joint gates iv) c₀ i) → r ≡ sizes iv (joint gates iv) (length limits - 1) → record { labels = labels; number = r } ≡ regions gates vel mask limits
    unfolding regions R
    by_bands labels r e at n =
        let S : State (regions gates vel mask limits) (length limits - 1) = all (length limits - 1) 0 (nothing (length mask)) (omega arith) begin in
        let a : labels ≡ (regions gates vel mask limits).labels =
        ext_get_or 0 labels (regions gates vel mask limits).labels (e ∙ sym S.long) (λ i q. at i (omega arith) ∙ sym (S.new i (omega arith) (band_small i (omega arith)))) in
        let b : r ≡ (regions gates vel mask limits).number = n ∙ sym S.number in
        λ i. record { labels = a i; number = b i }
      where
        band_small : (i : ℕ) → i < length mask → get_or iv i 0 ≤ length limits - 1
        band_small i l = ⊎_elim (λ z. omega arith) (λ z. omega (arith, (B.at i l).small (pos_of z))) (eq_or_ne (get_or iv i 0) 0)
          where
            pos_of : (get_or iv i 0 ≡ 0 → ⊥) → 0 < get_or iv i 0
            pos_of m = omega arith

pub sizes_suc : (iv rs : List ℕ) (j : ℕ) → sizes iv rs (suc j) ≡ sizes iv rs j + length (firsts (part iv rs j))
unfolding sizes
sizes_suc iv rs j = refl

sizes_more : (iv rs : List ℕ) (a d b : ℕ) → a + d ≡ b → sizes iv rs a ≤ sizes iv rs b
sizes_more iv rs a zero b e =
    let q : a ≡ b = omega arith in
    omega (arith, ap (sizes iv rs) q)
sizes_more iv rs a (suc d) b e = omega (arith, sizes_suc iv rs a, sizes_more iv rs (suc a) d b (omega arith))

pub sizes_below : (iv rs : List ℕ) (j k : ℕ) → j < k → sizes iv rs j + length (firsts (part iv rs j)) ≤ sizes iv rs k
sizes_below iv rs j k h = omega (arith, sizes_suc iv rs j, sizes_more iv rs (suc j) (k - suc j) k (omega arith))

-- a band is at most the number of intervals
pub band_few : (limits vel : List Float) (mask iv : List ℕ) → Bands limits vel mask iv → (i : ℕ) → get_or iv i 0 ≤ length limits - 1
band_few limits vel mask iv B i = ⊎_elim
    (λ l. ⊎_elim (λ z. omega arith) (λ z. omega (arith, (B.at i l).small (pos_of z))) (eq_or_ne (get_or iv i 0) 0))
    (λ l.
    let q : length iv ≤ i = omega (arith, B.long) in
    omega (arith, get_or-eq_default iv 0 q))
    (lt_or_le i (length mask))
  where
    pos_of : (get_or iv i 0 ≡ 0 → ⊥) → 0 < get_or iv i 0
    pos_of m = omega arith
