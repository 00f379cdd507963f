-- Numbering, one gate at a time. Assumes nothing.
use Rattle.std.proofs.Common.{◌≡◌, ℕ, zero, suc, ◌+◌, ◌-◌, ◌^◌, ◌<◌, ◌≤◌, Bool, false, cond, eqb, List, length, get_or, set, sym, refl, ap, ◌∙◌, subst, ⊎_elim, add-one, arith, length-set, eq-eqb, ne_eqb}
use Rattle.labels.specs.Label.{firsts, rank}
use Rattle.labels.specs.Inside.Forest.{Forest}
use Rattle.lists.proofs.SegLaws.{eq_or_ne}
use Rattle.labels.proofs.ForestLaws.{not_both, read_set, gate_in, gate_out}
use Rattle.labels.proofs.RankLaws.{rank_zero, rank_hit, rank_miss, rank_le}
use Rattle.labels.specs.Inside.Bands.{marks, part}
use Rattle.labels.specs.Inside.Numbering.{final, Numbering, Ahead}
use Rattle.labels.proofs.BandLaws.{marks_in, marks_out, length_marks}
use Rattle.labels.proofs.JointLaws.{part_in, part_out, length_part}

module _ (iv w rs : List ℕ) (F : Forest (marks iv) w rs) where
  iv_long : length w ≡ length iv
  iv_long = F.long ∙ length_marks iv

  band_of : (g : ℕ) → (get_or w g 0 ≡ 0 → ⊥) → get_or iv g 0 ≡ 0 → ⊥
  band_of g n z = not_both (get_or (marks iv) g false) (gate_in (marks iv) w rs F g (omega arith)) (marks_out iv g z)

  no_band : (g : ℕ) → get_or w g 0 ≡ 0 → get_or iv g 0 ≡ 0
  no_band g e = ⊎_elim (λ z. z) (λ n. absurd (bad (F.parent g (marks_in iv g n)).some)) (eq_or_ne (get_or iv g 0) 0)
    where
      bad : 0 < get_or w g 0 → ⊥
      bad p = omega arith

  outside_not_first : (g : ℕ) → get_or w g 0 ≡ 0 → get_or rs g 0 ≡ suc g → ⊥
  outside_not_first g e f = bad (F.out_root g (gate_out (marks iv) w rs F g e))
    where
      bad : get_or rs g 0 ≡ 0 → ⊥
      bad z = omega arith

  under_not_first : (g : ℕ) → (get_or w g 0 ≡ 0 → ⊥) → (get_or w g 0 - 1 ≡ g → ⊥) → get_or rs g 0 ≡ suc g → ⊥
  under_not_first g n m e =
      let P = F.parent g (gate_in (marks iv) w rs F g (omega arith)) in
      m (omega (arith, F.low (get_or w g 0 - 1), P.same, P.not_later))

  parent_less : (g : ℕ) → (get_or w g 0 ≡ 0 → ⊥) → (get_or w g 0 - 1 ≡ g → ⊥) → get_or w g 0 - 1 < g
  parent_less g n m = omega (arith, (F.parent g (gate_in (marks iv) w rs F g (omega arith))).not_later)

  first_root : (g : ℕ) → (get_or w g 0 ≡ 0 → ⊥) → get_or w g 0 - 1 ≡ g → get_or rs g 0 ≡ suc g
  first_root g n m = F.first g (omega arith)

  module _ (g : ℕ) (h : g < length w) where
    in_part : (j : ℕ) → g < length (part iv rs j)
    in_part j = omega (arith, length_part iv rs j, iv_long)

    pub miss : (get_or rs g 0 ≡ suc g → ⊥) → (j : ℕ) → rank (firsts (part iv rs j)) (g + 1) ≡ rank (firsts (part iv rs j)) g
    miss n j = ap (rank (firsts (part iv rs j))) (add-one g) ∙ rank_miss (part iv rs j) g (in_part j) (λ q. ⊎_elim
        (λ e. n (sym (part_in iv rs j g e) ∙ q))
        (λ e. bad (part_out iv rs j g e) q)
        (eq_or_ne (get_or iv g 0) (suc j)))
      where
        bad : get_or (part iv rs j) g 0 ≡ 0 → get_or (part iv rs j) g 0 ≡ suc g → ⊥
        bad a b = omega arith

    pub other : (j : ℕ) → (get_or iv g 0 ≡ suc j → ⊥) → rank (firsts (part iv rs j)) (g + 1) ≡ rank (firsts (part iv rs j)) g
    other j n = ap (rank (firsts (part iv rs j))) (add-one g) ∙ rank_miss (part iv rs j) g (in_part j) (λ q. bad (part_out iv rs j g n) q)
      where
        bad : get_or (part iv rs j) g 0 ≡ 0 → get_or (part iv rs j) g 0 ≡ suc g → ⊥
        bad a b = omega arith

    pub hit : get_or rs g 0 ≡ suc g → (j : ℕ) → get_or iv g 0 ≡ suc j → (rank (firsts (part iv rs j)) (g + 1) ≡ rank (firsts (part iv rs j)) g + 1) × (rank (firsts (part iv rs j)) (suc g) ≡ rank (firsts (part iv rs j)) g + 1)
    hit e j b =
        let k : rank (firsts (part iv rs j)) (suc g) ≡ rank (firsts (part iv rs j)) g + 1 = rank_hit (part iv rs j) g (in_part j) (part_in iv rs j g b ∙ e) in
        (ap (rank (firsts (part iv rs j))) (add-one g) ∙ k, k)

    -- ---- numbering
    module _ (c₀ labels c : List ℕ) (N : Numbering iv rs c₀ labels c g) where
      less : (i : ℕ) → i < g + 1 → (i ≡ g → ⊥) → i < g
      less i q n = omega arith

      in_labels : g < length labels
      in_labels = omega (arith, N.long, iv_long)

      pub band_here : get_or labels g 0 ≡ get_or iv g 0
      band_here = N.rest g (omega arith)

      pub number_out : get_or w g 0 ≡ 0 → Numbering iv rs c₀ labels c (g + 1)
      unfolding final
      number_out e =
          let z : get_or iv g 0 ≡ 0 = no_band g e in
          record {
            long = N.long;
            long_c = N.long_c;
            bands = N.bands;
            count = λ j q. N.count j q ∙ ap (λ (y : ℕ). get_or c₀ j 0 + y) (sym (miss (outside_not_first g e) j));
            done = λ i q. ⊎_elim
                (λ s. ap (λ (y : ℕ). get_or labels y 0) s ∙ band_here ∙ z ∙ sym (ap (λ (t : Bool). cond t 0 (get_or c₀ (get_or iv g 0 - 1) 0 + rank (firsts (part iv rs (get_or iv g 0 - 1))) (get_or rs g 0))) (eq-eqb (get_or iv g 0) 0 z)) ∙ ap (final iv rs c₀) (sym s))
                (λ s. N.done i (less i q s))
                (eq_or_ne i g);
            rest = λ i q. N.rest i (omega arith);
            numbered = λ i q t. ⊎_elim (λ s. absurd (t (ap (λ (y : ℕ). get_or iv y 0) s ∙ z))) (λ s. N.numbered i (less i q s) t) (eq_or_ne i g);
          }

      -- gate g gets the label x, and the counters become c₂
      module _ (x : ℕ) (c₂ : List ℕ) (long_c : length c₂ ≡ length c) (count : (j : ℕ) → j < length c₂ → get_or c₂ j 0 ≡ get_or c₀ j 0 + rank (firsts (part iv rs j)) (g + 1)) (is : x ≡ final iv rs c₀ g) (pos : 0 < rank (firsts (part iv rs (get_or iv g 0 - 1))) (get_or rs g 0)) where
        labelled_as : Numbering iv rs c₀ (set labels g x) c₂ (g + 1)
        labelled_as =
            record {
              long = length-set labels g x ∙ N.long;
              long_c = long_c ∙ N.long_c;
              bands = N.bands;
              count = count;
              done = λ i q. ⊎_elim (λ s. s.1 ∙ is ∙ ap (final iv rs c₀) (sym s.0)) (λ s. s.1 ∙ N.done i (less i q s.0)) (read_set labels g x i in_labels);
              rest = λ i q. ⊎_elim (λ s. absurd (past i q s.0)) (λ s. s.1 ∙ N.rest i (omega arith)) (read_set labels g x i in_labels);
              numbered = λ i q t. ⊎_elim (λ s. subst (λ (y : ℕ). 0 < rank (firsts (part iv rs (get_or iv y 0 - 1))) (get_or rs y 0)) (sym s) pos) (λ s. N.numbered i (less i q s) t) (eq_or_ne i g);
            }
          where
            past : (i : ℕ) → g + 1 ≤ i → i ≡ g → ⊥
            past i q s = omega arith

      final_is : (get_or iv g 0 ≡ 0 → ⊥) → final iv rs c₀ g ≡ get_or c₀ (get_or iv g 0 - 1) 0 + rank (firsts (part iv rs (get_or iv g 0 - 1))) (get_or rs g 0)
      unfolding final
      final_is n = ap (λ (t : Bool). cond t 0 (get_or c₀ (get_or iv g 0 - 1) 0 + rank (firsts (part iv rs (get_or iv g 0 - 1))) (get_or rs g 0))) (ne_eqb (get_or iv g 0) 0 n)

      pub number_first : (get_or w g 0 ≡ 0 → ⊥) → get_or w g 0 - 1 ≡ g → get_or iv g 0 ≤ length c → Numbering iv rs c₀ (set labels g (get_or c (get_or labels g 0 - 1) 0 + 1)) (set c (get_or labels g 0 - 1) (get_or c (get_or labels g 0 - 1) 0 + 1)) (g + 1)
      number_first n m l =
          subst (λ (y : ℕ). Numbering iv rs c₀ (set labels g (get_or c (y - 1) 0 + 1)) (set c (y - 1) (get_or c (y - 1) 0 + 1)) (g + 1)) (sym band_here) (
          let b : ℕ = get_or iv g 0 - 1 in
          let nz : get_or iv g 0 ≡ 0 → ⊥ = band_of g n in
          let f : get_or iv g 0 ≡ suc b = omega arith in
          let lb : b < length c = omega arith in
          let e : get_or rs g 0 ≡ suc g = first_root g n m in
          let k : ℕ = get_or c b 0 + 1 in
          let r : rank (firsts (part iv rs b)) (get_or rs g 0) ≡ rank (firsts (part iv rs b)) g + 1 = ap (rank (firsts (part iv rs b))) e ∙ (hit e b f).1 in
          let cnt : (j : ℕ) → j < length (set c b k) → get_or (set c b k) j 0 ≡ get_or c₀ j 0 + rank (firsts (part iv rs j)) (g + 1) =
          λ j q. ⊎_elim
          (λ s. s.1 ∙ omega (arith, N.count b lb, (hit e b f).0) ∙ ap (λ (y : ℕ). get_or c₀ y 0 + rank (firsts (part iv rs y)) (g + 1)) (sym s.0))
          (λ s. s.1 ∙ N.count j (omega (arith, length-set c b k)) ∙ ap (λ (y : ℕ). get_or c₀ j 0 + y) (sym (other j (λ t. s.0 (omega arith)))))
          (read_set c b k j lb) in
          labelled_as k (set c b k) (length-set c b k) cnt (omega (arith, N.count b lb, final_is nz)) (omega arith))

      pub number_under : (get_or w g 0 ≡ 0 → ⊥) → (get_or w g 0 - 1 ≡ g → ⊥) → Numbering iv rs c₀ (set labels g (get_or labels (get_or w g 0 - 1) 0)) c (g + 1)
      unfolding final
      number_under n m =
          let p : ℕ = get_or w g 0 - 1 in
          let P = F.parent g (gate_in (marks iv) w rs F g (omega arith)) in
          let b : p < g = parent_less g n m in
          let nz : get_or iv p 0 ≡ 0 → ⊥ = λ z. not_both (get_or (marks iv) p false) P.here (marks_out iv p z) in
          let pos : 0 < rank (firsts (part iv rs (get_or iv p 0 - 1))) (get_or rs p 0) = N.numbered p b nz in
          let e : get_or iv p 0 ≡ get_or iv g 0 = same_band p pos P.same in
          let move : (y z : ℕ) → y ≡ z → (s t : ℕ) → s ≡ t → rank (firsts (part iv rs (y - 1))) s ≡ rank (firsts (part iv rs (z - 1))) t =
          λ y z q s t o. ap (λ (v : ℕ). rank (firsts (part iv rs (v - 1))) s) q ∙ ap (rank (firsts (part iv rs (z - 1)))) o in
          let fin_eq : final iv rs c₀ p ≡ final iv rs c₀ g =
          ap (λ (v : ℕ). cond (eqb v 0) 0 (get_or c₀ (v - 1) 0 + rank (firsts (part iv rs (v - 1))) (get_or rs p 0))) e
          ∙ ap (λ (v : ℕ). cond (eqb (get_or iv g 0) 0) 0 (get_or c₀ (get_or iv g 0 - 1) 0 + rank (firsts (part iv rs (get_or iv g 0 - 1))) v)) P.same in
          labelled_as (get_or labels p 0) c refl (λ j q. N.count j q ∙ ap (λ (y : ℕ). get_or c₀ j 0 + y) (sym (miss (under_not_first g n m) j)))
          (N.done p b ∙ fin_eq) (omega (arith, move (get_or iv p 0) (get_or iv g 0) e (get_or rs p 0) (get_or rs g 0) P.same))
        where
          same_band : (p : ℕ) → 0 < rank (firsts (part iv rs (get_or iv p 0 - 1))) (get_or rs p 0) → get_or rs p 0 ≡ get_or rs g 0 → get_or iv p 0 ≡ get_or iv g 0
          same_band p pos q = go (get_or rs p 0) refl
            where
              go : (r : ℕ) → get_or rs p 0 ≡ r → get_or iv p 0 ≡ get_or iv g 0
              go zero z = absurd (bad (ap (rank (firsts (part iv rs (get_or iv p 0 - 1)))) z ∙ rank_zero (part iv rs (get_or iv p 0 - 1))))
                where
                  bad : rank (firsts (part iv rs (get_or iv p 0 - 1))) (get_or rs p 0) ≡ 0 → ⊥
                  bad k = omega arith
              go (suc s) z = sym (N.bands p s z) ∙ N.bands g s (sym q ∙ z)

-- ---- bounds
pub number_begin : (iv rs c : List ℕ) → ((i r : ℕ) → get_or rs i 0 ≡ suc r → get_or iv r 0 ≡ get_or iv i 0) → Numbering iv rs c iv c 0
number_begin iv rs c b =
    record { long = refl; long_c = refl; bands = b; count = λ j q. omega (arith, rank_zero (part iv rs j)); done = λ i q. absurd (no i q); rest = λ i q. refl; numbered = λ i q t. absurd (no i q) }
  where
    no : (i : ℕ) → i < 0 → ⊥
    no i q = omega arith

pub number_fits : (iv rs c₀ labels c : List ℕ) (g : ℕ) → Numbering iv rs c₀ labels c g → (j : ℕ) → j < length c → get_or c j 0 ≤ get_or c₀ j 0 + length (firsts (part iv rs j))
number_fits iv rs c₀ labels c g N j q = omega (arith, N.count j q, rank_le (firsts (part iv rs j)) g)

-- ---- what `label_gate` asks
module _ (w labels c : List ℕ) (g : ℕ) (A : Ahead w labels c g) where
  pub ahead_band : get_or labels g 0 ≤ length c
  ahead_band = omega (arith, A.band, A.numbering.rest g (omega arith))

  pub ahead_some : (get_or w g 0 ≡ 0 → ⊥) → 1 ≤ get_or labels g 0
  ahead_some n =
      let z : get_or A.iv g 0 ≡ 0 → ⊥ = band_of A.iv w A.rs A.forest g n in
      omega (arith, A.numbering.rest g (omega arith))

  pub ahead_fits : (get_or w g 0 ≡ 0 → ⊥) → get_or c (get_or labels g 0 - 1) 0 + 1 < 2 ^ 32
  ahead_fits n = A.fits (get_or labels g 0 - 1) (omega (arith, ahead_band, ahead_some n))

  pub ahead_less : (get_or w g 0 ≡ 0 → ⊥) → (get_or w g 0 - 1 ≡ g → ⊥) → get_or w g 0 - 1 < g
  ahead_less = parent_less A.iv w A.rs A.forest g
