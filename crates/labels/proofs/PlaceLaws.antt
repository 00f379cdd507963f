-- One gate more in its place: areas held by the words, and counted. Assumes nothing.
use Rattle.std.proofs.Common.{◌≡◌, ℕ, suc, ◌+◌, ◌-◌, ◌%◌, ◌<◌, ◌≤◌, min, max, Bool, true, false, cond, not, eqb, ◌⊎◌, List, [], ◌∷◌, ◌++◌, length, get_or, set, sym, ap, ◌∙◌, inl, inr, ⊎_elim, arith, eq-eqb, ne_eqb}
use lib.ListN.{get_or-append}
use lib.Seq.{get_or-append_seam}
use Rattle.lists.proofs.SegLaws.{lt_or_le, eq_or_ne}
use Rattle.labels.specs.Label.{Neighbours, join}
use Rattle.labels.specs.Inside.Forest.{Forest}
use Rattle.labels.specs.Inside.Bands.{marks, above_in, before_in, links_in, joint, band_before}
use Rattle.labels.specs.Inside.Numbering.{Counted}
use Rattle.labels.specs.Inside.Areas.{AreasOf, Corner}
use Rattle.labels.proofs.ForestLaws.{some_pred, decide, in_length, not_both, length_join}
use Rattle.labels.proofs.JointLaws.{above_edge, above_none, above_one, before_edge, before_none, before_one, mod_pos, joint_own, joint_some}
use Rattle.labels.proofs.Closed.{root_self}
use Rattle.labels.proofs.BandLaws.{marks_in, length_marks}
use Rattle.labels.proofs.AreaCounts.{counted_none, counted_first, counted_joined}
use Rattle.labels.proofs.NextLaws.{joint_long, joint_low, joint_first, joint_two, joint_out, join_same}
use Rattle.labels.proofs.ForestEnd.{forest_out, forest_first, forest_under}

-- ---- the links of the gate after the others
module _ (gates : ℕ) (iv : List ℕ) (b : ℕ) where
  here : get_or (iv ++ b ∷ []) (length iv) 0 ≡ b
  here = get_or-append_seam iv b [] 0

  earlier : (i : ℕ) → i < length iv → get_or (iv ++ b ∷ []) i 0 ≡ get_or iv i 0
  earlier = get_or-append iv (b ∷ []) 0

  some_here : 0 < b → get_or (iv ++ b ∷ []) (length iv) 0 ≡ 0 → ⊥
  some_here s e = omega (arith, here)

  -- the gate before is of its band
  pub goes_on : 0 < b → band_before gates iv (length iv) ≡ b → (length iv % gates ≡ 0 → ⊥) × (get_or iv (length iv - 1) 0 ≡ b)
  unfolding band_before
  goes_on s e = go (eq_or_ne (length iv % gates) 0)
    where
      go : (length iv % gates ≡ 0) ⊎ (length iv % gates ≡ 0 → ⊥) → (length iv % gates ≡ 0 → ⊥) × (get_or iv (length iv - 1) 0 ≡ b)
      go = ⊎_elim
          (λ z. absurd (bad (sym (ap (λ (t : Bool). cond t 0 (get_or iv (length iv - 1) 0)) (eq-eqb (length iv % gates) 0 z)) ∙ e)))
          (λ n. (n, sym (ap (λ (t : Bool). cond t 0 (get_or iv (length iv - 1) 0)) (ne_eqb (length iv % gates) 0 n)) ∙ e))
        where
          bad : 0 ≡ b → ⊥
          bad q = omega arith

  no_before : (band_before gates iv (length iv) ≡ b → ⊥) → before_in gates (iv ++ b ∷ []) (length iv) ≡ []
  unfolding band_before
  no_before n = ⊎_elim
      (λ z. before_edge gates (iv ++ b ∷ []) (length iv) z)
      (λ m. before_none gates (iv ++ b ∷ []) (length iv) (λ e. n (ap (λ (t : Bool). cond t 0 (get_or iv (length iv - 1) 0)) (ne_eqb (length iv % gates) 0 m) ∙ sym (earlier (length iv - 1) (omega (arith, mod_pos (length iv) gates m))) ∙ e ∙ here)))
      (eq_or_ne (length iv % gates) 0)

  one_before : 0 < b → (length iv % gates ≡ 0 → ⊥) → get_or iv (length iv - 1) 0 ≡ b → before_in gates (iv ++ b ∷ []) (length iv) ≡ record { a = length iv - 1; b = length iv } ∷ []
  one_before s n e = before_one gates (iv ++ b ∷ []) (length iv) (some_here s) n (earlier (length iv - 1) (omega (arith, mod_pos (length iv) gates n)) ∙ e ∙ sym here)

  -- no gate above is of its band
  abbrev pub Open : Type 0
  Open = (length iv < gates) ⊎ (get_or iv (length iv - gates) 0 ≡ b → ⊥)

  no_above : 0 < gates → Open → above_in gates (iv ++ b ∷ []) (length iv) ≡ []
  no_above s = ⊎_elim (above_edge gates (iv ++ b ∷ []) (length iv)) (λ n. ⊎_elim
      (above_edge gates (iv ++ b ∷ []) (length iv))
      (λ h. above_none gates (iv ++ b ∷ []) (length iv) (λ e. n (sym (earlier (length iv - gates) (omega arith)) ∙ e ∙ here)))
      (lt_or_le (length iv) gates))

  one_above : 0 < b → 0 < gates → gates ≤ length iv → get_or iv (length iv - gates) 0 ≡ b → above_in gates (iv ++ b ∷ []) (length iv) ≡ record { a = length iv - gates; b = length iv } ∷ []
  one_above s p h e = above_one gates (iv ++ b ∷ []) (length iv) (some_here s) h (earlier (length iv - gates) (omega arith) ∙ e ∙ sym here)

  links_are : (k l : List Neighbours) → above_in gates (iv ++ b ∷ []) (length iv) ≡ k → before_in gates (iv ++ b ∷ []) (length iv) ≡ l → links_in gates (iv ++ b ∷ []) (length iv) ≡ k ++ l
  unfolding links_in
  links_are k l p q = ap (λ (x : List Neighbours). x ++ before_in gates (iv ++ b ∷ []) (length iv)) p ∙ ap (λ (x : List Neighbours). k ++ x) q

  -- by the gates above and before that are of its band: none, one or both
  module _ (rays : 0 < gates) (some : 0 < b) where
    pub links_free : (band_before gates iv (length iv) ≡ b → ⊥) → Open → links_in gates (iv ++ b ∷ []) (length iv) ≡ []
    links_free n o = links_are [] [] (no_above rays o) (no_before n)

    pub links_beside : band_before gates iv (length iv) ≡ b → Open → links_in gates (iv ++ b ∷ []) (length iv) ≡ record { a = length iv - 1; b = length iv } ∷ []
    links_beside e o = links_are [] (record { a = length iv - 1; b = length iv } ∷ []) (no_above rays o) (one_before some (goes_on some e).0 (goes_on some e).1)

    pub links_below : (band_before gates iv (length iv) ≡ b → ⊥) → gates ≤ length iv → get_or iv (length iv - gates) 0 ≡ b → links_in gates (iv ++ b ∷ []) (length iv) ≡ record { a = length iv - gates; b = length iv } ∷ []
    links_below n h e = links_are (record { a = length iv - gates; b = length iv } ∷ []) [] (one_above some rays h e) (no_before n)

    pub links_both : Corner gates iv (length iv) b → links_in gates (iv ++ b ∷ []) (length iv) ≡ record { a = length iv - gates; b = length iv } ∷ record { a = length iv - 1; b = length iv } ∷ []
    links_both C = links_are (record { a = length iv - gates; b = length iv } ∷ []) (record { a = length iv - 1; b = length iv } ∷ []) (one_above some rays C.ray C.above) (one_before some C.inner C.before)

-- ---- areas and counters, with the gate after the others
module _ (gates : ℕ) (iv w c : List ℕ) (A : AreasOf gates iv w c) where
  -- outside
  pub place_out : AreasOf gates (iv ++ 0 ∷ []) (w ++ 0 ∷ []) c
  place_out =
      let R : List ℕ = joint gates iv in
      record {
        forest = rw (joint_out gates iv) (forest_out iv w R A.forest);
        counts = rw (joint_out gates iv) (counted_none iv R c (joint_long gates iv) A.counts 0 0 (λ e. omega arith));
      }

  module _ (b : ℕ) (some : 0 < b) where
    -- it begins an area
    pub place_first : b - 1 < length c → links_in gates (iv ++ b ∷ []) (length iv) ≡ [] → AreasOf gates (iv ++ b ∷ []) (w ++ suc (length iv) ∷ []) (set c (b - 1) (get_or c (b - 1) 0 + 1))
    place_first h e =
        let R : List ℕ = joint gates iv in
        let q = joint_first gates iv b some e in
        record {
          forest = rw q (forest_first iv w R A.forest b some);
          counts = rw q (counted_first iv R c (joint_long gates iv) A.counts b some h);
        }

    in_marks : (p : ℕ) → get_or iv p 0 ≡ b → get_or (marks iv) p false ≡ true
    in_marks p e = marks_in iv p (λ z. omega arith)

    -- it joins the area of gate p
    pub place_under : (p : ℕ) → get_or iv p 0 ≡ b → joint gates (iv ++ b ∷ []) ≡ joint gates iv ++ get_or (joint gates iv) p 0 ∷ [] → AreasOf gates (iv ++ b ∷ []) (w ++ get_or w p 0 ∷ []) c
    place_under p e q =
        let R : List ℕ = joint gates iv in
        record {
          forest = rw q (forest_under iv w R A.forest b some p (in_marks p e));
          counts = rw q (counted_none iv R c (joint_long gates iv) A.counts b (get_or R p 0) (λ f. omega (arith, joint_low gates iv p)));
        }

    -- two gates of its band, whose areas are made one
    module _ (l : Neighbours) (band-a : get_or iv l.a 0 ≡ b) (band-b : get_or iv l.b 0 ≡ b) (fits : b ≤ length c) where
      root_of : (i : ℕ) → get_or iv i 0 ≡ b → (r : ℕ) × (get_or (joint gates iv) i 0 ≡ suc r)
      root_of i e = some_pred (get_or (joint gates iv) i 0) (joint_some gates iv i (λ z. omega arith))

      -- two areas, the first gate of the later one hi
      record Two : Type 0 where
        lo : ℕ
        hi : ℕ
        greater : max (get_or (joint gates iv) l.a 0) (get_or (joint gates iv) l.b 0) ≡ suc hi
        lesser : min (get_or (joint gates iv) l.a 0) (get_or (joint gates iv) l.b 0) ≡ suc lo
        less : lo < hi
        self : get_or (joint gates iv) hi 0 ≡ suc hi
        self_lo : get_or (joint gates iv) lo 0 ≡ suc lo
        band : get_or iv hi 0 ≡ b

      one_or_two : (get_or (joint gates iv) l.a 0 ≡ get_or (joint gates iv) l.b 0) ⊎ Two
      one_or_two = ⊎_elim (λ d. inr (⊎_elim later_b later_a d)) (λ e. inl (p ∙ ap suc e ∙ sym q)) (decide r s)
        where
          r : ℕ
          r = (root_of l.a band-a).0

          p : get_or (joint gates iv) l.a 0 ≡ suc r
          p = (root_of l.a band-a).1

          s : ℕ
          s = (root_of l.b band-b).0

          q : get_or (joint gates iv) l.b 0 ≡ suc s
          q = (root_of l.b band-b).1

          later_b : r < s → Two
          later_b h = record { lo = r; hi = s; greater = omega (arith, p, q); lesser = omega (arith, p, q); less = h; self = root_self gates iv l.b s q; self_lo = root_self gates iv l.a r p; band = joint_own gates iv l.b s q ∙ band-b }

          later_a : s < r → Two
          later_a h = record { lo = s; hi = r; greater = omega (arith, p, q); lesser = omega (arith, p, q); less = h; self = root_self gates iv l.a r p; self_lo = root_self gates iv l.b s q; band = joint_own gates iv l.a r p ∙ band-a }

      module _ (T : Two) where
        two_counts : (0 < get_or c (b - 1) 0) × Counted iv (join (joint gates iv) l) (set c (b - 1) (get_or c (b - 1) 0 - 1))
        two_counts = counted_joined iv (joint gates iv) c (joint_long gates iv) A.counts l T.lo T.hi (b - 1) T.greater T.lesser T.less (omega (arith, in_length (marks iv) T.hi (in_marks T.hi T.band), length_marks iv)) T.self T.self_lo (omega (arith, T.band)) (omega arith)

        two_apart : get_or (joint gates iv) l.a 0 ≡ get_or (joint gates iv) l.b 0 → ⊥
        two_apart e = omega (arith, T.greater, T.lesser, T.less)

      -- whether they were two
      module _ (two : Bool) (is-two : two ≡ not (eqb (get_or (joint gates iv) l.a 0) (get_or (joint gates iv) l.b 0))) where
        not_one : two ≡ true → get_or (joint gates iv) l.a 0 ≡ get_or (joint gates iv) l.b 0 → ⊥
        not_one t e = not_both two t (is-two ∙ ap not (eq-eqb (get_or (joint gates iv) l.a 0) (get_or (joint gates iv) l.b 0) e))

        pub area_some : two ≡ true → 0 < get_or c (b - 1) 0
        area_some t = ⊎_elim (λ e. absurd (not_one t e)) (λ T. (two_counts T).0) one_or_two

        pub joined_counts : (c₂ : List ℕ) → (two ≡ true → c₂ ≡ set c (b - 1) (get_or c (b - 1) 0 - 1)) → (two ≡ false → c₂ ≡ c) → Counted iv (join (joint gates iv) l) c₂
        joined_counts c₂ less same = ⊎_elim
            (λ e. rw (same (is-two ∙ ap not (eq-eqb (get_or (joint gates iv) l.a 0) (get_or (joint gates iv) l.b 0) e)), join_same (joint gates iv) l e) A.counts)
            (λ T. rw (less (is-two ∙ ap not (ne_eqb (get_or (joint gates iv) l.a 0) (get_or (joint gates iv) l.b 0) (two_apart T)))) (two_counts T).1)
            one_or_two

    -- gates h and p joined, words w₂ and counters c₂ after that: it goes under gate p
    pub place_meet : (h p : ℕ) → h < length iv → p < length iv → get_or iv p 0 ≡ b → links_in gates (iv ++ b ∷ []) (length iv) ≡ record { a = h; b = length iv } ∷ record { a = p; b = length iv } ∷ []
        → (w₂ c₂ : List ℕ) → Forest (marks iv) w₂ (join (joint gates iv) (record { a = h; b = p })) → Counted iv (join (joint gates iv) (record { a = h; b = p })) c₂
        → AreasOf gates (iv ++ b ∷ []) (w₂ ++ get_or w₂ p 0 ∷ []) c₂
    place_meet h p s t e k w₂ c₂ F C =
        let R : List ℕ = join (joint gates iv) (record { a = h; b = p }) in
        let q = joint_two gates iv b some h p s t k in
        record {
          forest = rw q (forest_under iv w₂ R F b some p (in_marks p e));
          counts = rw q (counted_none iv R c₂ (length_join (joint gates iv) (record { a = h; b = p }) ∙ joint_long gates iv) C b (get_or R p 0) (λ f. omega (arith, F.low p)));
        }
