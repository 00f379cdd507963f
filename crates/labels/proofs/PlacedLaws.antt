-- The next gate's place in the slice u, case by case. Assumes nothing.
use Rattle.std.proofs.Common.{◌≡◌, ℕ, suc, ◌+◌, ◌-◌, ◌%◌, ◌^◌, ◌<◌, ◌≤◌, Bool, true, false, cond, not, eqb, ◌⊎◌, List, [], ◌∷◌, ◌++◌, length, get_or, drop, set, sym, refl, ap, ◌∙◌, subst, inl, inr, ⊎_elim, arith, length-drop, get_or-drop}
use native.Mathlib.Nat.{add-mod_right}
use lib.Seq.{drop-set-add}
use borrow.Rule.Slice.PartMut.{mid_of, put_mid}
use Rattle.lists.specs.Inside.Seg.{seg, put}
use Rattle.lists.proofs.SegLaws.{length-seg, get_or-seg, seg-set_out, lent_seg, put_mid_lem, length-put, seg-put_out, drop-put_above, lt_or_le}
use Rattle.labels.specs.Label.{Neighbours, join}
use Rattle.labels.specs.Inside.Forest.{Forest, Some, Gate}
use Rattle.labels.specs.Inside.Bands.{marks, links_in, joint, band_before}
use Rattle.labels.specs.Inside.Areas.{AreasOf, Next, Corner, Placed}
use Rattle.labels.proofs.JointLaws.{mod_pos}
use Rattle.labels.proofs.BandLaws.{marks_in, length_marks}
use Rattle.labels.proofs.SheetLaws.{band_at}
use Rattle.labels.proofs.AreaCounts.{counted_few}
use Rattle.labels.proofs.NextLaws.{joint_long, joint_one, joint_two, same_root, join_same}
use Rattle.labels.proofs.PlaceLaws.{goes_on, links_free, links_beside, links_below, links_both, place_out, place_first, place_under, place_meet, area_some, joined_counts}

module _ (gates : ℕ) (u : List ℕ) (n g b : ℕ) (N : Next gates u n g b) where
  iv_long : length (seg u 0 g) ≡ g
  iv_long = length-seg u 0 g (omega (arith, N.here, N.room))

  band_here : (i : ℕ) → i < g → get_or (seg u 0 g) i 0 ≡ get_or u i 0
  band_here = band_at u g (omega (arith, N.here, N.room))

  -- nothing but the gate's word is new
  placed : (x : ℕ) → AreasOf gates (seg u 0 g ++ b ∷ []) (seg u n g ++ x ∷ []) (drop (n + n) u) → Placed gates u u n g b x
  placed x A = record { bands = refl; areas = A }

  -- outside
  pub placed_out : b ≡ 0 → Placed gates u u n g b 0
  placed_out e = placed 0 (subst (λ (y : ℕ). AreasOf gates (seg u 0 g ++ y ∷ []) (seg u n g ++ 0 ∷ []) (drop (n + n) u)) (sym e) (place_out gates (seg u 0 g) (seg u n g) (drop (n + n) u) N.areas))

  -- facts about gate g, which is the one after the others
  at_end : (P : ℕ → Type 0) → P g → P (length (seg u 0 g))
  at_end P = subst P (sym iv_long)

  module _ (some : 0 < b) where
    -- no gate above is of its band
    abbrev pub Open : Type 0
    Open = (g < gates) ⊎ (get_or u (g - gates) 0 ≡ b → ⊥)

    open_end : Open → (length (seg u 0 g) < gates) ⊎ (get_or (seg u 0 g) (length (seg u 0 g) - gates) 0 ≡ b → ⊥)
    open_end o = at_end (λ k. (k < gates) ⊎ (get_or (seg u 0 g) (k - gates) 0 ≡ b → ⊥)) (⊎_elim inl (λ m. ⊎_elim inl (λ (h : gates ≤ g). inr (λ e. m (sym (band_here (g - gates) (omega (arith, N.some_gates))) ∙ e))) (lt_or_le g gates)) o)

    -- gates above and before are of its band
    both : Corner gates (seg u 0 g) g b → links_in gates (seg u 0 g ++ b ∷ []) (length (seg u 0 g)) ≡ record { a = g - gates; b = length (seg u 0 g) } ∷ record { a = g - 1; b = length (seg u 0 g) } ∷ []
    both C =
        links_both gates (seg u 0 g) b N.some_gates some (at_end (λ k. Corner gates (seg u 0 g) k b) C)
        ∙ ap (λ (k : ℕ). record { a = k - gates; b = length (seg u 0 g) } ∷ record { a = k - 1; b = length (seg u 0 g) } ∷ []) iv_long

    -- ---- the gate before is of its band
    module _ (before : band_before gates (seg u 0 g) g ≡ b) where
      before_end : band_before gates (seg u 0 g) (length (seg u 0 g)) ≡ b
      before_end = at_end (λ k. band_before gates (seg u 0 g) k ≡ b) before

      inner : g % gates ≡ 0 → ⊥
      inner = subst (λ (k : ℕ). k % gates ≡ 0 → ⊥) iv_long (goes_on gates (seg u 0 g) b some before_end).0

      same_before : get_or (seg u 0 g) (g - 1) 0 ≡ b
      same_before = subst (λ (k : ℕ). get_or (seg u 0 g) (k - 1) 0 ≡ b) iv_long (goes_on gates (seg u 0 g) b some before_end).1

      pub later : 1 ≤ g
      later = mod_pos g gates inner

      -- the word of the gate before
      under_before : joint gates (seg u 0 g ++ b ∷ []) ≡ joint gates (seg u 0 g) ++ get_or (joint gates (seg u 0 g)) (g - 1) 0 ∷ [] → (x : ℕ) → x ≡ get_or (seg u n g) (g - 1) 0 → Placed gates u u n g b x
      under_before q x e = placed x (rw e (place_under gates (seg u 0 g) (seg u n g) (drop (n + n) u) N.areas b some (g - 1) same_before q))

      pub placed_beside : Open → (x : ℕ) → x ≡ get_or (seg u n g) (g - 1) 0 → Placed gates u u n g b x
      placed_beside o =
          let k = links_beside gates (seg u 0 g) b N.some_gates some before_end (open_end o) in
          let p : length (seg u 0 g) - 1 < length (seg u 0 g) = omega (arith, later, iv_long) in
          under_before (joint_one gates (seg u 0 g) b some (length (seg u 0 g) - 1) p k ∙ ap (λ (y : ℕ). joint gates (seg u 0 g) ++ get_or (joint gates (seg u 0 g)) (y - 1) 0 ∷ []) iv_long)

      -- ---- the gate above is, too
      module _ (ray : gates ≤ g) (above : get_or u (g - gates) 0 ≡ b) where
        pub corner : Corner gates (seg u 0 g) g b
        corner = record { some = some; inner = inner; before = same_before; ray = ray; above = band_here (g - gates) (omega (arith, N.some_gates)) ∙ above }

        -- the gate above starts no ray, as this one starts none
        inner_above : (g - gates) % gates ≡ 0 → ⊥
        inner_above z =
            let e : g - gates + gates ≡ g = omega arith in
            inner (sym (ap (λ (y : ℕ). y % gates) e) ∙ add-mod_right (g - gates) gates ∙ z)

        pub above_later : 1 ≤ g - gates
        above_later = mod_pos (g - gates) gates inner_above

        -- the gate before the one above is, too: then the gates above and before are of one area
        one_area : get_or u (g - gates - 1) 0 ≡ b → get_or (joint gates (seg u 0 g)) (g - gates) 0 ≡ get_or (joint gates (seg u 0 g)) (g - 1) 0
        one_area e =
            let corner_band : get_or (seg u 0 g) (g - gates - 1) 0 ≡ b = band_here (g - gates - 1) (omega (arith, later)) ∙ e in
            let l : 1 ≤ g - gates = above_later in
            sym (same_root gates (seg u 0 g) (g - gates - 1) (g - gates) (omega (arith, N.some_gates, iv_long)) (inr (inner_above, refl)) (λ z. omega (arith, corner.above)) (corner_band ∙ sym corner.above))
            ∙ same_root gates (seg u 0 g) (g - gates - 1) (g - 1) (omega (arith, later, iv_long)) (inl (omega arith, omega arith)) (λ z. omega (arith, same_before)) (corner_band ∙ sym same_before)

        pub placed_joined : get_or u (g - gates - 1) 0 ≡ b → (x : ℕ) → x ≡ get_or (seg u n g) (g - 1) 0 → Placed gates u u n g b x
        placed_joined e = under_before (
            joint_two gates (seg u 0 g) b some (g - gates) (g - 1) (omega (arith, N.some_gates, iv_long)) (omega (arith, later, iv_long)) (both corner)
            ∙ ap (λ (l : List ℕ). l ++ get_or l (g - 1) 0 ∷ []) (join_same (joint gates (seg u 0 g)) (record { a = g - gates; b = g - 1 }) (one_area e)))

    -- ---- the gate before is not
    module _ (apart : band_before gates (seg u 0 g) g ≡ b → ⊥) where
      apart_end : band_before gates (seg u 0 g) (length (seg u 0 g)) ≡ b → ⊥
      apart_end = at_end (λ k. band_before gates (seg u 0 g) k ≡ b → ⊥) apart

      pub placed_below : gates ≤ g → get_or u (g - gates) 0 ≡ b → Placed gates u u n g b (get_or u (n + (g - gates)) 0)
      placed_below h e =
          let l : g - gates < g = omega (arith, N.some_gates) in
          let f : get_or (seg u 0 g) (g - gates) 0 ≡ b = band_here (g - gates) l ∙ e in
          let k = links_below gates (seg u 0 g) b N.some_gates some apart_end (omega (arith, iv_long)) (at_end (λ k. get_or (seg u 0 g) (k - gates) 0 ≡ b) f) in
          let q : joint gates (seg u 0 g ++ b ∷ []) ≡ joint gates (seg u 0 g) ++ get_or (joint gates (seg u 0 g)) (g - gates) 0 ∷ [] = joint_one gates (seg u 0 g) b some (g - gates) (omega (arith, iv_long)) (k ∙ ap (λ (y : ℕ). record { a = y - gates; b = length (seg u 0 g) } ∷ []) iv_long) in
          placed (get_or u (n + (g - gates)) 0) (rw (← get_or-seg u n g (g - gates) 0 l) (place_under gates (seg u 0 g) (seg u n g) (drop (n + n) u) N.areas b some (g - gates) f q))

      counter : get_or (drop (n + n) u) (b - 1) 0 ≡ get_or u (n + n + (b - 1)) 0
      counter = get_or-drop (n + n) u (b - 1) 0

      pub begin_asks : ((0 < b) × (g + 1 < 2 ^ 32) × (n + n + (b - 1) < length u)) × (get_or u (n + n + (b - 1)) 0 + 1 < 2 ^ 32)
      begin_asks =
          let l : b - 1 < length (drop (n + n) u) = omega (arith, N.band) in
          let few = counted_few (seg u 0 g) (joint gates (seg u 0 g)) (drop (n + n) u) (joint_long gates (seg u 0 g)) N.areas.counts (b - 1) l in
          ((some, omega (arith, N.here, N.small), omega (arith, N.band, N.room, length-drop (n + n) u)), omega (arith, few, counter, iv_long, N.here, N.small))

      pub placed_first : Open → (x : ℕ) → x ≡ suc g → (v : List ℕ) → v ≡ set u (n + n + (b - 1)) (get_or u (n + n + (b - 1)) 0 + 1) → Placed gates u v n g b x
      placed_first o x e v f =
          let at : ℕ = n + n + (b - 1) in
          let k : ℕ = get_or u at 0 + 1 in
          let first = place_first gates (seg u 0 g) (seg u n g) (drop (n + n) u) N.areas b some (omega (arith, N.band)) (links_free gates (seg u 0 g) b N.some_gates some apart_end (open_end o)) in
          let counted = subst (λ (y : ℕ). AreasOf gates (seg u 0 g ++ b ∷ []) (seg u n g ++ suc g ∷ []) (set (drop (n + n) u) (b - 1) (y + 1))) counter
          (subst (λ (y : ℕ). AreasOf gates (seg u 0 g ++ b ∷ []) (seg u n g ++ suc y ∷ []) (set (drop (n + n) u) (b - 1) (get_or (drop (n + n) u) (b - 1) 0 + 1))) iv_long first) in
          rw f
          (record {
            bands = seg-set_out u at k 0 g (λ p q. omega (arith, N.here));
            areas = rw (e, seg-set_out u at k n g (λ p q. omega (arith, N.here)), drop-set-add (n + n) u (b - 1) k) counted;
          })

    -- ---- the areas above and before are made one: ys are the words lent, when they come back
    module _ (C : Corner gates (seg u 0 g) g b) where
      mid : n + g - n ≡ g
      mid = omega arith

      lent : mid_of n (n + g - n) u ≡ seg u n g
      unfolding seg
      lent = ap (λ (k : ℕ). mid_of n k u) mid

      word_some : (i : ℕ) → get_or (seg u 0 g) i 0 ≡ b → 0 < get_or (seg u n g) i 0
      word_some i e = (N.areas.forest.parent i (marks_in (seg u 0 g) i (λ z. omega arith))).some

      pub unite_asks : Some (mid_of n (n + g - n) u) × (Gate (mid_of n (n + g - n) u) (g - gates) × Gate (mid_of n (n + g - n) u) (g - 1))
      unite_asks =
          let F = N.areas.forest in
          rw lent (
            record { inside = marks (seg u 0 g); rs = joint gates (seg u 0 g); forest = F; small = omega (arith, F.long, length_marks (seg u 0 g), iv_long, N.here, N.small) },
            (word_some (g - gates) C.above, word_some (g - 1) C.before),
          )

      module _ (ys : List ℕ) (two : Bool) (were : (inside : List Bool) (rs : List ℕ) → Forest inside (mid_of n (n + g - n) u) rs → two ≡ not (eqb (get_or rs (g - gates) 0) (get_or rs (g - 1) 0)))
          (made : (inside : List Bool) (rs : List ℕ) → Forest inside (mid_of n (n + g - n) u) rs → Forest inside ys (join rs (record { a = g - gates; b = g - 1 }))) where
        are : two ≡ not (eqb (get_or (joint gates (seg u 0 g)) (g - gates) 0) (get_or (joint gates (seg u 0 g)) (g - 1) 0))
        are = were (marks (seg u 0 g)) (joint gates (seg u 0 g)) (rw lent N.areas.forest)

        one : Forest (marks (seg u 0 g)) ys (join (joint gates (seg u 0 g)) (record { a = g - gates; b = g - 1 }))
        one = made (marks (seg u 0 g)) (joint gates (seg u 0 g)) (rw lent N.areas.forest)

        ys_long : length ys ≡ g
        ys_long = one.long ∙ length_marks (seg u 0 g) ∙ iv_long

        is_put : put_mid n (n + g - n) u ys ≡ put u n ys
        is_put = put_mid_lem u n (n + g - n) ys (ys_long ∙ sym mid) (omega (arith, N.here, N.room))

        back_long : length (put_mid n (n + g - n) u ys) ≡ length u
        back_long = ap length is_put ∙ length-put u n ys

        back_bands : seg (put_mid n (n + g - n) u ys) 0 g ≡ seg u 0 g
        back_bands = ap (λ (l : List ℕ). seg l 0 g) is_put ∙ seg-put_out u n ys 0 g (λ j p q r s. omega (arith, N.here))

        back_words : seg (put_mid n (n + g - n) u ys) n g ≡ ys
        back_words = ap (λ (k : ℕ). seg (put_mid n (n + g - n) u ys) n k) (sym mid) ∙ lent_seg u n (n + g - n) ys (ys_long ∙ sym mid) (omega (arith, N.here, N.room))

        back_counts : drop (n + n) (put_mid n (n + g - n) u ys) ≡ drop (n + n) u
        back_counts = ap (drop (n + n)) is_put ∙ drop-put_above u n ys (n + n) (omega (arith, N.here, ys_long))

        back_counter : get_or (put_mid n (n + g - n) u ys) (n + n + (b - 1)) 0 ≡ get_or (drop (n + n) u) (b - 1) 0
        back_counter = sym (get_or-drop (n + n) (put_mid n (n + g - n) u ys) (b - 1) 0) ∙ ap (λ (l : List ℕ). get_or l (b - 1) 0) back_counts

        pub less_asks : ((0 < b) × (n + n + (b - 1) < length (put_mid n (n + g - n) u ys))) × (two ≡ true → 0 < get_or (put_mid n (n + g - n) u ys) (n + n + (b - 1)) 0)
        less_asks = (
          (some, omega (arith, back_long, N.band, N.room, length-drop (n + n) u)),
          λ t. omega (arith, back_counter, area_some gates (seg u 0 g) (seg u n g) (drop (n + n) u) N.areas b some (record { a = g - gates; b = g - 1 }) C.above C.before N.band two are t),
        )

        -- and the counter is one less, if they were two: v
        module _ (v : List ℕ) (e : v ≡ cond two (set (put_mid n (n + g - n) u ys) (n + n + (b - 1)) (get_or (put_mid n (n + g - n) u ys) (n + n + (b - 1)) 0 - 1)) (put_mid n (n + g - n) u ys)) where
          by_two : (t : Bool) → two ≡ t → v ≡ cond t (set (put_mid n (n + g - n) u ys) (n + n + (b - 1)) (get_or (put_mid n (n + g - n) u ys) (n + n + (b - 1)) 0 - 1)) (put_mid n (n + g - n) u ys)
          by_two t f = e ∙ ap (λ (x : Bool). cond x (set (put_mid n (n + g - n) u ys) (n + n + (b - 1)) (get_or (put_mid n (n + g - n) u ys) (n + n + (b - 1)) 0 - 1)) (put_mid n (n + g - n) u ys)) f

          -- bands and words are as they came back
          outside : (f k : ℕ) → f + k ≤ n + n → seg v f k ≡ seg (put_mid n (n + g - n) u ys) f k
          outside f k h = go two refl
            where
              go : (t : Bool) → two ≡ t → seg v f k ≡ seg (put_mid n (n + g - n) u ys) f k
              go true e = ap (λ (l : List ℕ). seg l f k) (by_two true e) ∙ seg-set_out (put_mid n (n + g - n) u ys) (n + n + (b - 1)) (get_or (put_mid n (n + g - n) u ys) (n + n + (b - 1)) 0 - 1) f k (λ p q. omega arith)
              go false e = ap (λ (l : List ℕ). seg l f k) (by_two false e)

          counts_less : two ≡ true → drop (n + n) v ≡ set (drop (n + n) u) (b - 1) (get_or (drop (n + n) u) (b - 1) 0 - 1)
          counts_less e =
              ap (drop (n + n)) (by_two true e)
              ∙ drop-set-add (n + n) (put_mid n (n + g - n) u ys) (b - 1) (get_or (put_mid n (n + g - n) u ys) (n + n + (b - 1)) 0 - 1)
              ∙ ap (λ (l : List ℕ). set l (b - 1) (get_or (put_mid n (n + g - n) u ys) (n + n + (b - 1)) 0 - 1)) back_counts
              ∙ ap (λ (k : ℕ). set (drop (n + n) u) (b - 1) (k - 1)) back_counter

          counts_same : two ≡ false → drop (n + n) v ≡ drop (n + n) u
          counts_same e = ap (drop (n + n)) (by_two false e) ∙ back_counts

          v_words : seg v n g ≡ ys
          v_words = outside n g (omega (arith, N.here)) ∙ back_words

          pub placed_met : Placed gates u v n g b (get_or v (n + (g - 1)) 0)
          placed_met =
              let l : Neighbours = record { a = g - gates; b = g - 1 } in
              let later : 1 ≤ g = mod_pos g gates C.inner in
              let counts = joined_counts gates (seg u 0 g) (seg u n g) (drop (n + n) u) N.areas b some l C.above C.before N.band two are (drop (n + n) v) counts_less counts_same in
              let met = place_meet gates (seg u 0 g) (seg u n g) (drop (n + n) u) N.areas b some (g - gates) (g - 1) (omega (arith, N.some_gates, C.ray, iv_long)) (omega (arith, later, iv_long)) C.before (both C) ys (drop (n + n) v) one counts in
              let word : get_or v (n + (g - 1)) 0 ≡ get_or ys (g - 1) 0 = sym (get_or-seg v n g (g - 1) 0 (omega (arith, later))) ∙ ap (λ (l : List ℕ). get_or l (g - 1) 0) v_words in
              record { bands = outside 0 g (omega (arith, N.here)) ∙ back_bands; areas = rw (word, v_words) met }
