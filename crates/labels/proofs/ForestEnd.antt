-- Words that hold areas, with one gate more: outside, first of an area, or under another gate. Assumes nothing.
use Rattle.std.proofs.Common.{◌≡◌, ℕ, suc, ◌-◌, ◌<◌, ◌≤◌, Bool, true, false, not, eqb, List, [], ◌∷◌, ◌++◌, length, get_or, sym, refl, ap, ◌∙◌, ⊎_elim, arith, length-append, ne_eqb}
use lib.ListN.{get_or-append, get_or-eq_default}
use lib.Seq.{get_or_at}
use Rattle.labels.specs.Inside.Forest.{Parent, Forest}
use Rattle.labels.specs.Inside.Bands.{marks}
use Rattle.labels.proofs.ForestLaws.{decide, in_length, not_both}
use Rattle.labels.proofs.BandLaws.{length_marks}
use Rattle.labels.proofs.NextLaws.{marks_end}

-- before gate g, at it, or after it
by_place : {P : Type 0} (i g : ℕ) → (i < g → P) → (i ≡ g → P) → (g < i → P) → P
by_place i g before at past = ⊎_elim (⊎_elim before past) at (decide i g)

-- ---- a list of n with x after it
module _ {A : Type 0} (l : List A) (x d : A) (n : ℕ) (e : length l ≡ n) where
  end_long : length (l ++ x ∷ []) ≡ suc n
  end_long = omega (arith, length-append l (x ∷ []))

  end_before : (i : ℕ) → i < n → get_or (l ++ x ∷ []) i d ≡ get_or l i d
  end_before i h = get_or-append l (x ∷ []) d i (omega arith)

  end_at : (i : ℕ) → i ≡ n → get_or (l ++ x ∷ []) i d ≡ x
  end_at i h = get_or_at l x [] d i (e ∙ sym h)

  end_past : (i : ℕ) → n < i → get_or (l ++ x ∷ []) i d ≡ d
  end_past i h = get_or-eq_default (l ++ x ∷ []) d (omega (arith, end_long))

-- ---- a gate after the others, inside or not, with its word q and its root y
module _ (inside : List Bool) (w R : List ℕ) (F : Forest inside w R) (g : ℕ) (long : length inside ≡ g) (t : Bool) (q y : ℕ) (out : t ≡ false → (q ≡ 0) × (y ≡ 0)) (some : t ≡ true → 0 < q) (low : q ≤ suc g) (low-y : y ≤ suc g)
    (here : t ≡ true → get_or (inside ++ t ∷ []) (q - 1) false ≡ true) (same : t ≡ true → get_or (R ++ y ∷ []) (q - 1) 0 ≡ y) (self : q ≡ suc g → y ≡ suc g) where
  w_long : length w ≡ g
  w_long = F.long ∙ long

  R_long : length R ≡ g
  R_long = F.roots_long ∙ long

  -- the word of a gate before
  parent_before : (i : ℕ) → i < g → get_or inside i false ≡ true → Parent (inside ++ t ∷ []) (w ++ q ∷ []) (R ++ y ∷ []) i
  parent_before i h k =
      let P = F.parent i k in
      let r : get_or (w ++ q ∷ []) i 0 ≡ get_or w i 0 = end_before w q 0 g w_long i h in
      let l : get_or w i 0 - 1 < g = omega (arith, P.not_later) in
      record {
        some = omega (arith, P.some);
        not_later = omega (arith, P.not_later);
        here = ap (λ (z : ℕ). get_or (inside ++ t ∷ []) (z - 1) false) r ∙ end_before inside t false g long (get_or w i 0 - 1) l ∙ P.here;
        same = ap (λ (z : ℕ). get_or (R ++ y ∷ []) (z - 1) 0) r ∙ end_before R y 0 g R_long (get_or w i 0 - 1) l ∙ P.same ∙ sym (end_before R y 0 g R_long i h);
      }

  -- and its own
  parent_here : (i : ℕ) → i ≡ g → t ≡ true → Parent (inside ++ t ∷ []) (w ++ q ∷ []) (R ++ y ∷ []) i
  parent_here i e k =
      let r : get_or (w ++ q ∷ []) i 0 ≡ q = end_at w q 0 g w_long i e in
      record {
        some = omega (arith, some k);
        not_later = omega arith;
        here = ap (λ (z : ℕ). get_or (inside ++ t ∷ []) (z - 1) false) r ∙ here k;
        same = ap (λ (z : ℕ). get_or (R ++ y ∷ []) (z - 1) 0) r ∙ same k ∙ sym (end_at R y 0 g R_long i e);
      }

  forest_end : Forest (inside ++ t ∷ []) (w ++ q ∷ []) (R ++ y ∷ [])
  forest_end =
      record {
        long = end_long w q 0 g w_long ∙ sym (end_long inside t false g long);
        roots_long = end_long R y 0 g R_long ∙ sym (end_long inside t false g long);
        out = λ i o. by_place i g
            (λ h. end_before w q 0 g w_long i h ∙ F.out i (sym (end_before inside t false g long i h) ∙ o))
            (λ e. end_at w q 0 g w_long i e ∙ (out (sym (end_at inside t false g long i e) ∙ o)).0)
            (end_past w q 0 g w_long i);
        out_root = λ i o. by_place i g
            (λ h. end_before R y 0 g R_long i h ∙ F.out_root i (sym (end_before inside t false g long i h) ∙ o))
            (λ e. end_at R y 0 g R_long i e ∙ (out (sym (end_at inside t false g long i e) ∙ o)).1)
            (end_past R y 0 g R_long i);
        parent = λ i k. by_place i g
            (λ h. parent_before i h (sym (end_before inside t false g long i h) ∙ k))
            (λ e. parent_here i e (sym (end_at inside t false g long i e) ∙ k))
            (λ l. absurd (not_both (get_or (inside ++ t ∷ []) i false) k (end_past inside t false g long i l)));
        first = λ i e. by_place i g
            (λ h. end_before R y 0 g R_long i h ∙ F.first i (sym (end_before w q 0 g w_long i h) ∙ e))
            (λ f. end_at R y 0 g R_long i f ∙ self (omega (arith, end_at w q 0 g w_long i f)) ∙ omega arith)
            (λ l. absurd (none i l e));
        low = λ i. by_place i g
            (λ h. omega (arith, end_before R y 0 g R_long i h, F.low i))
            (λ f. omega (arith, end_at R y 0 g R_long i f))
            (λ l. omega (arith, end_past R y 0 g R_long i l));
      }
    where
      none : (i : ℕ) → g < i → get_or (w ++ q ∷ []) i 0 ≡ suc i → ⊥
      none i l e = omega (arith, end_past w q 0 g w_long i l)

-- ---- of bands
module _ (iv w R : List ℕ) (F : Forest (marks iv) w R) where
  not-true : ◌≡◌ {A = Bool} false true → ⊥
  not-true e = not_both false e refl

  some_band : (b : ℕ) → 0 < b → not (eqb b 0) ≡ true
  some_band b h = ap not (ne_eqb b 0 (λ e. omega arith))

  -- outside
  pub forest_out : Forest (marks (iv ++ 0 ∷ [])) (w ++ 0 ∷ []) (R ++ 0 ∷ [])
  forest_out =
      rw (marks_end iv 0)
      (forest_end (marks iv) w R F (length iv) (length_marks iv) false 0 0 (λ e. (refl, refl)) (λ e. absurd (not-true e)) (omega arith) (omega arith) (λ e. absurd (not-true e)) (λ e. absurd (not-true e)) (λ e. e))

  -- first of an area
  pub forest_first : (b : ℕ) → 0 < b → Forest (marks (iv ++ b ∷ [])) (w ++ suc (length iv) ∷ []) (R ++ suc (length iv) ∷ [])
  forest_first b h =
      let n : ℕ = length iv in
      let last : suc n - 1 ≡ n = omega arith in
      rw (marks_end iv b, some_band b h)
      (forest_end (marks iv) w R F n (length_marks iv) true (suc n) (suc n) (λ e. absurd (not-true (sym e))) (λ e. omega arith) (omega arith) (omega arith)
      (λ e. end_at (marks iv) true false n (length_marks iv) (suc n - 1) last) (λ e. end_at R (suc n) 0 n (F.roots_long ∙ length_marks iv) (suc n - 1) last) (λ e. refl))

  -- under gate p
  pub forest_under : (b : ℕ) → 0 < b → (p : ℕ) → get_or (marks iv) p false ≡ true → Forest (marks (iv ++ b ∷ [])) (w ++ get_or w p 0 ∷ []) (R ++ get_or R p 0 ∷ [])
  forest_under b h p k =
      let n : ℕ = length iv in
      let P = F.parent p k in
      let l : p < n = omega (arith, in_length (marks iv) p k, length_marks iv) in
      let m : get_or w p 0 - 1 < n = omega (arith, P.not_later) in
      rw (marks_end iv b, some_band b h)
      (forest_end (marks iv) w R F n (length_marks iv) true (get_or w p 0) (get_or R p 0) (λ e. absurd (not-true (sym e))) (λ e. P.some) (omega (arith, P.not_later)) (omega (arith, F.low p))
      (λ e. end_before (marks iv) true false n (length_marks iv) (get_or w p 0 - 1) m ∙ P.here) (λ e. end_before R (get_or R p 0) 0 n (F.roots_long ∙ length_marks iv) (get_or w p 0 - 1) m ∙ P.same) (λ e. absurd (earlier P.not_later l e)))
    where
      earlier : get_or w p 0 ≤ suc p → p < length iv → get_or w p 0 ≡ suc (length iv) → ⊥
      earlier k l e = omega arith
