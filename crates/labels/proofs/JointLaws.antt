-- The links within bands, and the roots of one band among the joint roots. Assumes nothing.
use Rattle.std.proofs.Common.{◌≡◌, ℕ, zero, suc, ◌-◌, ◌%◌, ◌<◌, ◌≤◌, min, max, Bool, true, false, cond, not, ◌&&◌, eqb, leb, ◌⊎◌, List, [], ◌∷◌, ◌++◌, map, length, get_or, sym, refl, ap, ◌∙◌, subst, inl, inr, ⊎_elim, arith, ext_get_or, eq-eqb, ne_eqb, eqb-true, le-leb, leb-false, leb-true}
use native.Mathlib.Nat.{zero-mod}
use mathlib.Core.List.{foldl, foldl-append}
use Rattle.lists.specs.Seq.{each, upto}
use lib.ListN.{length-map, get_or-map, get_or-eq_default}
use borrow.Author.Tests.{lt-leb}
use Rattle.labels.specs.Label.{Neighbours, own, join, swap, above, before, links_at, links, roots}
use Rattle.lists.proofs.SeqLaws.{tab_at, tab_length}
use Rattle.lists.proofs.SegLaws.{eq_or_ne, lt_or_le}
use Rattle.labels.proofs.ForestLaws.{join_at, swap_zero, some_pred}
use Rattle.labels.proofs.OwnLaws.{own_in, own_out}
use Rattle.labels.proofs.RegionFacts.{roots_long}
use Rattle.labels.specs.Inside.Bands.{marks, above_in, before_in, links_in, later_in, joint, part}
use Rattle.labels.proofs.BandLaws.{marks_in}

-- a gate that does not start a ray is not the first
pub mod_pos : (g d : ℕ) → (g % d ≡ 0 → ⊥) → 1 ≤ g
mod_pos zero d n = absurd (n (zero-mod d))
mod_pos (suc g) d n = omega arith

-- ---- a link that three tests decide
none_first : (q r : Bool) (x : Neighbours) → cond (false && q && r) (x ∷ []) [] ≡ []
none_first true true x = refl
none_first true false x = refl
none_first false true x = refl
none_first false false x = refl

none_mid : (p r : Bool) (x : Neighbours) → cond (p && false && r) (x ∷ []) [] ≡ []
none_mid true true x = refl
none_mid true false x = refl
none_mid false true x = refl
none_mid false false x = refl

none_last : (p q : Bool) (x : Neighbours) → cond (p && q && false) (x ∷ []) [] ≡ []
none_last true true x = refl
none_last true false x = refl
none_last false true x = refl
none_last false false x = refl

every : (p q r : Bool) (x : Neighbours) → p ≡ true → q ≡ true → r ≡ true → cond (p && q && r) (x ∷ []) [] ≡ x ∷ []
every p q r x e f g =
    ap (λ (t : Bool). cond (t && q && r) (x ∷ []) []) e
    ∙ ap (λ (t : Bool). cond (true && t && r) (x ∷ []) []) f
    ∙ ap (λ (t : Bool). cond (true && true && t) (x ∷ []) []) g

-- ---- the links of one gate, by cases
module _ (gates : ℕ) (iv : List ℕ) (g : ℕ) where
  pub above_edge : g < gates → above_in gates iv g ≡ []
  unfolding above_in
  above_edge h =
      ap (λ (t : Bool). cond (not (eqb (get_or iv g 0) 0) && t && eqb (get_or iv (g - gates) 0) (get_or iv g 0)) (record { a = g - gates; b = g } ∷ []) []) (lt-leb gates g h)
      ∙ none_mid (not (eqb (get_or iv g 0) 0)) (eqb (get_or iv (g - gates) 0) (get_or iv g 0)) (record { a = g - gates; b = g })

  pub above_none : (get_or iv (g - gates) 0 ≡ get_or iv g 0 → ⊥) → above_in gates iv g ≡ []
  unfolding above_in
  above_none h =
      ap (λ (t : Bool). cond (not (eqb (get_or iv g 0) 0) && leb gates g && t) (record { a = g - gates; b = g } ∷ []) []) (ne_eqb (get_or iv (g - gates) 0) (get_or iv g 0) h)
      ∙ none_last (not (eqb (get_or iv g 0) 0)) (leb gates g) (record { a = g - gates; b = g })

  pub above_one : (get_or iv g 0 ≡ 0 → ⊥) → gates ≤ g → get_or iv (g - gates) 0 ≡ get_or iv g 0 → above_in gates iv g ≡ record { a = g - gates; b = g } ∷ []
  unfolding above_in
  above_one e f h = every (not (eqb (get_or iv g 0) 0)) (leb gates g) (eqb (get_or iv (g - gates) 0) (get_or iv g 0)) (record { a = g - gates; b = g }) (ap not (ne_eqb (get_or iv g 0) 0 e)) (le-leb gates g f) (eq-eqb (get_or iv (g - gates) 0) (get_or iv g 0) h)

  pub before_edge : g % gates ≡ 0 → before_in gates iv g ≡ []
  unfolding before_in
  before_edge h =
      ap (λ (t : Bool). cond (not (eqb (get_or iv g 0) 0) && not t && eqb (get_or iv (g - 1) 0) (get_or iv g 0)) (record { a = g - 1; b = g } ∷ []) []) (eq-eqb (g % gates) 0 h)
      ∙ none_mid (not (eqb (get_or iv g 0) 0)) (eqb (get_or iv (g - 1) 0) (get_or iv g 0)) (record { a = g - 1; b = g })

  pub before_none : (get_or iv (g - 1) 0 ≡ get_or iv g 0 → ⊥) → before_in gates iv g ≡ []
  unfolding before_in
  before_none h =
      ap (λ (t : Bool). cond (not (eqb (get_or iv g 0) 0) && not (eqb (g % gates) 0) && t) (record { a = g - 1; b = g } ∷ []) []) (ne_eqb (get_or iv (g - 1) 0) (get_or iv g 0) h)
      ∙ none_last (not (eqb (get_or iv g 0) 0)) (not (eqb (g % gates) 0)) (record { a = g - 1; b = g })

  pub before_one : (get_or iv g 0 ≡ 0 → ⊥) → (g % gates ≡ 0 → ⊥) → get_or iv (g - 1) 0 ≡ get_or iv g 0 → before_in gates iv g ≡ record { a = g - 1; b = g } ∷ []
  unfolding before_in
  before_one e f h = every (not (eqb (get_or iv g 0) 0)) (not (eqb (g % gates) 0)) (eqb (get_or iv (g - 1) 0) (get_or iv g 0)) (record { a = g - 1; b = g }) (ap not (ne_eqb (get_or iv g 0) 0 e)) (ap not (ne_eqb (g % gates) 0 f)) (eq-eqb (get_or iv (g - 1) 0) (get_or iv g 0) h)

  pub links_none : get_or iv g 0 ≡ 0 → links_in gates iv g ≡ []
  unfolding links_in above_in before_in
  links_none h =
      ap (λ (t : Bool). cond (not t && leb gates g && eqb (get_or iv (g - gates) 0) (get_or iv g 0)) (record { a = g - gates; b = g } ∷ []) [] ++ cond (not t && not (eqb (g % gates) 0) && eqb (get_or iv (g - 1) 0) (get_or iv g 0)) (record { a = g - 1; b = g } ∷ []) []) (eq-eqb (get_or iv g 0) 0 h)
      ∙ ap (λ (t : List Neighbours). t ++ cond (false && not (eqb (g % gates) 0) && eqb (get_or iv (g - 1) 0) (get_or iv g 0)) (record { a = g - 1; b = g } ∷ []) []) (none_first (leb gates g) (eqb (get_or iv (g - gates) 0) (get_or iv g 0)) (record { a = g - gates; b = g }))
      ∙ none_first (not (eqb (g % gates) 0)) (eqb (get_or iv (g - 1) 0) (get_or iv g 0)) (record { a = g - 1; b = g })

-- ---- one band of the joint roots: rs of band j against R of all
module _ (iv : List ℕ) (j : ℕ) where
  record Proj (rs R : List ℕ) : Type 0 where
    at : (i : ℕ) → get_or iv i 0 ≡ suc j → get_or rs i 0 ≡ get_or R i 0
    off : (i : ℕ) → (get_or iv i 0 ≡ suc j → ⊥) → get_or rs i 0 ≡ 0
    own_band : (i r : ℕ) → get_or R i 0 ≡ suc r → get_or iv r 0 ≡ get_or iv i 0
    some : (i : ℕ) → (get_or iv i 0 ≡ 0 → ⊥) → 0 < get_or R i 0

  -- a join of gates that have roots leaves every root there
  some_kept : (R : List ℕ) (l : Neighbours) → 0 < get_or R l.a 0 → 0 < get_or R l.b 0 → (i : ℕ) → 0 < get_or R i 0 → 0 < get_or (join R l) i 0
  unfolding swap
  some_kept R l p q i h = subst (λ (y : ℕ). 0 < y) (sym (join_at R l i)) (go (eqb (get_or R i 0) (max (get_or R l.a 0) (get_or R l.b 0))))
    where
      go : (b : Bool) → 0 < cond b (min (get_or R l.a 0) (get_or R l.b 0)) (get_or R i 0)
      go true = omega arith
      go false = h

  -- a join of two gates of one band keeps each root in its band
  band_kept : (R : List ℕ) (l : Neighbours) → get_or iv l.a 0 ≡ get_or iv l.b 0 → ((i r : ℕ) → get_or R i 0 ≡ suc r → get_or iv r 0 ≡ get_or iv i 0) → (i r : ℕ) → get_or (join R l) i 0 ≡ suc r → get_or iv r 0 ≡ get_or iv i 0
  unfolding swap
  band_kept R l e O i r h = go (eqb (get_or R i 0) (max x y)) refl (sym (join_at R l i) ∙ h)
    where
      x : ℕ
      x = get_or R l.a 0

      y : ℕ
      y = get_or R l.b 0

      from_b : x ≤ y → get_or R i 0 ≡ y → x ≡ suc r → get_or iv r 0 ≡ get_or iv i 0
      from_b le q f =
          let (s, k) = some_pred y (omega arith) in
          O l.a r f ∙ e ∙ sym (O l.b s k) ∙ O i s (q ∙ k)

      from_a : y ≤ x → get_or R i 0 ≡ x → y ≡ suc r → get_or iv r 0 ≡ get_or iv i 0
      from_a le q f =
          let (s, k) = some_pred x (omega arith) in
          O l.b r f ∙ sym e ∙ sym (O l.a s k) ∙ O i s (q ∙ k)

      order : (b : Bool) → leb x y ≡ b → get_or R i 0 ≡ max x y → min x y ≡ suc r → get_or iv r 0 ≡ get_or iv i 0
      order true o q f = from_b (leb-true x y o) (omega (arith, leb-true x y o)) (omega (arith, leb-true x y o))
      order false o q f = from_a (omega (arith, leb-false x y o)) (omega (arith, leb-false x y o)) (omega (arith, leb-false x y o))

      go : (b : Bool) → eqb (get_or R i 0) (max x y) ≡ b → swap x y (get_or R i 0) ≡ suc r → get_or iv r 0 ≡ get_or iv i 0
      go true q f = order (leb x y) refl (eqb-true (get_or R i 0) (max x y) q) (sym (ap (λ (t : Bool). cond t (min x y) (get_or R i 0)) q) ∙ f)
      go false q f = O i r (sym (ap (λ (t : Bool). cond t (min x y) (get_or R i 0)) q) ∙ f)

  -- a join in the band is the same join
  proj_same : (rs R : List ℕ) (l : Neighbours) → get_or iv l.a 0 ≡ suc j → get_or iv l.b 0 ≡ suc j → Proj rs R → Proj (join rs l) (join R l)
  proj_same rs R l e f P =
      record {
        at = λ i h. join_at rs l i ∙ ap (λ (y : ℕ). swap (get_or rs l.a 0) (get_or rs l.b 0) y) (P.at i h) ∙ ap (λ (y : ℕ). swap y (get_or rs l.b 0) (get_or R i 0)) (P.at l.a e) ∙ ap (λ (y : ℕ). swap (get_or R l.a 0) y (get_or R i 0)) (P.at l.b f) ∙ sym (join_at R l i);
        off = λ i n. join_at rs l i ∙ ap (λ (y : ℕ). swap (get_or rs l.a 0) (get_or rs l.b 0) y) (P.off i n) ∙ swap_zero (get_or rs l.a 0) (get_or rs l.b 0);
        own_band = band_kept R l (e ∙ sym f) P.own_band;
        some = λ i n. some_kept R l (P.some l.a (λ z. omega arith)) (P.some l.b (λ z. omega arith)) i (P.some i n);
      }

  -- a join in another band changes nothing here
  proj_other : (rs R : List ℕ) (l : Neighbours) → get_or iv l.a 0 ≡ get_or iv l.b 0 → (get_or iv l.b 0 ≡ suc j → ⊥) → (get_or iv l.b 0 ≡ 0 → ⊥) → Proj rs R → Proj rs (join R l)
  unfolding swap
  proj_other rs R l e n m P =
      record {
        at = λ i h. P.at i h ∙ sym (stays i h);
        off = P.off;
        own_band = band_kept R l e P.own_band;
        some = λ i q. some_kept R l (P.some l.a (λ z. m (sym e ∙ z))) (P.some l.b m) i (P.some i q);
      }
    where
      x : ℕ
      x = get_or R l.a 0

      y : ℕ
      y = get_or R l.b 0

      -- a root of this band is no root of the ends
      clash : (i : ℕ) → get_or iv i 0 ≡ suc j → (s : ℕ) → get_or R i 0 ≡ suc s → (suc s ≡ x) ⊎ (suc s ≡ y) → ⊥
      clash i h s k (inl q) = n (sym e ∙ sym (P.own_band l.a s (sym q)) ∙ P.own_band i s k ∙ h)
      clash i h s k (inr q) = n (sym (P.own_band l.b s (sym q)) ∙ P.own_band i s k ∙ h)

      max_is : (b : Bool) → leb x y ≡ b → (s : ℕ) → suc s ≡ max x y → (suc s ≡ x) ⊎ (suc s ≡ y)
      max_is true o s q = inr (omega (arith, leb-true x y o))
      max_is false o s q = inl (omega (arith, leb-false x y o))

      some : (i : ℕ) → get_or iv i 0 ≡ suc j → (r : ℕ) → get_or R i 0 ≡ r → r ≡ max x y → min x y ≡ r
      some i h zero k q = omega arith
      some i h (suc s) k q = absurd (clash i h s k (max_is (leb x y) refl s q))

      stays : (i : ℕ) → get_or iv i 0 ≡ suc j → get_or (join R l) i 0 ≡ get_or R i 0
      stays i h = join_at R l i ∙ go (eqb (get_or R i 0) (max x y)) refl
        where
          go : (b : Bool) → eqb (get_or R i 0) (max x y) ≡ b → cond b (min x y) (get_or R i 0) ≡ get_or R i 0
          go true q = some i h (get_or R i 0) refl (eqb-true (get_or R i 0) (max x y) q)
          go false q = refl

  -- ---- the links of one kind at one gate
  module _ (rs R : List ℕ) (P : Proj rs R) (l : Neighbours) where
    none_none : (L M : List Neighbours) → L ≡ [] → M ≡ [] → Proj (foldl join rs L) (foldl join R M)
    none_none L M e f = subst (λ (x : List Neighbours). Proj (foldl join rs x) (foldl join R M)) (sym e) (subst (λ (x : List Neighbours). Proj rs (foldl join R x)) (sym f) P)

    none_one : (L M : List Neighbours) → L ≡ [] → M ≡ l ∷ [] → Proj rs (join R l) → Proj (foldl join rs L) (foldl join R M)
    none_one L M e f Q = subst (λ (x : List Neighbours). Proj (foldl join rs x) (foldl join R M)) (sym e) (subst (λ (x : List Neighbours). Proj rs (foldl join R x)) (sym f) Q)

    one_one : (L M : List Neighbours) → L ≡ l ∷ [] → M ≡ l ∷ [] → Proj (join rs l) (join R l) → Proj (foldl join rs L) (foldl join R M)
    one_one L M e f Q = subst (λ (x : List Neighbours). Proj (foldl join rs x) (foldl join R M)) (sym e) (subst (λ (x : List Neighbours). Proj (join rs l) (foldl join R x)) (sym f) Q)

    -- p₁, r₁: the ends are in band j; p₂: the later end has a band; r₂: both have one band
    module _ (p₁ q r₁ p₂ r₂ : Bool) (P₁ : p₁ ≡ eqb (get_or iv l.b 0) (suc j)) (R₁ : r₁ ≡ eqb (get_or iv l.a 0) (suc j)) (P₂ : p₂ ≡ not (eqb (get_or iv l.b 0) 0)) (R₂ : r₂ ≡ eqb (get_or iv l.a 0) (get_or iv l.b 0)) where
      L : List Neighbours
      L = cond (p₁ && q && r₁) (l ∷ []) []

      M : List Neighbours
      M = cond (p₂ && q && r₂) (l ∷ []) []

      no_p₁ : p₁ ≡ false → L ≡ []
      unfolding L
      no_p₁ e = ap (λ (t : Bool). cond (t && q && r₁) (l ∷ []) []) e ∙ none_first q r₁ l

      no_r₁ : r₁ ≡ false → L ≡ []
      unfolding L
      no_r₁ e = ap (λ (t : Bool). cond (p₁ && q && t) (l ∷ []) []) e ∙ none_last p₁ q l

      no_p₂ : p₂ ≡ false → M ≡ []
      unfolding M
      no_p₂ e = ap (λ (t : Bool). cond (t && q && r₂) (l ∷ []) []) e ∙ none_first q r₂ l

      no_r₂ : r₂ ≡ false → M ≡ []
      unfolding M
      no_r₂ e = ap (λ (t : Bool). cond (p₂ && q && t) (l ∷ []) []) e ∙ none_last p₂ q l

      one_kind : Proj (foldl join rs (cond (p₁ && q && r₁) (l ∷ []) [])) (foldl join R (cond (p₂ && q && r₂) (l ∷ []) []))
      unfolding L M
      one_kind = go q refl
        where
          apart : (get_or iv l.a 0 ≡ get_or iv l.b 0 → ⊥) → Proj (foldl join rs L) (foldl join R M)
          apart n = ⊎_elim
              (λ e. none_none L M (no_r₁ (R₁ ∙ ne_eqb (get_or iv l.a 0) (suc j) (λ f. n (f ∙ sym e)))) (no_r₂ (R₂ ∙ ne_eqb (get_or iv l.a 0) (get_or iv l.b 0) n)))
              (λ e. none_none L M (no_p₁ (P₁ ∙ ne_eqb (get_or iv l.b 0) (suc j) e)) (no_r₂ (R₂ ∙ ne_eqb (get_or iv l.a 0) (get_or iv l.b 0) n)))
              (eq_or_ne (get_or iv l.b 0) (suc j))

          together : q ≡ true → get_or iv l.a 0 ≡ get_or iv l.b 0 → Proj (foldl join rs L) (foldl join R M)
          together Q s = ⊎_elim
              (λ e. one_one L M
              (every p₁ q r₁ l (P₁ ∙ eq-eqb (get_or iv l.b 0) (suc j) e) Q (R₁ ∙ eq-eqb (get_or iv l.a 0) (suc j) (s ∙ e)))
              (every p₂ q r₂ l (P₂ ∙ ap not (ne_eqb (get_or iv l.b 0) 0 (λ z. omega arith))) Q (R₂ ∙ eq-eqb (get_or iv l.a 0) (get_or iv l.b 0) s))
              (proj_same rs R l (s ∙ e) e P))
              (λ e. ⊎_elim
              (λ z. none_none L M (no_p₁ (P₁ ∙ ne_eqb (get_or iv l.b 0) (suc j) e)) (no_p₂ (P₂ ∙ ap not (eq-eqb (get_or iv l.b 0) 0 z))))
              (λ z. none_one L M (no_p₁ (P₁ ∙ ne_eqb (get_or iv l.b 0) (suc j) e)) (every p₂ q r₂ l (P₂ ∙ ap not (ne_eqb (get_or iv l.b 0) 0 z)) Q (R₂ ∙ eq-eqb (get_or iv l.a 0) (get_or iv l.b 0) s)) (proj_other rs R l s e z P))
              (eq_or_ne (get_or iv l.b 0) 0))
              (eq_or_ne (get_or iv l.b 0) (suc j))

          go : (b : Bool) → q ≡ b → Proj (foldl join rs L) (foldl join R M)
          go false e = none_none L M (ap (λ (t : Bool). cond (p₁ && t && r₁) (l ∷ []) []) e ∙ none_mid p₁ r₁ l) (ap (λ (t : Bool). cond (p₂ && t && r₂) (l ∷ []) []) e ∙ none_mid p₂ r₂ l)
          go true e = ⊎_elim (together e) apart (eq_or_ne (get_or iv l.a 0) (get_or iv l.b 0))

  -- ---- a gate, and a pass
  module _ (gates : ℕ) (inside : List Bool) (agree : (i : ℕ) → get_or inside i false ≡ eqb (get_or iv i 0) (suc j)) where
    gate : (g : ℕ) (rs R : List ℕ) → Proj rs R → Proj (foldl join rs (links_at gates inside g)) (foldl join R (links_in gates iv g))
    unfolding links_at above before links_in above_in before_in
    gate g rs R P =
        let A : List Neighbours = above gates inside g in
        let C : List Neighbours = above_in gates iv g in
        let D : List Neighbours = before gates inside g in
        let E : List Neighbours = before_in gates iv g in
        let Q : Proj (foldl join rs A) (foldl join R C) = one_kind rs R P (record { a = g - gates; b = g }) (get_or inside g false) (leb gates g) (get_or inside (g - gates) false) (not (eqb (get_or iv g 0) 0)) (eqb (get_or iv (g - gates) 0) (get_or iv g 0)) (agree g) (agree (g - gates)) refl refl in
        let S : Proj (foldl join (foldl join rs A) D) (foldl join (foldl join R C) E) = one_kind (foldl join rs A) (foldl join R C) Q (record { a = g - 1; b = g }) (get_or inside g false) (not (eqb (g % gates) 0)) (get_or inside (g - 1) false) (not (eqb (get_or iv g 0) 0)) (eqb (get_or iv (g - 1) 0) (get_or iv g 0)) (agree g) (agree (g - 1)) refl refl in
        subst (λ (x : List ℕ). Proj x (foldl join R (C ++ E))) (sym (foldl-append join rs A D)) (subst (λ (x : List ℕ). Proj (foldl join (foldl join rs A) D) x) (sym (foldl-append join R C E)) S)

    pass : (k g : ℕ) (rs R : List ℕ) → Proj rs R → Proj (foldl join rs (each (links_at gates inside) (upto k g))) (foldl join R (each (links_in gates iv) (upto k g)))
    unfolding upto each
    pass zero g rs R P = P
    pass (suc k) g rs R P =
        let A : List Neighbours = links_at gates inside g in
        let C : List Neighbours = links_in gates iv g in
        let Q = pass k (suc g) (foldl join rs A) (foldl join R C) (gate g rs R P) in
        subst (λ (x : List ℕ). Proj x (foldl join R (C ++ each (links_in gates iv) (upto k (suc g))))) (sym (foldl-append join rs A (each (links_at gates inside) (upto k (suc g)))))
        (subst (λ (x : List ℕ). Proj (foldl join (foldl join rs A) (each (links_at gates inside) (upto k (suc g)))) x) (sym (foldl-append join R C (each (links_in gates iv) (upto k (suc g))))) Q)

    first : Proj (own inside) (own (marks iv))
    first =
        record {
          at = λ i e. own_in inside i (agree i ∙ eq-eqb (get_or iv i 0) (suc j) e) ∙ sym (own_in (marks iv) i (marks_in iv i (λ z. omega arith)));
          off = λ i n. own_out inside i (agree i ∙ ne_eqb (get_or iv i 0) (suc j) n);
          own_band = λ i r h. ap (λ (y : ℕ). get_or iv y 0) (self i r h);
          some = λ i n. omega (arith, own_in (marks iv) i (marks_in iv i n));
        }
      where
        self : (i r : ℕ) → get_or (own (marks iv)) i 0 ≡ suc r → r ≡ i
        self i r h = go (get_or (marks iv) i false) refl
          where
            go : (b : Bool) → get_or (marks iv) i false ≡ b → r ≡ i
            go true e = omega (arith, own_in (marks iv) i e)
            go false e = omega (arith, own_out (marks iv) i e)

    whole : length inside ≡ length iv → Proj (roots gates inside) (joint gates iv)
    unfolding roots links joint later_in
    whole e =
        let P = pass (length inside) 0 (own inside) (own (marks iv)) first in
        subst (λ (k : ℕ). Proj (foldl join (own inside) (each (links_at gates inside) (upto (length inside) 0))) (foldl join (own (marks iv)) (each (links_in gates iv) (upto k 0)))) (omega arith) P

joint_bands : (gates : ℕ) (iv : List ℕ) (inside : List Bool) (j : ℕ) → ((i : ℕ) → get_or inside i false ≡ eqb (get_or iv i 0) (suc j)) → length inside ≡ length iv → (i r : ℕ) → get_or (joint gates iv) i 0 ≡ suc r → get_or iv r 0 ≡ get_or iv i 0
joint_bands gates iv inside j agree e = (whole iv j gates inside agree e).own_band

-- each root is in its band
pub joint_own : (gates : ℕ) (iv : List ℕ) (i r : ℕ) → get_or (joint gates iv) i 0 ≡ suc r → get_or iv r 0 ≡ get_or iv i 0
joint_own gates iv = joint_bands gates iv (map (λ b. eqb b 1) iv) 0 (λ i. get_or-map (λ b. eqb b 1) iv i 0) (length-map iv (λ b. eqb b 1))

-- and every gate of a band has one
pub joint_some : (gates : ℕ) (iv : List ℕ) (i : ℕ) → (get_or iv i 0 ≡ 0 → ⊥) → 0 < get_or (joint gates iv) i 0
joint_some gates iv = (whole iv 0 gates (map (λ b. eqb b 1) iv) (λ i. get_or-map (λ b. eqb b 1) iv i 0) (length-map iv (λ b. eqb b 1))).some

-- ---- part
pub length_part : (iv R : List ℕ) (j : ℕ) → length (part iv R j) ≡ length iv
unfolding part
length_part iv R j = tab_length (λ g. cond (eqb (get_or iv g 0) (suc j)) (get_or R g 0) 0) (length iv)

part_at : (iv R : List ℕ) (j i : ℕ) → i < length iv → get_or (part iv R j) i 0 ≡ cond (eqb (get_or iv i 0) (suc j)) (get_or R i 0) 0
unfolding part
part_at iv R j i h = tab_at (λ g. cond (eqb (get_or iv g 0) (suc j)) (get_or R g 0) 0) (length iv) i 0 h

pub part_in : (iv R : List ℕ) (j i : ℕ) → get_or iv i 0 ≡ suc j → get_or (part iv R j) i 0 ≡ get_or R i 0
part_in iv R j i h = ⊎_elim
    (λ l. part_at iv R j i l ∙ ap (λ (t : Bool). cond t (get_or R i 0) 0) (eq-eqb (get_or iv i 0) (suc j) h))
    (λ l. absurd (bad (get_or-eq_default iv 0 l)))
    (lt_or_le i (length iv))
  where
    bad : get_or iv i 0 ≡ 0 → ⊥
    bad z = omega arith

pub part_out : (iv R : List ℕ) (j i : ℕ) → (get_or iv i 0 ≡ suc j → ⊥) → get_or (part iv R j) i 0 ≡ 0
part_out iv R j i n = ⊎_elim
    (λ l. part_at iv R j i l ∙ ap (λ (t : Bool). cond t (get_or R i 0) 0) (ne_eqb (get_or iv i 0) (suc j) n))
    (λ l. get_or-eq_default (part iv R j) 0 (omega (arith, length_part iv R j)))
    (lt_or_le i (length iv))

-- the roots of one interval are the part of its band
pub roots_part : (gates : ℕ) (iv : List ℕ) (inside : List Bool) (j : ℕ) → ((i : ℕ) → get_or inside i false ≡ eqb (get_or iv i 0) (suc j)) → length inside ≡ length iv → roots gates inside ≡ part iv (joint gates iv) j
roots_part gates iv inside j agree e =
    let P = whole iv j gates inside agree e in
    ext_get_or 0 (roots gates inside) (part iv (joint gates iv) j) (roots_long gates inside ∙ e ∙ sym (length_part iv (joint gates iv) j))
    (λ i h. ⊎_elim
    (λ q. P.at i q ∙ sym (part_in iv (joint gates iv) j i q))
    (λ q. P.off i q ∙ sym (part_out iv (joint gates iv) j i q))
    (eq_or_ne (get_or iv i 0) (suc j)))
