-- Looks, pairs and records of a sweep and of its echo alone: the echo's are the sweep's, in order, with the labels renamed. Assumes nothing.
use Prim.Native.Nat.{ℕ, zero, suc, ◌≤◌, ◌<◌}
use native.Mathlib.Omega.{arith}
use mathlib.Core.Path.{◌≡◌, refl, sym, ap, ◌∙◌}
use mathlib.Core.Bool.{Bool, true, false, cond, ◌&&◌, and-true, and-false}
use mathlib.Core.List.{List, [], ◌∷◌, map, foldl}
use mathlib.Core.Option.{Option, none, some, none-ne-some, some-injective}
use lib.Dec.{ltb, eqb}
use lib.ListN.{length}
use borrow.Author.Tests.{ltb-true, ltb-false, lt-ltb, le-ltb, eqb-true, eqb-false}
use Rattle.lists.specs.Seq.{upto, keep, each, All}
use Rattle.lists.proofs.SeqLaws.{eqb_renamed, keep_and, keep_none, keep_same, keep_swap, keep_of_map, keep_each, each_map, each_same, each_keep, map_each}
use Rattle.locality.proofs.Spot.{trues, shift, flag, shift_rises, shift_inj, shifts_kept}
use Rattle.locality.proofs.RootsEcho.{at}
use Rattle.lists.proofs.AllLaws.{all_each, all_keep}
use Rattle.edges.specs.Edges.{next, look, sees, begun, plus, gathered, first_is, second_is, records_of, records, greater_first, used}
use Rattle.edges.specs.declared.edges.Pair.{Pair}
use Rattle.edges.specs.declared.edges.Shape.{Shape}
use Rattle.edges.specs.declared.edges.Direction.{Direction}
use Rattle.edges.specs.declared.edges.EdgeRecord.{EdgeRecord}
use Rattle.edges.proofs.Runs.{plus_one, plus_two}
use Rattle.edges.proofs.RecordLaws.{gathered_all, records_nil}

-- No gate of the echo sees one outside it, and none outside sees one of the echo.
abbrev pub ApartIn : (ℕ → Bool) → Shape → List ℕ → Type 0
ApartIn E s labels = (d : Direction) (g h : ℕ) → 0 < at labels g → sees s labels d g ≡ some h → E g ≡ E h

-- a look ends at a labelled gate
pub look_labelled : (s : Shape) (d : Direction) (labels : List ℕ) (k g h : ℕ) → look s d labels k g ≡ some h → 0 < at labels h
unfolding look
look_labelled s d labels zero g h e = absurd (none-ne-some h e)
look_labelled s d labels (suc k) g h e = go (next s d g) e (look_labelled s d labels k)
  where
    ends : (h' : ℕ) (z : ℕ) → at labels h' ≡ z → elim z [ zero ↦ look s d labels k h' | suc l ↦ some h' ] ≡ some h → (look s d labels k h' ≡ some h → 0 < at labels h) → 0 < at labels h
    ends h' zero w q ih = ih q
    ends h' (suc l) w q ih = let v : h' ≡ h = some-injective h' h q in rw (← v) (omega arith)

    go : (o : Option ℕ) → elim o [ none ↦ none | some h ↦ elim (at labels h) [ zero ↦ look s d labels k h | suc l ↦ some h ] ] ≡ some h
        → ((g h : ℕ) → look s d labels k g ≡ some h → 0 < at labels h) → 0 < at labels h
    go none q ih = absurd (none-ne-some h q)
    go (some h') q ih = ends h' (at labels h') refl q (ih h' h)

-- ---- renaming pairs and records

module _ (ρ : ℕ → ℕ) where
  unfoldable pub ren_p : Pair → Pair
  ren_p p = record { one = ρ p.one; two = ρ p.two; vel1 = p.vel1; vel2 = p.vel2; bridged = p.bridged }

  unfoldable pub ren_q : EdgeRecord → EdgeRecord
  ren_q r = record { one = ρ r.one; two = ρ r.two; count = r.count; sum1 = r.sum1; sum2 = r.sum2; bridged = r.bridged }

  plus_ren : (ps : List Pair) (r : EdgeRecord) → foldl plus (ren_q r) (map ren_p ps) ≡ ren_q (foldl plus r ps)
  unfolding plus ren_p ren_q
  plus_ren [] r = refl
  plus_ren (p ∷ ps) r = plus_ren ps (plus r p)

  gathered_ren : (ps : List Pair) → gathered (map ren_p ps) ≡ map ren_q (gathered ps)
  unfolding gathered begun ren_p ren_q
  gathered_ren [] = refl
  gathered_ren (p ∷ ps) = ap (λ (r : EdgeRecord). r ∷ []) (plus_ren ps (begun p))

-- ---- gathering

pub used_all : (P : ℕ → ℕ → Type 0) (n : ℕ) (ps : List Pair) → All (λ p. P p.one p.two) ps → All (λ r. P r.one r.two) (used n ps)
unfolding used records records_of
used_all P n ps t = all_keep (λ r. P r.one r.two) greater_first _ (all_each _ _ (upto n 1) (λ b. all_each _ _ (upto n 1) (λ a. gathered_all P _ (all_keep _ (first_is a) _ (all_keep _ (second_is b) ps t)))))

-- ---- the records whose labels pass a test are those of the pairs whose labels pass

module _ (p : ℕ → Bool) where
  unfoldable pub pair_in : Pair → Bool
  pair_in x = p x.one && p x.two

  unfoldable pub record_in : EdgeRecord → Bool
  record_in r = p r.one && p r.two

  of : ℕ → ℕ → Pair → Bool
  of a b x = first_is a x && second_is b x

  of_in : (a b : ℕ) (x : Pair) → (of a b x && pair_in x) ≡ (of a b x && (p a && p b))
  unfolding of first_is second_is pair_in
  of_in a b x = go (eqb x.one a) (eqb x.two b) refl refl
    where
      go : (u v : Bool) → eqb x.one a ≡ u → eqb x.two b ≡ v → ((u && v) && (p x.one && p x.two)) ≡ ((u && v) && (p a && p b))
      go true true e f = rw (eqb-true x.one a e, eqb-true x.two b f) refl
      go true false e f = refl
      go false v e f = refl

  -- all of a list, or none
  keep_cond : (c : Bool) (ps : List Pair) → All (λ x. pair_in x ≡ c) ps → keep record_in (gathered ps) ≡ cond c (gathered ps) []
  unfolding keep gathered begun record_in pair_in
  keep_cond c [] t = nothing c
    where
      nothing : (c : Bool) → [] ≡ cond c (gathered []) []
      nothing true = refl
      nothing false = refl
  keep_cond c (x ∷ xs) t = rw (plus_one xs (begun x), plus_two xs (begun x), t.0) refl

  kept_of : (a b : ℕ) (ps : List Pair) → All (λ x. pair_in x ≡ (p a && p b)) (keep (of a b) ps)
  unfolding keep of first_is second_is pair_in
  kept_of a b [] = tt
  kept_of a b (x ∷ xs) = go (eqb x.one a) (eqb x.two b) refl refl (kept_of a b xs)
    where
      go : (u v : Bool) → eqb x.one a ≡ u → eqb x.two b ≡ v → All (λ x. pair_in x ≡ (p a && p b)) (keep (of a b) xs) → All (λ x. pair_in x ≡ (p a && p b)) (cond (u && v) (x ∷ keep (of a b) xs) (keep (of a b) xs))
      go true true e f t = (rw (eqb-true x.one a e, eqb-true x.two b f) refl, t)
      go true false e f t = t
      go false v e f t = t

  two_tests : (a b : ℕ) (ps : List Pair) → keep (first_is a) (keep (second_is b) ps) ≡ keep (of a b) ps
  unfolding of
  two_tests a b ps = sym (keep_and (first_is a) (second_is b) ps)

  cell_in : (a b : ℕ) (ps : List Pair) → keep record_in (gathered (keep (first_is a) (keep (second_is b) ps))) ≡ gathered (keep (first_is a) (keep (second_is b) (keep pair_in ps)))
  cell_in a b ps = rw (two_tests a b ps, two_tests a b (keep pair_in ps), keep_cond (p a && p b) (keep (of a b) ps) (kept_of a b ps)) (go (p a && p b) refl)
    where
      sub : keep (of a b) (keep pair_in ps) ≡ keep (λ x. of a b x && (p a && p b)) ps
      sub = sym (keep_and (of a b) pair_in ps) ∙ keep_same (λ x. of a b x && pair_in x) (λ x. of a b x && (p a && p b)) ps (of_in a b)

      go : (c : Bool) → (p a && p b) ≡ c → cond c (gathered (keep (of a b) ps)) [] ≡ gathered (keep (of a b) (keep pair_in ps))
      go true e = rw (sub, e) (ap gathered (keep_same (of a b) (λ x. of a b x && true) ps (λ x. sym (and-true (of a b x)))))
      go false e = unfold gathered in rw (sub, e, keep_none (λ x. of a b x && false) ps (λ x. and-false (of a b x))) refl

  records_in_lem : (n : ℕ) (ps : List Pair) → keep record_in (records n ps) ≡ records n (keep pair_in ps)
  unfolding records records_of
  records_in_lem n ps = keep_each record_in _ (upto n 1) ∙ each_same _ _ (upto n 1) (λ b. keep_each record_in _ (upto n 1) ∙ each_same _ _ (upto n 1) (λ a. cell_in a b ps))

  -- a label that doesn't pass has no pairs
  none_first : (a b : ℕ) → p a ≡ false → (ps : List Pair) → keep (first_is a) (keep (second_is b) (keep pair_in ps)) ≡ []
  none_first a b e ps = two_tests a b (keep pair_in ps) ∙ sym (keep_and (of a b) pair_in ps) ∙ keep_none _ ps (λ x. of_in a b x ∙ (rw e (and-false (of a b x))))

  none_second : (b : ℕ) → p b ≡ false → (ps : List Pair) → keep (second_is b) (keep pair_in ps) ≡ []
  unfolding second_is pair_in
  none_second b e ps = sym (keep_and (second_is b) pair_in ps) ∙ keep_none _ ps (λ x. go x (eqb x.two b) refl)
    where
      go : (x : Pair) (u : Bool) → eqb x.two b ≡ u → (u && (p x.one && p x.two)) ≡ false
      go x true w = rw (eqb-true x.two b w, e) (and-false (p x.one))
      go x false w = refl

-- ---- the records of renamed pairs

module _ (bs : List Bool) where
  first_ren : (a : ℕ) (ps : List Pair) → keep (first_is (shift bs a)) (map (ren_p (shift bs)) ps) ≡ map (ren_p (shift bs)) (keep (first_is a) ps)
  unfolding first_is ren_p
  first_ren a ps = keep_of_map (ren_p (shift bs)) (first_is (shift bs a)) ps ∙ ap (map (ren_p (shift bs))) (keep_same _ _ ps (λ x. eqb_renamed (shift bs) (shift_inj bs) x.one a))

  second_ren : (b : ℕ) (ps : List Pair) → keep (second_is (shift bs b)) (map (ren_p (shift bs)) ps) ≡ map (ren_p (shift bs)) (keep (second_is b) ps)
  unfolding second_is ren_p
  second_ren b ps = keep_of_map (ren_p (shift bs)) (second_is (shift bs b)) ps ∙ ap (map (ren_p (shift bs))) (keep_same _ _ ps (λ x. eqb_renamed (shift bs) (shift_inj bs) x.two b))

  module _ (ps ps' : List Pair) (image : keep (pair_in (flag bs)) ps ≡ map (ren_p (shift bs)) ps') where
    row_ren : (b : ℕ) → records_of (length bs) (keep (second_is (shift bs b)) (keep (pair_in (flag bs)) ps)) ≡ map (ren_q (shift bs)) (records_of (trues bs) (keep (second_is b) ps'))
    unfolding records_of gathered
    row_ren b =
        each_keep (flag bs) _ (upto (length bs) 1) (λ a e. ap gathered (none_first (flag bs) a (shift bs b) e ps))
        ∙ ap (each _) (shifts_kept bs) ∙ each_map (shift bs) _ (upto (trues bs) 1)
        ∙ each_same _ _ (upto (trues bs) 1) cell
        ∙ sym (map_each (ren_q (shift bs)) _ (upto (trues bs) 1))
      where
        cell : (a : ℕ) → gathered (keep (first_is (shift bs a)) (keep (second_is (shift bs b)) (keep (pair_in (flag bs)) ps))) ≡ map (ren_q (shift bs)) (gathered (keep (first_is a) (keep (second_is b) ps')))
        cell a = rw (image, second_ren b ps', first_ren a (keep (second_is b) ps')) (gathered_ren (shift bs) (keep (first_is a) (keep (second_is b) ps')))

    records_ren : records (length bs) (keep (pair_in (flag bs)) ps) ≡ map (ren_q (shift bs)) (records (trues bs) ps')
    unfolding records
    records_ren =
        each_keep (flag bs) _ (upto (length bs) 1) (λ b e. ap (records_of (length bs)) (none_second (flag bs) b e ps) ∙ records_nil (length bs))
        ∙ ap (each _) (shifts_kept bs) ∙ each_map (shift bs) _ (upto (trues bs) 1)
        ∙ each_same _ _ (upto (trues bs) 1) row_ren
        ∙ sym (map_each (ren_q (shift bs)) _ (upto (trues bs) 1))

    -- an order is kept
    greater_ren : (r : EdgeRecord) → greater_first (ren_q (shift bs) r) ≡ greater_first r
    unfolding greater_first ren_q
    greater_ren r = go (ltb r.two r.one) refl
      where
        go : (b : Bool) → ltb r.two r.one ≡ b → ltb (shift bs r.two) (shift bs r.one) ≡ b
        go true e = lt-ltb (shift bs r.two) (shift bs r.one) (shift_rises bs r.two r.one (ltb-true r.two r.one e))
        go false e = le-ltb (shift bs r.two) (shift bs r.one) (level (eqb r.one r.two) refl)
          where
            level : (c : Bool) → eqb r.one r.two ≡ c → shift bs r.one ≤ shift bs r.two
            level true f = let w : r.one ≡ r.two = eqb-true r.one r.two f in rw w (omega arith)
            level false f = omega (arith, shift_rises bs r.one r.two (omega (arith, ltb-false r.two r.one e, eqb-false r.one r.two f)))

    -- the echo's edge records are the sweep's, in order
    pub used_ren : keep (record_in (flag bs)) (used (length bs) ps) ≡ map (ren_q (shift bs)) (used (trues bs) ps')
    unfolding used
    used_ren =
        keep_swap (record_in (flag bs)) greater_first (records (length bs) ps)
        ∙ ap (keep greater_first) (records_in_lem (flag bs) (length bs) ps ∙ records_ren)
        ∙ keep_of_map (ren_q (shift bs)) greater_first (records (trues bs) ps')
        ∙ ap (map (ren_q (shift bs))) (keep_same _ greater_first (records (trues bs) ps') greater_ren)
