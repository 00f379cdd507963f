-- The labels of a set of gates and those of its part in an echo: the part's labels are the set's, renumbered in order. Assumes nothing.
use Prim.Native.Nat.{ℕ, zero, suc, ◌+◌, ◌-◌, ◌≤◌, ◌<◌}
use native.Mathlib.Omega.{arith}
use mathlib.Core.Path.{◌≡◌, refl, sym, ap, ◌∙◌, subst}
use mathlib.Core.Bool.{Bool, true, false, cond, ◌&&◌}
use mathlib.Core.List.{List, ◌∷◌, map, map-map}
use lib.Dec.{eqb, ltb}
use lib.ListN.{length, get_or, length-map, get_or-map}
use borrow.Author.Tests.{eqb-true, eqb-false, eq-eqb, ne_eqb, lt-ltb, le-ltb, le-leb, lt-leb}
use Rattle.lists.specs.Seq.{upto, keep}
use Rattle.labels.specs.Label.{roots, firsts, rank, Found, labelled}
use Rattle.locality.proofs.Spot.{spot, trues, shift}
use Rattle.locality.proofs.RootsEcho.{at, at_less, Follow, roots_pos, roots_follow}

-- ---- numbers that pass a test, and how many are below one of them

-- the numbers below r
abbrev below : List ℕ → ℕ → ℕ
below fs r = length (keep (λ f. ltb f r) fs)

keep_head : (t : ℕ → Bool) (k : ℕ) (l : List ℕ) (b : Bool) → t k ≡ b → keep t (k ∷ l) ≡ cond b (k ∷ keep t l) (keep t l)
unfolding keep
keep_head t k l b h = rw h refl

below_head : (k r : ℕ) (l : List ℕ) → k < r → below (k ∷ l) r ≡ suc (below l r)
unfolding keep
below_head k r l h = rw (lt-ltb k r h) refl

below_none : (t : ℕ → Bool) (n k r : ℕ) → r ≤ k → below (keep t (upto n k)) r ≡ 0
unfolding keep upto
below_none t zero k r h = refl
below_none t (suc n) k r h = go (t k) (below_none t n (suc k) r (omega arith))
  where
    go : (b : Bool) → below (keep t (upto n (suc k))) r ≡ 0 → below (cond b (k ∷ keep t (upto n (suc k))) (keep t (upto n (suc k)))) r ≡ 0
    go true w = rw (le-ltb k r h) w
    go false w = w

-- numbers that pass a test, and those of them in the echo
module _ (E t : ℕ → Bool) where
  -- how many of u are below r is by the flags how many of v are
  abbrev Goal : ℕ → List ℕ → List ℕ → Type 0
  Goal r u v = spot (map E u) (below v r) ≡ below u r

  trues_kept : (n k : ℕ) → trues (map E (keep t (upto n k))) ≡ length (keep (λ g. E g && t g) (upto n k))
  unfolding keep upto trues
  trues_kept zero k = refl
  trues_kept (suc n) k = go (t k) (E k) refl (trues_kept n (suc k))
    where
      go : (b e : Bool) → E k ≡ e → trues (map E (keep t (upto n (suc k)))) ≡ length (keep (λ g. E g && t g) (upto n (suc k)))
          → trues (map E (cond b (k ∷ keep t (upto n (suc k))) (keep t (upto n (suc k))))) ≡ length (cond (e && b) (k ∷ keep (λ g. E g && t g) (upto n (suc k))) (keep (λ g. E g && t g) (upto n (suc k))))
      go true true h ih = rw h (ap suc ih)
      go true false h ih = rw h ih
      go false true h ih = ih
      go false false h ih = ih

  -- how many of all are below r is by the flags how many of those in the echo are
  spot_below : (n k r : ℕ) → k ≤ r → r < n + k → t r ≡ true → E r ≡ true
      → spot (map E (keep t (upto n k))) (below (keep (λ g. E g && t g) (upto n k)) r) ≡ below (keep t (upto n k)) r
  unfolding upto
  spot_below zero k r h l a e = absurd (omega arith)
  spot_below (suc n) k r h l a e = go (eqb k r) refl (λ q. spot_below n (suc k) r q (omega arith) a e)
    where
      here : k ≡ r → Goal r (keep t (k ∷ upto n (suc k))) (keep (λ g. E g && t g) (k ∷ upto n (suc k)))
      here w =
          let a' : t k ≡ true = ap t w ∙ a in
          let e' : E k ≡ true = ap E w ∙ e in
          let c : (E k && t k) ≡ true = rw (a', e') refl in
          let none : below (k ∷ keep t (upto n (suc k))) r ≡ 0 = unfold keep in rw (le-ltb k r (omega arith)) (below_none t n (suc k) r (omega arith)) in
          let none' : below (k ∷ keep (λ g. E g && t g) (upto n (suc k))) r ≡ 0 = unfold keep in rw (le-ltb k r (omega arith)) (below_none (λ g. E g && t g) n (suc k) r (omega arith)) in
          rw (keep_head t k (upto n (suc k)) true a', keep_head (λ g. E g && t g) k (upto n (suc k)) true c, none, none', e') (unfold spot in refl)

      later : k < r → (b d : Bool) → t k ≡ b → E k ≡ d → Goal r (keep t (upto n (suc k))) (keep (λ g. E g && t g) (upto n (suc k)))
          → Goal r (keep t (k ∷ upto n (suc k))) (keep (λ g. E g && t g) (k ∷ upto n (suc k)))
      later w true true b d ih =
          let c : (E k && t k) ≡ true = rw (b, d) refl in
          rw (keep_head t k (upto n (suc k)) true b, keep_head (λ g. E g && t g) k (upto n (suc k)) true c, below_head k r (keep t (upto n (suc k))) w, below_head k r (keep (λ g. E g && t g) (upto n (suc k))) w, d) (unfold spot in ap suc ih)
      later w true false b d ih =
          let c : (E k && t k) ≡ false = rw (b, d) refl in
          rw (keep_head t k (upto n (suc k)) true b, keep_head (λ g. E g && t g) k (upto n (suc k)) false c, below_head k r (keep t (upto n (suc k))) w, d) (unfold spot in ap suc ih)
      later w false d b q ih =
          let c : (E k && t k) ≡ false = rw (b, q) (and-false d) in
          rw (keep_head t k (upto n (suc k)) false b, keep_head (λ g. E g && t g) k (upto n (suc k)) false c) ih
        where
          and-false : (d : Bool) → (d && false) ≡ false
          and-false true = refl
          and-false false = refl

      go : (b : Bool) → eqb k r ≡ b → (suc k ≤ r → Goal r (keep t (upto n (suc k))) (keep (λ g. E g && t g) (upto n (suc k)))) → Goal r (keep t (k ∷ upto n (suc k))) (keep (λ g. E g && t g) (k ∷ upto n (suc k)))
      go true w ih = here (eqb-true k r w)
      go false w ih = let q : k < r = omega (arith, eqb-false k r w) in later q (t k) (E k) refl refl (ih q)

  -- r's own place is among them, and its flag is the echo's of r
  flag_below : (n k r : ℕ) → k ≤ r → r < n + k → t r ≡ true
      → (below (keep t (upto n k)) r < length (keep t (upto n k))) × (get_or (map E (keep t (upto n k))) (below (keep t (upto n k)) r) false ≡ E r)
  unfolding upto
  flag_below zero k r h l a = absurd (omega arith)
  flag_below (suc n) k r h l a = go (eqb k r) refl (λ q. flag_below n (suc k) r q (omega arith) a)
    where
      Good : List ℕ → Type 0
      Good u = (below u r < length u) × (get_or (map E u) (below u r) false ≡ E r)

      later : k < r → (b : Bool) → t k ≡ b → Good (keep t (upto n (suc k))) → Good (keep t (k ∷ upto n (suc k)))
      later w true b ih = rw (keep_head t k (upto n (suc k)) true b, below_head k r (keep t (upto n (suc k))) w) (omega (arith, ih.0), ih.1)
      later w false b ih = rw (keep_head t k (upto n (suc k)) false b) ih

      here : k ≡ r → Good (keep t (k ∷ upto n (suc k)))
      here w =
          let none : below (k ∷ keep t (upto n (suc k))) r ≡ 0 = unfold keep in rw (le-ltb k r (omega arith)) (below_none t n (suc k) r (omega arith)) in
          rw (keep_head t k (upto n (suc k)) true (ap t w ∙ a), none) (omega arith, ap E w)

      go : (b : Bool) → eqb k r ≡ b → (suc k ≤ r → Good (keep t (upto n (suc k)))) → Good (keep t (k ∷ upto n (suc k)))
      go true w ih = here (eqb-true k r w)
      go false w ih = let q : k < r = omega (arith, eqb-false k r w) in later q (t k) refl (ih q)

-- ---- ranks

keep_from : (s t : ℕ → Bool) (n k : ℕ) → ((i : ℕ) → k ≤ i → s i ≡ t i) → keep s (upto n k) ≡ keep t (upto n k)
unfolding keep upto
keep_from s t zero k h = refl
keep_from s t (suc n) k h = rw (h k (omega arith), keep_from s t n (suc k) (λ i w. h i (omega arith))) refl

-- no number is at most one below all of them
rank_none : (t : ℕ → Bool) (n k r : ℕ) → r < k → rank (keep t (upto n k)) r ≡ 0
unfolding rank keep upto
rank_none t zero k r h = refl
rank_none t (suc n) k r h = go (t k) (rank_none t n (suc k) r (omega arith))
  where
    go : (b : Bool) → rank (keep t (upto n (suc k))) r ≡ 0 → rank (cond b (k ∷ keep t (upto n (suc k))) (keep t (upto n (suc k)))) r ≡ 0
    go true w = rw (lt-leb k r h) w
    go false w = w

-- of a number that passes, the rank is one more than how many are below it
rank_below : (t : ℕ → Bool) (n k r : ℕ) → k ≤ r → r < n + k → t r ≡ true → rank (keep t (upto n k)) r ≡ suc (below (keep t (upto n k)) r)
unfolding rank upto
rank_below t zero k r h l a = absurd (omega arith)
rank_below t (suc n) k r h l a = go (eqb k r) refl (λ q. rank_below t n (suc k) r q (omega arith) a)
  where
    later : k < r → (b : Bool) → t k ≡ b → rank (keep t (upto n (suc k))) r ≡ suc (below (keep t (upto n (suc k))) r) → rank (keep t (k ∷ upto n (suc k))) r ≡ suc (below (keep t (k ∷ upto n (suc k))) r)
    later w true b ih = rw (keep_head t k (upto n (suc k)) true b, below_head k r (keep t (upto n (suc k))) w) (unfold keep in rw (le-leb k r (omega arith)) (ap suc ih))
    later w false b ih = rw (keep_head t k (upto n (suc k)) false b) ih

    here : k ≡ r → rank (keep t (k ∷ upto n (suc k))) r ≡ suc (below (keep t (k ∷ upto n (suc k))) r)
    here w =
        let none : below (k ∷ keep t (upto n (suc k))) r ≡ 0 = unfold keep in rw (le-ltb k r (omega arith)) (below_none t n (suc k) r (omega arith)) in
        rw (keep_head t k (upto n (suc k)) true (ap t w ∙ a), none) (unfold keep in rw (le-leb k r (omega arith)) (ap suc (rank_none t n (suc k) r (omega arith))))

    go : (b : Bool) → eqb k r ≡ b → (suc k ≤ r → rank (keep t (upto n (suc k))) r ≡ suc (below (keep t (upto n (suc k))) r)) → rank (keep t (k ∷ upto n (suc k))) r ≡ suc (below (keep t (k ∷ upto n (suc k))) r)
    go true w ih = here (eqb-true k r w)
    go false w ih = let q : k < r = omega (arith, eqb-false k r w) in later q (t k) refl (ih q)

-- ---- labels

-- whether a root is its gate's own
abbrev test : List ℕ → ℕ → Bool
test rs r = eqb (at rs (r - 1)) r

pub rank_zero : (rs : List ℕ) → rank (firsts rs) 0 ≡ 0
unfolding firsts
rank_zero rs = rank_none (test rs) (length rs) 1 0 (omega arith)

pub labels_at : (rs : List ℕ) (g : ℕ) → at (labelled rs).labels g ≡ rank (firsts rs) (at rs g)
unfolding labelled
labels_at rs g = subst (λ (d : ℕ). get_or (map (rank (firsts rs)) rs) g d ≡ rank (firsts rs) (at rs g)) (rank_zero rs) (get_or-map (rank (firsts rs)) rs g 0)

-- the first gates of the areas, in order
unfoldable pub first_gates_of : List ℕ → List ℕ
first_gates_of rs = map (λ r. r - 1) (firsts rs)

module _ (E : ℕ → Bool) where
  -- What is found in the echo alone follows what is found in all: bs says of each label of all whether it is the echo's.
  pub record Parts (bs : List Bool) (f f' : Found) : Type 0 where
    pub number : f.number ≡ length bs
    pub number' : f'.number ≡ trues bs
    pub within : (g : ℕ) → E g ≡ true → at f.labels g ≡ shift bs (at f'.labels g)
    pub outside : (g : ℕ) → E g ≡ false → at f'.labels g ≡ 0
    pub sides : (g l : ℕ) → at f.labels g ≡ suc l → (l < length bs) × (get_or bs l false ≡ E g)
    pub bound' : (g : ℕ) → at f'.labels g ≤ trues bs
    pub size : length f'.labels ≡ length f.labels

  -- whether a root's gate is the echo's
  abbrev echoes : ℕ → Bool
  echoes r = E (r - 1)

  module _ (rs rs' : List ℕ) (F : Follow E rs rs') (long : length rs' ≡ length rs) where
    -- the firsts of all, and those of the echo
    abbrev fs : List ℕ
    fs = keep (test rs) (upto (length rs) 1)

    abbrev fs' : List ℕ
    fs' = keep (λ r. echoes r && test rs r) (upto (length rs) 1)

    test_part : (r : ℕ) → 1 ≤ r → test rs' r ≡ (echoes r && test rs r)
    test_part r h = rw (F.part (r - 1)) (go (E (r - 1)))
      where
        go : (e : Bool) → eqb (cond e (at rs (r - 1)) 0) r ≡ (e && eqb (at rs (r - 1)) r)
        go true = refl
        go false = ne_eqb 0 r (λ w. omega arith)

    firsts_part : firsts rs' ≡ fs'
    unfolding firsts
    firsts_part = rw long (keep_from (test rs') (λ r. echoes r && test rs r) (length rs) 1 test_part)

    -- a root passes the test
    root_ok : (g r : ℕ) → at rs g ≡ suc r → (suc r < length rs + 1) × (test rs (suc r) ≡ true)
    root_ok g r h =
        let i : at rs r ≡ suc r = F.idem g r h in
        let w : suc r - 1 ≡ r = omega arith in
        (omega (arith, at_less rs r (omega arith)), eq-eqb (at rs (suc r - 1)) (suc r) (ap (at rs) w ∙ i))

    -- it lies on its gate's side
    root_side : (g r : ℕ) → at rs g ≡ suc r → echoes (suc r) ≡ E g
    root_side g r h = let w : suc r - 1 ≡ r = omega arith in ap E w ∙ F.side g r h

    same_root : (g : ℕ) → E g ≡ true → at rs' g ≡ at rs g
    same_root g e = rw (F.part g, e) refl

    rank_in : (g r : ℕ) → at rs g ≡ suc r → rank fs (suc r) ≡ suc (below fs (suc r))
    rank_in g r w = let k : (suc r < length rs + 1) × (test rs (suc r) ≡ true) = root_ok g r w in rank_below (test rs) (length rs) 1 (suc r) (omega arith) k.0 k.1

    both_ok : (g r : ℕ) → at rs g ≡ suc r → E g ≡ true → (echoes (suc r) && test rs (suc r)) ≡ true
    both_ok g r w e = let k : (suc r < length rs + 1) × (test rs (suc r) ≡ true) = root_ok g r w in rw (root_side g r w, e, k.1) refl

    rank_in' : (g r : ℕ) → at rs g ≡ suc r → E g ≡ true → rank fs' (suc r) ≡ suc (below fs' (suc r))
    rank_in' g r w e = rank_below (λ r. echoes r && test rs r) (length rs) 1 (suc r) (omega arith) (root_ok g r w).0 (both_ok g r w e)

    within_part : (g : ℕ) → E g ≡ true → at (labelled rs).labels g ≡ shift (map echoes (firsts rs)) (at (labelled rs').labels g)
    unfolding shift firsts
    within_part g e = labels_at rs g ∙ go (at rs g) refl ∙ ap (shift (map echoes (firsts rs))) (sym (labels_at rs' g))
      where
        go : (z : ℕ) → at rs g ≡ z → rank (firsts rs) (at rs g) ≡ shift (map echoes (firsts rs)) (rank (firsts rs') (at rs' g))
        go zero w = rw (same_root g e, w) (rank_zero rs ∙ ap (shift (map echoes (firsts rs))) (sym (rank_zero rs')))
        go (suc r) w =
            let k : (suc r < length rs + 1) × (test rs (suc r) ≡ true) = root_ok g r w in
            let s : spot (map echoes fs) (below fs' (suc r)) ≡ below fs (suc r) = spot_below echoes (test rs) (length rs) 1 (suc r) (omega arith) k.0 k.1 (root_side g r w ∙ e) in
            rw (same_root g e, w) (rank_in g r w ∙ ap suc (sym s) ∙ ap (shift (map echoes fs)) (sym (ap (λ (l : List ℕ). rank l (suc r)) firsts_part ∙ rank_in' g r w e)))

    outside_part : (g : ℕ) → E g ≡ false → at (labelled rs').labels g ≡ 0
    outside_part g e = labels_at rs' g ∙ (rw (F.part g, e) (rank_zero rs'))

    sides_part : (g l : ℕ) → at (labelled rs).labels g ≡ suc l → (l < length (map echoes (firsts rs))) × (get_or (map echoes (firsts rs)) l false ≡ E g)
    unfolding firsts
    sides_part g l h = go (at rs g) refl (sym (labels_at rs g) ∙ h)
      where
        go : (z : ℕ) → at rs g ≡ z → rank (firsts rs) (at rs g) ≡ suc l → (l < length (map echoes (firsts rs))) × (get_or (map echoes (firsts rs)) l false ≡ E g)
        go zero w q = let y : rank (firsts rs) 0 ≡ suc l = rw w at q in absurd (omega (arith, y, rank_zero rs))
        go (suc r) w q =
            let k : (suc r < length rs + 1) × (test rs (suc r) ≡ true) = root_ok g r w in
            let y : rank (firsts rs) (suc r) ≡ suc l = rw w at q in
            let y' : below fs (suc r) ≡ l = omega (arith, y, rank_in g r w) in
            let s : (below fs (suc r) < length fs) × (get_or (map echoes fs) (below fs (suc r)) false ≡ echoes (suc r)) = flag_below echoes (test rs) (length rs) 1 (suc r) (omega arith) k.0 k.1 in
            rw (← y', length-map fs echoes) (s.0, s.1 ∙ root_side g r w)

    bound_part : (g : ℕ) → at (labelled rs').labels g ≤ length (firsts rs')
    bound_part g = rw (labels_at rs' g) (go (at rs' g) refl (E g) refl)
      where
        none : at rs' g ≡ 0 → rank (firsts rs') (at rs' g) ≤ length (firsts rs')
        none w = rw w (omega (arith, rank_zero rs'))

        go : (z : ℕ) → at rs' g ≡ z → (e : Bool) → E g ≡ e → rank (firsts rs') (at rs' g) ≤ length (firsts rs')
        go zero w e q = none w
        go (suc r) w false e = none (F.part g ∙ (rw e refl))
        go (suc r) w true e =
            let v : at rs g ≡ suc r = sym (same_root g e) ∙ w in
            let s : (below fs' (suc r) < length fs') × (get_or (map echoes fs') (below fs' (suc r)) false ≡ echoes (suc r))
            = flag_below echoes (λ r. echoes r && test rs r) (length rs) 1 (suc r) (omega arith) (root_ok g r v).0 (both_ok g r v e) in
            rw (w, firsts_part) (omega (arith, rank_in' g r v e, s.0))

    parts : Parts (map echoes (firsts rs)) (labelled rs) (labelled rs')
    unfolding labelled firsts
    parts =
        let n : length (firsts rs') ≡ trues (map echoes (firsts rs)) = ap length firsts_part ∙ sym (trues_kept echoes (test rs) (length rs) 1) in
        record {
          number = sym (length-map (firsts rs) echoes);
          number' = n;
          within = within_part;
          outside = outside_part;
          sides = sides_part;
          bound' = λ g. omega (arith, bound_part g);
          size = (length-map rs' (rank (firsts rs')) ∙ long ∙ sym (length-map rs (rank (firsts rs))));
        }

    pub labelled_parts : Parts (map E (first_gates_of rs)) (labelled rs) (labelled rs')
    unfolding first_gates_of
    labelled_parts = rw (map-map E (λ (r : ℕ). r - 1) (firsts rs)) parts

-- a gate of the set is labelled
pub root_pos : (gates : ℕ) (ins : List Bool) (g : ℕ) → get_or ins g false ≡ true → 0 < at (labelled (roots gates ins)).labels g
unfolding firsts
root_pos gates ins g h = rw (labels_at (roots gates ins) g) (go (at (roots gates ins) g) refl (roots_pos gates ins g h))
  where
    F : Follow (λ i. true) (roots gates ins) (roots gates ins)
    F = roots_follow (λ i. true) gates ins ins (λ i. refl) (λ i a b c. refl) (λ i a b c. refl) refl

    go : (z : ℕ) → at (roots gates ins) g ≡ z → 0 < z → 0 < rank (firsts (roots gates ins)) z
    go zero w p = absurd (omega arith)
    go (suc r) w p = omega (arith, rank_in (λ i. true) (roots gates ins) (roots gates ins) F refl g r w)
