-- The roots of a set of gates and those of its part in an echo: where no two touching gates of the set lie on either side of the echo's edge,
-- the part's roots are the set's. Assumes nothing.
use Prim.Native.Nat.{ℕ, zero, suc, ◌-◌, ◌%◌, ◌<◌, min, max}
use native.Mathlib.Omega.{arith}
use mathlib.Core.Path.{◌≡◌, refl, sym, ap, ◌∙◌, subst}
use mathlib.Core.Bool.{Bool, true, false, cond, not, ◌&&◌, true≢false}
use mathlib.Core.List.{List, [], ◌∷◌, map, foldl}
use lib.Dec.{eqb, leb}
use lib.ListN.{length, get_or, get_or-map, get_or-eq_default}
use borrow.Author.Tests.{eqb-true, eqb-false, eq-eqb, ne_eqb, leb-true, leb-false}
use Rattle.lists.specs.Seq.{upto, keep, each, All}
use Rattle.lists.proofs.SeqLaws.{keep_append, keep_each, each_same}
use Rattle.labels.specs.Label.{Neighbours, own, above, before, links_at, links, swap, join, roots}
use Rattle.lists.proofs.AllLaws.{all_append, all_cond, all_each, tab_all, and_three}

abbrev pub at : List ℕ → ℕ → ℕ
at l g = get_or l g 0

pub at_less : (l : List ℕ) (g : ℕ) → 0 < at l g → g < length l
at_less [] g h = absurd (omega arith)
at_less (x ∷ l) zero h = omega arith
at_less (x ∷ l) (suc g) h = omega (arith, at_less l g h)

-- ---- one join

swap_zero : (x y : ℕ) → swap x y 0 ≡ 0
unfolding swap
swap_zero x y = go (eqb 0 (max x y)) refl
  where
    go : (b : Bool) → eqb 0 (max x y) ≡ b → cond b (min x y) 0 ≡ 0
    go true e = omega (arith, eqb-true 0 (max x y) e)
    go false e = refl

-- what a join makes of a root: the lesser of the two, or what it was
data Swapped (x y r : ℕ) : ℕ → Type 0 where
  taken : r ≡ max x y → Swapped x y r (min x y)
  left : (r ≡ max x y → ⊥) → Swapped x y r r

swapped : (x y r : ℕ) → Swapped x y r (swap x y r)
unfolding swap
swapped x y r = go (eqb r (max x y)) refl
  where
    go : (b : Bool) → eqb r (max x y) ≡ b → Swapped x y r (cond b (min x y) r)
    go true e = taken (eqb-true r (max x y) e)
    go false e = left (eqb-false r (max x y) e)

swap_left : (x y r : ℕ) → (r ≡ max x y → ⊥) → swap x y r ≡ r
unfolding swap
swap_left x y r h = rw (ne_eqb r (max x y) h) refl

swap_taken : (x y r : ℕ) → r ≡ max x y → swap x y r ≡ min x y
unfolding swap
swap_taken x y r h = rw (eq-eqb r (max x y) h) refl

join_at : (rs : List ℕ) (l : Neighbours) (i : ℕ) → at (join rs l) i ≡ swap (at rs l.a) (at rs l.b) (at rs i)
unfolding join
join_at rs l i =
    let x : ℕ = at rs l.a in
    let y : ℕ = at rs l.b in
    subst (λ (d : ℕ). get_or (map (swap x y) rs) i d ≡ swap x y (get_or rs i 0)) (swap_zero x y) (get_or-map (swap x y) rs i 0)

own_at : (inside : List Bool) (g : ℕ) → at (own inside) g ≡ cond (get_or inside g false) (suc g) 0
unfolding own
own_at inside g = tab_all (λ g. cond (get_or inside g false) (suc g) 0) (length inside) g 0 (λ h. rw (get_or-eq_default inside false h) refl)

-- ---- the links

-- what holds of every two gates of the set that touch holds of all links
links_all : (P : Neighbours → Type 0) (gates : ℕ) (inside : List Bool)
    → ((g : ℕ) → leb gates g ≡ true → get_or inside (g - gates) false ≡ true → get_or inside g false ≡ true → P (record { a = g - gates; b = g }))
    → ((g : ℕ) → not (eqb (g % gates) 0) ≡ true → get_or inside (g - 1) false ≡ true → get_or inside g false ≡ true → P (record { a = g - 1; b = g }))
    → All P (links gates inside)
unfolding links links_at above before
links_all P gates inside up back = all_each P (links_at gates inside) (upto (length inside) 0) (λ g. all_append P (above gates inside g) (before gates inside g)
    (all_cond P (get_or inside g false && leb gates g && get_or inside (g - gates) false) (record { a = g - gates; b = g }) (λ h. let t : (get_or inside g false ≡ true) × (leb gates g ≡ true) × (get_or inside (g - gates) false ≡ true) = and_three (get_or inside g false) (leb gates g) _ h in up g t.1 t.2 t.0))
    (all_cond P (get_or inside g false && not (eqb (g % gates) 0) && get_or inside (g - 1) false) (record { a = g - 1; b = g }) (λ h. let t : (get_or inside g false ≡ true) × (not (eqb (g % gates) 0) ≡ true) × (get_or inside (g - 1) false ≡ true) = and_three (get_or inside g false) (not (eqb (g % gates) 0)) _ h in back g t.1 t.2 t.0)))

-- ---- gates of the set have roots, others none

module _ (gates : ℕ) (inside : List Bool) where
  -- both gates of a link are in the set
  Inner : Neighbours → Type 0
  Inner l = (get_or inside l.a false ≡ true) × (get_or inside l.b false ≡ true)

  Rooted : List ℕ → Type 0
  Rooted rs = (g : ℕ) → get_or inside g false ≡ true → 0 < at rs g

  swap_pos : (x y r : ℕ) → 0 < x → 0 < y → 0 < r → 0 < swap x y r
  swap_pos x y r a b c = go (swap x y r) (swapped x y r)
    where
      go : (z : ℕ) → Swapped x y r z → 0 < z
      go z (taken e) = omega arith
      go z (left e) = c

  rooted_joins : (ls : List Neighbours) (rs : List ℕ) → All Inner ls → Rooted rs → Rooted (foldl join rs ls)
  unfolding Inner Rooted
  rooted_joins [] rs t R = R
  rooted_joins (l ∷ ls) rs t R =
      rooted_joins ls (join rs l) t.1 (λ g i. rw (join_at rs l g) (swap_pos (at rs l.a) (at rs l.b) (at rs g) (R l.a t.0.0) (R l.b t.0.1) (R g i)))

  pub roots_pos : (g : ℕ) → get_or inside g false ≡ true → 0 < at (roots gates inside) g
  unfolding roots Rooted Inner
  roots_pos g h = rooted_joins (links gates inside) (own inside) (links_all Inner gates inside (λ g m i j. (i, j)) (λ g m i j. (i, j))) (λ i w. rw (own_at inside i, w) (omega arith)) g h

  joins_zero : (ls : List Neighbours) (rs : List ℕ) (g : ℕ) → at rs g ≡ 0 → at (foldl join rs ls) g ≡ 0
  joins_zero [] rs g h = h
  joins_zero (l ∷ ls) rs g h = joins_zero ls (join rs l) g (join_at rs l g ∙ (rw h (swap_zero (at rs l.a) (at rs l.b))))

  pub roots_zero : (g : ℕ) → get_or inside g false ≡ false → at (roots gates inside) g ≡ 0
  unfolding roots
  roots_zero g h = joins_zero (links gates inside) (own inside) g (rw (own_at inside g, h) refl)

-- ---- the echo

module _ (E : ℕ → Bool) where
  -- the part's roots are the set's, a root lies on its gate's side, and a root is its own root
  pub record Follow (rs rs' : List ℕ) : Type 0 where
    pub part : (g : ℕ) → at rs' g ≡ cond (E g) (at rs g) 0
    pub side : (g r : ℕ) → at rs g ≡ suc r → E r ≡ E g
    pub idem : (g r : ℕ) → at rs g ≡ suc r → at rs r ≡ suc r

  some_pred : (k : ℕ) → 0 < k → (s : ℕ) × (k ≡ suc s)
  some_pred zero h = absurd (omega arith)
  some_pred (suc s) h = (s, refl)

  module _ (rs rs' : List ℕ) (F : Follow rs rs') (a c : ℕ) (near : E a ≡ E c) where
    lesser : (r : ℕ) → min (at rs a) (at rs c) ≡ suc r → (at rs r ≡ suc r) × (E r ≡ E c)
    lesser r h = go (leb (at rs a) (at rs c)) refl
      where
        go : (b : Bool) → leb (at rs a) (at rs c) ≡ b → (at rs r ≡ suc r) × (E r ≡ E c)
        go true o = let w : at rs a ≡ suc r = omega (arith, leb-true (at rs a) (at rs c) o) in (F.idem a r w, F.side a r w ∙ near)
        go false o = let w : at rs c ≡ suc r = omega (arith, leb-false (at rs a) (at rs c) o) in (F.idem c r w, F.side c r w)

    greater : (r : ℕ) → max (at rs a) (at rs c) ≡ suc r → E r ≡ E c
    greater r h = go (leb (at rs a) (at rs c)) refl
      where
        go : (b : Bool) → leb (at rs a) (at rs c) ≡ b → E r ≡ E c
        go true o = F.side c r (omega (arith, leb-true (at rs a) (at rs c) o))
        go false o = F.side a r (omega (arith, leb-false (at rs a) (at rs c) o)) ∙ near

    join_side : (g r : ℕ) → swap (at rs a) (at rs c) (at rs g) ≡ suc r → E r ≡ E g
    join_side g r h = go (swap (at rs a) (at rs c) (at rs g)) (swapped (at rs a) (at rs c) (at rs g)) h
      where
        go : (z : ℕ) → Swapped (at rs a) (at rs c) (at rs g) z → z ≡ suc r → E r ≡ E g
        go z (taken e) h =
            let (s, q) = some_pred (at rs g) (omega arith) in
            (lesser r h).1 ∙ sym (greater s (sym e ∙ q)) ∙ F.side g s q
        go z (left e) h = F.side g r h

    join_idem : (g r : ℕ) → swap (at rs a) (at rs c) (at rs g) ≡ suc r → swap (at rs a) (at rs c) (at rs r) ≡ suc r
    join_idem g r h = go (swap (at rs a) (at rs c) (at rs g)) (swapped (at rs a) (at rs c) (at rs g)) h
      where
        again : min (at rs a) (at rs c) ≡ suc r → at rs r ≡ suc r → (b : Bool) → eqb (suc r) (max (at rs a) (at rs c)) ≡ b → swap (at rs a) (at rs c) (at rs r) ≡ suc r
        again m i true e = rw i (swap_taken (at rs a) (at rs c) (suc r) (eqb-true (suc r) (max (at rs a) (at rs c)) e) ∙ m)
        again m i false e = rw i (swap_left (at rs a) (at rs c) (suc r) (eqb-false (suc r) (max (at rs a) (at rs c)) e))

        go : (z : ℕ) → Swapped (at rs a) (at rs c) (at rs g) z → z ≡ suc r → swap (at rs a) (at rs c) (at rs r) ≡ suc r
        go z (taken e) h = again h (lesser r h).0 (eqb (suc r) (max (at rs a) (at rs c))) refl
        go z (left e) h = let i : at rs r ≡ suc r = F.idem g r h in rw i (swap_left (at rs a) (at rs c) (suc r) (λ w. e (h ∙ w)))

    -- a join on the other side leaves the echo's roots
    far : E c ≡ false → (g : ℕ) → E g ≡ true → swap (at rs a) (at rs c) (at rs g) ≡ at rs g
    far o g i = go (at rs g) refl
      where
        go : (z : ℕ) → at rs g ≡ z → swap (at rs a) (at rs c) z ≡ z
        go zero w = swap_zero (at rs a) (at rs c)
        go (suc r) w = swap_left (at rs a) (at rs c) (suc r) (λ q. true≢false (sym i ∙ sym (F.side g r w) ∙ greater r (sym q) ∙ o))

  -- whether a link is the echo's
  within : Neighbours → Bool
  within l = E l.b

  -- whether both gates of a link lie on one side
  Near : Neighbours → Type 0
  Near l = E l.a ≡ E l.b

  join_follows : (l : Neighbours) (rs rs' : List ℕ) → E l.a ≡ E l.b → Follow rs rs' → Follow (join rs l) (cond (E l.b) (join rs' l) rs')
  join_follows l rs rs' near F = go (E l.b) refl
    where
      sides : (g r : ℕ) → at (join rs l) g ≡ suc r → E r ≡ E g
      sides g r w = join_side rs rs' F l.a l.b near g r (sym (join_at rs l g) ∙ w)

      idems : (g r : ℕ) → at (join rs l) g ≡ suc r → at (join rs l) r ≡ suc r
      idems g r w = join_at rs l r ∙ join_idem rs rs' F l.a l.b near g r (sym (join_at rs l g) ∙ w)

      both : E l.b ≡ true → (g : ℕ) → at (join rs' l) g ≡ cond (E g) (at (join rs l) g) 0
      both e g =
          let u : at rs' l.a ≡ at rs l.a = rw (F.part l.a, near, e) refl in
          let v : at rs' l.b ≡ at rs l.b = rw (F.part l.b, e) refl in
          join_at rs' l g ∙ (rw (u, v, F.part g, join_at rs l g) (split (E g)))
        where
          split : (k : Bool) → swap (at rs l.a) (at rs l.b) (cond k (at rs g) 0) ≡ cond k (swap (at rs l.a) (at rs l.b) (at rs g)) 0
          split true = refl
          split false = swap_zero (at rs l.a) (at rs l.b)

      only : E l.b ≡ false → (g : ℕ) → at rs' g ≡ cond (E g) (at (join rs l) g) 0
      only e g = F.part g ∙ split (E g) refl
        where
          split : (k : Bool) → E g ≡ k → cond k (at rs g) 0 ≡ cond k (at (join rs l) g) 0
          split true w = sym (join_at rs l g ∙ far rs rs' F l.a l.b near e g w)
          split false w = refl

      go : (e : Bool) → E l.b ≡ e → Follow (join rs l) (cond e (join rs' l) rs')
      go true e = record { part = both e; side = sides; idem = idems }
      go false e = record { part = only e; side = sides; idem = idems }

  joins_follow : (ls : List Neighbours) (rs rs' : List ℕ) → All Near ls → Follow rs rs' → Follow (foldl join rs ls) (foldl join rs' (keep within ls))
  unfolding keep within Near
  joins_follow [] rs rs' t F = F
  joins_follow (l ∷ ls) rs rs' t F = go (E l.b) (join_follows l rs rs' t.0 F) (joins_follow ls)
    where
      go : (e : Bool) → Follow (join rs l) (cond e (join rs' l) rs') → ((us us' : List ℕ) → All Near ls → Follow us us' → Follow (foldl join us ls) (foldl join us' (keep within ls)))
          → Follow (foldl join (join rs l) ls) (foldl join rs' (cond e (l ∷ keep within ls) (keep within ls)))
      go true f ih = ih (join rs l) (join rs' l) t.1 f
      go false f ih = ih (join rs l) rs' t.1 f

  module _ (gates : ℕ) (inside inside' : List Bool) (part_of : (g : ℕ) → get_or inside' g false ≡ (E g && get_or inside g false))
      (up-near : (g : ℕ) → leb gates g ≡ true → get_or inside (g - gates) false ≡ true → get_or inside g false ≡ true → E (g - gates) ≡ E g)
      (back-near : (g : ℕ) → not (eqb (g % gates) 0) ≡ true → get_or inside (g - 1) false ≡ true → get_or inside g false ≡ true → E (g - 1) ≡ E g) where
    tests : (e f i m j : Bool) → (m ≡ true → j ≡ true → i ≡ true → f ≡ e) → ((e && i) && m && (f && j)) ≡ (e && (i && m && j))
    tests true true true true true h = refl
    tests true false true true true h = absurd (true≢false (sym (h refl refl refl)))
    tests true true true true false h = refl
    tests true false true true false h = refl
    tests true f true false j h = refl
    tests true f false m j h = refl
    tests false f i m j h = refl

    one_link : (l : Neighbours) (e t : Bool) → within l ≡ e → cond (e && t) (l ∷ []) [] ≡ keep within (cond t (l ∷ []) [])
    unfolding keep
    one_link l true true w = rw w refl
    one_link l true false w = refl
    one_link l false true w = rw w refl
    one_link l false false w = refl

    above_part : (g : ℕ) → above gates inside' g ≡ keep within (above gates inside g)
    unfolding above within
    above_part g = rw (part_of g, part_of (g - gates), tests (E g) (E (g - gates)) (get_or inside g false) (leb gates g) (get_or inside (g - gates) false) (up-near g))
        (one_link (record { a = g - gates; b = g }) (E g) (get_or inside g false && leb gates g && get_or inside (g - gates) false) refl)

    before_part : (g : ℕ) → before gates inside' g ≡ keep within (before gates inside g)
    unfolding before within
    before_part g = rw (part_of g, part_of (g - 1), tests (E g) (E (g - 1)) (get_or inside g false) (not (eqb (g % gates) 0)) (get_or inside (g - 1) false) (back-near g))
        (one_link (record { a = g - 1; b = g }) (E g) (get_or inside g false && not (eqb (g % gates) 0) && get_or inside (g - 1) false) refl)

    links_at_lem : (g : ℕ) → links_at gates inside' g ≡ keep within (links_at gates inside g)
    unfolding links_at
    links_at_lem g = rw (above_part g, before_part g) (sym (keep_append within (above gates inside g) (before gates inside g)))

    links_part : length inside' ≡ length inside → links gates inside' ≡ keep within (links gates inside)
    unfolding links
    links_part h = ap (λ (n : ℕ). each (links_at gates inside') (upto n 0)) h ∙ each_same _ _ (upto (length inside) 0) links_at_lem ∙ sym (keep_each within (links_at gates inside) (upto (length inside) 0))

    own_follows : Follow (own inside) (own inside')
    own_follows = record {
      part = λ g. own_at inside' g ∙ (rw (part_of g, own_at inside g) (parts (E g) (get_or inside g false) g));
      side = λ g r w. ap E (self g r w);
      idem = λ g r w. let q : r ≡ g = self g r w in (rw q (w ∙ ap suc q));
    }
      where
        parts : (e i : Bool) (g : ℕ) → cond (e && i) (suc g) 0 ≡ cond e (cond i (suc g) 0) 0
        parts true i g = refl
        parts false i g = refl

        selves : (b : Bool) (g r : ℕ) → cond b (suc g) 0 ≡ suc r → r ≡ g
        selves true g r w = omega arith
        selves false g r w = absurd (omega arith)

        self : (g r : ℕ) → at (own inside) g ≡ suc r → r ≡ g
        self g r w = selves (get_or inside g false) g r (sym (own_at inside g) ∙ w)

    pub roots_follow : length inside' ≡ length inside → Follow (roots gates inside) (roots gates inside')
    unfolding roots Near
    roots_follow h = rw (links_part h) (joins_follow (links gates inside) (own inside) (own inside') (links_all Near gates inside up-near back-near) own_follows)
