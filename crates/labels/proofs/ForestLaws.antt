-- Stores that keep a forest: a path halved, two areas made one. Assumes nothing.
use Rattle.std.proofs.Common.{◌≡◌, ℕ, zero, suc, ◌+◌, ◌-◌, ◌<◌, ◌≤◌, min, max, Bool, true, false, cond, not, eqb, ltb, ◌⊎◌, List, [], ◌∷◌, map, length, get_or, set, sym, refl, ap, ◌∙◌, subst, inl, inr, ⊎_elim, not-suc-le-zero, add-one, arith, length-set, get_or-set_other, get_or-set_same, le-ltb, lt-ltb, eq-eqb, ne_eqb, eqb-true}
use native.Mathlib.Decide.{dec_lt}
use mathlib.Core.Logic.{by_cases}
use lib.ListN.{length-map, get_or-map}
use borrow.Author.Tests.{eqb-false}
use Rattle.lists.proofs.SegLaws.{eq_or_ne}
use Rattle.labels.specs.Label.{Neighbours, swap, join}
use Rattle.labels.specs.Inside.Forest.{Parent, Forest, Some, Root}

pub in_length : (l : List Bool) (i : ℕ) → get_or l i false ≡ true → i < length l
in_length [] i e = absurd (no e)
  where
    no : ◌≡◌ {A = Bool} false true → ⊥
    no q = let z : ◌≡◌ {A = ℕ} 0 1 = cc in omega arith
in_length (x ∷ l) zero e = omega arith
in_length (x ∷ l) (suc i) e = omega (arith, in_length l i e)

-- a number that is not 0
pub some_pred : (k : ℕ) → 0 < k → (s : ℕ) × (k ≡ suc s)
some_pred zero h = absurd (not-suc-le-zero h)
some_pred (suc s) h = (s, refl)

-- two numbers in order
pub decide : (m n : ℕ) → ((m < n) ⊎ (n < m)) ⊎ (m ≡ n)
decide m n = by_cases (dec_lt m n) (λ k. inl (inl k)) (λ k. by_cases (dec_lt n m) (λ l. inl (inr l)) (λ l. inr (omega arith)))

pub not_both : (b : Bool) → b ≡ true → b ≡ false → ⊥
not_both b p q = let z : ◌≡◌ {A = ℕ} 0 1 = cc in omega arith

-- a gate whose word is not 0 is inside
pub gate_in : (inside : List Bool) (w rs : List ℕ) → Forest inside w rs → (g : ℕ) → 0 < get_or w g 0 → get_or inside g false ≡ true
gate_in inside w rs F g h = go (get_or inside g false) refl
  where
    go : (b : Bool) → get_or inside g false ≡ b → b ≡ true
    go true e = refl
    go false e = absurd (bad (F.out g e))
      where
        bad : get_or w g 0 ≡ 0 → ⊥
        bad z = omega arith

pub gate_out : (inside : List Bool) (w rs : List ℕ) → Forest inside w rs → (g : ℕ) → get_or w g 0 ≡ 0 → get_or inside g false ≡ false
gate_out inside w rs F g h = go (get_or inside g false) refl
  where
    go : (b : Bool) → get_or inside g false ≡ b → b ≡ false
    go false e = refl
    go true e = absurd (bad (F.parent g e).some)
      where
        bad : 0 < get_or w g 0 → ⊥
        bad z = omega arith

-- a word after a store
pub read_set : (w : List ℕ) (x q i : ℕ) → x < length w → ((i ≡ x) × (get_or (set w x q) i 0 ≡ q)) ⊎ ((i ≡ x → ⊥) × (get_or (set w x q) i 0 ≡ get_or w i 0))
read_set w x q i h = ⊎_elim (λ e. inl (e, ap (λ (y : ℕ). get_or (set w x q) y 0) e ∙ get_or-set_same w x q 0 h)) (λ n. inr (n, get_or-set_other w x i q 0 n)) (eq_or_ne i x)

-- ---- a gate is put under another of its area
module _ (inside : List Bool) (w rs : List ℕ) (F : Forest inside w rs) (x q : ℕ) (in_x : get_or inside x false ≡ true) (some : 0 < q) (not_later : q ≤ suc x)
    (here : get_or inside (q - 1) false ≡ true) (same : get_or rs (q - 1) 0 ≡ get_or rs x 0) (self : q ≡ suc x → get_or rs x 0 ≡ suc x) where
  under : Forest inside (set w x q) rs
  under =
      let lx : x < length w = omega (arith, F.long, in_length inside x in_x) in
      record {
        long = length-set w x q ∙ F.long;
        roots_long = F.roots_long;
        out = λ i o. ⊎_elim (λ h. absurd (not_both (get_or inside x false) in_x (ap (λ (y : ℕ). get_or inside y false) (sym h.0) ∙ o))) (λ h. h.1 ∙ F.out i o) (read_set w x q i lx);
        out_root = F.out_root;
        parent = λ i k. ⊎_elim (λ h. at_x i h.0 h.1) (λ h. at_other i k h.1) (read_set w x q i lx);
        first = λ i e. ⊎_elim (λ h. ap (λ (y : ℕ). get_or rs y 0) h.0 ∙ self (omega arith) ∙ omega arith) (λ h. F.first i (sym h.1 ∙ e)) (read_set w x q i lx);
        low = F.low;
      }
    where
      at_x : (i : ℕ) → i ≡ x → get_or (set w x q) i 0 ≡ q → Parent inside (set w x q) rs i
      at_x i e r =
          record {
            some = omega arith;
            not_later = omega arith;
            here = ap (λ (y : ℕ). get_or inside (y - 1) false) r ∙ here;
            same = ap (λ (y : ℕ). get_or rs (y - 1) 0) r ∙ same ∙ ap (λ (y : ℕ). get_or rs y 0) (sym e);
          }

      at_other : (i : ℕ) → get_or inside i false ≡ true → get_or (set w x q) i 0 ≡ get_or w i 0 → Parent inside (set w x q) rs i
      at_other i k r =
          let P = F.parent i k in
          record {
            some = omega arith;
            not_later = omega (arith, P.not_later);
            here = ap (λ (y : ℕ). get_or inside (y - 1) false) r ∙ P.here;
            same = ap (λ (y : ℕ). get_or rs (y - 1) 0) r ∙ P.same;
          }

-- ---- one turn of `find`: gate x goes under its parent's parent, and that is next
pub record Turn (inside : List Bool) (w rs : List ℕ) (x p q : ℕ) : Type 0 where
  pub x_in : x < length w
  pub p_some : 0 < p
  pub p_le : p ≤ suc x
  pub p_in : p - 1 < length w
  pub q_some : 0 < q
  pub q_le : q ≤ p
  pub forest : Forest inside (set w x q) rs
  pub in_q : get_or inside (q - 1) false ≡ true
  pub same : get_or rs (q - 1) 0 ≡ get_or rs x 0

pub turn : (inside : List Bool) (w rs : List ℕ) (x p : ℕ) → Forest inside w rs → get_or inside x false ≡ true → p ≡ get_or w x 0 → Turn inside w rs x p (get_or w (p - 1) 0)
turn inside w rs x r F k e =
    subst (λ (y : ℕ). Turn inside w rs x y (get_or w (y - 1) 0)) (sym e) (
    let p : ℕ = get_or w x 0 in
    let q : ℕ = get_or w (p - 1) 0 in
    let P = F.parent x k in
    let Q = F.parent (p - 1) P.here in
    let some_p : 0 < p = P.some in
    let some_q : 0 < q = Q.some in
    let le_p : p ≤ suc x = P.not_later in
    let le_q : q ≤ p = omega (arith, Q.not_later) in
    let same : get_or rs (q - 1) 0 ≡ get_or rs x 0 = Q.same ∙ P.same in
    record {
      x_in = omega (arith, F.long, in_length inside x k);
      p_some = some_p;
      p_le = le_p;
      p_in = omega (arith, F.long, in_length inside (p - 1) P.here);
      q_some = some_q;
      q_le = le_q;
      forest = under inside w rs F x q k some_q (omega arith) Q.here same (λ f. F.first x (omega arith));
      in_q = Q.here;
      same = same;
    })

-- ---- two areas made one
pub swap_zero : (x y : ℕ) → swap x y 0 ≡ 0
unfolding swap
swap_zero x y = go (eqb 0 (max x y)) refl
  where
    go : (b : Bool) → eqb 0 (max x y) ≡ b → cond b (min x y) 0 ≡ 0
    go true e = omega (arith, eqb-true 0 (max x y) e)
    go false e = refl

pub join_at : (rs : List ℕ) (l : Neighbours) (i : ℕ) → get_or (join rs l) i 0 ≡ swap (get_or rs l.a 0) (get_or rs l.b 0) (get_or rs i 0)
unfolding join
join_at rs l i =
    let x = get_or rs l.a 0 in
    let y = get_or rs l.b 0 in
    subst (λ (d : ℕ). get_or (map (swap x y) rs) i d ≡ swap x y (get_or rs i 0)) (swap_zero x y) (get_or-map (swap x y) rs i 0)

pub length_join : (rs : List ℕ) (l : Neighbours) → length (join rs l) ≡ length rs
unfolding join
length_join rs l = length-map rs (swap (get_or rs l.a 0) (get_or rs l.b 0))

pub join_keeps : (rs : List ℕ) (l : Neighbours) (i j : ℕ) → get_or rs i 0 ≡ get_or rs j 0 → get_or (join rs l) i 0 ≡ get_or (join rs l) j 0
join_keeps rs l i j e = join_at rs l i ∙ ap (swap (get_or rs l.a 0) (get_or rs l.b 0)) e ∙ sym (join_at rs l j)

-- a root after a join, where the greater root was 1 + hi and the lesser 1 + lo
pub join_cases : (rs : List ℕ) (l : Neighbours) (lo hi i : ℕ) → max (get_or rs l.a 0) (get_or rs l.b 0) ≡ suc hi → min (get_or rs l.a 0) (get_or rs l.b 0) ≡ suc lo
    → ((get_or rs i 0 ≡ suc hi) × (get_or (join rs l) i 0 ≡ suc lo)) ⊎ ((get_or rs i 0 ≡ suc hi → ⊥) × (get_or (join rs l) i 0 ≡ get_or rs i 0))
unfolding swap
join_cases rs l lo hi i p q = go (eqb (get_or rs i 0) (max x y)) refl (join_at rs l i)
  where
    x : ℕ
    x = get_or rs l.a 0

    y : ℕ
    y = get_or rs l.b 0

    go : (b : Bool) → eqb (get_or rs i 0) (max x y) ≡ b → get_or (join rs l) i 0 ≡ swap x y (get_or rs i 0)
        → ((get_or rs i 0 ≡ suc hi) × (get_or (join rs l) i 0 ≡ suc lo)) ⊎ ((get_or rs i 0 ≡ suc hi → ⊥) × (get_or (join rs l) i 0 ≡ get_or rs i 0))
    go true e f = inl (eqb-true (get_or rs i 0) (max x y) e ∙ p, f ∙ ap (λ (t : Bool). cond t (min x y) (get_or rs i 0)) e ∙ q)
    go false e f = inr (λ h. eqb-false (get_or rs i 0) (max x y) e (h ∙ sym p), f ∙ ap (λ (t : Bool). cond t (min x y) (get_or rs i 0)) e)

module _ (inside : List Bool) (w rs : List ℕ) (F : Forest inside w rs) (l : Neighbours) (lo hi : ℕ)
    (greater : max (get_or rs l.a 0) (get_or rs l.b 0) ≡ suc hi) (lesser : min (get_or rs l.a 0) (get_or rs l.b 0) ≡ suc lo)
    (self-hi : get_or rs hi 0 ≡ suc hi) (self_lo : get_or rs lo 0 ≡ suc lo) (in-hi : get_or inside hi false ≡ true) (in-lo : get_or inside lo false ≡ true) where
  merged : Forest inside (set w hi (suc lo)) (join rs l)
  merged =
      let lx : hi < length w = omega (arith, F.long, in_length inside hi in-hi) in
      record {
        long = length-set w hi (suc lo) ∙ F.long;
        roots_long = length_join rs l ∙ F.roots_long;
        out = λ i o. ⊎_elim (λ h. absurd (not_both (get_or inside hi false) in-hi (ap (λ (y : ℕ). get_or inside y false) (sym h.0) ∙ o))) (λ h. h.1 ∙ F.out i o) (read_set w hi (suc lo) i lx);
        out_root = λ i o. out_root i (F.out_root i o) (cases i);
        parent = λ i k. ⊎_elim (λ h. at_hi i h.0 h.1) (λ h. at_other i k h.1) (read_set w hi (suc lo) i lx);
        first = λ i e. ⊎_elim (λ h. top i h.0 h.1 e) (λ h. rest i h.0 (F.first i (sym h.1 ∙ e)) (cases i)) (read_set w hi (suc lo) i lx);
        low = λ i. low i (F.low i) (cases i);
      }
    where
      order : lo ≤ hi
      order = omega arith

      cases : (i : ℕ) → ((get_or rs i 0 ≡ suc hi) × (get_or (join rs l) i 0 ≡ suc lo)) ⊎ ((get_or rs i 0 ≡ suc hi → ⊥) × (get_or (join rs l) i 0 ≡ get_or rs i 0))
      cases i = join_cases rs l lo hi i greater lesser

      out_root : (i : ℕ) → get_or rs i 0 ≡ 0 → ((get_or rs i 0 ≡ suc hi) × (get_or (join rs l) i 0 ≡ suc lo)) ⊎ ((get_or rs i 0 ≡ suc hi → ⊥) × (get_or (join rs l) i 0 ≡ get_or rs i 0)) → get_or (join rs l) i 0 ≡ 0
      out_root i z (inl h) = omega arith
      out_root i z (inr h) = omega arith

      low : (i : ℕ) → get_or rs i 0 ≤ suc i → ((get_or rs i 0 ≡ suc hi) × (get_or (join rs l) i 0 ≡ suc lo)) ⊎ ((get_or rs i 0 ≡ suc hi → ⊥) × (get_or (join rs l) i 0 ≡ get_or rs i 0)) → get_or (join rs l) i 0 ≤ suc i
      low i z (inl h) = omega (arith, order)
      low i z (inr h) = omega arith

      rest : (i : ℕ) → (i ≡ hi → ⊥) → get_or rs i 0 ≡ suc i → ((get_or rs i 0 ≡ suc hi) × (get_or (join rs l) i 0 ≡ suc lo)) ⊎ ((get_or rs i 0 ≡ suc hi → ⊥) × (get_or (join rs l) i 0 ≡ get_or rs i 0)) → get_or (join rs l) i 0 ≡ suc i
      rest i n z (inl h) = absurd (n (omega arith))
      rest i n z (inr h) = omega arith

      -- both ends have the lesser root
      joined_hi : get_or (join rs l) hi 0 ≡ suc lo
      joined_hi = ⊎_elim (λ h. h.1) (λ h. absurd (h.0 self-hi)) (cases hi)

      joined_lo : get_or (join rs l) lo 0 ≡ suc lo
      joined_lo = ⊎_elim (λ h. h.1) (λ h. h.1 ∙ self_lo) (cases lo)

      top : (i : ℕ) → i ≡ hi → get_or (set w hi (suc lo)) i 0 ≡ suc lo → get_or (set w hi (suc lo)) i 0 ≡ suc i → get_or (join rs l) i 0 ≡ suc i
      top i e r f = ap (λ (y : ℕ). get_or (join rs l) y 0) e ∙ joined_hi ∙ sym r ∙ f

      at_hi : (i : ℕ) → i ≡ hi → get_or (set w hi (suc lo)) i 0 ≡ suc lo → Parent inside (set w hi (suc lo)) (join rs l) i
      at_hi i e r =
          record {
            some = omega arith;
            not_later = omega (arith, order);
            here = ap (λ (y : ℕ). get_or inside (y - 1) false) r ∙ ap (λ (y : ℕ). get_or inside y false) (omega arith) ∙ in-lo;
            same = ap (λ (y : ℕ). get_or (join rs l) (y - 1) 0) r ∙ ap (λ (y : ℕ). get_or (join rs l) y 0) (omega arith) ∙ joined_lo ∙ sym joined_hi ∙ ap (λ (y : ℕ). get_or (join rs l) y 0) (sym e);
          }

      at_other : (i : ℕ) → get_or inside i false ≡ true → get_or (set w hi (suc lo)) i 0 ≡ get_or w i 0 → Parent inside (set w hi (suc lo)) (join rs l) i
      at_other i k r =
          let P = F.parent i k in
          record {
            some = omega (arith, P.some);
            not_later = omega (arith, P.not_later);
            here = ap (λ (y : ℕ). get_or inside (y - 1) false) r ∙ P.here;
            same = ap (λ (y : ℕ). get_or (join rs l) (y - 1) 0) r ∙ join_keeps rs l (get_or w i 0 - 1) i P.same;
          }

-- ---- `find` on the way: at gate x, of the area of gate `start`
pub record At (inside : List Bool) (w rs : List ℕ) (start x : ℕ) : Type 0 where
  pub forest : Forest inside w rs
  pub in_x : get_or inside x false ≡ true
  pub same : get_or rs x 0 ≡ get_or rs start 0

pub next : (inside : List Bool) (w rs : List ℕ) (start x p : ℕ) → At inside w rs start x → p ≡ get_or w x 0 → At inside (set w x (get_or w (p - 1) 0)) rs start (get_or w (p - 1) 0 - 1)
next inside w rs start x p a e =
    let t = turn inside w rs x p a.forest a.in_x e in
    record { forest = t.forest; in_x = t.in_q; same = t.same ∙ a.same }

pub found : (inside : List Bool) (w rs : List ℕ) (start x : ℕ) → At inside w rs start x → get_or w x 0 ≡ suc x → Root inside w rs start x
found inside w rs start x a e =
    let s : get_or rs x 0 ≡ suc x = a.forest.first x e in
    record { forest = a.forest; root = sym a.same ∙ s; self = s; in_r = a.in_x }

-- ---- what callers hand on
pub some_after : (w w₂ : List ℕ) (s : Some w) (rs : List ℕ) → Forest s.inside w₂ rs → Some w₂
some_after w w₂ s rs F = record { inside = s.inside; rs = rs; forest = F; small = omega (arith, s.small, s.forest.long, F.long) }

pub gate_after : (inside : List Bool) (w rs w₂ rs₂ : List ℕ) → Forest inside w rs → Forest inside w₂ rs₂ → (g : ℕ) → 0 < get_or w g 0 → 0 < get_or w₂ g 0
gate_after inside w rs w₂ rs₂ F F₂ g h = (F₂.parent g (gate_in inside w rs F g h)).some

-- ---- `unite`
module _ (inside : List Bool) (w₁ w₂ rs : List ℕ) (a b r s : ℕ) (A : Root inside w₁ rs a r) (B : Root inside w₂ rs b s) where
  pub r_below : r < length w₂
  r_below = omega (arith, B.forest.long, in_length inside r A.in_r)

  pub s_below : s < length w₂
  s_below = omega (arith, B.forest.long, in_length inside s B.in_r)

  pub united_left : r < s → Forest inside (set w₂ s (r + 1)) (join rs (record { a = a; b = b }))
  united_left h =
      rw add-one
      (merged inside w₂ rs B.forest (record { a = a; b = b }) r s (omega (arith, A.root, B.root)) (omega (arith, A.root, B.root)) B.self A.self B.in_r A.in_r)

  pub united_right : s ≤ r → Forest inside (set w₂ r (s + 1)) (join rs (record { a = a; b = b }))
  united_right h =
      rw add-one
      (merged inside w₂ rs B.forest (record { a = a; b = b }) s r (omega (arith, A.root, B.root)) (omega (arith, A.root, B.root)) A.self B.self A.in_r B.in_r)

  -- the areas were two where their roots differ
  pub two_left : r < s → true ≡ not (eqb (get_or rs a 0) (get_or rs b 0))
  two_left h = sym (ap not (ne_eqb (get_or rs a 0) (get_or rs b 0) (λ e. omega (arith, A.root, B.root))))

  pub two_right : s ≤ r → ltb s r ≡ not (eqb (get_or rs a 0) (get_or rs b 0))
  two_right h = ⊎_elim
      (λ e. le-ltb s r (omega arith) ∙ sym (ap not (eq-eqb (get_or rs a 0) (get_or rs b 0) (omega (arith, A.root, B.root)))))
      (λ n. lt-ltb s r (omega arith) ∙ sym (ap not (ne_eqb (get_or rs a 0) (get_or rs b 0) (λ e. n (omega (arith, A.root, B.root))))))
      (eq_or_ne r s)
