-- The roots of label.rs's areas: two gates have one root exactly if links join them. Assumes nothing.
use Rattle.std.proofs.Common.{◌≡◌, ℕ, zero, suc, ◌+◌, ◌<◌, ◌≤◌, min, max, Bool, true, false, cond, eqb, leb, List, [], ◌∷◌, length, get_or, sym, refl, ap, ◌∙◌, subst, arith, eqb-true, le-leb, leb-false, leb-true}
use mathlib.Core.List.{foldl}
use borrow.Author.Tests.{eqb-false, lt-leb}
use Rattle.labels.proofs.ForestLaws.{join_at, join_keeps, some_pred}
use Rattle.labels.proofs.OwnLaws.{own_in, own_out}
use Rattle.labels.proofs.RankLaws.{bit, rank_cons, test_mono, rank_mono}
use Rattle.labels.specs.Label.{Neighbours, swap, join, own, rank}
use Rattle.lists.specs.Seq.{upto, keep}

-- ---- one join

-- both ends get the lesser root
pub swap_ends : (x y : ℕ) → swap x y x ≡ swap x y y
unfolding swap
swap_ends x y = go (eqb x (max x y)) (eqb y (max x y)) refl refl
  where
    go : (b c : Bool) → eqb x (max x y) ≡ b → eqb y (max x y) ≡ c → cond b (min x y) x ≡ cond c (min x y) y
    go true true e f = refl
    go true false e f = omega (arith, eqb-true x (max x y) e, eqb-false y (max x y) f)
    go false true e f = omega (arith, eqb-false x (max x y) e, eqb-true y (max x y) f)
    go false false e f = omega (arith, eqb-false x (max x y) e, eqb-false y (max x y) f)

-- the ends of a link get one root
join_ends : (rs : List ℕ) (l : Neighbours) → get_or (join rs l) l.a 0 ≡ get_or (join rs l) l.b 0
join_ends rs l = join_at rs l l.a ∙ swap_ends (get_or rs l.a 0) (get_or rs l.b 0) ∙ sym (join_at rs l l.b)

-- ---- all joins

pub data In {A : Type 0} : A → List A → Type 0 where
  here : {x : A} {xs : List A} → In x (x ∷ xs)
  there : {x y : A} {xs : List A} → In x xs → In x (y ∷ xs)

-- links lead from one gate to the other, either way
pub data Joined (ls : List Neighbours) : ℕ → ℕ → Type 0 where
  stay : (g : ℕ) → Joined ls g g
  along : {h : ℕ} (l : Neighbours) → In l ls → Joined ls l.b h → Joined ls l.a h
  back : {h : ℕ} (l : Neighbours) → In l ls → Joined ls l.a h → Joined ls l.b h

keeps : (ls : List Neighbours) (rs : List ℕ) (i j : ℕ) → get_or rs i 0 ≡ get_or rs j 0 → get_or (foldl join rs ls) i 0 ≡ get_or (foldl join rs ls) j 0
keeps [] rs i j e = e
keeps (l ∷ ls) rs i j e = keeps ls (join rs l) i j (join_keeps rs l i j e)

ends : (ls : List Neighbours) (rs : List ℕ) (l : Neighbours) → In l ls → get_or (foldl join rs ls) l.a 0 ≡ get_or (foldl join rs ls) l.b 0
ends ls rs l (here {xs = xs}) = keeps xs (join rs l) l.a l.b (join_ends rs l)
ends ls rs l (there {y = y} {xs = xs} m) = ends xs (join rs y) l m

pub joined_one_root : (ls : List Neighbours) (rs : List ℕ) (i j : ℕ) → Joined ls i j → get_or (foldl join rs ls) i 0 ≡ get_or (foldl join rs ls) j 0
joined_one_root ls rs i j (stay g) = refl
joined_one_root ls rs i j (along l m p) = ends ls rs l m ∙ joined_one_root ls rs l.b j p
joined_one_root ls rs i j (back l m p) = sym (ends ls rs l m) ∙ joined_one_root ls rs l.a j p

-- ---- the other way: a root is a gate that links lead to

pub joined_trans : (ls : List Neighbours) (i j k : ℕ) → Joined ls i j → Joined ls j k → Joined ls i k
joined_trans ls i j k (stay g) q = q
joined_trans ls i j k (along l m p) q = along l m (joined_trans ls l.b j k p q)
joined_trans ls i j k (back l m p) q = back l m (joined_trans ls l.a j k p q)

pub joined_sym : (ls : List Neighbours) (i j : ℕ) → Joined ls i j → Joined ls j i
joined_sym ls i j (stay g) = stay g
joined_sym ls i j (along l m p) = joined_trans ls j l.b l.a (joined_sym ls l.b j p) (back l m (stay l.a))
joined_sym ls i j (back l m p) = joined_trans ls j l.a l.b (joined_sym ls l.a j p) (along l m (stay l.b))

-- each root is joined to its gate, and not later
abbrev pub Rooted : List Neighbours → List ℕ → Type 0
Rooted ls rs = (i r : ℕ) → get_or rs i 0 ≡ suc r → Joined ls i r × (r ≤ i)

rooted_join : (ls : List Neighbours) (rs : List ℕ) (l : Neighbours) → In l ls → Rooted ls rs → Rooted ls (join rs l)
unfolding swap
rooted_join ls rs l m R i r h = go (eqb (get_or rs i 0) (max x y)) refl (sym (join_at rs l i) ∙ h)
  where
    x : ℕ
    x = get_or rs l.a 0

    y : ℕ
    y = get_or rs l.b 0

    -- i to s, whose root goes from the one end's to the other end's
    from_b : x ≤ y → get_or rs i 0 ≡ y → x ≡ suc r → Joined ls i r × (r ≤ i)
    from_b le e f =
        let (s, q) = some_pred y (omega arith) in
        let p = R i s (e ∙ q) in
        (joined_trans ls i s r p.0 (joined_trans ls s l.b r (joined_sym ls l.b s (R l.b s q).0) (back l m (R l.a r f).0)), omega (arith, p.1))

    from_a : y ≤ x → get_or rs i 0 ≡ x → y ≡ suc r → Joined ls i r × (r ≤ i)
    from_a le e f =
        let (s, q) = some_pred x (omega arith) in
        let p = R i s (e ∙ q) in
        (joined_trans ls i s r p.0 (joined_trans ls s l.a r (joined_sym ls l.a s (R l.a s q).0) (along l m (R l.b r f).0)), omega (arith, p.1))

    order : (b : Bool) → leb x y ≡ b → get_or rs i 0 ≡ max x y → min x y ≡ suc r → Joined ls i r × (r ≤ i)
    order true o e f = from_b (leb-true x y o) (omega (arith, leb-true x y o)) (omega (arith, leb-true x y o))
    order false o e f = from_a (omega (arith, leb-false x y o)) (omega (arith, leb-false x y o)) (omega (arith, leb-false x y o))

    go : (b : Bool) → eqb (get_or rs i 0) (max x y) ≡ b → swap x y (get_or rs i 0) ≡ suc r → Joined ls i r × (r ≤ i)
    go true e f = order (leb x y) refl (eqb-true (get_or rs i 0) (max x y) e) (sym (ap (λ (t : Bool). cond t (min x y) (get_or rs i 0)) e) ∙ f)
    go false e f = R i r (sym (ap (λ (t : Bool). cond t (min x y) (get_or rs i 0)) e) ∙ f)

pub rooted_all : (ms ls : List Neighbours) (rs : List ℕ) → ((l : Neighbours) → In l ms → In l ls) → Rooted ls rs → Rooted ls (foldl join rs ms)
rooted_all [] ls rs sub R = R
rooted_all (l ∷ ms) ls rs sub R = rooted_all ms ls (join rs l) (λ k m. sub k (there m)) (rooted_join ls rs l (sub l here) R)

-- ---- at first each gate is its own root

own_is : (inside : List Bool) (i r : ℕ) → get_or (own inside) i 0 ≡ suc r → r ≡ i
own_is inside i r h = go (get_or inside i false) refl
  where
    go : (b : Bool) → get_or inside i false ≡ b → r ≡ i
    go true e = omega (arith, own_in inside i e)
    go false e = omega (arith, own_out inside i e)

pub rooted_own : (ls : List Neighbours) (inside : List Bool) → Rooted ls (own inside)
rooted_own ls inside i r h = subst (λ (k : ℕ). Joined ls i k × (k ≤ i)) (sym (own_is inside i r h)) (stay i, omega arith)

-- ---- labels: the rank of a root tells roots apart

pub keep_in : {A : Type 0} (p : A → Bool) (x : A) (xs : List A) → p x ≡ true → In x xs → In x (keep p xs)
unfolding keep
keep_in p x xs h (here {xs = ys}) = subst (λ (b : Bool). In x (cond b (x ∷ keep p ys) (keep p ys))) (sym h) here
keep_in p x xs h (there {y = y} {xs = ys} m) = go (p y) (keep_in p x ys h m)
  where
    go : (b : Bool) → In x (keep p ys) → In x (cond b (y ∷ keep p ys) (keep p ys))
    go true k = there k
    go false k = k

pub upto_in : (n i k : ℕ) → i ≤ k → k < i + n → In k (upto n i)
unfolding upto
upto_in zero i k h l = absurd (not_lt_self k (omega arith))
  where
    not_lt_self : (j : ℕ) → j < j → ⊥
    not_lt_self j q = omega arith
upto_in (suc n) i k h l = go (eqb k i) refl (λ (q : i < k). upto_in n (suc i) k q (omega arith))
  where
    go : (b : Bool) → eqb k i ≡ b → (i < k → In k (upto n (suc i))) → In k (i ∷ upto n (suc i))
    go true e r = subst (λ (j : ℕ). In k (j ∷ upto n (suc i))) (eqb-true k i e) here
    go false e r = there (r (omega (arith, eqb-false k i e)))

pub rank_strict : (fs : List ℕ) (r s : ℕ) → r < s → In s fs → rank fs r < rank fs s
unfolding rank bit
rank_strict fs r s h (here {xs = xs}) =
    let a : bit (leb s r) ≡ 0 = ap bit (lt-leb s r h) in
    let b : bit (leb s s) ≡ 1 = ap bit (le-leb s s (omega arith)) in
    omega (arith, rank_cons s r xs, rank_cons s s xs, a, b, rank_mono xs r s (omega arith))
rank_strict fs r s h (there {y = y} {xs = xs} m) = omega (arith, rank_cons y r xs, rank_cons y s xs, test_mono y r s (omega arith), rank_strict xs r s h m)

pub in_length : (rs : List ℕ) (i r : ℕ) → get_or rs i 0 ≡ suc r → i < length rs
in_length [] i r e = absurd (nil e)
  where
    nil : 0 ≡ suc r → ⊥
    nil q = omega arith
in_length (x ∷ rs) zero r e = omega arith
in_length (x ∷ rs) (suc i) r e = omega (arith, in_length rs i r e)
