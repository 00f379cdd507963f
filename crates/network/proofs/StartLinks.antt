-- Slots, regions and links as they are set up: each slot in the chain of its edge's end. Assumes nothing.
use mathlib.Core.Path.{◌≡◌, refl, sym, ap, ◌∙◌, subst}
use mathlib.Core.Logic.{⊎_elim}
use mathlib.Core.Bool.{Bool, true, false, ◌||◌, cond}
use mathlib.Core.List.{List}
use Prim.Native.Nat.{ℕ, zero, suc, ◌+◌, ◌*◌, ◌-◌, ◌≤◌, ◌<◌}
use native.Mathlib.Omega.{arith}
use lib.Dec.{ltb, eqb}
use lib.ListN.{length, get_or, set, length-set}
use lib.Seq.{get_or-set_same, get_or-set_other}
use borrow.Author.Tests.{lt-ltb, le-ltb}
use Rattle.lists.specs.Seq.{upto}
use Rattle.lists.proofs.SeqLaws.{upto-length}
use Rattle.merge.specs.Inside.Tables.{Tables, store}
use Rattle.merge.specs.Inside.Table.{Table, first, second, enext, rnext, stamp, elen, rlen, count, mark, is}
use Rattle.merge.specs.Inside.Chain.{cur, Chains, own_joined, pos_joined, len_joined}
use Rattle.network.specs.Inside.Begin.{slots, regions_from, link_at, link_edge, link_from}
use Rattle.merge.proofs.Bias.{lt_or_le}
use Rattle.merge.proofs.TableLaws.{Unless, same_table, Alike, alike_refl, alike_then, alike_less, alike_store, length_store}
use Rattle.merge.proofs.Frames.{Same, same_refl, of_slots}
use Rattle.merge.proofs.SoundSet.{eq_or_ne}
use Rattle.network.proofs.Circles.{cur_suc}
use Rattle.network.proofs.After.{swap, swapped, chains_len}
use Rattle.network.proofs.Moved.{same_no, same_yes}

-- ---- the tables that are given stay
abbrev of_nodes : Table → Bool
of_nodes u = is rnext u || is rlen u || is elen u || is count u || is stamp u || is mark u

abbrev pub set_up : Table → Bool
set_up u = is enext u || of_nodes u

pub record Given (t s : Tables) : Type 0 where
  pub tables : Alike set_up t s
  pub diff : t.diff ≡ s.diff

pub given_then : (t u s : Tables) → Given t u → Given u s → Given t s
given_then t u s a b = record { tables = alike_then set_up t u s a.tables b.tables; diff = a.diff ∙ b.diff }

-- what leaves the chains of slots alone leaves what is given alone
pub given_same : (t s : Tables) → Same t s → Given t s
given_same t s h = record { tables = alike_less of_slots set_up t s (λ u. go (is enext u) (is rnext u) (is rlen u) (is elen u) (is count u) (is stamp u) (is mark u)) h.beside; diff = h.diff }
  where
    go : (a b c d e f g : Bool) → (a || d) ≡ true → (a || (b || c || d || e || f || g)) ≡ true
    go true b c d e f g h = refl
    go false true c d e f g h = refl
    go false false true d e f g h = refl
    go false false false d e f g h = rw h refl

-- ---- slots
pub given_slots : (m n : ℕ) (s : Tables) → Given (slots m n s) s
unfolding slots
given_slots m n s = record { tables = alike_less (is enext) set_up (slots m n s) s (λ u e. rw e refl) (record { at = λ u. go u (is enext u) }); diff = refl }
  where
    go : (u : Table) (b : Bool) → Unless b (cond b (upto (2 * m + n) 0) (s.at u) ≡ s.at u)
    go u true = tt
    go u false = refl

pub slots_long : (m n : ℕ) (s : Tables) → length (s.at enext) ≡ 2 * m + n → (u : Table) → length ((slots m n s).at u) ≡ length (s.at u)
unfolding slots
slots_long m n s l u = go (is enext u) refl
  where
    go : (b : Bool) → is enext u ≡ b → length (cond b (upto (2 * m + n) 0) (s.at u)) ≡ length (s.at u)
    go true e = upto-length (2 * m + n) 0 ∙ sym l ∙ ap (λ (t : Table). length (s.at t)) (same_table enext u e)
    go false e = refl

-- ---- regions
pub record Regions (s t : Tables) (i k : ℕ) : Type 0 where
  pub tables : Alike of_nodes t s
  pub diff : t.diff ≡ s.diff
  pub long : (u : Table) → length (t.at u) ≡ length (s.at u)
  pub below : (x : ℕ) → x < i → (get_or (t.at rnext) x 0 ≡ get_or (s.at rnext) x 0) × (get_or (t.at elen) x 0 ≡ get_or (s.at elen) x 0) × (get_or (t.at rlen) x 0 ≡ get_or (s.at rlen) x 0) × (get_or (t.at count) x 0 ≡ get_or (s.at count) x 0) × (get_or (t.at stamp) x 0 ≡ get_or (s.at stamp) x 0) × (get_or (t.at mark) x 0 ≡ get_or (s.at mark) x 0)
  pub own : (x : ℕ) → i ≤ x → x < i + k → (get_or (t.at rnext) x 0 ≡ x) × (get_or (t.at elen) x 0 ≡ 1) × (get_or (t.at rlen) x 0 ≡ 1) × (get_or (t.at count) x 0 ≡ 1000) × (get_or (t.at stamp) x 0 ≡ 0) × (get_or (t.at mark) x 0 ≡ 0)

pub given_regions : (s t : Tables) (i k : ℕ) → Regions s t i k → Given t s
given_regions s t i k h = record { tables = alike_less of_nodes set_up t s (λ u. go (is enext u) (of_nodes u)) h.tables; diff = h.diff }
  where
    go : (a b : Bool) → b ≡ true → (a || b) ≡ true
    go true b h = refl
    go false b h = h

-- one region set up
abbrev lone : Tables → ℕ → Tables
lone s i = store mark (store stamp (store count (store elen (store rlen (store rnext s i i) i 1) i 1) i 1000) i 0) i 0

alike_lone : (s : Tables) (i : ℕ) → Alike of_nodes (lone s i) s
alike_lone s i =
    let s₁ : Tables = store rnext s i i in
    let s₂ : Tables = store rlen s₁ i 1 in
    let s₃ : Tables = store elen s₂ i 1 in
    let s₄ : Tables = store count s₃ i 1000 in
    let s₅ : Tables = store stamp s₄ i 0 in
    alike_then of_nodes (lone s i) s₅ s (alike_store of_nodes mark s₅ i 0 refl)
    (alike_then of_nodes s₅ s₄ s (alike_store of_nodes stamp s₄ i 0 refl)
    (alike_then of_nodes s₄ s₃ s (alike_store of_nodes count s₃ i 1000 refl)
    (alike_then of_nodes s₃ s₂ s (alike_store of_nodes elen s₂ i 1 refl)
    (alike_then of_nodes s₂ s₁ s (alike_store of_nodes rlen s₁ i 1 refl) (alike_store of_nodes rnext s i i refl)))))

long_lone : (s : Tables) (i : ℕ) (u : Table) → length ((lone s i).at u) ≡ length (s.at u)
long_lone s i u =
    let s₁ : Tables = store rnext s i i in
    let s₂ : Tables = store rlen s₁ i 1 in
    let s₃ : Tables = store elen s₂ i 1 in
    let s₄ : Tables = store count s₃ i 1000 in
    let s₅ : Tables = store stamp s₄ i 0 in
    length_store mark u s₅ i 0 ∙ length_store stamp u s₄ i 0 ∙ length_store count u s₃ i 1000 ∙ length_store elen u s₂ i 1 ∙ length_store rlen u s₁ i 1 ∙ length_store rnext u s i i

pub regions_are : (n k : ℕ) (s : Tables) (i : ℕ) → i + k ≤ n → length (s.at rnext) ≡ n → length (s.at elen) ≡ n → length (s.at rlen) ≡ n → length (s.at count) ≡ n → length (s.at stamp) ≡ n → length (s.at mark) ≡ n → Regions s (regions_from k s i) i k
unfolding regions_from store
regions_are n zero s i h a b c d f g = record { tables = alike_refl of_nodes s; diff = refl; long = λ u. refl; below = λ x p. (refl, refl, refl, refl, refl, refl); own = λ x p q. absurd (omega arith) }
regions_are n (suc k) s i h a b c d f g =
    let u : Tables = lone s i in
    let r : Regions u (regions_from k u (i + 1)) (i + 1) k = regions_are n k u (i + 1) (omega arith) (length-set (s.at rnext) i i ∙ a) (length-set (s.at elen) i 1 ∙ b) (length-set (s.at rlen) i 1 ∙ c) (length-set (s.at count) i 1000 ∙ d) (length-set (s.at stamp) i 0 ∙ f) (length-set (s.at mark) i 0 ∙ g) in
    let t : Tables = regions_from k u (i + 1) in
    record {
      tables = alike_then of_nodes t u s r.tables (alike_lone s i);
      diff = r.diff;
      long = λ y. r.long y ∙ long_lone s i y;
      below = λ x p. let q : x ≡ i → ⊥ = λ e. omega arith in let w = r.below x (omega arith) in (
        w.0 ∙ get_or-set_other (s.at rnext) i x i 0 q,
        w.1 ∙ get_or-set_other (s.at elen) i x 1 0 q,
        w.2 ∙ get_or-set_other (s.at rlen) i x 1 0 q,
        w.3 ∙ get_or-set_other (s.at count) i x 1000 0 q,
        w.4 ∙ get_or-set_other (s.at stamp) i x 0 0 q,
        w.5 ∙ get_or-set_other (s.at mark) i x 0 0 q,
      );
      own = λ x p q. ⊎_elim
          (λ e. let w = r.below i (omega arith) in
          subst (λ (y : ℕ). (get_or (t.at rnext) y 0 ≡ y) × (get_or (t.at elen) y 0 ≡ 1) × (get_or (t.at rlen) y 0 ≡ 1) × (get_or (t.at count) y 0 ≡ 1000) × (get_or (t.at stamp) y 0 ≡ 0) × (get_or (t.at mark) y 0 ≡ 0)) (sym e) (
            w.0 ∙ get_or-set_same (s.at rnext) i i 0 (omega arith),
            w.1 ∙ get_or-set_same (s.at elen) i 1 0 (omega arith),
            w.2 ∙ get_or-set_same (s.at rlen) i 1 0 (omega arith),
            w.3 ∙ get_or-set_same (s.at count) i 1000 0 (omega arith),
            w.4 ∙ get_or-set_same (s.at stamp) i 0 0 (omega arith),
            w.5 ∙ get_or-set_same (s.at mark) i 0 0 (omega arith),
          ))
          (λ e. r.own x (omega arith) (omega arith))
          (eq_or_ne x i);
    }

-- ---- circles of one
pub ones : (N : List ℕ) (size : ℕ) (len : ℕ → ℕ) → ((x : ℕ) → x < size → get_or N x 0 ≡ x) → ((x : ℕ) → x < size → len x ≡ 1) → Chains N size (λ x. x) (λ x. 0) len
unfolding cur
ones N size len id one = record {
  head = λ x p. p;
  top = λ x p. refl;
  here = λ x p. omega (arith, one x p);
  at = λ x p. refl;
  inside = λ h i p o q. subst (λ (y : ℕ). cur N h y < size) (sym (zero_is h i p q)) p;
  owned = λ h i p o q. ap (cur N h) (zero_is h i p q);
  placed = λ h i p o q. sym (zero_is h i p q);
  close = λ h p o. ap (cur N h) (one h p) ∙ id h p;
}
  where
    zero_is : (h i : ℕ) → h < size → i < len h → i ≡ 0
    zero_is h i p q = omega (arith, one h p)

-- a slot's link is a slot
pub next_in : (N : List ℕ) (size : ℕ) (own place len : ℕ → ℕ) → Chains N size own place len → (i : ℕ) → i < size → get_or N i 0 < size
next_in N size own place len C i p =
    let e : cur N (own i) (suc (place i)) ≡ get_or N i 0 = cur_suc N (own i) (place i) ∙ ap (λ (y : ℕ). get_or N y 0) (C.at i p) in
    ⊎_elim
    (λ q. subst (λ (y : ℕ). y < size) e (C.inside (own i) (suc (place i)) (C.head i p) (C.top i p) q))
    (λ q. let z : suc (place i) ≡ len (own i) = omega (arith, C.here i p) in subst (λ (y : ℕ). y < size) (sym (sym e ∙ ap (cur N (own i)) z ∙ C.close (own i) (C.head i p) (C.top i p))) (C.head i p))
    (lt_or_le (suc (place i)) (len (own i)))

-- ---- linking
abbrev pub lens : ℕ → Tables → ℕ → ℕ
lens m s h = cond (ltb h (2 * m)) 1 (get_or (s.at elen) (h - 2 * m) 0)

pub record Linked (m n L : ℕ) (s : Tables) : Type 0 where
  pub own : ℕ → ℕ
  pub pos' : ℕ → ℕ
  pub l_enext : length (s.at enext) ≡ 2 * m + n
  pub l_elen : length (s.at elen) ≡ n
  pub chains : Chains (s.at enext) (2 * m + n) own pos' (lens m s)
  pub even : (j : ℕ) → 2 * j < L → own (2 * j) ≡ 2 * m + get_or (s.at first) j 0
  pub odd : (j : ℕ) → 2 * j + 1 < L → own (2 * j + 1) ≡ 2 * m + get_or (s.at second) j 0
  pub todo : (i : ℕ) → L ≤ i → i < 2 * m → own i ≡ i
  pub heads : (x : ℕ) → x < n → own (2 * m + x) ≡ 2 * m + x

record LinkedOne (m n L a : ℕ) (s t : Tables) (I : Linked m n L s) : Type 0 where
  own' : ℕ → ℕ
  pos'' : ℕ → ℕ
  kept : Same t s
  l_enext : length (t.at enext) ≡ 2 * m + n
  l_elen : length (t.at elen) ≡ n
  chains : Chains (t.at enext) (2 * m + n) own' pos'' (lens m t)
  new : own' L ≡ 2 * m + a
  old : (i : ℕ) → i < 2 * m + n → (i ≡ L → ⊥) → own' i ≡ I.own i

same_link : (m a L : ℕ) (s : Tables) → Same (link_at m a L s) s
unfolding link_at
same_link m a L s = record {
  beside = alike_then of_slots _ _ _ (alike_store of_slots elen _ a _ refl) (alike_then of_slots _ _ _ (alike_store of_slots enext _ L _ refl) (alike_store of_slots enext s (2 * m + a) _ refl));
  diff = unfold store in refl;
}

link_one : (m n L a : ℕ) (s : Tables) (I : Linked m n L s) → L < 2 * m → a < n → LinkedOne m n L a s (link_at m a L s) I
unfolding link_at store swap own_joined
link_one m n L a s I lt ha = record {
  own' = own_joined I.own (2 * m + a) L;
  pos'' = pos_joined I.own I.pos' (lens m s) (2 * m + a) L;
  kept = same_link m a L s;
  l_enext = length-set (set (s.at enext) (2 * m + a) (get_or (s.at enext) L 0)) L (get_or (s.at enext) (2 * m + a) 0) ∙ length-set (s.at enext) (2 * m + a) (get_or (s.at enext) L 0) ∙ I.l_enext;
  l_elen = length-set (s.at elen) a (get_or (s.at elen) a 0 + 1) ∙ I.l_elen;
  chains =
      (chains_len (swap (s.at enext) (2 * m + a) L) (2 * m + n) (own_joined I.own (2 * m + a) L) (pos_joined I.own I.pos' (lens m s) (2 * m + a) L) (len_joined (lens m s) (2 * m + a) L) (lens m (link_at m a L s))
      (swapped (s.at enext) (2 * m + n) I.own I.pos' (lens m s) I.chains I.l_enext (2 * m + a) L (omega arith) (omega arith) (I.heads a ha) single_own (λ e. omega arith))
      (λ h p o. len_is h));
  new = ap (λ (x : Bool). cond x (2 * m + a) (I.own L)) (same_yes L (I.own L) (sym single_own));
  old = λ i p ne. ap (λ (x : Bool). cond x (2 * m + a) (I.own i)) (same_no L (I.own i) (λ e. ne (alone i p (sym e))));
}
  where
    single_own : I.own L ≡ L
    single_own = I.todo L (omega arith) lt

    len_one : lens m s L ≡ 1
    len_one = ap (λ (x : Bool). cond x 1 (get_or (s.at elen) (L - 2 * m) 0)) (lt-ltb L (2 * m) lt)

    alone : (i : ℕ) → i < 2 * m + n → I.own i ≡ L → i ≡ L
    alone i p e =
        let q : I.pos' i < lens m s (I.own i) = I.chains.here i p in
        let z : I.pos' i ≡ 0 = omega (arith, ap (lens m s) e, len_one) in
        sym (I.chains.at i p) ∙ ap (λ (y : ℕ). cur (s.at enext) (I.own i) y) z ∙ (unfold cur in e)

    len_is : (h : ℕ) → len_joined (lens m s) (2 * m + a) L h ≡ lens m (link_at m a L s) h
    len_is h = unfold len_joined in ⊎_elim here (λ w. ap (λ (x : Bool). cond x (lens m s (2 * m + a) + lens m s L) (lens m s h)) (same_no (2 * m + a) h w) ∙ there w) (eq_or_ne (2 * m + a) h)
      where
        at_a : (x : Tables) → lens m x (2 * m + a) ≡ get_or (x.at elen) a 0
        at_a x = let z : 2 * m + a - 2 * m ≡ a = omega arith in ap (λ (y : Bool). cond y 1 (get_or (x.at elen) (2 * m + a - 2 * m) 0)) (le-ltb (2 * m + a) (2 * m) (omega arith)) ∙ ap (λ (y : ℕ). get_or (x.at elen) y 0) z

        here : 2 * m + a ≡ h → cond (eqb (2 * m + a) h) (lens m s (2 * m + a) + lens m s L) (lens m s h) ≡ lens m (link_at m a L s) h
        here w =
            ap (λ (x : Bool). cond x (lens m s (2 * m + a) + lens m s L) (lens m s h)) (same_yes (2 * m + a) h w)
            ∙ ap (λ (x : ℕ). x + lens m s L) (at_a s) ∙ ap (λ (x : ℕ). get_or (s.at elen) a 0 + x) len_one
            ∙ sym (ap (lens m (link_at m a L s)) (sym w) ∙ at_a (link_at m a L s) ∙ get_or-set_same (s.at elen) a (get_or (s.at elen) a 0 + 1) 0 (omega (arith, I.l_elen)))

        there : (2 * m + a ≡ h → ⊥) → lens m s h ≡ lens m (link_at m a L s) h
        there w = ⊎_elim
            (λ p. ap (λ (x : Bool). cond x 1 (get_or (s.at elen) (h - 2 * m) 0)) (lt-ltb h (2 * m) p) ∙ sym (ap (λ (x : Bool). cond x 1 (get_or ((link_at m a L s).at elen) (h - 2 * m) 0)) (lt-ltb h (2 * m) p)))
            (λ p. ap (λ (x : ℕ). cond (ltb h (2 * m)) 1 x) (sym (get_or-set_other (s.at elen) a (h - 2 * m) (get_or (s.at elen) a 0 + 1) 0 (λ q. w (omega arith)))))
            (lt_or_le h (2 * m))

same_then : (t u s : Tables) → Same t u → Same u s → Same t s
same_then t u s a b = record { beside = alike_then of_slots t u s a.beside b.beside; diff = a.diff ∙ b.diff }

half_even : (m n j a : ℕ) (s t : Tables) (I : Linked m n (2 * j) s) → LinkedOne m n (2 * j) a s t I → j < m → a ≡ get_or (s.at first) j 0 → Linked m n (2 * j + 1) t
half_even m n j a s t I o lt e = record {
  own = o.own';
  pos' = o.pos'';
  l_enext = o.l_enext;
  l_elen = o.l_elen;
  chains = o.chains;
  even = λ i h. ⊎_elim
      (λ w. subst (λ (y : ℕ). o.own' (2 * y) ≡ 2 * m + get_or (t.at first) y 0) (sym w) (o.new ∙ ap (λ (y : ℕ). 2 * m + y) (e ∙ ap (λ (l : List ℕ). get_or l j 0) (sym (o.kept.beside.at first)))))
      (λ w. o.old (2 * i) (omega arith) (λ q. w (omega arith)) ∙ I.even i (omega arith) ∙ ap (λ (l : List ℕ). 2 * m + get_or l i 0) (sym (o.kept.beside.at first)))
      (eq_or_ne i j);
  odd = λ i h. o.old (2 * i + 1) (omega arith) (λ q. omega arith) ∙ I.odd i (omega arith) ∙ ap (λ (l : List ℕ). 2 * m + get_or l i 0) (sym (o.kept.beside.at second));
  todo = λ i p q. o.old i (omega arith) (λ r. omega arith) ∙ I.todo i (omega arith) q;
  heads = λ x p. o.old (2 * m + x) (omega arith) (λ r. omega arith) ∙ I.heads x p;
}

half_odd : (m n j a : ℕ) (s t : Tables) (I : Linked m n (2 * j + 1) s) → LinkedOne m n (2 * j + 1) a s t I → j < m → a ≡ get_or (s.at second) j 0 → Linked m n (2 * (j + 1)) t
half_odd m n j a s t I o lt e = record {
  own = o.own';
  pos' = o.pos'';
  l_enext = o.l_enext;
  l_elen = o.l_elen;
  chains = o.chains;
  even = λ i h. o.old (2 * i) (omega arith) (λ q. omega arith) ∙ I.even i (omega arith) ∙ ap (λ (l : List ℕ). 2 * m + get_or l i 0) (sym (o.kept.beside.at first));
  odd = λ i h. ⊎_elim
      (λ w. subst (λ (y : ℕ). o.own' (2 * y + 1) ≡ 2 * m + get_or (t.at second) y 0) (sym w) (o.new ∙ ap (λ (y : ℕ). 2 * m + y) (e ∙ ap (λ (l : List ℕ). get_or l j 0) (sym (o.kept.beside.at second)))))
      (λ w. o.old (2 * i + 1) (omega arith) (λ q. w (omega arith)) ∙ I.odd i (omega arith) ∙ ap (λ (l : List ℕ). 2 * m + get_or l i 0) (sym (o.kept.beside.at second)))
      (eq_or_ne i j);
  todo = λ i p q. o.old i (omega arith) (λ r. omega arith) ∙ I.todo i (omega arith) q;
  heads = λ x p. o.old (2 * m + x) (omega arith) (λ r. omega arith) ∙ I.heads x p;
}

abbrev pub InRange : ℕ → ℕ → Tables → Type 0
InRange m n s = ((j : ℕ) → j < m → get_or (s.at first) j 0 < n) × ((j : ℕ) → j < m → get_or (s.at second) j 0 < n)

pub range_of_lem : (m n : ℕ) (t s : Tables) → Given t s → InRange m n s → InRange m n t
range_of_lem m n t s g r = (subst (λ (l : List ℕ). (j : ℕ) → j < m → get_or l j 0 < n) (sym (g.tables.at first)) r.0, subst (λ (l : List ℕ). (j : ℕ) → j < m → get_or l j 0 < n) (sym (g.tables.at second)) r.1)

linked_edge : (m n j : ℕ) (s : Tables) → Linked m n (2 * j) s → j < m → InRange m n s → Linked m n (2 * (j + 1)) (link_edge m s j) × Same (link_edge m s j) s
unfolding link_edge
linked_edge m n j s I lt r =
    let a : ℕ = get_or (s.at first) j 0 in
    let b : ℕ = get_or (s.at second) j 0 in
    let s₁ : Tables = link_at m a (2 * j) s in
    let o₁ : LinkedOne m n (2 * j) a s s₁ I = link_one m n (2 * j) a s I (omega arith) (r.0 j lt) in
    let I₁ : Linked m n (2 * j + 1) s₁ = half_even m n j a s s₁ I o₁ lt refl in
    let o₂ : LinkedOne m n (2 * j + 1) b s₁ (link_at m b (2 * j + 1) s₁) I₁ = link_one m n (2 * j + 1) b s₁ I₁ (omega arith) (r.1 j lt) in (
      half_odd m n j b s₁ (link_at m b (2 * j + 1) s₁) I₁ o₂ lt (ap (λ (l : List ℕ). get_or l j 0) (sym (o₁.kept.beside.at second))),
      same_then _ s₁ s o₂.kept o₁.kept,
    )

pub linked_all : (m n k : ℕ) (s : Tables) (j : ℕ) → Linked m n (2 * j) s → j + k ≤ m → InRange m n s → Linked m n (2 * (j + k)) (link_from k m s j) × Same (link_from k m s j) s
unfolding link_from
linked_all m n zero s j I h r = let z : 2 * j ≡ 2 * (j + 0) = omega arith in
    (subst (λ (x : ℕ). Linked m n x s) z I, same_refl s)
linked_all m n (suc k) s j I h r =
    let e : Linked m n (2 * (j + 1)) (link_edge m s j) × Same (link_edge m s j) s = linked_edge m n j s I (omega arith) r in
    let w : Linked m n (2 * (j + 1 + k)) (link_from k m (link_edge m s j) (j + 1)) × Same (link_from k m (link_edge m s j) (j + 1)) (link_edge m s j)
    = linked_all m n k (link_edge m s j) (j + 1) e.0 (omega arith) (range_of_lem m n (link_edge m s j) s (given_same _ s e.1) r) in
    let z : 2 * (j + 1 + k) ≡ 2 * (j + suc k) = omega arith in
    (subst (λ (x : ℕ). Linked m n x (link_from k m (link_edge m s j) (j + 1))) z w.0, same_then _ (link_edge m s j) s w.1 e.1)

-- linking keeps every length
pub linked_long : (k m : ℕ) (s : Tables) (j : ℕ) (u : Table) → length ((link_from k m s j).at u) ≡ length (s.at u)
unfolding link_from link_edge
linked_long zero m s j u = refl
linked_long (suc k) m s j u =
    let s₁ : Tables = link_at m (get_or (s.at first) j 0) (2 * j) s in
    linked_long k m (link_at m (get_or (s.at second) j 0) (2 * j + 1) s₁) (j + 1) u ∙ one (get_or (s.at second) j 0) (2 * j + 1) s₁ ∙ one (get_or (s.at first) j 0) (2 * j) s
  where
    one : (a L : ℕ) (s : Tables) → length ((link_at m a L s).at u) ≡ length (s.at u)
    one a L s = unfold link_at in length_store elen u _ a _ ∙ length_store enext u _ L _ ∙ length_store enext u s (2 * m + a) _
