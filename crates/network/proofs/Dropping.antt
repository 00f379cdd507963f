-- A walk along a node's chain that drops spent slots: the chains stay. Assumes nothing.
use mathlib.Core.Path.{◌≡◌, refl, sym, ap, ◌∙◌, subst}
use mathlib.Core.Logic.{inl, inr, ⊎_elim}
use mathlib.Core.Bool.{Bool, true, false, cond}
use mathlib.Core.List.{List}
use Prim.Native.Nat.{ℕ, zero, suc, ◌+◌, ◌*◌, ◌-◌, ◌/◌, ◌<◌}
use native.Mathlib.Omega.{arith}
use lib.Dec.{eqb}
use lib.ListN.{get_or, set, length-set}
use lib.Seq.{get_or-set_same, get_or-set_other}
use borrow.Author.Tests.{lt-ltb, eqb-true}
use Rattle.network.specs.Network.{Edge}
use Rattle.merge.specs.Inside.Tables.{Tables, Sound, store}
use Rattle.merge.specs.Inside.Table.{weight, enext, elen}
use Rattle.merge.specs.Inside.Steps.{spent, drop_at, passed, kept, along, pruned}
use Rattle.merge.specs.Inside.Chain.{cur, Chains, own_split, pos_split, len_split}
use Rattle.network.specs.Inside.Rep.{Circled, Ends}
use Rattle.merge.proofs.SoundSet.{eq_or_ne}
use Rattle.network.proofs.Circles.{cur_suc, lead}
use Rattle.network.proofs.Split.{split, split_here, split_own, split_pos, split_shorter, split_len}
use Rattle.merge.proofs.Passing.{sound_drop}
use Rattle.merge.proofs.Frames.{Same, same_refl, same_drop}

-- a slot that is spent
spent_dead : (m : ℕ) (s : Tables) (x : ℕ) → spent m s x ≡ true → x / 2 < m → get_or (s.at weight) (x / 2) 0 ≡ 0
unfolding spent
spent_dead m s x e h = eqb-true (get_or (s.at weight) (x / 2) 0) 0 (sym (ap (λ (t : Bool). cond t (eqb (get_or (s.at weight) (x / 2) 0) 0) true) (lt-ltb (x / 2) m h)) ∙ e)

-- the chains after it, and all other tables as before
pub record Pruned (m n : ℕ) (node : ℕ → ℕ) (K : ℕ → Edge) (s t : Tables) : Type 0 where
  pub o : ℕ → ℕ
  pub q : ℕ → ℕ
  pub l : ℕ → ℕ
  pub circled : Circled m n node K t o q l
  pub same : Same t s
  pub sound : Sound m n t

module _ (m n : ℕ) (node : ℕ → ℕ) (K : ℕ → Edge) (b : ℕ) (hb : b < n) (lb : node b ≡ b) where
  abbrev h : ℕ
  h = 2 * m + b

  drop_next : (s : Tables) → Sound m n s → (p x : ℕ) → p < 2 * m + n → (p ≡ x → ⊥) → get_or ((drop_at b s p x).at enext) p 0 ≡ get_or (s.at enext) x 0
  unfolding drop_at store
  drop_next s sound p x hp px =
      let t : ℕ = get_or (s.at enext) x 0 in
      get_or-set_other (set (s.at enext) p t) x p x 0 px ∙ get_or-set_same (s.at enext) p t 0 (omega (arith, sound.lengths enext))

  -- ---- one slot is dropped
  module _ (s : Tables) (sound : Sound m n s) (o q l : ℕ → ℕ) (C : Circled m n node K s o q l) (p x : ℕ) (hp : p < 2 * m + n) (op : o p ≡ h) (next : get_or (s.at enext) p 0 ≡ x) (not-led : x ≡ h → ⊥)
      (hx : x < 2 * m + n) (ox : o x ≡ h) (px : p ≡ x → ⊥) (far : (j : ℕ) → j < m → (K j).live ≡ true → x / 2 ≡ j → ⊥) where
    abbrev N₁ : List ℕ
    N₁ = set (s.at enext) p (get_or (s.at enext) x 0)

    abbrev N₂ : List ℕ
    N₂ = set N₁ x x

    drop_chains : Chains N₂ (2 * m + n) (own_split o x) (pos_split o q x) (len_split o l x)
    unfolding drop_at store
    drop_chains = split (s.at enext) (2 * m + n) o q l C.echains N₂ p x hp next (λ e. not-led (e ∙ op))
        (λ i u v. get_or-set_other N₁ x i x 0 v ∙ get_or-set_other (s.at enext) p i (get_or (s.at enext) x 0) 0 u)
        (drop_next s sound p x hp px)
        (get_or-set_same N₁ x x 0 (omega (arith, sound.lengths enext, length-set (s.at enext) p (get_or (s.at enext) x 0))))

    own_kept : (i : ℕ) → (i ≡ x → ⊥) → own_split o x i ≡ o i
    own_kept i w = split_own o x i w

    slot_kept : (i j : ℕ) → j < m → (K j).live ≡ true → i / 2 ≡ j → own_split o x i ≡ o i
    slot_kept i j hj k e = own_kept i (λ w. far j hj k (ap (λ (y : ℕ). y / 2) (sym w) ∙ e))

    pub drop_circled : Circled m n node K (drop_at b s p x) (own_split o x) (pos_split o q x) (len_split o l x)
    unfolding drop_at store
    drop_circled = record {
      echains = drop_chains;
      header = λ y hy e. ⊎_elim (λ w. subst (λ (i : ℕ). own_split o x i ≡ i) (sym w) (split_here o x)) (λ w. own_kept (2 * m + y) w ∙ C.header y hy e) (eq_or_ne (2 * m + y) x);
      lengths = λ y hy e. ⊎_elim
          (λ w. subst (λ (z : ℕ). len_split o l x (2 * m + z) ≡ get_or (set (s.at elen) b (get_or (s.at elen) b 0 - 1)) z 0) (sym w) at_b)
          (λ w. let nx : 2 * m + y ≡ x → ⊥ = λ r. w (omega (arith, ap o r, C.header y hy e, ox)) in
          split_len o l x (2 * m + y) nx (λ r. w (omega (arith, ox))) ∙ C.lengths y hy e ∙ sym (get_or-set_other (s.at elen) b y (get_or (s.at elen) b 0 - 1) 0 w))
          (eq_or_ne y b);
      ends = λ j hj k. go j hj k (C.ends j hj k);
    }
      where
        at_b : len_split o l x (2 * m + b) ≡ get_or (set (s.at elen) b (get_or (s.at elen) b 0 - 1)) b 0
        at_b =
            split_shorter o l x (2 * m + b) not-led ox ∙ ap (λ (y : ℕ). y - 1) (C.lengths b hb lb) ∙ sym (get_or-set_same (s.at elen) b (get_or (s.at elen) b 0 - 1) 0 (omega (arith, sound.lengths elen)))

        go : (j : ℕ) → j < m → (K j).live ≡ true → Ends m o j (K j) → Ends m (own_split o x) j (K j)
        go j hj k (inl u) = inl (slot_kept (2 * j) j hj k (omega arith) ∙ u.0, slot_kept (2 * j + 1) j hj k (omega arith) ∙ u.1)
        go j hj k (inr u) = inr (slot_kept (2 * j) j hj k (omega arith) ∙ u.0, slot_kept (2 * j + 1) j hj k (omega arith) ∙ u.1)

  -- ---- the walk from tables s₀, whose live edges have weights
  module _ (s₀ : Tables) (lives : (j : ℕ) → j < m → (K j).live ≡ true → get_or (s₀.at weight) j 0 ≡ 0 → ⊥) where
    -- on the way: k slots are left after p
    record Going (s : Tables) (o q l : ℕ → ℕ) (p x k : ℕ) : Type 0 where
      circled : Circled m n node K s o q l
      same : Same s s₀
      sound : Sound m n s
      p_in : p < 2 * m + n
      p_own : o p ≡ h
      x_is : get_or (s.at enext) p 0 ≡ x
      left : suc (q p + k) ≡ l h

    module _ (s : Tables) (o q l : ℕ → ℕ) (p x k : ℕ) (G : Going s o q l p x (suc k)) where
      C : Chains (s.at enext) (2 * m + n) o q l
      C = G.circled.echains

      hh : h < 2 * m + n
      hh = omega arith

      oh : o h ≡ h
      oh = G.circled.header b hb lb

      -- the next slot stands one place further
      here_x : cur (s.at enext) h (suc (q p)) ≡ x
      here_x = cur_suc (s.at enext) h (q p) ∙ ap (λ (y : ℕ). get_or (s.at enext) y 0) (ap (λ (y : ℕ). cur (s.at enext) y (q p)) (sym G.p_own) ∙ C.at p G.p_in) ∙ G.x_is

      qx : q x ≡ suc (q p)
      qx = ap q (sym here_x) ∙ C.placed h (suc (q p)) hh oh (omega (arith, G.left))

      ox : o x ≡ h
      ox = ap o (sym here_x) ∙ C.owned h (suc (q p)) hh oh (omega (arith, G.left))

      hx : x < 2 * m + n
      hx = subst (λ (y : ℕ). y < 2 * m + n) here_x (C.inside h (suc (q p)) hh oh (omega (arith, G.left)))

      not_h : x ≡ h → ⊥
      not_h e = omega (arith, ap q e, qx, lead (s.at enext) (2 * m + n) o q l C h hh oh)

      not_p : p ≡ x → ⊥
      not_p e = omega (arith, ap q e, qx)

      dropped : spent m s x ≡ true → Going (drop_at b s p x) (own_split o x) (pos_split o q x) (len_split o l x) p (get_or (s.at enext) x 0) k
      dropped e = record {
        circled = drop_circled s G.sound o q l G.circled p x G.p_in G.p_own G.x_is not_h hx ox not_p
            (λ j hj r w. lives j hj r (ap (λ (y : List ℕ). get_or y j 0) (sym (G.same.beside.at weight)) ∙ ap (λ (y : ℕ). get_or (s.at weight) y 0) (sym w) ∙ spent_dead m s x e (subst (λ (y : ℕ). y < m) (sym w) hj)));
        same = same_drop b s s₀ p x G.same;
        sound = sound_drop m n b p x s G.sound G.p_in hx;
        p_in = G.p_in;
        p_own = split_own o x p not_p ∙ G.p_own;
        x_is = drop_next s G.sound p x G.p_in not_p;
        left = omega (arith, G.left, (split_pos o q x p not_p (ox ∙ sym G.p_own)).0 (omega (arith, qx)), split_shorter o l x h not_h ox);
      }

      stayed : Going s o q l x (get_or (s.at enext) x 0) k
      stayed = record { circled = G.circled; same = G.same; sound = G.sound; p_in = hx; p_own = ox; x_is = refl; left = omega (arith, G.left, qx) }

    go_on : (k : ℕ) (s : Tables) (o q l : ℕ → ℕ) (p x : ℕ) → Going s o q l p x k → Pruned m n node K s₀ (along k m b s p x)
    unfolding along passed kept
    go_on zero s o q l p x G = record { o = o; q = q; l = l; circled = G.circled; same = G.same; sound = G.sound }
    go_on (suc k) s o q l p x G = by (spent m s x) refl
        (λ e. go_on k (drop_at b s p x) (own_split o x) (pos_split o q x) (len_split o l x) p (get_or (s.at enext) x 0) (dropped s o q l p x k G e))
        (go_on k s o q l x (get_or (s.at enext) x 0) (stayed s o q l p x k G))
      where
        by : (t : Bool) → spent m s x ≡ t → (spent m s x ≡ true → Pruned m n node K s₀ (along k m b (drop_at b s p x) p (get_or (s.at enext) x 0))) → Pruned m n node K s₀ (along k m b s x (get_or (s.at enext) x 0))
            → Pruned m n node K s₀ (along k m b (cond t (drop_at b s p x) s) (cond t p x) (get_or (s.at enext) x 0))
        by true e u v = u e
        by false e u v = v

pub prune_is : (m n : ℕ) (node : ℕ → ℕ) (K : ℕ → Edge) (v : ℕ) → v < n → node v ≡ v → (s : Tables) (o q l : ℕ → ℕ) → Circled m n node K s o q l → Sound m n s
    → ((j : ℕ) → j < m → (K j).live ≡ true → get_or (s.at weight) j 0 ≡ 0 → ⊥) → Pruned m n node K s (pruned m v s)
unfolding pruned
prune_is m n node K v hv lv s o q l C sound lives =
    let h : ℕ = 2 * m + v in
    let hh : h < 2 * m + n = omega arith in
    let oh : o h ≡ h = C.header v hv lv in
    let qh : q h ≡ 0 = lead (s.at enext) (2 * m + n) o q l C.echains h hh oh in
    go_on m n node K v hv lv s lives (get_or (s.at elen) v 0 - 1) s o q l h (get_or (s.at enext) h 0) (record {
      circled = C;
      same = same_refl s;
      sound = sound;
      p_in = hh;
      p_own = oh;
      x_is = refl;
      left = omega (arith, qh, C.lengths v hv lv, C.echains.here h hh, ap l oh);
    })
