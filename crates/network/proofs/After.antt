-- The tables after the chains are joined, and chains of changed links. Assumes nothing.
use mathlib.Core.Path.{◌≡◌, refl, sym, ap, ◌∙◌, subst}
use mathlib.Core.Logic.{⊎_elim}
use mathlib.Core.Bool.{Bool, true, false, ◌&&◌, cond}
use mathlib.Core.List.{List, ◌∷◌, map}
use Prim.Native.Nat.{ℕ, zero, suc, ◌+◌, ◌*◌, ◌≤◌, ◌<◌}
use native.Mathlib.Omega.{arith}
use lib.IntN.{ℤ, ◌+ℤ◌}
use lib.ListN.{length, get_or, set, length-set}
use lib.Seq.{get_or-set_same, get_or-set_other}
use Rattle.network.specs.Network.{Region, gather, raised, bounded}
use Rattle.merge.specs.Inside.Tables.{Tables, Sound, store}
use Rattle.merge.specs.Inside.Table.{enext, rnext, stamp, size, elen, rlen, count, mark, log}
use Rattle.merge.specs.Inside.Steps.{turned, splice, grow}
use Rattle.network.specs.Inside.Net.{edge_of, edge_now}
use Rattle.merge.specs.Inside.Chain.{cur, Chains, own_joined, pos_joined, len_joined}
use Rattle.merge.proofs.SoundSet.{eq_or_ne, sound_store}
use Rattle.network.proofs.Circles.{joined}
use Rattle.network.proofs.Moved.{same_no, same_yes}
use lib.Dec.{eqb}
use borrow.Author.Tests.{eqb-true}
use Rattle.lists.specs.Seq.{all, upto}

-- ---- two links exchanged
unfoldable pub swap : List ℕ → ℕ → ℕ → List ℕ
swap N b c = set (set N b (get_or N c 0)) c (get_or N b 0)

pub swapped : (N : List ℕ) (size : ℕ) (own pos len : ℕ → ℕ) → Chains N size own pos len → length N ≡ size → (b c : ℕ) → b < size → c < size → own b ≡ b → own c ≡ c → (b ≡ c → ⊥)
    → Chains (swap N b c) size (own_joined own b c) (pos_joined own pos len b c) (len_joined len b c)
unfolding swap
swapped N size own pos len C l b c hb hc ob oc ne =
    let N₁ : List ℕ = set N b (get_or N c 0) in
    let l₁ : length N₁ ≡ length N = length-set N b (get_or N c 0) in
    joined N size own pos len C (swap N b c) b c hb hc ob oc ne
    (λ i p q. get_or-set_other N₁ c i (get_or N b 0) 0 q ∙ get_or-set_other N b i (get_or N c 0) 0 p)
    (get_or-set_other N₁ c b (get_or N b 0) 0 ne ∙ get_or-set_same N b (get_or N c 0) 0 (omega arith))
    (get_or-set_same N₁ c (get_or N b 0) 0 (omega arith))

-- lengths matter at leaders only
pub chains_len : (N : List ℕ) (size : ℕ) (own pos len len' : ℕ → ℕ) → Chains N size own pos len → ((h : ℕ) → h < size → own h ≡ h → len h ≡ len' h) → Chains N size own pos len'
chains_len N size own pos len len' C e = record {
  head = C.head;
  top = C.top;
  here = λ i p. omega (arith, C.here i p, e (own i) (C.head i p) (C.top i p));
  at = C.at;
  inside = λ h i p o q. C.inside h i p o (omega (arith, e h p o));
  owned = λ h i p o q. C.owned h i p o (omega (arith, e h p o));
  placed = λ h i p o q. C.placed h i p o (omega (arith, e h p o));
  close = λ h p o. ap (cur N h) (sym (e h p o)) ∙ C.close h p o;
}

-- ---- the tables after
module _ (m b v : ℕ) (s : Tables) where
  abbrev pub after : Tables
  after = grow b v (splice m b v s)

  pub after_edges : (j : ℕ) → edge_now after j ≡ edge_now s j
  unfolding edge_now turned edge_of grow splice store
  after_edges j = refl

  pub after_stamp : after.at stamp ≡ s.at stamp
  unfolding grow splice store
  after_stamp = refl

  pub after_count : after.at count ≡ s.at count
  unfolding grow splice store
  after_count = refl

  pub after_mark : after.at mark ≡ s.at mark
  unfolding grow splice store
  after_mark = refl

  pub after_log : after.at log ≡ s.at log
  unfolding grow splice store
  after_log = refl

  pub after_rnext : after.at rnext ≡ swap (s.at rnext) b v
  unfolding grow splice store swap
  after_rnext = refl

  pub after_enext : after.at enext ≡ swap (s.at enext) (2 * m + b) (2 * m + v)
  unfolding grow splice store swap
  after_enext = refl

  pub after_size : after.at size ≡ set (s.at size) b (get_or (s.at size) b 0 + get_or (s.at size) v 0)
  unfolding grow splice store
  after_size = refl

  pub after_elen : after.at elen ≡ set (s.at elen) b (get_or (s.at elen) b 0 + get_or (s.at elen) v 0)
  unfolding grow splice store
  after_elen = refl

  pub after_rlen : after.at rlen ≡ set (s.at rlen) b (get_or (s.at rlen) b 0 + get_or (s.at rlen) v 0)
  unfolding grow splice store
  after_rlen = refl

  sound_splice : (n : ℕ) → b < n → v < n → Sound m n s → Sound m n (splice m b v s)
  unfolding splice
  sound_splice n hb hv h =
      let h₁ : Sound m n (store enext s (2 * m + b) (get_or (s.at enext) (2 * m + v) 0)) = sound_store enext m n s h (2 * m + b) (get_or (s.at enext) (2 * m + v) 0) refl refl (h.within enext (2 * m + v) (omega arith)) in
      let h₂ : Sound m n (store enext (store enext s (2 * m + b) (get_or (s.at enext) (2 * m + v) 0)) (2 * m + v) (get_or (s.at enext) (2 * m + b) 0)) = sound_store enext m n _ h₁ (2 * m + v) (get_or (s.at enext) (2 * m + b) 0) refl refl (h.within enext (2 * m + b) (omega arith)) in
      sound_store rnext m n _ (sound_store rnext m n _ h₂ b (get_or (s.at rnext) v 0) refl refl (h.within rnext v hv)) v (get_or (s.at rnext) b 0) refl refl (h.within rnext b hb)

  pub sound_after : (n : ℕ) → b < n → v < n → Sound m n s → Sound m n after
  unfolding grow
  sound_after n hb hv h = sound_store rlen m n _ (sound_store elen m n _ (sound_store size m n _ (sound_splice n hb hv h) b _ refl refl tt) b _ refl refl tt) b _ refl refl tt

-- a table with a sum at b
pub sum_there : (l : List ℕ) (n b v x : ℕ) → length l ≡ n → b < n → get_or (set l b (get_or l b 0 + get_or l v 0)) x 0 ≡ cond (eqb b x) (get_or l b 0 + get_or l v 0) (get_or l x 0)
sum_there l n b v x e h = ⊎_elim
    (λ w. ap (λ (y : ℕ). get_or (set l b (get_or l b 0 + get_or l v 0)) y 0) w ∙ get_or-set_same l b (get_or l b 0 + get_or l v 0) 0 (omega arith) ∙ sym (rw (same_yes b x (sym w)) refl))
    (λ w. get_or-set_other l b x (get_or l b 0 + get_or l v 0) 0 w ∙ sym (rw (same_no b x (λ q. w (sym q))) refl))
    (eq_or_ne x b)

-- ---- question 9 of the moved node's counts
pub all_yes : (f : ℕ → Region) (k : ℤ) (a i n : ℕ) → ((r : ℕ) → i ≤ r → r < i + n → (f r).node ≡ a → bounded 1000 ((f r).count +ℤ k) ≡ true) → all (bounded 1000) (raised k (map f (upto n i)) a) ≡ true
unfolding raised gather all upto
all_yes f k a i zero h = refl
all_yes f k a i (suc n) h = go (eqb a (f i).node) refl (all_yes f k a (suc i) n (λ r p q. h r (omega arith) (omega arith)))
  where
    go : (x : Bool) → eqb a (f i).node ≡ x → all (bounded 1000) (gather (λ r. r.count +ℤ k) (map f (upto n (suc i))) a) ≡ true
        → all (bounded 1000) (cond x (((f i).count +ℤ k) ∷ gather (λ r. r.count +ℤ k) (map f (upto n (suc i))) a) (gather (λ r. r.count +ℤ k) (map f (upto n (suc i))) a)) ≡ true
    go true e ih = rw (h i (omega arith) (omega arith) (sym (eqb-true a (f i).node e)), ih) refl
    go false e ih = ih

pub all_no : (f : ℕ → Region) (k : ℤ) (a i n r : ℕ) → i ≤ r → r < i + n → (f r).node ≡ a → bounded 1000 ((f r).count +ℤ k) ≡ false → all (bounded 1000) (raised k (map f (upto n i)) a) ≡ false
unfolding raised gather all upto
all_no f k a i zero r p q e h = absurd (omega arith)
all_no f k a i (suc n) r p q e h = ⊎_elim
    (λ w. here (subst (λ (y : ℕ). (f y).node ≡ a) w e) (subst (λ (y : ℕ). bounded 1000 ((f y).count +ℤ k) ≡ false) w h))
    (λ w. there (eqb a (f i).node) (all_no f k a (suc i) n r (omega arith) (omega arith) e h))
    (eq_or_ne r i)
  where
    here : (f i).node ≡ a → bounded 1000 ((f i).count +ℤ k) ≡ false → all (bounded 1000) (cond (eqb a (f i).node) (((f i).count +ℤ k) ∷ gather (λ r. r.count +ℤ k) (map f (upto n (suc i))) a) (gather (λ r. r.count +ℤ k) (map f (upto n (suc i))) a)) ≡ false
    here a' b' = rw (same_yes a (f i).node (sym a'), b') refl

    there : (x : Bool) → all (bounded 1000) (gather (λ r. r.count +ℤ k) (map f (upto n (suc i))) a) ≡ false
        → all (bounded 1000) (cond x (((f i).count +ℤ k) ∷ gather (λ r. r.count +ℤ k) (map f (upto n (suc i))) a) (gather (λ r. r.count +ℤ k) (map f (upto n (suc i))) a)) ≡ false
    there true ih = rw ih (and-false (bounded 1000 ((f i).count +ℤ k)))
      where
        and-false : (x : Bool) → (x && false) ≡ false
        and-false true = refl
        and-false false = refl
    there false ih = ih
