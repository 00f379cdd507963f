-- Edges as they stand: what facing an edge and stamping a node do to them. Assumes nothing.
use mathlib.Core.Path.{◌≡◌, refl, sym, ap, ◌∙◌}
use mathlib.Core.Logic.{◌⊎◌, inl, inr, ⊎_elim}
use mathlib.Core.Bool.{Bool, true, false, not, cond}
use Prim.Native.Nat.{ℕ, ◌≤◌, ◌<◌}
use native.Mathlib.Omega.{arith}
use lib.Dec.{ltb}
use lib.Ieee.{nan, inf, fin, Float, neg}
use lib.ListN.{get_or}
use lib.Seq.{get_or-set_same, get_or-set_other}
use borrow.Author.Tests.{ltb-true, lt-ltb, le-ltb, eq-eqb, ne_eqb}
use Rattle.network.specs.Network.{Edge, turn, turn_if}
use Rattle.merge.specs.Inside.Tables.{Tables, Sound, store, diff_set}
use Rattle.merge.specs.Inside.Table.{weight, first, second, bridged, stamp}
use Rattle.merge.specs.Inside.Steps.{turn_at, turned, face_at, hand_over, absorb_at, attach_at}
use Rattle.network.specs.Inside.Net.{edge_of, edge_now}
use Rattle.merge.proofs.SoundSet.{eq_or_ne}
use Rattle.merge.proofs.Mates.{Mate}
use Rattle.network.proofs.TableEdges.{live_word, turn_kept, turn_new}

-- ---- turning
not_twice : (b : Bool) → not (not b) ≡ b
not_twice true = refl
not_twice false = refl

neg_twice : (x : Float) → neg (neg x) ≡ x
unfolding neg
neg_twice nan = refl
neg_twice (inf s) = ap (λ (b : Bool). inf b) (not_twice s)
neg_twice (fin s m e) = ap (λ (b : Bool). fin b m e) (not_twice s)

if_false : (e : Edge) → turn_if false e ≡ e
unfolding turn_if
if_false e = refl

if_twice : (e : Edge) → turn_if true (turn_if true e) ≡ e
unfolding turn_if
if_twice e = λ i. record { num = e.num; live = e.live; first = e.first; second = e.second; link = record { weight = e.link.weight; diff = neg_twice e.link.diff i; bridged = e.link.bridged } }

turn_yes : (b : ℕ) (e : Edge) → e.second ≡ b → turn b e ≡ turn_if true e
unfolding turn
turn_yes b e h = rw (eq-eqb b e.second (sym h)) refl

turn_no : (b : ℕ) (e : Edge) → (e.second ≡ b → ⊥) → turn b e ≡ e
unfolding turn turn_if
turn_no b e h = rw (ne_eqb b e.second (λ w. h (sym w))) refl

-- ---- the edge as it stands by the edge as it is stored
module _ (s : Tables) (j : ℕ) where
  pub now_live : (edge_now s j).live ≡ (edge_of s j).live
  unfolding edge_now turn_if
  now_live = refl

  pub now_straight : turned s j ≡ false → edge_now s j ≡ edge_of s j
  unfolding edge_now
  now_straight h = rw h (if_false (edge_of s j))

  now_turned : turned s j ≡ true → edge_now s j ≡ turn_if true (edge_of s j)
  unfolding edge_now
  now_turned h = rw h refl

  pub now_by : (t : Tables) → turned t j ≡ turned s j → edge_of t j ≡ edge_of s j → edge_now t j ≡ edge_now s j
  unfolding edge_now
  now_by t p q = ap (λ (b : Bool). turn_if b (edge_of t j)) p ∙ ap (turn_if (turned s j)) q

-- what the words say of an edge that stands as e
pub record Stands (s : Tables) (j : ℕ) (e : Edge) : Type 0 where
  pub some : get_or (s.at weight) j 0 ≡ 0 → ⊥
  pub weight_is : get_or (s.at weight) j 0 ≡ e.link.weight
  pub bridged_is : get_or (s.at bridged) j 0 ≡ e.link.bridged
  pub ends : ((get_or (s.at first) j 0 ≡ e.first) × (get_or (s.at second) j 0 ≡ e.second)) ⊎ ((get_or (s.at first) j 0 ≡ e.second) × (get_or (s.at second) j 0 ≡ e.first))

pub stands : (s : Tables) (j : ℕ) (e : Edge) → edge_now s j ≡ e → e.live ≡ true → Stands s j e
unfolding edge_now turn_if edge_of
stands s j e h l = record {
  some = live_word s j (unfold edge_of in ap (λ (x : Edge). x.live) h ∙ l);
  weight_is = ap (λ (x : Edge). x.link.weight) h;
  bridged_is = ap (λ (x : Edge). x.link.bridged) h;
  ends = go (turned s j) (ap (λ (x : Edge). x.first) h) (ap (λ (x : Edge). x.second) h);
}
  where
    go : (t : Bool) → cond t (get_or (s.at second) j 0) (get_or (s.at first) j 0) ≡ e.first → cond t (get_or (s.at first) j 0) (get_or (s.at second) j 0) ≡ e.second
        → ((get_or (s.at first) j 0 ≡ e.first) × (get_or (s.at second) j 0 ≡ e.second)) ⊎ ((get_or (s.at first) j 0 ≡ e.second) × (get_or (s.at second) j 0 ≡ e.first))
    go true p q = inr (q, p)
    go false p q = inl (p, q)

-- ends in range
pub stands_in : (m n : ℕ) (s : Tables) (j : ℕ) (e : Edge) → Sound m n s → j < m → Stands s j e → (e.first < n) × (e.second < n)
stands_in m n s j e h lt w = ⊎_elim
    (λ p. (omega (arith, p.0, h.within first j lt), omega (arith, p.1, h.within second j lt)))
    (λ p. (omega (arith, p.1, h.within second j lt), omega (arith, p.0, h.within first j lt)))
    w.ends

-- ---- facing
module _ (m n : ℕ) (s : Tables) (h : Sound m n s) (f : ℕ) (lt : f < m) where
  -- the stamps of the ends of an edge that is turned
  back : turned s f ≡ true → turned (turn_at s f) f ≡ false
  unfolding turned turn_at store diff_set
  back e =
      let p : get_or (s.at stamp) (get_or (s.at first) f 0) 0 < get_or (s.at stamp) (get_or (s.at second) f 0) 0 = ltb-true (get_or (s.at stamp) (get_or (s.at first) f 0) 0) (get_or (s.at stamp) (get_or (s.at second) f 0) 0) e in
      rw (get_or-set_same (s.at first) f (get_or (s.at second) f 0) 0 (omega (arith, h.lengths first)), get_or-set_same (s.at second) f (get_or (s.at first) f 0) 0 (omega (arith, h.lengths second)))
      (le-ltb (get_or (s.at stamp) (get_or (s.at second) f 0) 0) (get_or (s.at stamp) (get_or (s.at first) f 0) 0) (omega arith))

  else_turned : (j : ℕ) → (j ≡ f → ⊥) → turned (turn_at s f) j ≡ turned s j
  unfolding turned turn_at store diff_set
  else_turned j ne = rw (get_or-set_other (s.at first) f j (get_or (s.at second) f 0) 0 ne, get_or-set_other (s.at second) f j (get_or (s.at first) f 0) 0 ne) refl

  swapped : edge_of (turn_at s f) f ≡ turn_if true (edge_of s f)
  unfolding turn_if edge_of
  swapped = turn_new m n s h f lt

  turn_now : turned s f ≡ true → (j : ℕ) → edge_now (turn_at s f) j ≡ edge_now s j
  turn_now e j = ⊎_elim
      (λ w. rw w (now_straight (turn_at s f) f (back e) ∙ swapped ∙ sym (now_turned s f e)))
      (λ w. now_by s j (turn_at s f) (else_turned j w) (turn_kept m n s h f lt j w))
      (eq_or_ne j f)

  pub face_now : (j : ℕ) → edge_now (face_at s f) j ≡ edge_now s j
  unfolding face_at
  face_now j = go (turned s f) refl
    where
      go : (t : Bool) → turned s f ≡ t → edge_now (cond t (turn_at s f) s) j ≡ edge_now s j
      go true e = turn_now e j
      go false e = refl

  pub face_straight : turned (face_at s f) f ≡ false
  unfolding face_at
  face_straight = go (turned s f) refl
    where
      go : (t : Bool) → turned s f ≡ t → turned (cond t (turn_at s f) s) f ≡ false
      go true e = back e
      go false e = e

-- ---- the newest base's edges stand from it
pub mate_now : (m b : ℕ) (s : Tables) (c q : ℕ) → Mate m b s c q → get_or (s.at stamp) c 0 < get_or (s.at stamp) b 0 → ((edge_now s q).first ≡ b) × ((edge_now s q).second ≡ c)
unfolding edge_of turn_if
mate_now m b s c q t lt = go t.ends
  where
    go : ((get_or (s.at first) q 0 ≡ b) × (get_or (s.at second) q 0 ≡ c)) ⊎ ((get_or (s.at first) q 0 ≡ c) × (get_or (s.at second) q 0 ≡ b)) → ((edge_now s q).first ≡ b) × ((edge_now s q).second ≡ c)
    go (inl e) =
        let no : turned s q ≡ false = unfold turned in rw (e.0, e.1) (le-ltb (get_or (s.at stamp) b 0) (get_or (s.at stamp) c 0) (omega arith)) in
        (ap (λ (x : Edge). x.first) (now_straight s q no) ∙ e.0, ap (λ (x : Edge). x.second) (now_straight s q no) ∙ e.1)
    go (inr e) =
        let yes : turned s q ≡ true = unfold turned in rw (e.0, e.1) (lt-ltb (get_or (s.at stamp) c 0) (get_or (s.at stamp) b 0) lt) in
        (ap (λ (x : Edge). x.first) (now_turned s q yes) ∙ e.1, ap (λ (x : Edge). x.second) (now_turned s q yes) ∙ e.0)

-- ---- a stamp greater than all others turns the node's edges to it
module _ (m n : ℕ) (s : Tables) (h : Sound m n s) (b k : ℕ) (hb : b < n) (newest : (x : ℕ) → get_or (s.at stamp) x 0 < k) where
  at_b : get_or ((store stamp s b k).at stamp) b 0 ≡ k
  unfolding store
  at_b = get_or-set_same (s.at stamp) b k 0 (omega (arith, h.lengths stamp))

  else : (x : ℕ) → (x ≡ b → ⊥) → get_or ((store stamp s b k).at stamp) x 0 ≡ get_or (s.at stamp) x 0
  unfolding store
  else x ne = get_or-set_other (s.at stamp) b x k 0 ne

  pub stamp_newest : (x : ℕ) → (x ≡ b → ⊥) → get_or ((store stamp s b k).at stamp) x 0 < get_or ((store stamp s b k).at stamp) b 0
  stamp_newest x ne = omega (arith, at_b, else x ne, newest x)

  pub stamp_most : (x : ℕ) → get_or ((store stamp s b k).at stamp) x 0 ≤ k
  stamp_most x = ⊎_elim (λ e. rw e (omega (arith, at_b))) (λ e. omega (arith, else x e, newest x)) (eq_or_ne x b)

  module _ (j : ℕ) (proper : get_or (s.at first) j 0 ≡ get_or (s.at second) j 0 → ⊥) where
    abbrev x : ℕ
    x = get_or (s.at first) j 0

    abbrev y : ℕ
    y = get_or (s.at second) j 0

    stored : edge_of (store stamp s b k) j ≡ edge_of s j
    unfolding edge_of store
    stored = refl

    turned_by_lem : turned (store stamp s b k) j ≡ ltb (get_or ((store stamp s b k).at stamp) x 0) (get_or ((store stamp s b k).at stamp) y 0)
    unfolding turned store
    turned_by_lem = refl

    second_b : y ≡ b → edge_now (store stamp s b k) j ≡ turn b (edge_now s j)
    unfolding edge_of turn_if
    second_b e =
        let far : x ≡ b → ⊥ = λ w. proper (w ∙ sym e) in
        let yes : turned (store stamp s b k) j ≡ true = turned_by_lem ∙ (rw e (lt-ltb (get_or ((store stamp s b k).at stamp) x 0) (get_or ((store stamp s b k).at stamp) b 0) (stamp_newest x far))) in
        now_turned (store stamp s b k) j yes ∙ ap (turn_if true) stored ∙ go far (turned s j) refl
      where
        go : (x ≡ b → ⊥) → (t : Bool) → turned s j ≡ t → turn_if true (edge_of s j) ≡ turn b (edge_now s j)
        go far true w = sym (ap (turn b) (now_turned s j w) ∙ turn_no b (turn_if true (edge_of s j)) far)
        go far false w = sym (ap (turn b) (now_straight s j w) ∙ turn_yes b (edge_of s j) e)

    first_b : x ≡ b → edge_now (store stamp s b k) j ≡ turn b (edge_now s j)
    unfolding edge_of turn_if
    first_b e =
        let far : y ≡ b → ⊥ = λ w. proper (e ∙ sym w) in
        let no : turned (store stamp s b k) j ≡ false = turned_by_lem ∙ (rw e (le-ltb (get_or ((store stamp s b k).at stamp) b 0) (get_or ((store stamp s b k).at stamp) y 0) (omega (arith, stamp_newest y far)))) in
        now_straight (store stamp s b k) j no ∙ stored ∙ go far (turned s j) refl
      where
        go : (y ≡ b → ⊥) → (t : Bool) → turned s j ≡ t → edge_of s j ≡ turn b (edge_now s j)
        go far true w = sym (ap (turn b) (now_turned s j w) ∙ turn_yes b (turn_if true (edge_of s j)) e ∙ if_twice (edge_of s j))
        go far false w = sym (ap (turn b) (now_straight s j w) ∙ turn_no b (edge_of s j) far)

    neither : (x ≡ b → ⊥) → (y ≡ b → ⊥) → edge_now (store stamp s b k) j ≡ turn b (edge_now s j)
    unfolding edge_of turn_if
    neither p q =
        let same : turned (store stamp s b k) j ≡ turned s j = turned_by_lem ∙ (rw (else x p, else y q) (unfold turned in refl)) in
        now_by s j (store stamp s b k) same stored ∙ go (turned s j) refl
      where
        go : (t : Bool) → turned s j ≡ t → edge_now s j ≡ turn b (edge_now s j)
        go true w = sym (turn_no b (edge_now s j) (λ r. p (sym (ap (λ (z : Edge). z.second) (now_turned s j w)) ∙ r)))
        go false w = sym (turn_no b (edge_now s j) (λ r. q (sym (ap (λ (z : Edge). z.second) (now_straight s j w)) ∙ r)))

    pub stamp_now : edge_now (store stamp s b k) j ≡ turn b (edge_now s j)
    stamp_now = ⊎_elim second_b (λ q. ⊎_elim first_b (λ p. neither p q) (eq_or_ne x b)) (eq_or_ne y b)

-- ---- which way edges stand after a step
pub absorb_turned : (s : Tables) (q f : ℕ) (x : Float) (j : ℕ) → turned (absorb_at s q f x) j ≡ turned s j
unfolding turned absorb_at hand_over store diff_set
absorb_turned s q f x j = refl

module _ (m n b : ℕ) (s : Tables) (h : Sound m n s) (f c : ℕ) (x : Float) (lt : f < m) where
  pub attach_turned : (j : ℕ) → (j ≡ f → ⊥) → turned (attach_at b s f c x) j ≡ turned s j
  unfolding turned attach_at store diff_set
  attach_turned j ne = rw (get_or-set_other (s.at first) f j b 0 ne, get_or-set_other (s.at second) f j c 0 ne) refl

  pub attach_straight : get_or (s.at stamp) c 0 < get_or (s.at stamp) b 0 → turned (attach_at b s f c x) f ≡ false
  unfolding turned attach_at store diff_set
  attach_straight p = rw (get_or-set_same (s.at first) f b 0 (omega (arith, h.lengths first)), get_or-set_same (s.at second) f c 0 (omega (arith, h.lengths second))) (le-ltb (get_or (s.at stamp) b 0) (get_or (s.at stamp) c 0) (omega arith))
