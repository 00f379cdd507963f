-- The edges that the tables hold after each step. Assumes nothing.
use mathlib.Core.Path.{◌≡◌, refl, sym, ap, ◌∙◌, subst}
use mathlib.Core.Bool.{Bool, true, false, not, true≢false}
use mathlib.Core.List.{List}
use Prim.Native.Nat.{ℕ, ◌+◌, ◌<◌}
use native.Mathlib.Omega.{arith}
use lib.Dec.{eqb}
use lib.Ieee.{nan, Float, neg, binary32, add}
use lib.ListN.{length, get_or, set, length-set}
use lib.Seq.{get_or-set_same, get_or-set_other}
use borrow.Author.Tests.{eqb-true, eq-eqb, ne_eqb}
use Rattle.network.specs.Network.{Edge}
use Rattle.merge.specs.Inside.Tables.{Tables, Sound, store, diff_set}
use Rattle.merge.specs.Inside.Table.{weight, first, second, bridged}
use Rattle.merge.specs.Inside.Steps.{turn_at, hand_over, absorb_at, attach_at, join_edge, shift, moved_edge}
use Rattle.network.specs.Inside.Net.{edge_of, Like}

pub like_of : (x y : Edge) → x ≡ y → Like x y
like_of x y e = record { live = ap (λ (z : Edge). z.live) e; whole = λ l. e }

pub like_dead : (x y : Edge) → x.live ≡ false → y.live ≡ false → Like x y
like_dead x y p q = record { live = p ∙ sym q; whole = λ l. absurd (true≢false (sym l ∙ q)) }

pub like_then : (x y z : Edge) → Like x y → y ≡ z → Like x z
like_then x y z h e = subst (Like x) e h

pub like_at : (x y z : Edge) → x ≡ y → Like y z → Like x z
like_at x y z e h = subst (λ (t : Edge). Like t z) (sym e) h

-- ---- live and dead words
pub live_word : (s : Tables) (j : ℕ) → (edge_of s j).live ≡ true → get_or (s.at weight) j 0 ≡ 0 → ⊥
unfolding edge_of
live_word s j h e = true≢false (sym h ∙ (rw (eq-eqb (get_or (s.at weight) j 0) 0 e) refl))

pub word_live : (s : Tables) (j : ℕ) → (get_or (s.at weight) j 0 ≡ 0 → ⊥) → (edge_of s j).live ≡ true
unfolding edge_of
word_live s j h = rw (ne_eqb (get_or (s.at weight) j 0) 0 h) refl

pub dead_word : (s : Tables) (j : ℕ) → (edge_of s j).live ≡ false → get_or (s.at weight) j 0 ≡ 0
unfolding edge_of
dead_word s j h = go (eqb (get_or (s.at weight) j 0) 0) refl h
  where
    go : (t : Bool) → eqb (get_or (s.at weight) j 0) 0 ≡ t → not t ≡ false → get_or (s.at weight) j 0 ≡ 0
    go true e r = eqb-true (get_or (s.at weight) j 0) 0 e
    go false e r = absurd (true≢false r)

pub word_dead : (s : Tables) (j : ℕ) → get_or (s.at weight) j 0 ≡ 0 → (edge_of s j).live ≡ false
unfolding edge_of
word_dead s j h = rw (eq-eqb (get_or (s.at weight) j 0) 0 h) refl

-- an edge by its words
pub record Words (s : Tables) (j : ℕ) (e : Edge) : Type 0 where
  pub some : get_or (s.at weight) j 0 ≡ 0 → ⊥
  pub first_is_lem : get_or (s.at first) j 0 ≡ e.first
  pub second_is_lem : get_or (s.at second) j 0 ≡ e.second
  pub weight_is : get_or (s.at weight) j 0 ≡ e.link.weight
  pub diff_is : get_or s.diff j nan ≡ e.link.diff
  pub bridged_is : get_or (s.at bridged) j 0 ≡ e.link.bridged

pub words : (s : Tables) (j : ℕ) (e : Edge) → edge_of s j ≡ e → e.live ≡ true → Words s j e
words s j e h l = record {
  some = live_word s j (ap (λ (x : Edge). x.live) h ∙ l);
  first_is_lem = unfold edge_of in ap (λ (x : Edge). x.first) h;
  second_is_lem = unfold edge_of in ap (λ (x : Edge). x.second) h;
  weight_is = unfold edge_of in ap (λ (x : Edge). x.link.weight) h;
  diff_is = unfold edge_of in ap (λ (x : Edge). x.link.diff) h;
  bridged_is = unfold edge_of in ap (λ (x : Edge). x.link.bridged) h;
}

-- ---- which step moved_edge is
module _ (m b v g : ℕ) (s : Tables) (f : ℕ) where
  pub moved_none : get_or (s.at weight) f 0 ≡ 0 → moved_edge m b v g s f ≡ s
  unfolding moved_edge
  moved_none e = rw (eq-eqb (get_or (s.at weight) f 0) 0 e) refl

  module _ (live : get_or (s.at weight) f 0 ≡ 0 → ⊥) where
    pub moved_else : (get_or (s.at first) f 0 ≡ v → ⊥) → (get_or (s.at second) f 0 ≡ v → ⊥) → moved_edge m b v g s f ≡ s
    unfolding moved_edge
    moved_else p q = rw (ne_eqb (get_or (s.at weight) f 0) 0 live, ne_eqb (get_or (s.at first) f 0) v p, ne_eqb (get_or (s.at second) f 0) v q) refl

    pub moved_one : get_or (s.at first) f 0 ≡ v → moved_edge m b v g s f ≡ join_edge m b s f (get_or (s.at second) f 0) (shift false g (get_or (s.at weight) f 0) (get_or s.diff f nan))
    unfolding moved_edge
    moved_one p = rw (ne_eqb (get_or (s.at weight) f 0) 0 live, eq-eqb (get_or (s.at first) f 0) v p) refl

    pub moved_two : (get_or (s.at first) f 0 ≡ v → ⊥) → get_or (s.at second) f 0 ≡ v → moved_edge m b v g s f ≡ join_edge m b s f (get_or (s.at first) f 0) (neg (shift true g (get_or (s.at weight) f 0) (get_or s.diff f nan)))
    unfolding moved_edge
    moved_two p q = rw (ne_eqb (get_or (s.at weight) f 0) 0 live, ne_eqb (get_or (s.at first) f 0) v p, eq-eqb (get_or (s.at second) f 0) v q) refl

-- ---- a table that edge f hands over to edge q
abbrev over : List ℕ → ℕ → ℕ → List ℕ
over l q f = set (set l q (get_or l q 0 + get_or l f 0)) f 0

module _ (l : List ℕ) (q f : ℕ) where
  over_gone : f < length l → get_or (over l q f) f 0 ≡ 0
  over_gone h = get_or-set_same (set l q (get_or l q 0 + get_or l f 0)) f 0 0 (omega (arith, length-set l q (get_or l q 0 + get_or l f 0)))

  over_kept : (j : ℕ) → (j ≡ q → ⊥) → (j ≡ f → ⊥) → get_or (over l q f) j 0 ≡ get_or l j 0
  over_kept j a c = get_or-set_other (set l q (get_or l q 0 + get_or l f 0)) f j 0 0 c ∙ get_or-set_other l q j (get_or l q 0 + get_or l f 0) 0 a

  over_grown : q < length l → (q ≡ f → ⊥) → get_or (over l q f) q 0 ≡ get_or l q 0 + get_or l f 0
  over_grown h ne = get_or-set_other (set l q (get_or l q 0 + get_or l f 0)) f q 0 0 ne ∙ get_or-set_same l q (get_or l q 0 + get_or l f 0) 0 h

-- ---- the edges after a step
module _ (m n : ℕ) (s : Tables) (h : Sound m n s) where
  module _ (q f : ℕ) (x : Float) (hq : q < m) (hf : f < m) (ne : q ≡ f → ⊥) where
    pub absorb_gone : (edge_of (absorb_at s q f x) f).live ≡ false
    unfolding absorb_at hand_over store diff_set
    absorb_gone = word_dead (absorb_at s q f x) f (over_gone (s.at weight) q f (omega (arith, h.lengths weight)))

    pub absorb_kept : (j : ℕ) → (j ≡ q → ⊥) → (j ≡ f → ⊥) → edge_of (absorb_at s q f x) j ≡ edge_of s j
    unfolding edge_of absorb_at hand_over store diff_set
    absorb_kept j a c = rw (over_kept (s.at weight) q f j a c, over_kept (s.at bridged) q f j a c, get_or-set_other s.diff q j (add binary32 (get_or s.diff q nan) x) nan a) refl

    pub absorb_grown : edge_of (absorb_at s q f x) q ≡ record {
      num = q;
      live = not (eqb (get_or (s.at weight) q 0 + get_or (s.at weight) f 0) 0);
      first = get_or (s.at first) q 0;
      second = get_or (s.at second) q 0;
      link = record { weight = get_or (s.at weight) q 0 + get_or (s.at weight) f 0; diff = add binary32 (get_or s.diff q nan) x; bridged = get_or (s.at bridged) q 0 + get_or (s.at bridged) f 0 };
    }
    unfolding edge_of absorb_at hand_over store diff_set
    absorb_grown = rw (over_grown (s.at weight) q f (omega (arith, h.lengths weight)) ne, over_grown (s.at bridged) q f (omega (arith, h.lengths bridged)) ne, get_or-set_same s.diff q (add binary32 (get_or s.diff q nan) x) nan (omega (arith, h.l_diff))) refl

  module _ (b f c : ℕ) (x : Float) (hf : f < m) where
    pub attach_kept : (j : ℕ) → (j ≡ f → ⊥) → edge_of (attach_at b s f c x) j ≡ edge_of s j
    unfolding edge_of attach_at store diff_set
    attach_kept j a = rw (get_or-set_other (s.at first) f j b 0 a, get_or-set_other (s.at second) f j c 0 a, get_or-set_other s.diff f j x nan a) refl

    pub attach_new : edge_of (attach_at b s f c x) f ≡ record { num = f; live = (edge_of s f).live; first = b; second = c; link = record { weight = get_or (s.at weight) f 0; diff = x; bridged = get_or (s.at bridged) f 0 } }
    unfolding edge_of attach_at store diff_set
    attach_new = rw (get_or-set_same (s.at first) f b 0 (omega (arith, h.lengths first)), get_or-set_same (s.at second) f c 0 (omega (arith, h.lengths second)), get_or-set_same s.diff f x nan (omega (arith, h.l_diff))) refl

  -- a turned edge
  module _ (f : ℕ) (hf : f < m) where
    pub turn_kept : (j : ℕ) → (j ≡ f → ⊥) → edge_of (turn_at s f) j ≡ edge_of s j
    unfolding edge_of turn_at store diff_set
    turn_kept j a = rw (get_or-set_other (s.at first) f j (get_or (s.at second) f 0) 0 a, get_or-set_other (s.at second) f j (get_or (s.at first) f 0) 0 a, get_or-set_other s.diff f j (neg (get_or s.diff f nan)) nan a) refl

    pub turn_new : edge_of (turn_at s f) f ≡ record { num = f; live = (edge_of s f).live; first = get_or (s.at second) f 0; second = get_or (s.at first) f 0; link = record { weight = get_or (s.at weight) f 0; diff = neg (get_or s.diff f nan); bridged = get_or (s.at bridged) f 0 } }
    unfolding edge_of turn_at store diff_set
    turn_new = rw (get_or-set_same (s.at first) f (get_or (s.at second) f 0) 0 (omega (arith, h.lengths first)), get_or-set_same (s.at second) f (get_or (s.at first) f 0) 0 (omega (arith, h.lengths second)), get_or-set_same s.diff f (neg (get_or s.diff f nan)) nan (omega (arith, h.l_diff))) refl
