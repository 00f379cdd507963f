-- The winner tree, over plain values. Assumes nothing.
use mathlib.Core.Path.{◌≡◌, refl, sym, ap, ◌∙◌}
use mathlib.Core.Logic.{◌⊎◌, inl, inr, ⊎_elim}
use mathlib.Core.Bool.{Bool, true, false, cond}
use mathlib.Core.List.{List}
use Prim.Native.Nat.{ℕ, zero, suc, ◌+◌, ◌-◌, ◌*◌, ◌/◌, ◌≤◌, ◌<◌}
use native.Mathlib.Omega.{arith}
use lib.Dec.{ltb}
use lib.ListN.{length, get_or, set, take, drop, length-set}
use lib.Seq.{get_or-set_same, get_or-set_other, take-set-le, drop-set-lt}
use borrow.Author.Tests.{ltb-true, ltb-false}
use Rattle.lists.specs.Inside.Seg.{seg, put}
use Rattle.lists.specs.Seq.{upto}
use Rattle.lists.proofs.SegLaws.{lt_or_le, eq_or_ne, length-put, get_or-put_in, seg-put_below, drop-put_above}
use Rattle.lists.proofs.SeqLaws.{upto-length, upto_at}
use Rattle.memory.specs.Inside.Tree.{pick, winner, Game, up, On, Beats, Won, Played, Dirty, Tree, Built, Weighed, Best}

-- ---- which is better
beats_refl : (w : List ℕ) (x : ℕ) → Beats w x x
beats_refl w x = record { heavy = omega arith; early = λ h. omega arith }

beats_trans : (w : List ℕ) (x y z : ℕ) → Beats w x y → Beats w y z → Beats w x z
beats_trans w x y z p q = record { heavy = omega (arith, p.heavy, q.heavy); early = λ h. ⊎_elim (λ k. omega (arith, p.heavy, q.early k)) (λ k. omega (arith, p.early (omega arith), q.heavy)) (lt_or_le z y) }

record Picked (w : List ℕ) (i j r : ℕ) : Type 0 where
  pub one : (r ≡ i) ⊎ (r ≡ j)
  pub over_i : Beats w r i
  pub over_j : Beats w r j

picked : (w : List ℕ) (i j : ℕ) → Picked w i j (pick (get_or w i 0) (get_or w j 0) i j)
unfolding pick
picked w i j = go (ltb (get_or w j 0) (get_or w i 0)) refl (ltb (get_or w i 0) (get_or w j 0)) refl (ltb i j) refl
  where
    go : (x : Bool) → ltb (get_or w j 0) (get_or w i 0) ≡ x → (y : Bool) → ltb (get_or w i 0) (get_or w j 0) ≡ y → (z : Bool) → ltb i j ≡ z → Picked w i j (cond x i (cond y j (cond z i j)))
    go true p y q z r = record { one = inl refl; over_i = beats_refl w i; over_j = record { heavy = omega (arith, ltb-true (get_or w j 0) (get_or w i 0) p); early = λ h. ltb-true (get_or w j 0) (get_or w i 0) p } }
    go false p true q z r = record { one = inr refl; over_i = record { heavy = omega (arith, ltb-true (get_or w i 0) (get_or w j 0) q); early = λ h. ltb-true (get_or w i 0) (get_or w j 0) q }; over_j = beats_refl w j }
    go false p false q true r = record { one = inl refl; over_i = beats_refl w i; over_j = record { heavy = ltb-false (get_or w i 0) (get_or w j 0) q; early = λ h. absurd (omega (arith, ltb-true i j r)) } }
    go false p false q false r = record { one = inr refl; over_i = record { heavy = ltb-false (get_or w j 0) (get_or w i 0) p; early = λ h. absurd (omega (arith, ltb-false i j r, h)) }; over_j = beats_refl w j }

-- ---- ways to the root
up_suc : (t x : ℕ) → up (suc t) x ≡ up t x / 2
unfolding up
up_suc zero x = refl
up_suc (suc t) x = up_suc t (x / 2)

up_zero : (t : ℕ) → up t 0 ≡ 0
unfolding up
up_zero zero = refl
up_zero (suc t) = up_zero t

up_le : (t x : ℕ) → up t x ≤ x
unfolding up
up_le zero x = omega arith
up_le (suc t) x = omega (arith, up_le t (x / 2))

on_higher : (x k j : ℕ) → On x k → k / 2 ≡ j → On x j
on_higher x k j o e = (suc o.0, up_suc o.0 x ∙ ap (λ (y : ℕ). y / 2) o.1 ∙ e)

-- from x itself or from the place above it
on_split : (x j : ℕ) → On x j → (x ≡ j) ⊎ On (x / 2) j
unfolding up
on_split x j o = go o.0 o.1
  where
    go : (t : ℕ) → up t x ≡ j → (x ≡ j) ⊎ On (x / 2) j
    go zero e = inl e
    go (suc t) e = inr (t, e)

reach : (f x : ℕ) → x ≤ f → 1 ≤ x → On x 1
unfolding up
reach zero x h k = absurd (omega arith)
reach (suc f) x h k = ⊎_elim (λ p. (0, omega arith)) (λ p. let r : On (x / 2) 1 = reach f (x / 2) (omega arith) (omega arith) in (suc r.0, r.1)) (lt_or_le x 2)

off_zero : (j : ℕ) → 1 ≤ j → On 0 j → ⊥
off_zero j h o = omega (arith, up_zero o.0, o.1)

-- ---- one game
module _ (m : ℕ) (w : List ℕ) (lo dirty k : ℕ) (h : Played m w lo dirty) (k-lo : lo ≤ 2 * k) (k-pos : 1 ≤ k) (k_lt : k < m) where
  abbrev v : ℕ
  v = winner m w k

  game : Picked w (get_or w (m + 2 * k) 0) (get_or w (m + 2 * k + 1) 0) v
  unfolding winner
  game = picked w (get_or w (m + 2 * k) 0) (get_or w (m + 2 * k + 1) 0)

  kept : (j : ℕ) → (j ≡ m + k → ⊥) → get_or (set w (m + k) v) j 0 ≡ get_or w j 0
  kept j n = get_or-set_other w (m + k) j v 0 n

  here : get_or (set w (m + k) v) (m + k) 0 ≡ v
  here = get_or-set_same w (m + k) v 0 (omega (arith, h.room))

  left_small : get_or w (m + 2 * k) 0 < m
  left_small = h.small (2 * k) k-lo (omega arith) (omega arith)

  right_small : get_or w (m + 2 * k + 1) 0 < m
  right_small = let z : m + (2 * k + 1) ≡ m + 2 * k + 1 = omega arith in rw z at (h.small (2 * k + 1) (omega arith) (omega arith) (omega arith))

  right_below : On (m + get_or w (m + 2 * k + 1) 0) (2 * k + 1)
  right_below = let z : m + (2 * k + 1) ≡ m + 2 * k + 1 = omega arith in rw z at (h.below (2 * k + 1) (omega arith) (omega arith) (omega arith))

  v_small : v < m
  v_small = ⊎_elim (λ p. omega (arith, left_small)) (λ p. omega (arith, right_small)) game.one

  v_below : On (m + v) k
  v_below = ⊎_elim
      (λ p. rw p (on_higher _ (2 * k) k (h.below (2 * k) k-lo (omega arith) (omega arith)) (omega arith)))
      (λ p. rw p (on_higher _ (2 * k + 1) k right_below (omega arith)))
      game.one

  beats_kept : (x y : ℕ) → x < m → y < m → Beats w x y → Beats (set w (m + k) v) x y
  beats_kept x y p q b = record {
    heavy = omega (arith, kept x (λ r. omega arith), kept y (λ r. omega arith), b.heavy);
    early = λ l. omega (arith, kept x (λ r. omega arith), kept y (λ r. omega arith), b.early l);
  }

  -- place k itself
  won_here : Won m (set w (m + k) v) k
  won_here = record {
    left = rw (here, kept (m + 2 * k) (λ r. omega arith)) (beats_kept v _ v_small left_small game.over_i);
    right = rw (here, kept (m + 2 * k + 1) (λ r. omega arith)) (beats_kept v _ v_small right_small game.over_j);
  }

  -- a place that is neither k nor above it
  won_else : (j : ℕ) → lo ≤ j → 1 ≤ j → j < m → (j ≡ k → ⊥) → (k / 2 ≡ j → ⊥) → Won m w j → Won m (set w (m + k) v) j
  won_else j p q r n o b =
      let z : m + (2 * j + 1) ≡ m + 2 * j + 1 = omega arith in
      let s : get_or w (m + 2 * j + 1) 0 < m = rw z at (h.small (2 * j + 1) (omega arith) (omega arith) (omega arith)) in
      record {
        left = rw (kept (m + j) (λ t. n (omega arith)), kept (m + 2 * j) (λ t. o (omega arith))) (beats_kept _ _ (h.small j p q (omega arith)) (h.small (2 * j) (omega arith) (omega arith) (omega arith)) b.left);
        right = rw (kept (m + j) (λ t. n (omega arith)), kept (m + 2 * j + 1) (λ t. o (omega arith))) (beats_kept _ _ (h.small j p q (omega arith)) s b.right);
      }

  leaf_kept : (x : ℕ) → x < m → get_or (set w (m + k) v) (m + (m + x)) 0 ≡ x
  leaf_kept x p = kept (m + (m + x)) (λ r. omega arith) ∙ h.leaf x p

-- a game on the way up
play_step : (m : ℕ) (w : List ℕ) (k : ℕ) → Dirty m w k → 1 ≤ k → k < m → Dirty m (set w (m + k) (winner m w k)) (k / 2)
unfolding up
play_step m w k h p q = record {
  room = omega (arith, h.room, length-set w (m + k) (winner m w k));
  leaf = leaf_kept m w 1 k k h (omega arith) p q;
  small = λ j a b c. ⊎_elim (λ t. rw (t, here m w 1 k k h (omega arith) p q) (v_small m w 1 k k h (omega arith) p q)) (λ t. omega (arith, kept m w 1 k k h (omega arith) p q (m + j) (λ r. t (omega arith)), h.small j a b c)) (eq_or_ne j k);
  below = λ j a b c. ⊎_elim (λ t. rw (t, here m w 1 k k h (omega arith) p q) (v_below m w 1 k k h (omega arith) p q)) (λ t. rw (kept m w 1 k k h (omega arith) p q (m + j) (λ r. t (omega arith))) (h.below j a b c)) (eq_or_ne j k);
  won = λ j a b c o. ⊎_elim
      (λ t. rw t (won_here m w 1 k k h (omega arith) p q))
      (λ t. won_else m w 1 k k h (omega arith) p q j a b c t (λ s. o (0, s)) (h.won j a b c (λ s. ⊎_elim (λ y. t (sym y)) o (on_split k j s))))
      (eq_or_ne j k);
}

-- a game while the tree is built
build_step : (m : ℕ) (w : List ℕ) (k : ℕ) → Played m w (k + 1) 0 → 1 ≤ k → k < m → Played m (set w (m + k) (winner m w k)) k 0
build_step m w k h p q = record {
  room = omega (arith, h.room, length-set w (m + k) (winner m w k));
  leaf = leaf_kept m w (k + 1) 0 k h (omega arith) p q;
  small = λ j a b c. ⊎_elim (λ t. rw (t, here m w (k + 1) 0 k h (omega arith) p q) (v_small m w (k + 1) 0 k h (omega arith) p q)) (λ t. omega (arith, kept m w (k + 1) 0 k h (omega arith) p q (m + j) (λ r. t (omega arith)), h.small j (omega arith) b c)) (eq_or_ne j k);
  below = λ j a b c. ⊎_elim (λ t. rw (t, here m w (k + 1) 0 k h (omega arith) p q) (v_below m w (k + 1) 0 k h (omega arith) p q)) (λ t. rw (kept m w (k + 1) 0 k h (omega arith) p q (m + j) (λ r. t (omega arith))) (h.below j (omega arith) b c)) (eq_or_ne j k);
  won = λ j a b c o. ⊎_elim
      (λ t. rw t (won_here m w (k + 1) 0 k h (omega arith) p q))
      (λ t. won_else m w (k + 1) 0 k h (omega arith) p q j (omega arith) b c t (λ s. omega arith) (h.won j (omega arith) b c o))
      (eq_or_ne j k);
}

-- a store of a weight
pub weight_set : (m : ℕ) (w : List ℕ) (x v : ℕ) → Tree m w → x < m → Dirty m (set w x v) ((m + x) / 2)
weight_set m w x v h lt = record {
  room = omega (arith, h.room, length-set w x v);
  leaf = λ j p. kept (m + (m + j)) (omega arith) ∙ h.leaf j p;
  small = λ k a b c. omega (arith, kept (m + k) (omega arith), h.small k a b c);
  below = λ k a b c. rw (kept (m + k) (omega arith)) (h.below k a b c);
  won = λ k a b c o.
      let z : m + (2 * k + 1) ≡ m + 2 * k + 1 = omega arith in
      let s : get_or w (m + 2 * k + 1) 0 < m = rw z at (h.small (2 * k + 1) (omega arith) (omega arith) (omega arith)) in
      let b₂ : On (m + get_or w (m + 2 * k + 1) 0) (2 * k + 1) = rw z at (h.below (2 * k + 1) (omega arith) (omega arith) (omega arith)) in
      let g : Won m w k = h.won k a b c (off_zero k b) in
      let up₁ : (y : ℕ) → On (m + y) k → y ≡ x → ⊥ = λ y r e. ⊎_elim (λ t. omega arith) (λ t. o (rw e at t)) (on_split (m + y) k r) in
      let n₀ : get_or w (m + k) 0 ≡ x → ⊥ = up₁ _ (h.below k a b (omega arith)) in
      let n₁ : get_or w (m + 2 * k) 0 ≡ x → ⊥ = up₁ _ (on_higher _ (2 * k) k (h.below (2 * k) (omega arith) (omega arith) (omega arith)) (omega arith)) in
      let n₂ : get_or w (m + 2 * k + 1) 0 ≡ x → ⊥ = up₁ _ (on_higher _ (2 * k + 1) k b₂ (omega arith)) in
      record {
        left = rw (kept (m + k) (omega arith), kept (m + 2 * k) (omega arith)) (beats_kept _ _ n₀ n₁ g.left);
        right = rw (kept (m + k) (omega arith), kept (m + 2 * k + 1) (omega arith)) (beats_kept _ _ n₀ n₂ g.right);
      };
}
  where
    kept : (j : ℕ) → m ≤ j → get_or (set w x v) j 0 ≡ get_or w j 0
    kept j p = get_or-set_other w x j v 0 (λ r. omega arith)

    beats_kept : (a b : ℕ) → (a ≡ x → ⊥) → (b ≡ x → ⊥) → Beats w a b → Beats (set w x v) a b
    beats_kept a b p q g = record {
      heavy = omega (arith, get_or-set_other w x a v 0 p, get_or-set_other w x b v 0 q, g.heavy);
      early = λ l. omega (arith, get_or-set_other w x a v 0 p, get_or-set_other w x b v 0 q, g.early l);
    }

-- the winner at a place beats each leaf below it
place_beats : (m : ℕ) (w : List ℕ) → Tree m w → (x : ℕ) → x < m → (t : ℕ) → 1 ≤ up t (m + x) → Beats w (get_or w (m + up t (m + x)) 0) x
place_beats m w h x lt zero p = unfold up in rw (h.leaf x lt) (beats_refl w x)
place_beats m w h x lt (suc t) p = rw (up_suc t (m + x)) (go (up t (m + x)) (up t (m + x) / 2) refl (up_le t (m + x)) (omega (arith, up_suc t (m + x))) (place_beats m w h x lt t (omega (arith, up_suc t (m + x)))))
  where
    go : (y k : ℕ) → y / 2 ≡ k → y ≤ m + x → 1 ≤ k → Beats w (get_or w (m + y) 0) x → Beats w (get_or w (m + k) 0) x
    go y k e le pos ih =
        let won : Won m w k = h.won k pos pos (omega arith) (off_zero k pos) in
        ⊎_elim
        (λ q. let z : m + y ≡ m + 2 * k = omega arith in beats_trans w _ _ x won.left (rw z at ih))
        (λ q. let z : m + y ≡ m + 2 * k + 1 = omega arith in beats_trans w _ _ x won.right (rw z at ih))
        (lt_or_le y (2 * k + 1))

pub best_of : (m : ℕ) (w : List ℕ) → Tree m w → 0 < m → Best m w (get_or w (m + 1) 0)
best_of m w h p = record {
  within = h.small 1 (omega arith) (omega arith) (omega arith);
  beats = λ j q. let r : On (m + j) 1 = reach (m + j) (m + j) (omega arith) (omega arith) in rw r.1 at (place_beats m w h j q r.0 (omega (arith, r.1)));
}

-- ---- turns of the loops
pub game_in : (m : ℕ) (w : List ℕ) (lo dirty k : ℕ) → Played m w lo dirty → lo ≤ 2 * k → 1 ≤ k → k < m → Game m w k
game_in m w lo dirty k h a b c =
    let z : m + (2 * k + 1) ≡ m + 2 * k + 1 = omega arith in
    let s : get_or w (m + 2 * k + 1) 0 < m = rw z at (h.small (2 * k + 1) (omega arith) (omega arith) (omega arith)) in
    record {
      left_in = omega (arith, h.room);
      i_lt = omega (arith, h.room, h.small (2 * k) (omega arith) (omega arith) (omega arith));
      j_lt = omega (arith, h.room);
      k_in = omega (arith, h.room);
    }

pub record Playing (m : ℕ) (w₀ w : List ℕ) (lo dirty : ℕ) : Type 0 where
  pub weights : take m w ≡ take m w₀
  pub rest : drop (3 * m) w ≡ drop (3 * m) w₀
  pub long : length w ≡ length w₀
  pub played : Played m w lo dirty

outside : (m : ℕ) (w₀ w : List ℕ) (lo dirty k v : ℕ) (lo' dirty' : ℕ) → Playing m w₀ w lo dirty → k < m → Played m (set w (m + k) v) lo' dirty' → Playing m w₀ (set w (m + k) v) lo' dirty'
outside m w₀ w lo dirty k v lo' dirty' p lt h = record {
  weights = take-set-le m w (m + k) v (omega arith) ∙ p.weights;
  rest = drop-set-lt (3 * m) w (m + k) v (omega arith) ∙ p.rest;
  long = length-set w (m + k) v ∙ p.long;
  played = h;
}

pub play_turn : (m : ℕ) (w₀ w : List ℕ) (k : ℕ) → Playing m w₀ w 1 k → 0 < k → k < m → Playing m w₀ (set w (m + k) (winner m w k)) 1 (k / 2)
play_turn m w₀ w k p a b = outside m w₀ w 1 k k (winner m w k) 1 (k / 2) p b (play_step m w k p.played a b)

-- the countdown has k: the game is at k - 1
pub build_turn : (m : ℕ) (w₀ w : List ℕ) (k : ℕ) → Playing m w₀ w k 0 → 1 < k → k ≤ m → Playing m w₀ (set w (m + (k - 1)) (winner m w (k - 1))) (k - 1) 0
build_turn m w₀ w k p a b =
    let z : k ≡ k - 1 + 1 = omega arith in
    outside m w₀ w k 0 (k - 1) (winner m w (k - 1)) (k - 1) 0 p (omega arith) (build_step m w (k - 1) (rw z at p.played) (omega arith) (omega arith))

pub play_end : (m : ℕ) (w₀ w : List ℕ) (k : ℕ) → Playing m w₀ w 1 k → k ≤ 0 → Weighed m w₀ w
play_end m w₀ w k p h = let z : k ≡ 0 = omega arith in record { weights = p.weights; rest = p.rest; long = p.long; tree = rw z at p.played }

build_end : (m : ℕ) (w₀ w : List ℕ) (k : ℕ) → Playing m w₀ w k 0 → k ≤ 1 → Weighed m w₀ w
build_end m w₀ w k p h = record {
  weights = p.weights;
  rest = p.rest;
  long = p.long;
  tree = record {
    room = p.played.room;
    leaf = p.played.leaf;
    small = λ j a b c. p.played.small j (omega arith) b c;
    below = λ j a b c. p.played.below j (omega arith) b c;
    won = λ j a b c o. p.played.won j (omega arith) b c o;
  };
}

-- the leaves, numbered
pub leaves_are : (m : ℕ) (w₀ w : List ℕ) → 3 * m ≤ length w₀ → w ≡ put w₀ (m + m) (upto m 0) → Built m m w₀ w
unfolding up
leaves_are m w₀ w r e = rw e (record {
  weights = unfold seg in seg-put_below w₀ (m + m) (upto m 0) 0 m (omega arith);
  rest = drop-put_above w₀ (m + m) (upto m 0) (3 * m) (omega (arith, upto-length m 0));
  long = length-put w₀ (m + m) (upto m 0);
  tree = record {
    room = omega (arith, length-put w₀ (m + m) (upto m 0));
    leaf = λ x h. let z : m + (m + x) ≡ m + m + x = omega arith in rw z (leaf x h);
    small = λ k a b c. let z : m + k ≡ m + m + (k - m) = omega arith in rw z (omega (arith, leaf (k - m) (omega arith)));
    below = λ k a b c. let z : m + k ≡ m + m + (k - m) = omega arith in (0, omega (arith, leaf (k - m) (omega arith), ap (λ (x : ℕ). get_or (put w₀ (m + m) (upto m 0)) x 0) z));
    won = λ k a b c o. absurd (omega arith);
  };
})
  where
    leaf : (x : ℕ) → x < m → get_or (put w₀ (m + m) (upto m 0)) (m + m + x) 0 ≡ x
    leaf x h = get_or-put_in w₀ (m + m) (upto m 0) x 0 (omega (arith, upto-length m 0)) (omega arith) ∙ upto_at m 0 x h ∙ omega arith

pub build_start : (m : ℕ) (w₀ w : List ℕ) → Built m m w₀ w → Playing m w w m 0
build_start m w₀ w b = record { weights = refl; rest = refl; long = refl; played = b.tree }

pub build_all : (m : ℕ) (w₀ w₁ w : List ℕ) (k : ℕ) → Built m m w₀ w₁ → Playing m w₁ w k 0 → k ≤ 1 → Weighed m w₀ w
build_all m w₀ w₁ w k b p h = let e : Weighed m w₁ w = build_end m w₁ w k p h in
    record { weights = e.weights ∙ b.weights; rest = e.rest ∙ b.rest; long = e.long ∙ b.long; tree = e.tree }

-- a tree read alike is a tree
pub played_like : (m : ℕ) (u w : List ℕ) (lo dirty : ℕ) → length u ≡ length w → ((i : ℕ) → i < 3 * m → get_or u i 0 ≡ get_or w i 0) → Played m w lo dirty → Played m u lo dirty
played_like m u w lo dirty l e h = record {
  room = omega (arith, h.room);
  leaf = λ x p. e (m + (m + x)) (omega arith) ∙ h.leaf x p;
  small = λ k a b c. omega (arith, e (m + k) (omega arith), h.small k a b c);
  below = λ k a b c. rw (e (m + k) (omega arith)) (h.below k a b c);
  won = λ k a b c o.
      let z : m + (2 * k + 1) ≡ m + 2 * k + 1 = omega arith in
      let s₀ : get_or w (m + k) 0 < m = h.small k a b (omega arith) in
      let s₁ : get_or w (m + 2 * k) 0 < m = h.small (2 * k) (omega arith) (omega arith) (omega arith) in
      let s₂ : get_or w (m + 2 * k + 1) 0 < m = rw z at (h.small (2 * k + 1) (omega arith) (omega arith) (omega arith)) in
      let g : Won m w k = h.won k a b c o in
      record {
        left = rw (e (m + k) (omega arith), e (m + 2 * k) (omega arith)) (beats_like _ _ s₀ s₁ g.left);
        right = rw (e (m + k) (omega arith), e (m + 2 * k + 1) (omega arith)) (beats_like _ _ s₀ s₂ g.right);
      };
}
  where
    beats_like : (a b : ℕ) → a < m → b < m → Beats w a b → Beats u a b
    beats_like a b p q g = record {
      heavy = omega (arith, e a (omega arith), e b (omega arith), g.heavy);
      early = λ t. omega (arith, e a (omega arith), e b (omega arith), g.early t);
    }

-- a store past the tree
pub tree_set : (m : ℕ) (w : List ℕ) (j v : ℕ) → 3 * m ≤ j → Tree m w → Tree m (set w j v)
tree_set m w j v p h = played_like m (set w j v) w 1 0 (length-set w j v) (λ i q. get_or-set_other w j i v 0 (λ r. omega arith)) h
