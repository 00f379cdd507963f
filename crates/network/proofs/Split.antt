-- A slot that does not lead its circle is taken out of it, and becomes a circle of its own. Assumes nothing.
use mathlib.Core.Path.{◌≡◌, refl, sym, ap, ◌∙◌, subst}
use mathlib.Core.Logic.{⊎_elim}
use mathlib.Core.List.{List}
use Prim.Native.Nat.{ℕ, zero, suc, ◌+◌, ◌-◌, ◌≤◌, ◌<◌}
use native.Mathlib.Omega.{arith}
use lib.ListN.{get_or}
use borrow.Author.Tests.{lt-ltb, le-ltb}
use Rattle.merge.specs.Inside.Chain.{cur, Chains, own_split, pos_split, len_split}
use Rattle.merge.proofs.Bias.{lt_or_le}
use Rattle.merge.proofs.SoundSet.{eq_or_ne}
use Rattle.network.proofs.Moved.{same_no, same_yes}
use Rattle.network.proofs.Circles.{cur_suc}
use Rattle.lists.proofs.SeqLaws.{eqb_refl}

-- owners, places and lengths afterwards
pub split_here : (own : ℕ → ℕ) (x : ℕ) → own_split own x x ≡ x
unfolding own_split
split_here own x = rw (eqb_refl x) refl

pub split_own : (own : ℕ → ℕ) (x s : ℕ) → (s ≡ x → ⊥) → own_split own x s ≡ own s
unfolding own_split
split_own own x s n = rw (same_no x s (λ e. n (sym e))) refl

-- a slot of the same circle is at its place, or one before it
pub split_pos : (own pos : ℕ → ℕ) (x s : ℕ) → (s ≡ x → ⊥) → own x ≡ own s → (pos s ≤ pos x → pos_split own pos x s ≡ pos s) × (pos x < pos s → pos_split own pos x s ≡ pos s - 1)
unfolding pos_split
split_pos own pos x s n e = (λ q. rw (same_no x s (λ w. n (sym w)), same_yes (own x) (own s) e, le-ltb (pos x) (pos s) q) refl, λ q. rw (same_no x s (λ w. n (sym w)), same_yes (own x) (own s) e, lt-ltb (pos x) (pos s) q) refl)

pub split_shorter : (own len : ℕ → ℕ) (x g : ℕ) → (x ≡ g → ⊥) → own x ≡ g → len_split own len x g ≡ len g - 1
unfolding len_split
split_shorter own len x g n e = rw (same_no x g n, same_yes (own x) g e) refl

pub split_len : (own len : ℕ → ℕ) (x g : ℕ) → (g ≡ x → ⊥) → (g ≡ own x → ⊥) → len_split own len x g ≡ len g
unfolding len_split
split_len own len x g n k = rw (same_no x g (λ e. n (sym e)), same_no (own x) g (λ e. k (sym e))) refl

module _ (N : List ℕ) (size : ℕ) (own pos len : ℕ → ℕ) (C : Chains N size own pos len) where
  -- the slot after p stands one place further
  next_place : (p : ℕ) → p < size → (get_or N p 0 ≡ own p → ⊥) → (suc (pos p) < len (own p)) × (pos (get_or N p 0) ≡ suc (pos p)) × (own (get_or N p 0) ≡ own p) × (get_or N p 0 < size)
  next_place p hp n =
      let h : ℕ = own p in
      let hh : h < size = C.head p hp in
      let oh : own h ≡ h = C.top p hp in
      let nx : cur N h (suc (pos p)) ≡ get_or N p 0 = cur_suc N h (pos p) ∙ ap (λ (y : ℕ). get_or N y 0) (C.at p hp) in
      let lt : suc (pos p) < len h = ⊎_elim (λ q. q) (λ q. let z : suc (pos p) ≡ len h = omega (arith, C.here p hp) in absurd (n (sym nx ∙ ap (cur N h) z ∙ C.close h hh oh))) (lt_or_le (suc (pos p)) (len h)) in
      (lt, ap pos (sym nx) ∙ C.placed h (suc (pos p)) hh oh lt, ap own (sym nx) ∙ C.owned h (suc (pos p)) hh oh lt, subst (λ (y : ℕ). y < size) nx (C.inside h (suc (pos p)) hh oh lt))

module _ (N : List ℕ) (size : ℕ) (own pos len : ℕ → ℕ) (C : Chains N size own pos len) (N' : List ℕ) (p x : ℕ) (hp : p < size) (next : get_or N p 0 ≡ x) (not-led : x ≡ own p → ⊥)
    (else : (s : ℕ) → (s ≡ p → ⊥) → (s ≡ x → ⊥) → get_or N' s 0 ≡ get_or N s 0) (at_p : get_or N' p 0 ≡ get_or N x 0) (at_x : get_or N' x 0 ≡ x) where
  abbrev h : ℕ
  h = own p

  place : (suc (pos p) < len h) × (pos x ≡ suc (pos p)) × (own x ≡ h) × (x < size)
  place = subst (λ (y : ℕ). (suc (pos p) < len h) × (pos y ≡ suc (pos p)) × (own y ≡ h) × (y < size)) next (next_place N size own pos len C p hp (λ w. not-led (sym next ∙ w)))

  hh : h < size
  hh = C.head p hp

  oh : own h ≡ h
  oh = C.top p hp

  px : pos x ≡ suc (pos p)
  px = place.1

  ox : own x ≡ h
  ox = place.2

  hx : x < size
  hx = place.3

  -- ---- along the circles
  run_else : (g : ℕ) → g < size → own g ≡ g → (g ≡ h → ⊥) → (i : ℕ) → i ≤ len g → cur N' g i ≡ cur N g i
  unfolding cur
  run_else g lt o n zero q = refl
  run_else g lt o n (suc i) q =
      let oy : own (cur N g i) ≡ g = C.owned g i lt o (omega arith) in
      cur_suc N' g i ∙ ap (λ (z : ℕ). get_or N' z 0) (run_else g lt o n i (omega arith))
      ∙ else (cur N g i) (λ e. n (sym oy ∙ ap own e)) (λ e. n (sym oy ∙ ap own e ∙ ox)) ∙ sym (cur_suc N g i)

  before : (i : ℕ) → i ≤ pos p → cur N' h i ≡ cur N h i
  unfolding cur
  before zero q = refl
  before (suc i) q =
      let py : pos (cur N h i) ≡ i = C.placed h i hh oh (omega (arith, place.0)) in
      cur_suc N' h i ∙ ap (λ (z : ℕ). get_or N' z 0) (before i (omega arith))
      ∙ else (cur N h i) (λ e. omega (arith, ap pos e)) (λ e. omega (arith, ap pos e, px)) ∙ sym (cur_suc N h i)

  after : (i : ℕ) → pos x + i < len h → cur N' h (pos x + i) ≡ cur N h (suc (pos x + i))
  after zero q =
      let z : pos x + 0 ≡ suc (pos p) = omega (arith, px) in
      let y : suc (pos p) ≡ pos x = sym px in
      let u : suc (pos x) ≡ suc (pos x + 0) = omega arith in
      ap (cur N' h) z ∙ cur_suc N' h (pos p) ∙ ap (λ (v : ℕ). get_or N' v 0) (before (pos p) (omega arith) ∙ C.at p hp) ∙ at_p
      ∙ ap (λ (v : ℕ). get_or N v 0) (sym (ap (λ (k : ℕ). cur N k (pos x)) (sym ox) ∙ C.at x hx)) ∙ sym (cur_suc N h (pos x)) ∙ ap (cur N h) u
  after (suc i) q =
      let z : pos x + suc i ≡ suc (pos x + i) = omega arith in
      let y : ℕ = cur N h (suc (pos x + i)) in
      let py : pos y ≡ suc (pos x + i) = C.placed h (suc (pos x + i)) hh oh (omega arith) in
      ap (cur N' h) z ∙ cur_suc N' h (pos x + i) ∙ ap (λ (v : ℕ). get_or N' v 0) (after i (omega arith))
      ∙ else y (λ e. omega (arith, ap pos e, px)) (λ e. omega (arith, ap pos e)) ∙ sym (cur_suc N h (suc (pos x + i))) ∙ ap (λ (k : ℕ). cur N h (suc k)) (sym z)

  from : (i : ℕ) → pos x ≤ i → i < len h → cur N' h i ≡ cur N h (suc i)
  from i q r = let z : pos x + (i - pos x) ≡ i = omega arith in subst (λ (k : ℕ). cur N' h k ≡ cur N h (suc k)) z (after (i - pos x) (omega arith))

  -- ---- owners, places and lengths by cases
  own_x : own_split own x x ≡ x
  own_x = split_here own x

  own_else : (s : ℕ) → (s ≡ x → ⊥) → own_split own x s ≡ own s
  own_else = split_own own x

  pos_x : pos_split own pos x x ≡ 0
  unfolding pos_split
  pos_x = rw (eqb_refl x) refl

  pos_far : (s : ℕ) → (s ≡ x → ⊥) → (own s ≡ h → ⊥) → pos_split own pos x s ≡ pos s
  unfolding pos_split
  pos_far s n k = rw (same_no x s (λ e. n (sym e)), same_no (own x) (own s) (λ e. k (sym e ∙ ox))) refl

  pos_before : (s : ℕ) → (s ≡ x → ⊥) → own s ≡ h → pos s ≤ pos x → pos_split own pos x s ≡ pos s
  pos_before s n e q = (split_pos own pos x s n (ox ∙ sym e)).0 q

  pos_after : (s : ℕ) → (s ≡ x → ⊥) → own s ≡ h → pos x < pos s → pos_split own pos x s ≡ pos s - 1
  pos_after s n e q = (split_pos own pos x s n (ox ∙ sym e)).1 q

  len_x : len_split own len x x ≡ 1
  unfolding len_split
  len_x = rw (eqb_refl x) refl

  len_h : len_split own len x h ≡ len h - 1
  len_h = split_shorter own len x h not-led ox

  len_else : (g : ℕ) → (g ≡ x → ⊥) → (g ≡ h → ⊥) → len_split own len x g ≡ len g
  len_else g n k = split_len own len x g n (λ e. k (e ∙ ox))

  -- the slots of each circle
  record Slot (g i z : ℕ) : Type 0 where
    s_in : z < size
    s_own : own_split own x z ≡ g
    s_pos : pos_split own pos x z ≡ i

  -- a leader afterwards is x, or led before
  record Leader (g : ℕ) : Type 0 where
    other : g ≡ x → ⊥
    was : own g ≡ g

  leader : (g : ℕ) → own_split own x g ≡ g → (g ≡ x → ⊥) → Leader g
  leader g e n = record { other = n; was = sym (own_else g n) ∙ e }

  slot_x : (i : ℕ) → i < len_split own len x x → Slot x i (cur N' x i)
  unfolding cur
  slot_x i q = let z : i ≡ 0 = omega (arith, len_x) in subst (λ (k : ℕ). Slot x k (cur N' x k)) (sym z) (record { s_in = hx; s_own = own_x; s_pos = pos_x })

  slot_h : (i : ℕ) → i < len_split own len x h → Slot h i (cur N' h i)
  slot_h i q = ⊎_elim early late (lt_or_le i (pos x))
    where
      early : i < pos x → Slot h i (cur N' h i)
      early r =
          let y : ℕ = cur N h i in
          let py : pos y ≡ i = C.placed h i hh oh (omega (arith, len_h)) in
          let oy : own y ≡ h = C.owned h i hh oh (omega (arith, len_h)) in
          let ny : y ≡ x → ⊥ = λ e. omega (arith, ap pos e) in
          subst (Slot h i) (sym (before i (omega (arith, px)))) (record { s_in = C.inside h i hh oh (omega (arith, len_h)); s_own = own_else y ny ∙ oy; s_pos = pos_before y ny oy (omega arith) ∙ py })

      late : pos x ≤ i → Slot h i (cur N' h i)
      late r =
          let y : ℕ = cur N h (suc i) in
          let py : pos y ≡ suc i = C.placed h (suc i) hh oh (omega (arith, len_h)) in
          let oy : own y ≡ h = C.owned h (suc i) hh oh (omega (arith, len_h)) in
          let ny : y ≡ x → ⊥ = λ e. omega (arith, ap pos e) in
          subst (Slot h i) (sym (from i r (omega (arith, len_h)))) (record { s_in = C.inside h (suc i) hh oh (omega (arith, len_h)); s_own = own_else y ny ∙ oy; s_pos = pos_after y ny oy (omega arith) ∙ omega arith })

  slot_else : (g : ℕ) → g < size → Leader g → (g ≡ h → ⊥) → (i : ℕ) → i < len_split own len x g → Slot g i (cur N' g i)
  slot_else g lt L n i q =
      let y : ℕ = cur N g i in
      let r : i < len g = omega (arith, len_else g L.other n) in
      let oy : own y ≡ g = C.owned g i lt L.was r in
      let ny : y ≡ x → ⊥ = λ e. n (sym oy ∙ ap own e ∙ ox) in
      subst (Slot g i) (sym (run_else g lt L.was n i (omega arith))) (record { s_in = C.inside g i lt L.was r; s_own = own_else y ny ∙ oy; s_pos = pos_far y ny (λ e. n (sym oy ∙ e)) ∙ C.placed g i lt L.was r })

  slot : (g : ℕ) → g < size → own_split own x g ≡ g → (i : ℕ) → i < len_split own len x g → Slot g i (cur N' g i)
  slot g lt e i q = ⊎_elim
      (λ w. subst (λ (k : ℕ). Slot k i (cur N' k i)) (sym w) (slot_x i (subst (λ (k : ℕ). i < len_split own len x k) w q)))
      (λ n. ⊎_elim
      (λ w. subst (λ (k : ℕ). Slot k i (cur N' k i)) (sym w) (slot_h i (subst (λ (k : ℕ). i < len_split own len x k) w q)))
      (λ k. slot_else g lt (leader g e n) k i q)
      (eq_or_ne g h))
      (eq_or_ne g x)

  close_x : cur N' x (len_split own len x x) ≡ x
  unfolding cur
  close_x = ap (cur N' x) len_x ∙ at_x

  close_h : cur N' h (len_split own len x h) ≡ h
  close_h =
      let z : suc (len h - 1) ≡ len h = omega (arith, place.0) in
      ap (cur N' h) len_h ∙ from (len h - 1) (omega (arith, place.0, px)) (omega (arith, place.0)) ∙ ap (cur N h) z ∙ C.close h hh oh

  -- where a slot stands
  record Stands (s : ℕ) : Type 0 where
    there : pos_split own pos x s < len_split own len x (own_split own x s)
    back : cur N' (own_split own x s) (pos_split own pos x s) ≡ s

  stands_x : Stands x
  unfolding cur
  stands_x = record { there = omega (arith, pos_x, ap (len_split own len x) own_x, len_x); back = ap (λ (k : ℕ). cur N' k (pos_split own pos x x)) own_x ∙ ap (cur N' x) pos_x }

  stands_h : (s : ℕ) → s < size → (s ≡ x → ⊥) → own s ≡ h → Stands s
  stands_h s lt n e = ⊎_elim late early (lt_or_le (pos x) (pos s))
    where
      o : own_split own x s ≡ h
      o = own_else s n ∙ e

      l : pos s < len h
      l = omega (arith, C.here s lt, ap len e)

      here_s : cur N h (pos s) ≡ s
      here_s = ap (λ (k : ℕ). cur N k (pos s)) (sym e) ∙ C.at s lt

      early : pos s ≤ pos x → Stands s
      early q =
          let m : pos s ≡ pos x → ⊥ = λ w. n (sym here_s ∙ ap (cur N h) w ∙ ap (λ (k : ℕ). cur N k (pos x)) (sym ox) ∙ C.at x hx) in
          let r : pos s ≤ pos p = ⊎_elim (λ a. absurd (m (omega (arith, px)))) (λ a. a) (lt_or_le (pos p) (pos s)) in
          record {
            there = omega (arith, pos_before s n e q, ap (len_split own len x) o, len_h, place.0);
            back = ap (λ (k : ℕ). cur N' k (pos_split own pos x s)) o ∙ ap (cur N' h) (pos_before s n e q) ∙ before (pos s) r ∙ here_s;
          }

      late : pos x < pos s → Stands s
      late q =
          let z : suc (pos s - 1) ≡ pos s = omega arith in
          record {
            there = omega (arith, pos_after s n e q, ap (len_split own len x) o, len_h, l);
            back = ap (λ (k : ℕ). cur N' k (pos_split own pos x s)) o ∙ ap (cur N' h) (pos_after s n e q) ∙ from (pos s - 1) (omega arith) (omega (arith, l)) ∙ ap (cur N h) z ∙ here_s;
          }

  stands_else : (s : ℕ) → s < size → (s ≡ x → ⊥) → (own s ≡ h → ⊥) → Stands s
  stands_else s lt n k =
      let nx : own s ≡ x → ⊥ = λ e. k (sym (C.top s lt) ∙ ap own e ∙ ox) in
      record {
        there = omega (arith, pos_far s n k, ap (len_split own len x) (own_else s n), len_else (own s) nx k, C.here s lt);
        back = ap (λ (g : ℕ). cur N' g (pos_split own pos x s)) (own_else s n) ∙ ap (cur N' (own s)) (pos_far s n k) ∙ run_else (own s) (C.head s lt) (C.top s lt) k (pos s) (omega (arith, C.here s lt)) ∙ C.at s lt;
      }

  stands : (s : ℕ) → s < size → Stands s
  stands s lt = ⊎_elim (λ w. subst Stands (sym w) stands_x) (λ n. ⊎_elim (stands_h s lt n) (stands_else s lt n) (eq_or_ne (own s) h)) (eq_or_ne s x)

  pub split : Chains N' size (own_split own x) (pos_split own pos x) (len_split own len x)
  split = record {
    head = λ s lt. ⊎_elim (λ w. subst (λ (k : ℕ). own_split own x k < size) (sym w) (subst (λ (k : ℕ). k < size) (sym own_x) hx)) (λ n. subst (λ (k : ℕ). k < size) (sym (own_else s n)) (C.head s lt)) (eq_or_ne s x);
    top = λ s lt. ⊎_elim
        (λ w. subst (λ (k : ℕ). own_split own x (own_split own x k) ≡ own_split own x k) (sym w) (ap (own_split own x) own_x))
        (λ n. ap (own_split own x) (own_else s n) ∙ own_else (own s) (led s lt) ∙ C.top s lt ∙ sym (own_else s n))
        (eq_or_ne s x);
    here = λ s lt. (stands s lt).there;
    at = λ s lt. (stands s lt).back;
    inside = λ g i lt e q. (slot g lt e i q).s_in;
    owned = λ g i lt e q. (slot g lt e i q).s_own;
    placed = λ g i lt e q. (slot g lt e i q).s_pos;
    close = λ g lt e. ⊎_elim
        (λ w. subst (λ (k : ℕ). cur N' k (len_split own len x k) ≡ k) (sym w) close_x)
        (λ n. ⊎_elim
        (λ w. subst (λ (k : ℕ). cur N' k (len_split own len x k) ≡ k) (sym w) close_h)
        (λ k. ap (cur N' g) (len_else g n k) ∙ run_else g lt (leader g e n).was k (len g) (omega arith) ∙ C.close g lt (leader g e n).was)
        (eq_or_ne g h))
        (eq_or_ne g x);
  }
    where
      led : (s : ℕ) → s < size → own s ≡ x → ⊥
      led s lt w = not-led (sym w ∙ sym (C.top s lt) ∙ ap own w ∙ ox)
