-- The whole walk along the moved node's edges, from its start to its end. Assumes nothing.
use mathlib.Core.Path.{◌≡◌, refl, sym, ap, ◌∙◌, subst}
use mathlib.Core.Logic.{⊎_elim}
use mathlib.Core.Bool.{Bool, true, false, ◌&&◌, cond, true≢false}
use mathlib.Core.List.{List, map}
use mathlib.Core.Option.{Option, none}
use Prim.Native.Nat.{ℕ, zero, suc, ◌/◌, ◌≤◌, ◌<◌}
use native.Mathlib.Omega.{arith}
use borrow.Author.Tests.{le-ltb, eqb-true, eqb-false}
use Rattle.lists.specs.Seq.{upto}
use Rattle.merge.proofs.Bias.{lt_or_le}
use lib.ListN.{get_or}
use Rattle.network.specs.Network.{Edge, Link, find, absorb, hand, combine, turn, turn_if, adjust, shifted, is_zero}
use Rattle.merge.specs.Inside.Tables.{Tables, Sound}
use Rattle.merge.specs.Inside.Table.{enext, stamp, elen}
use Rattle.merge.specs.Inside.Steps.{unbias, take_edge, walk_moved}
use Rattle.merge.specs.Inside.Leaves.{Gains}
use Rattle.network.specs.Inside.Net.{edge_now, Like}
use Rattle.merge.specs.Inside.Chain.{cur}
use Rattle.merge.proofs.SoundSteps.{sound_take}
use Rattle.network.proofs.Lookup.{hits, find_no, find_like}
use Rattle.network.proofs.TableEdges.{like_dead, like_then}
use Rattle.network.proofs.Moved.{Setting, only, mid, Middle, Grounds, mid_base, mid_moved, mid_else, mid_dead, hit_only, absorb_none}
use Rattle.network.proofs.MovedStep.{Next, any_step}
use lib.Ieee.{Float}
use lib.Dec.{eqb}

module _ (m b v g : ℕ) (P Q : ℕ → Edge) (S : Setting m b v g P Q) where
  -- an edge that is not the moved node's is prepared already
  ready : (j : ℕ) → j < m → (P j).live ≡ true → ((P j).first ≡ v → ⊥) → P j ≡ Q j
  unfolding turn turn_if adjust shifted
  ready j lt l ne = go (eqb v (Q j).second) refl (eqb v (Q j).first) refl (S.prepared j lt l)
    where
      fixed : (z : Bool) (w : ℕ) (d : Float) → shifted z false false (unbias g) w d ≡ d
      fixed true w d = refl
      fixed false w d = refl

      go : (t : Bool) → eqb v (Q j).second ≡ t → (u : Bool) → eqb v (Q j).first ≡ u → P j ≡ turn_if t (adjust v (unbias g) (Q j)) → P j ≡ Q j
      go true r u p h = absurd (ne (ap (λ (x : Edge). x.first) h ∙ sym (eqb-true v (Q j).second r)))
      go false r true p h = absurd (ne (ap (λ (x : Edge). x.first) h ∙ sym (eqb-true v (Q j).first p)))
      go false r false p h =
          let d : shifted (is_zero (unbias g)) (eqb v (Q j).first) (eqb v (Q j).second) (unbias g) (Q j).link.weight (Q j).link.diff ≡ (Q j).link.diff = rw (r, p) (fixed (is_zero (unbias g)) (Q j).link.weight (Q j).link.diff) in
          h ∙ (λ i. record { num = (Q j).num; live = (Q j).live; first = (Q j).first; second = (Q j).second; link = record { weight = (Q j).link.weight; diff = d i; bridged = (Q j).link.bridged } })

  abbrev nothing : ℕ → Bool
  nothing j = false

  none_done : (x c : ℕ) → find (map (only P nothing) (upto m 0)) x c ≡ none
  none_done x c = find_no (only P nothing) x c 0 m (λ j a d h. true≢false (sym (hit_only m b v g P Q S nothing x c j h).1))

  pub begin : (s : Tables) → ((j : ℕ) → j < m → Like (edge_now s j) (Q j)) → Middle m b v P Q (s.at enext) (s.at elen) (s.at stamp) nothing s
  begin s like = record { like = λ j hj. go j hj (P j).live refl (eqb b (P j).first) refl (eqb v (P j).first) refl; links = refl; lens = refl; stamps = refl }
    where
      go : (j : ℕ) → j < m → (u : Bool) → (P j).live ≡ u → (x : Bool) → eqb b (P j).first ≡ x → (y : Bool) → eqb v (P j).first ≡ y → Like (edge_now s j) (mid m b v P Q nothing j)
      go j hj false ue x xe y ye = like_dead _ _ ((like j hj).live ∙ S.alike j ∙ ue) (mid_dead m b v g P Q S nothing j ue)
      go j hj true ue true xe y ye =
          let fb : (P j).first ≡ b = sym (eqb-true b (P j).first xe) in
          like_then _ _ _ (like j hj) (sym (mid_base m b v g P Q S nothing j fb ∙ absorb_none m b v g P Q S _ (P j) (none_done v (P j).second) ∙ ready j hj ue (λ w. S.apart (sym fb ∙ w))))
      go j hj true ue false xe true ye =
          like_then _ _ _ (like j hj) (sym (mid_moved m b v g P Q S nothing j false (sym (eqb-true v (P j).first ye)) refl))
      go j hj true ue false xe false ye =
          let fv : (P j).first ≡ v → ⊥ = λ w. eqb-false v (P j).first ye (sym w) in
          like_then _ _ _ (like j hj) (sym (mid_else m b v g P Q S nothing j (λ w. eqb-false b (P j).first xe (sym w)) fv ∙ ready j hj ue fv))

  -- ---- the walk
  module _ (N L T : List ℕ) (G : Grounds m b P N L T) where
    pub record Walked (s : Tables) (done : ℕ → Bool) (x k : ℕ) : Type 0 where
      pub done' : ℕ → Bool
      pub middle : Middle m b v P Q N L T done' s
      pub more : (j : ℕ) → done j ≡ true → done' j ≡ true
      pub seen : (i : ℕ) → i < k → cur N x i / 2 < m → (P (cur N x i / 2)).live ≡ true → (P (cur N x i / 2)).first ≡ v → done' (cur N x i / 2) ≡ true

    abbrev One : Tables → (ℕ → Bool) → ℕ → Type 0
    One s done f = (done' : ℕ → Bool) × Middle m b v P Q N L T done' s × ((j : ℕ) → done j ≡ true → done' j ≡ true) × (f < m → (P f).live ≡ true → (P f).first ≡ v → done' f ≡ true)

    -- a slot that is no edge's leaves all as it is
    one_slot : (n : ℕ) (s : Tables) → Sound m n s → (done : ℕ → Bool) → Middle m b v P Q N L T done s → (f : ℕ) → One (take_edge m b v g s f) done f
    one_slot n s h done I f = ⊎_elim
        (λ lt. let t : Next m b v g P Q S N L T G n (take_edge m b v g s f) done f = any_step m b v g P Q S N L T G n s h done I f lt in (t.done', t.middle, t.more, λ q. t.here))
        (λ le. (done, subst (Middle m b v P Q N L T done) (sym (past le)) I, λ j r. r, λ q. absurd (omega arith)))
        (lt_or_le f m)
      where
        past : m ≤ f → take_edge m b v g s f ≡ s
        past le = unfold take_edge in rw (le-ltb f m le) refl

    pub walk : (n : ℕ) → Gains n b v g → (k : ℕ) (s : Tables) → Sound m n s → (done : ℕ → Bool) → Middle m b v P Q N L T done s → (x : ℕ) → Walked (walk_moved k m b v g s x) done x k
    unfolding walk_moved cur
    walk n ok zero s h done I x = record { done' = done; middle = I; more = λ j r. r; seen = λ i p. absurd (omega arith) }
    walk n ok (suc k) s h done I x =
        let one : One (take_edge m b v g s (x / 2)) done (x / 2) = one_slot n s h done I (x / 2) in
        let s' : Tables = take_edge m b v g s (x / 2) in
        let nx : get_or (s.at enext) x 0 ≡ get_or N x 0 = ap (λ (l : List ℕ). get_or l x 0) I.links in
        let rest : Walked (walk_moved k m b v g s' (get_or N x 0)) one.0 (get_or N x 0) k = walk n ok k s' (sound_take m n b v g s (x / 2) h ok) one.0 one.1 (get_or N x 0) in
        record {
          done' = rest.done';
          middle = subst (λ (y : ℕ). Middle m b v P Q N L T rest.done' (walk_moved k m b v g s' y)) (sym nx) rest.middle;
          more = λ j r. rest.more j (one.2 j r);
          seen = elim_seen rest.done' (λ q l r. rest.more (x / 2) (one.3 q l r)) rest.seen;
        }
      where
        elim_seen : (d : ℕ → Bool) → (x / 2 < m → (P (x / 2)).live ≡ true → (P (x / 2)).first ≡ v → d (x / 2) ≡ true)
            → ((i : ℕ) → i < k → cur N (get_or N x 0) i / 2 < m → (P (cur N (get_or N x 0) i / 2)).live ≡ true → (P (cur N (get_or N x 0) i / 2)).first ≡ v → d (cur N (get_or N x 0) i / 2) ≡ true)
            → (i : ℕ) → i < suc k → cur N x i / 2 < m → (P (cur N x i / 2)).live ≡ true → (P (cur N x i / 2)).first ≡ v → d (cur N x i / 2) ≡ true
        elim_seen d a c zero p = a
        elim_seen d a c (suc i) p = c i (omega arith)

  -- ---- the end
  pub finish : (N L T : List ℕ) (s : Tables) (done : ℕ → Bool) → Middle m b v P Q N L T done s → ((j : ℕ) → j < m → (P j).live ≡ true → (P j).first ≡ v → done j ≡ true) → (j : ℕ) → j < m → Like (edge_now s j) (combine (map P (upto m 0)) b v (P j))
  unfolding combine only
  finish N L T s done I all j hj = go (P j).live refl (eqb b (P j).first) refl (eqb v (P j).first) refl
    where
      every : (c : ℕ) → find (map (only P done) (upto m 0)) v c ≡ find (map P (upto m 0)) v c
      every c = find_like (only P done) P v c 0 m (λ i p q. (one i (omega arith) (P i).live refl (eqb v (P i).first) refl, λ t. refl))
        where
          one : (i : ℕ) → i < m → (x : Bool) → (P i).live ≡ x → (y : Bool) → eqb v (P i).first ≡ y → hits v c (only P done i) ≡ hits v c (P i)
          one i lt true xe true ye = rw (xe, all i lt xe (sym (eqb-true v (P i).first ye))) refl
          one i lt true xe false ye = rw (xe, ye) (and_no (done i) ∙ refl)
            where
              and_no : (t : Bool) → (t && false && eqb c (P i).second) ≡ false
              and_no true = refl
              and_no false = refl
          one i lt false xe y ye = rw xe refl

      go : (u : Bool) → (P j).live ≡ u → (x : Bool) → eqb b (P j).first ≡ x → (y : Bool) → eqb v (P j).first ≡ y
          → Like (edge_now s j) (cond x (absorb (find (map P (upto m 0)) v (P j).second) (P j)) (cond y (hand b (find (map P (upto m 0)) b (P j).second) (P j)) (P j)))
      go u ue true xe y ye =
          like_then _ _ _ (I.like j hj) (mid_base m b v g P Q S done j (sym (eqb-true b (P j).first xe)) ∙ ap (λ (o : Option Link). absorb o (P j)) (every (P j).second))
      go true ue false xe true ye =
          let fv : (P j).first ≡ v = sym (eqb-true v (P j).first ye) in
          like_then _ _ _ (I.like j hj) (mid_moved m b v g P Q S done j true fv (all j hj ue fv))
      go false ue false xe true ye = like_dead _ _ ((I.like j hj).live ∙ mid_dead m b v g P Q S done j ue) (unfold hand in rw ue refl)
      go u ue false xe false ye =
          like_then _ _ _ (I.like j hj) (mid_else m b v g P Q S done j (λ w. eqb-false b (P j).first xe (sym w)) (λ w. eqb-false v (P j).first ye (sym w)))
