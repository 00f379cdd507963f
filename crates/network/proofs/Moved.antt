-- The edges in the middle of the walk along the moved node's edges. Assumes nothing.
use mathlib.Core.Path.{◌≡◌, refl, sym, ap, ◌∙◌}
use mathlib.Core.Logic.{◌⊎◌, inl, inr, ⊎_elim}
use mathlib.Core.Bool.{Bool, true, false, ◌&&◌, ◌||◌, cond, true≢false}
use mathlib.Core.List.{List, map}
use mathlib.Core.Option.{Option, none, some}
use Prim.Native.Nat.{ℕ, zero, suc, ◌+◌, ◌*◌, ◌-◌, ◌/◌, ◌≤◌, ◌<◌}
use native.Mathlib.Omega.{arith}
use lib.Dec.{eqb}
use lib.IntN.{pos}
use lib.Ieee.{Float, neg, binary32, add}
use lib.ListN.{get_or}
use borrow.Author.Tests.{eqb-true, eq-eqb, ne_eqb}
use Rattle.lists.specs.Seq.{upto}
use Rattle.network.specs.Network.{Edge, Link, find, absorb, hand, turn, turn_if, adjust, shifted, is_zero}
use Rattle.arithmetic.specs.Rounding.{scale}
use Rattle.network.proofs.SimpleLaws.{OtherEnds}
use Rattle.merge.specs.Inside.Tables.{Tables}
use Rattle.merge.specs.Inside.Table.{enext, stamp, elen}
use Rattle.merge.specs.Inside.Steps.{unbias, join_edge, shift, moved_edge}
use Rattle.merge.specs.Inside.Chain.{cur}
use Rattle.network.specs.Inside.Net.{edge_of, edge_now, Like}
use Rattle.merge.proofs.Bias.{lt_or_le, unbias_up, unbias_down}
use Rattle.merge.proofs.SoundSet.{eq_or_ne}
use Rattle.network.proofs.Lookup.{hits, hit, Hit, hit_is, find_one, find_no, find_like}
use Rattle.network.proofs.TableEdges.{Words, words, moved_one, moved_two}
use Rattle.lists.proofs.SeqLaws.{eqb_refl}

pub same_no : (a b : ℕ) → (a ≡ b → ⊥) → eqb a b ≡ false
same_no a b h = ne_eqb a b h

pub same_yes : (a b : ℕ) → a ≡ b → eqb a b ≡ true
same_yes a b e = rw e (eqb_refl b)

-- ---- a gain
zero_gain : (g : ℕ) → is_zero (unbias g) ≡ eqb g 1000
unfolding is_zero
zero_gain g = ⊎_elim
    (λ h. rw (unbias_down g h, ne_eqb g 1000 (λ e. omega arith)) refl)
    (λ h. rw (unbias_up g h) (go (g - 1000) refl h))
    (lt_or_le g 1000)
  where
    go : (t : ℕ) → g - 1000 ≡ t → 1000 ≤ g → is_zero (pos t) ≡ eqb g 1000
    go zero e h = sym (eq-eqb g 1000 (omega arith))
    go (suc t) e h = ne_eqb (suc t) 0 (λ r. omega arith) ∙ sym (ne_eqb g 1000 (λ r. omega arith))

shift_one : (g w : ℕ) (d : Float) (t : Bool) → shift false g w d ≡ shifted (is_zero (unbias g)) true t (unbias g) w d
unfolding shift shifted
shift_one g w d t = rw (zero_gain g) (go (eqb g 1000))
  where
    go : (x : Bool) → cond x d (add binary32 d (scale w (unbias g))) ≡ shifted x true t (unbias g) w d
    go true = refl
    go false = refl

shift_two : (g w : ℕ) (d : Float) → shift true g w d ≡ shifted (is_zero (unbias g)) false true (unbias g) w d
unfolding shift shifted
shift_two g w d = rw (zero_gain g) (go (eqb g 1000))
  where
    go : (x : Bool) → cond x d (add binary32 d (neg (scale w (unbias g)))) ≡ shifted x false true (unbias g) w d
    go true = refl
    go false = refl

-- the edges before the walk, Q, and as the network prepares them, P
pub record Setting (m b v g : ℕ) (P Q : ℕ → Edge) : Type 0 where
  pub apart : b ≡ v → ⊥
  pub number : (j : ℕ) → (P j).num ≡ j
  pub turned : (j : ℕ) → j < m → (P j).live ≡ true → OtherEnds b v (P j)
  pub single : (i j : ℕ) → i < m → j < m → (P i).live ≡ true → (P j).live ≡ true → (P i).first ≡ (P j).first → (P i).second ≡ (P j).second → i ≡ j
  pub prepared : (j : ℕ) → j < m → (P j).live ≡ true → P j ≡ turn v (adjust v (unbias g) (Q j))
  pub alike : (j : ℕ) → (Q j).live ≡ (P j).live

-- the edges of P that are done
unfoldable pub only : (ℕ → Edge) → (ℕ → Bool) → ℕ → Edge
only P done i = record { num = (P i).num; live = (P i).live && done i; first = (P i).first; second = (P i).second; link = (P i).link }

-- the edges in the middle of the walk
unfoldable pub mid : ℕ → ℕ → ℕ → (ℕ → Edge) → (ℕ → Edge) → (ℕ → Bool) → ℕ → Edge
mid m b v P Q done j =
    cond (eqb b (P j).first) (absorb (find (map (only P done) (upto m 0)) v (P j).second) (P j))
    (cond (eqb v (P j).first) (cond (done j) (hand b (find (map P (upto m 0)) b (P j).second) (P j)) (Q j)) (P j))

-- the tables in the middle of the walk: links N, lengths L and stamps T stay
pub record Middle (m b v : ℕ) (P Q : ℕ → Edge) (N L T : List ℕ) (done : ℕ → Bool) (s : Tables) : Type 0 where
  pub like : (j : ℕ) → j < m → Like (edge_now s j) (mid m b v P Q done j)
  pub links : s.at enext ≡ N
  pub lens : s.at elen ≡ L
  pub stamps : s.at stamp ≡ T

-- each live edge has a slot in the chain of each end, and the base is the newest
pub record Grounds (m b : ℕ) (P : ℕ → Edge) (N L T : List ℕ) : Type 0 where
  pub reach : (j x : ℕ) → j < m → (P j).live ≡ true → ((P j).first ≡ x) ⊎ ((P j).second ≡ x) → (i : ℕ) × (i < get_or L x 0 - 1) × (cur N (get_or N (2 * m + x) 0) i / 2 ≡ j)
  pub newest : (x : ℕ) → (x ≡ b → ⊥) → get_or T x 0 < get_or T b 0

unfoldable pub also : (ℕ → Bool) → ℕ → ℕ → Bool
also done f j = done j || eqb f j

pub also_old : (done : ℕ → Bool) (f j : ℕ) → done j ≡ true → also done f j ≡ true
unfolding also
also_old done f j h = rw h refl

pub also_new : (done : ℕ → Bool) (f : ℕ) → also done f f ≡ true
unfolding also
also_new done f = rw (eqb_refl f) (or_true (done f))
  where
    or_true : (x : Bool) → (x || true) ≡ true
    or_true true = refl
    or_true false = refl

pub also_else : (done : ℕ → Bool) (f j : ℕ) → (j ≡ f → ⊥) → also done f j ≡ done j
unfolding also
also_else done f j h = rw (same_no f j (λ e. h (sym e))) (or_false (done j))
  where
    or_false : (x : Bool) → (x || false) ≡ x
    or_false true = refl
    or_false false = refl

module _ (m b v g : ℕ) (P Q : ℕ → Edge) (S : Setting m b v g P Q) where
  -- ---- mid by kinds of edges
  pub mid_base : (done : ℕ → Bool) (j : ℕ) → (P j).first ≡ b → mid m b v P Q done j ≡ absorb (find (map (only P done) (upto m 0)) v (P j).second) (P j)
  unfolding mid
  mid_base done j e = rw (e, eqb_refl b) refl

  pub mid_moved : (done : ℕ → Bool) (j : ℕ) (x : Bool) → (P j).first ≡ v → done j ≡ x → mid m b v P Q done j ≡ cond x (hand b (find (map P (upto m 0)) b (P j).second) (P j)) (Q j)
  unfolding mid
  mid_moved done j x e h = rw (e, same_no b v S.apart, eqb_refl v, h) refl

  pub mid_else : (done : ℕ → Bool) (j : ℕ) → ((P j).first ≡ b → ⊥) → ((P j).first ≡ v → ⊥) → mid m b v P Q done j ≡ P j
  unfolding mid
  mid_else done j p q = rw (same_no b (P j).first (λ e. p (sym e)), same_no v (P j).first (λ e. q (sym e))) refl

  pub absorb_live : (o : Option Link) (e : Edge) → (absorb o e).live ≡ e.live
  unfolding absorb
  absorb_live none e = refl
  absorb_live (some l) e = refl

  pub absorb_first : (o : Option Link) (e : Edge) → (absorb o e).first ≡ e.first
  unfolding absorb
  absorb_first none e = refl
  absorb_first (some l) e = refl

  pub absorb_second : (o : Option Link) (e : Edge) → (absorb o e).second ≡ e.second
  unfolding absorb
  absorb_second none e = refl
  absorb_second (some l) e = refl

  pub absorb_none : (o : Option Link) (e : Edge) → o ≡ none → absorb o e ≡ e
  unfolding absorb
  absorb_none o e h = rw h refl

  -- a dead edge stays dead
  pub mid_dead : (done : ℕ → Bool) (j : ℕ) → (P j).live ≡ false → (mid m b v P Q done j).live ≡ false
  unfolding mid hand
  mid_dead done j h = go (eqb b (P j).first) (eqb v (P j).first) (done j)
    where
      go : (x y z : Bool) → (cond x (absorb (find (map (only P done) (upto m 0)) v (P j).second) (P j)) (cond y (cond z (hand b (find (map P (upto m 0)) b (P j).second) (P j)) (Q j)) (P j))).live ≡ false
      go true y z = absorb_live _ (P j) ∙ h
      go false true true = rw h refl
      go false true false = S.alike j ∙ h
      go false false z = h

  -- ---- what an edge of the moved node is before
  pub record Before (j : ℕ) : Type 0 where
    pub ends : (((Q j).first ≡ v) × ((Q j).second ≡ (P j).second)) ⊎ (((Q j).first ≡ (P j).second) × ((Q j).second ≡ v))
    pub weigh : (Q j).link.weight ≡ (P j).link.weight
    pub span : (Q j).link.bridged ≡ (P j).link.bridged

  pub before : (j : ℕ) → j < m → (P j).live ≡ true → (P j).first ≡ v → Before j
  unfolding turn turn_if adjust
  before j lt l e = go (eqb v (Q j).second) refl (S.prepared j lt l)
    where
      go : (t : Bool) → eqb v (Q j).second ≡ t → P j ≡ turn_if t (adjust v (unbias g) (Q j)) → Before j
      go true r h = record {
        ends = inr (sym (ap (λ (x : Edge). x.second) h), sym (eqb-true v (Q j).second r));
        weigh = sym (ap (λ (x : Edge). x.link.weight) h);
        span = sym (ap (λ (x : Edge). x.link.bridged) h);
      }
      go false r h = record {
        ends = inl (sym (ap (λ (x : Edge). x.first) h) ∙ e, sym (ap (λ (x : Edge). x.second) h));
        weigh = sym (ap (λ (x : Edge). x.link.weight) h);
        span = sym (ap (λ (x : Edge). x.link.bridged) h);
      }

  -- the step that the code takes at an edge of the moved node
  pub moved_is : (s : Tables) (f : ℕ) → f < m → edge_of s f ≡ Q f → (P f).live ≡ true → (P f).first ≡ v → moved_edge m b v g s f ≡ join_edge m b s f (P f).second (P f).link.diff
  unfolding turn turn_if adjust
  moved_is s f lt q l e = go (eqb v (Q f).second) refl (S.prepared f lt l)
    where
      ws : Words s f (Q f)
      ws = words s f (Q f) q (S.alike f ∙ l)

      go : (t : Bool) → eqb v (Q f).second ≡ t → P f ≡ turn_if t (adjust v (unbias g) (Q f)) → moved_edge m b v g s f ≡ join_edge m b s f (P f).second (P f).link.diff
      go true r h =
          let second_v : (Q f).second ≡ v = sym (eqb-true v (Q f).second r) in
          let first_is_lem : (Q f).first ≡ (P f).second = sym (ap (λ (x : Edge). x.second) h) in
          let first_ne : (Q f).first ≡ v → ⊥ = λ w. (S.turned f lt l).1 (sym first_is_lem ∙ w) in
          let dif : (P f).link.diff ≡ neg (shift true g (Q f).link.weight (Q f).link.diff) =
          ap (λ (x : Edge). x.link.diff) h ∙ (rw (same_no v (Q f).first (λ w. first_ne (sym w)), r) (ap (λ (x : Float). neg x) (sym (shift_two g (Q f).link.weight (Q f).link.diff)))) in
          moved_two m b v g s f ws.some (λ w. first_ne (sym ws.first_is_lem ∙ w)) (ws.second_is_lem ∙ second_v)
          ∙ (rw (ws.first_is_lem, ws.weight_is, ws.diff_is, first_is_lem, dif) refl)
      go false r h =
          let first_v : (Q f).first ≡ v = sym (ap (λ (x : Edge). x.first) h) ∙ e in
          let second_is_lem : (Q f).second ≡ (P f).second = sym (ap (λ (x : Edge). x.second) h) in
          let dif : (P f).link.diff ≡ shift false g (Q f).link.weight (Q f).link.diff =
          ap (λ (x : Edge). x.link.diff) h ∙ (rw (same_yes v (Q f).first (sym first_v), r) (sym (shift_one g (Q f).link.weight (Q f).link.diff false))) in
          moved_one m b v g s f ws.some (ws.first_is_lem ∙ first_v)
          ∙ (rw (ws.second_is_lem, ws.weight_is, ws.diff_is, second_is_lem, dif) refl)

  -- ---- what `found` finds
  pub hit_only : (done : ℕ → Bool) (x c i : ℕ) → hits x c (only P done i) ≡ true → Hit x c (P i) × (done i ≡ true)
  unfolding only
  hit_only done x c i h =
      let w : Hit x c (only P done i) = hit_is x c (only P done i) h in
      let u : ((P i).live ≡ true) × (done i ≡ true) = both (P i).live (done i) w.live in
      (record { live = u.0; first = w.first; second = w.second }, u.1)
    where
      both : (x y : Bool) → (x && y) ≡ true → (x ≡ true) × (y ≡ true)
      both true true r = (refl, refl)
      both true false r = absurd (true≢false (sym r))
      both false y r = absurd (true≢false (sym r))

  -- two edges of one node to one neighbour are one
  pub alone : (x c i j : ℕ) → i < m → j < m → Hit x c (P i) → Hit x c (P j) → i ≡ j
  alone x c i j p q a d = S.single i j p q a.live d.live (a.first ∙ sym d.first) (a.second ∙ sym d.second)

  pub none_yet : (done : ℕ → Bool) (f : ℕ) → f < m → (P f).live ≡ true → (P f).first ≡ v → done f ≡ false → find (map (only P done) (upto m 0)) v (P f).second ≡ none
  none_yet done f lt l e d = find_no (only P done) v (P f).second 0 m
      (λ j a c h.
      let w : Hit v (P f).second (P j) × (done j ≡ true) = hit_only done v (P f).second j h in
      let same_j : j ≡ f = alone v (P f).second j f (omega arith) lt w.0 (record { live = l; first = e; second = refl }) in
      true≢false (sym w.1 ∙ ap done same_j ∙ d))

  pub found_now : (done : ℕ → Bool) (f : ℕ) → f < m → (P f).live ≡ true → (P f).first ≡ v → done f ≡ true → find (map (only P done) (upto m 0)) v (P f).second ≡ some (P f).link
  unfolding only
  found_now done f lt l e d =
      find_one (only P done) v (P f).second 0 m f (omega arith) (omega arith) (hit v (P f).second (only P done f) (rw (l, d) refl) e refl)
      (λ j a c h. let w : Hit v (P f).second (P j) × (done j ≡ true) = hit_only done v (P f).second j h in
      alone v (P f).second j f (omega arith) lt w.0 (record { live = l; first = e; second = refl }))

  -- another neighbour's is as it was
  pub found_else : (done : ℕ → Bool) (f c : ℕ) → ((P f).second ≡ c → ⊥) → find (map (only P (also done f)) (upto m 0)) v c ≡ find (map (only P done) (upto m 0)) v c
  unfolding only
  found_else done f c ne = find_like (only P (also done f)) (only P done) v c 0 m (λ j p q. ⊎_elim (here j) (there j) (eq_or_ne j f))
    where
      none_and : (x y : Bool) → (x && y && false) ≡ false
      none_and true true = refl
      none_and true false = refl
      none_and false y = refl

      here : (j : ℕ) → j ≡ f → (hits v c (only P (also done f) j) ≡ hits v c (only P done j)) × (hits v c (only P done j) ≡ true → (only P (also done f) j).link ≡ (only P done j).link)
      here j e =
          let no : eqb c (P j).second ≡ false = same_no c (P j).second (λ w. ne (ap (λ (i : ℕ). (P i).second) (sym e) ∙ sym w)) in
          (rw no (none_and ((P j).live && also done f j) (eqb v (P j).first) ∙ sym (none_and ((P j).live && done j) (eqb v (P j).first))), λ t. refl)

      there : (j : ℕ) → (j ≡ f → ⊥) → (hits v c (only P (also done f) j) ≡ hits v c (only P done j)) × (hits v c (only P done j) ≡ true → (only P (also done f) j).link ≡ (only P done j).link)
      there j e = (rw (also_else done f j e) refl, λ t. refl)
