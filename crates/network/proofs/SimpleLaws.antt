-- The network stays simple: no live edge joins a node to itself, and no two live edges join the same two nodes.
-- Assumes nothing.
use mathlib.Core.Path.{◌≡◌, refl, sym, ap, ◌∙◌}
use mathlib.Core.Logic.{◌⊎◌, inl, inr}
use mathlib.Core.Bool.{Bool, true, false, not, ◌&&◌, cond, true≢false}
use mathlib.Core.List.{List, [], ◌∷◌, map}
use mathlib.Core.Option.{Option, none, some, none-ne-some, some-injective}
use Prim.Native.Nat.{ℕ}
use lib.Dec.{ltb, eqb}
use lib.IntN.{ℤ}
use borrow.Author.Tests.{eqb-false, eqb-true}
use Rattle.network.specs.Network.{Edge, State, Plan, Link, Region, size_of, at, plan, plan_for, kill, adjust, turn_if, turn, find, absorb, absent, hand, combine, prepare, join_all, merge_edges, merge, step_to, step}
use Rattle.network.specs.Inside.Simple.{Joined, Simple}
use Rattle.network.proofs.Restrict.{prepare_num, combine_num}
use Rattle.network.proofs.Ends.{prepare_live, combine_live}
use Rattle.lists.proofs.SeqLaws.{eqb_refl}
use Rattle.lists.specs.Seq.{Member}
use Rattle.lists.proofs.AllLaws.{and_left}

module _ {A B : Type 0} where
  pub mem_map : (g : A → B) (b : B) (l : List A) → Member b (map g l) → (a : A) × Member a l × (g a ≡ b)
  mem_map g b [] h = absurd h
  mem_map g b (x ∷ xs) (inl e) = (x, inl refl, e)
  mem_map g b (x ∷ xs) (inr h) = let w : (a : A) × Member a xs × (g a ≡ b) = mem_map g b xs h in (w.0, inr w.1, w.2)

simple_map : (g : Edge → Edge) (es : List Edge) → ((e : Edge) → Member e es → (g e).live ≡ true → (g e).first ≡ (g e).second → ⊥)
    → ((e f : Edge) → Member e es → Member f es → (g e).live ≡ true → (g f).live ≡ true → Joined (g e) (g f) → (g e).num ≡ (g f).num) → Simple (map g es)
simple_map g es h k = record {
  proper = λ e m l r. let w : (a : Edge) × Member a es × (g a ≡ e) = mem_map g e es m in h w.0 w.1 (ap (λ (x : Edge). x.live) w.2 ∙ l) (rw w.2 r);
  single = λ e f m n l₁ l₂ j.
      let w : (a : Edge) × Member a es × (g a ≡ e) = mem_map g e es m in
      let v : (a : Edge) × Member a es × (g a ≡ f) = mem_map g f es n in
      sym (ap (λ (x : Edge). x.num) w.2) ∙ k w.0 v.0 w.1 v.1 (ap (λ (x : Edge). x.live) w.2 ∙ l₁) (ap (λ (x : Edge). x.live) v.2 ∙ l₂) (rw (w.2, v.2) j) ∙ ap (λ (x : Edge). x.num) v.2;
}

pub joined_back : (e f : Edge) → Joined e f → Joined f e
joined_back e f (inl h) = inl (sym h.0, sym h.1)
joined_back e f (inr h) = inr (sym h.1, sym h.0)

-- Turning keeps which nodes an edge joins
joined_turn : (x : ℕ) (e f : Edge) → Joined (turn x e) (turn x f) → Joined e f
unfolding turn turn_if
joined_turn x e f = go (eqb x e.second) (eqb x f.second)
  where
    go : (b c : Bool) → Joined (turn_if b e) (turn_if c f) → Joined e f
    go true true (inl h) = inl (h.1, h.0)
    go true true (inr h) = inr (h.1, h.0)
    go true false (inl h) = inr (h.1, h.0)
    go true false (inr h) = inl (h.1, h.0)
    go false true (inl h) = inr h
    go false true (inr h) = inl h
    go false false h = h

joined_adjust : (i m : ℕ) (k : ℤ) (e f : Edge) → Joined (adjust m k (kill i e)) (adjust m k (kill i f)) → Joined e f
unfolding adjust kill
joined_adjust i m k e f h = h

joined_prepare : (pl : Plan) (e f : Edge) → Joined (prepare pl e) (prepare pl f) → Joined e f
unfolding prepare
joined_prepare pl e f h = joined_adjust pl.edge pl.moved pl.gain e f (joined_turn pl.base _ _ (joined_turn pl.moved _ _ h))

-- The second end after turning towards the base and towards the moved node
turned : (b m : ℕ) (e : Edge) → (e.first ≡ e.second → ⊥) → ((e.first ≡ b) × (e.second ≡ m) → ⊥) → ((e.first ≡ m) × (e.second ≡ b) → ⊥)
    → ((turn m (turn b e)).second ≡ b → ⊥) × ((turn m (turn b e)).second ≡ m → ⊥) × ((turn m (turn b e)).first ≡ (turn m (turn b e)).second → ⊥)
unfolding turn turn_if
turned b m e p h k = go (eqb b e.second) refl
  where
    back : (y : Bool) → eqb m e.first ≡ y → e.second ≡ b
        → ((turn_if y (turn_if true e)).second ≡ b → ⊥) × ((turn_if y (turn_if true e)).second ≡ m → ⊥) × ((turn_if y (turn_if true e)).first ≡ (turn_if y (turn_if true e)).second → ⊥)
    back true r t = absurd (k (sym (eqb-true m e.first r), t))
    back false r t = (λ w. p (w ∙ sym t), λ w. eqb-false m e.first r (sym w), λ w. p (sym w))

    on : (y : Bool) → eqb m e.second ≡ y → (b ≡ e.second → ⊥)
        → ((turn_if y (turn_if false e)).second ≡ b → ⊥) × ((turn_if y (turn_if false e)).second ≡ m → ⊥) × ((turn_if y (turn_if false e)).first ≡ (turn_if y (turn_if false e)).second → ⊥)
    on true r t = (λ w. h (w, sym (eqb-true m e.second r)), λ w. p (w ∙ eqb-true m e.second r), λ w. p (sym w))
    on false r t = (λ w. t (sym w), λ w. eqb-false m e.second r (sym w), p)

    go : (x : Bool) → eqb b e.second ≡ x
        → ((turn m (turn_if x e)).second ≡ b → ⊥) × ((turn m (turn_if x e)).second ≡ m → ⊥) × ((turn m (turn_if x e)).first ≡ (turn m (turn_if x e)).second → ⊥)
    go true r = back (eqb m e.first) refl (sym (eqb-true b e.second r))
    go false r = on (eqb m e.second) refl (eqb-false b e.second r)

abbrev pub OtherEnds : ℕ → ℕ → Edge → Type 0
OtherEnds b m e = (e.second ≡ b → ⊥) × (e.second ≡ m → ⊥) × (e.first ≡ e.second → ⊥)

find_none : (es : List Edge) (x : ℕ) (e f : Edge) → find es x f.second ≡ none → Member e es → e.live ≡ true → e.first ≡ x → e.second ≡ f.second → ⊥
unfolding find
find_none [] x e f h m l s t = m
find_none (g ∷ es) x e f h (inl w) l s t = none-ne-some g.link (sym h ∙ hit)
  where
    hit : cond (g.live && eqb x g.first && eqb f.second g.second) (some g.link) (find es x f.second) ≡ some g.link
    hit = rw (ap (λ (a : Edge). a.live) w ∙ l, ap (λ (a : Edge). a.first) w ∙ s, ap (λ (a : Edge). a.second) w ∙ t, eqb_refl x, eqb_refl f.second) refl
find_none (g ∷ es) x e f h (inr m) l s t = go (g.live && eqb x g.first && eqb f.second g.second) h (λ h. find_none es x e f h m l s t)
  where
    go : (b : Bool) → cond b (some g.link) (find es x f.second) ≡ none → (find es x f.second ≡ none → ⊥) → ⊥
    go true h ih = none-ne-some g.link (sym h)
    go false h ih = ih h

-- What an edge becomes
data View (es : List Edge) (b m : ℕ) (e e' : Edge) : Type 0 where
  of_base : e.first ≡ b → e'.first ≡ b → e'.second ≡ e.second → View es b m e e'
  of_moved : e.first ≡ m → e'.first ≡ b → e'.second ≡ e.second → (e'.live ≡ true → find es b e.second ≡ none) → View es b m e e'
  of_none : (e.first ≡ b → ⊥) → e'.first ≡ e.first → e'.second ≡ e.second → View es b m e e'

view : (es : List Edge) (b m : ℕ) (e : Edge) → View es b m e (combine es b m e)
unfolding combine absorb hand absent
view es b m e = go (eqb b e.first) (eqb m e.first) refl refl (find es m e.second) (find es b e.second) refl
  where
    gone : (x : Bool) → (x && false) ≡ true → ⊥
    gone true h = true≢false (sym h)
    gone false h = true≢false (sym h)

    go : (x y : Bool) → eqb b e.first ≡ x → eqb m e.first ≡ y → (g h : Option Link) → find es b e.second ≡ h → View es b m e (cond x (absorb g e) (cond y (hand b h e) e))
    go true y r t none h w = of_base (sym (eqb-true b e.first r)) (sym (eqb-true b e.first r)) refl
    go true y r t (some g) h w = of_base (sym (eqb-true b e.first r)) (sym (eqb-true b e.first r)) refl
    go false true r t g none w = of_moved (sym (eqb-true m e.first t)) refl refl (λ l. w)
    go false true r t g (some h) w = of_moved (sym (eqb-true m e.first t)) refl refl (λ l. absurd (gone e.live l))
    go false false r t g h w = of_none (λ w. eqb-false b e.first r (sym w)) refl refl

module _ (es : List Edge) (b m : ℕ) (simple : Simple es) (turn-ok : (e : Edge) → Member e es → e.live ≡ true → OtherEnds b m e) where
  combine_proper : (e e' : Edge) → View es b m e e' → Member e es → e.live ≡ true → e'.first ≡ e'.second → ⊥
  combine_proper e e' (of_base r s t) n l w = (turn-ok e n l).0 (sym t ∙ sym w ∙ s)
  combine_proper e e' (of_moved r s t u) n l w = (turn-ok e n l).0 (sym t ∙ sym w ∙ s)
  combine_proper e e' (of_none r s t) n l w = simple.proper e n l (sym s ∙ w ∙ t)

  combine_single : (e e' f f' : Edge) → View es b m e e' → View es b m f f' → Member e es → Member f es → e.live ≡ true → f.live ≡ true → e'.live ≡ true → f'.live ≡ true → Joined e' f' → e.num ≡ f.num
  combine_single e e' f f' (of_base r s t) (of_base r' s' t') n o l k a c (inl j) = simple.single e f n o l k (inl (r ∙ sym r', sym t ∙ j.1 ∙ t'))
  combine_single e e' f f' (of_base r s t) (of_moved r' s' t' u) n o l k a c (inl j) = absurd (find_none es b e f (u c) n l r (sym t ∙ j.1 ∙ t'))
  combine_single e e' f f' (of_base r s t) (of_none r' s' t') n o l k a c (inl j) = absurd (r' (sym s' ∙ sym j.0 ∙ s))
  combine_single e e' f f' (of_moved r s t u) (of_base r' s' t') n o l k a c (inl j) = absurd (find_none es b f e (u a) o k r' (sym t' ∙ sym j.1 ∙ t))
  combine_single e e' f f' (of_moved r s t u) (of_moved r' s' t' u') n o l k a c (inl j) = simple.single e f n o l k (inl (r ∙ sym r', sym t ∙ j.1 ∙ t'))
  combine_single e e' f f' (of_moved r s t u) (of_none r' s' t') n o l k a c (inl j) = absurd (r' (sym s' ∙ sym j.0 ∙ s))
  combine_single e e' f f' (of_none r s t) (of_base r' s' t') n o l k a c (inl j) = absurd (r (sym s ∙ j.0 ∙ s'))
  combine_single e e' f f' (of_none r s t) (of_moved r' s' t' u) n o l k a c (inl j) = absurd (r (sym s ∙ j.0 ∙ s'))
  combine_single e e' f f' (of_none r s t) (of_none r' s' t') n o l k a c (inl j) = simple.single e f n o l k (inl (sym s ∙ j.0 ∙ s', sym t ∙ j.1 ∙ t'))
  combine_single e e' f f' (of_base r s t) v n o l k a c (inr j) = absurd ((turn-ok f o k).0 (second_of v ∙ sym j.0 ∙ s))
    where
      second_of : View es b m f f' → f.second ≡ f'.second
      second_of (of_base r s t) = sym t
      second_of (of_moved r s t u) = sym t
      second_of (of_none r s t) = sym t
  combine_single e e' f f' (of_moved r s t u) v n o l k a c (inr j) = absurd ((turn-ok f o k).0 (second_of v ∙ sym j.0 ∙ s))
    where
      second_of : View es b m f f' → f.second ≡ f'.second
      second_of (of_base r s t) = sym t
      second_of (of_moved r s t u) = sym t
      second_of (of_none r s t) = sym t
  combine_single e e' f f' (of_none r s t) (of_base r' s' t') n o l k a c (inr j) = absurd ((turn-ok e n l).0 (sym t ∙ j.1 ∙ s'))
  combine_single e e' f f' (of_none r s t) (of_moved r' s' t' u) n o l k a c (inr j) = absurd ((turn-ok e n l).0 (sym t ∙ j.1 ∙ s'))
  combine_single e e' f f' (of_none r s t) (of_none r' s' t') n o l k a c (inr j) = simple.single e f n o l k (inr (sym s ∙ j.0 ∙ t', sym t ∙ j.1 ∙ s'))

  combine_simple : Simple (map (combine es b m) es)
  combine_simple = simple_map (combine es b m) es
      (λ e n l w. combine_proper e (combine es b m e) (view es b m e) n (combine_live es b m e l) w)
      (λ e f n o l k j. combine_num es b m e ∙ combine_single e (combine es b m e) f (combine es b m f) (view es b m e) (view es b m f) n o (combine_live es b m e l) (combine_live es b m f k) l k j ∙ sym (combine_num es b m f))

pub at_mem : (i : ℕ) (es : List Edge) (e : Edge) → at es i ≡ some e → Member e es × (e.live ≡ true)
unfolding at
at_mem i [] e h = absurd (none-ne-some e h)
at_mem i (f ∷ es) e h = go (f.live && eqb i f.num) refl h (at_mem i es e)
  where
    go : (b : Bool) → (f.live && eqb i f.num) ≡ b → cond b (some f) (at es i) ≡ some e → (at es i ≡ some e → Member e es × (e.live ≡ true)) → ((f ≡ e) ⊎ Member e es) × (e.live ≡ true)
    go true r h ih = let w : f ≡ e = some-injective f e h in (inl w, ap (λ (x : Edge). x.live) (sym w) ∙ and_left f.live _ r)
    go false r h ih = let w : Member e es × (e.live ≡ true) = ih h in (inr w.0, w.1)

module _ (es : List Edge) (simple : Simple es) (i : ℕ) (c : Edge) (found : at es i ≡ some c) (rs : List Region) where
  -- No live edge but the chosen one joins the base and the moved node
  pub ends_apart : (e : Edge) → Member e es → e.live ≡ true → (c.num ≡ e.num → ⊥)
      → ((e.first ≡ (plan rs c).base) × (e.second ≡ (plan rs c).moved) → ⊥) × ((e.first ≡ (plan rs c).moved) × (e.second ≡ (plan rs c).base) → ⊥)
  unfolding plan plan_for
  ends_apart e n l h = go (ltb (size_of rs c.second) (size_of rs c.first))
    where
      clash : Joined e c → ⊥
      clash j = h (sym (simple.single e c n (at_mem i es c found).0 l (at_mem i es c found).1 j))

      go : (x : Bool) → ((e.first ≡ cond x c.first c.second) × (e.second ≡ cond x c.second c.first) → ⊥) × ((e.first ≡ cond x c.second c.first) × (e.second ≡ cond x c.first c.second) → ⊥)
      go true = (λ w. clash (inl w), λ w. clash (inr w))
      go false = (λ w. clash (inr w), λ w. clash (inl w))

  live_before : (e : Edge) → (prepare (plan rs c) e).live ≡ true → (e.live ≡ true) × (c.num ≡ e.num → ⊥)
  unfolding plan plan_for
  live_before e l = go e.live (eqb c.num e.num) refl (sym (prepare_live (plan rs c) e) ∙ l)
    where
      go : (x y : Bool) → eqb c.num e.num ≡ y → (x && not y) ≡ true → (x ≡ true) × (c.num ≡ e.num → ⊥)
      go true true r t = absurd (true≢false (sym t))
      go true false r t = (refl, eqb-false c.num e.num r)
      go false y r t = absurd (true≢false (sym t))

  turned_prepare : (e : Edge) → Member e es → (prepare (plan rs c) e).live ≡ true → OtherEnds (plan rs c).base (plan rs c).moved (prepare (plan rs c) e)
  unfolding prepare adjust kill
  turned_prepare e n l =
      let pl : Plan = plan rs c in
      let v : (e.live ≡ true) × (c.num ≡ e.num → ⊥) = live_before e l in
      let w : ((e.first ≡ pl.base) × (e.second ≡ pl.moved) → ⊥) × ((e.first ≡ pl.moved) × (e.second ≡ pl.base) → ⊥) = ends_apart e n v.0 v.1 in
      turned pl.base pl.moved (adjust pl.moved pl.gain (kill pl.edge e)) (simple.proper e n v.0) w.0 w.1

  pub prepared_turned : (e : Edge) → Member e (map (prepare (plan rs c)) es) → e.live ≡ true → OtherEnds (plan rs c).base (plan rs c).moved e
  prepared_turned e n l =
      let w : (a : Edge) × Member a es × (prepare (plan rs c) a ≡ e) = mem_map (prepare (plan rs c)) e es n in
      rw w.2 at (turned_prepare w.0 w.1 (ap (λ (x : Edge). x.live) w.2 ∙ l))

  pub prepared_simple : Simple (map (prepare (plan rs c)) es)
  prepared_simple = simple_map (prepare (plan rs c)) es
      (λ e n l w. (turned_prepare e n l).2 w)
      (λ e f n o l k j. prepare_num (plan rs c) e ∙ simple.single e f n o (live_before e l).0 (live_before f k).0 (joined_prepare (plan rs c) e f j) ∙ sym (prepare_num (plan rs c) f))

  merge_simple : Simple (merge_edges (plan rs c) es)
  unfolding merge_edges join_all
  merge_simple = combine_simple (map (prepare (plan rs c)) es) (plan rs c).base (plan rs c).moved prepared_simple prepared_turned

pub step_simple : (s : State) (i : ℕ) → Simple s.edges → Simple (step s i).edges
unfolding step step_to merge
step_simple s i h = go (at s.edges i) refl
  where
    go : (o : Option Edge) → at s.edges i ≡ o → Simple (step_to o s).edges
    go none r = h
    go (some c) r = merge_simple s.edges h i c r s.regions
