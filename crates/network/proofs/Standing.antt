-- The network through its merges, by where each label stands: its regions, the ends and weights of its live edges, and the roots, the labels
-- that are their own nodes, of which each merge takes one. Assumes nothing.
use Prim.Native.Nat.{ℕ, zero, suc, ◌+◌, ◌-◌, ◌≤◌, ◌<◌}
use native.Mathlib.Omega.{arith}
use mathlib.Core.Path.{◌≡◌, refl, sym, ap, ◌∙◌, subst}
use mathlib.Core.Logic.{⊎_elim}
use mathlib.Core.Bool.{Bool, true, false, cond}
use mathlib.Core.List.{List, [], ◌∷◌, map}
use mathlib.Core.Option.{Option, none, some}
use lib.Dec.{ltb, eqb}
use lib.ListN.{length}
use lib.IntN.{pos, ◌+ℤ◌}
use borrow.Author.Tests.{eqb-true, eqb-false, eq-eqb, ne_eqb}
use Rattle.lists.specs.Seq.{All, Member, upto}
use Rattle.lists.proofs.AllLaws.{and_left}
use Rattle.merge.proofs.SoundSet.{eq_or_ne}
use Rattle.network.specs.Network.{Edge, Region, State, Plan, Link, size_of, size_in, at, plan, plan_for, kill, adjust, turn_if, turn, find, absorb, hand, combine, prepare, join_all, merge_edges, move, merge, step_to, step, choose, follow, run, replay}
use Rattle.network.specs.Book.{Stand, entry_of, entry, enter}
use Rattle.network.specs.Inside.Simple.{Simple}
use Rattle.network.proofs.SimpleLaws.{mem_map, at_mem, OtherEnds, prepared_turned, step_simple}
use Rattle.network.proofs.Ends.{prepare_live, combine_live, choose_at}

-- ---- what stands

-- a is one of the labels 1 to k, and its own node
pub record Root (k : ℕ) (f : ℕ → Stand) (a : ℕ) : Type 0 where
  pub least : 1 ≤ a
  pub most : a ≤ k
  pub own : (f a).node ≡ a

-- a live edge joins roots, and has pairs
pub record Sound (k : ℕ) (f : ℕ → Stand) (e : Edge) : Type 0 where
  pub first : Root k f e.first
  pub second : Root k f e.second
  pub weight : 1 ≤ e.link.weight

-- region l, where the labels stand so
unfoldable pub placed : List ℕ → (ℕ → Stand) → ℕ → Region
placed labels f l = record { label = l; size = size_in labels l; node = (f l).node; count = (f l).count }

-- a network whose labels stand so
pub record Standing (k : ℕ) (labels : List ℕ) (f : ℕ → Stand) (s : State) : Type 0 where
  pub regions : s.regions ≡ map (placed labels f) (upto k 1)
  pub simple : Simple s.edges
  pub sound : (e : Edge) → Member e s.edges → e.live ≡ true → Sound k f e
  pub within : (l : List ℕ) → All (λ e. e.link.bridged ≤ e.link.weight) (replay s l).edges
  pub outside : (l : ℕ) → (1 ≤ l → l ≤ k → ⊥) → f l ≡ record { node = l; count = pos 0 }

-- ---- a plan joins its edge's ends

plan_ends : (P : ℕ → Type 0) (rs : List Region) (c : Edge) → P c.first → P c.second → P (plan rs c).base × P (plan rs c).moved
unfolding plan plan_for
plan_ends P rs c p q = go (ltb (size_of rs c.second) (size_of rs c.first))
  where
    go : (b : Bool) → P (cond b c.first c.second) × P (cond b c.second c.first)
    go true = (p, q)
    go false = (q, p)

plan_apart : (rs : List Region) (c : Edge) → (c.first ≡ c.second → ⊥) → (plan rs c).base ≡ (plan rs c).moved → ⊥
unfolding plan plan_for
plan_apart rs c h = go (ltb (size_of rs c.second) (size_of rs c.first))
  where
    go : (b : Bool) → cond b c.first c.second ≡ cond b c.second c.first → ⊥
    go true e = h e
    go false e = h (sym e)

-- ---- where labels stand after a merge

unfoldable move_to : Plan → Stand → Stand
move_to p x = cond (eqb p.moved x.node) (record { node = p.base; count = x.count +ℤ p.gain }) x

module _ (k : ℕ) (f : ℕ → Stand) (p : Plan) (base : Root k f p.base) (moved : Root k f p.moved) (apart : p.base ≡ p.moved → ⊥) where
  abbrev f' : ℕ → Stand
  f' l = move_to p (f l)

  -- what is not of the moved node stays
  stays : (l : ℕ) → ((f l).node ≡ p.moved → ⊥) → f' l ≡ f l
  unfolding move_to
  stays l h = ap (λ (b : Bool). cond b (record { node = p.base; count = (f l).count +ℤ p.gain }) (f l)) (ne_eqb p.moved (f l).node (λ e. h (sym e)))

  root_stays : (a : ℕ) → Root k f a → (a ≡ p.moved → ⊥) → Root k f' a
  root_stays a r h = record { least = r.least; most = r.most; own = ap (λ (x : Stand). x.node) (stays a (λ e. h (sym r.own ∙ e))) ∙ r.own }

  base_stays : Root k f' p.base
  base_stays = root_stays p.base base apart

  -- a root was one before
  root_back : (a : ℕ) → (f' a).node ≡ a → (f a).node ≡ a
  unfolding move_to
  root_back a = go (eqb p.moved (f a).node)
    where
      go : (b : Bool) → (cond b (record { node = p.base; count = (f a).count +ℤ p.gain }) (f a)).node ≡ a → (f a).node ≡ a
      go true e = ap (λ (x : ℕ). (f x).node) (sym e) ∙ base.own ∙ e
      go false e = e

  moved_gone : (f' p.moved).node ≡ p.moved → ⊥
  unfolding move_to
  moved_gone e = apart (sym (ap (λ (b : Bool). (cond b (record { node = p.base; count = (f p.moved).count +ℤ p.gain }) (f p.moved)).node) (eq-eqb p.moved (f p.moved).node (sym moved.own))) ∙ e)

  outside_stays : ((l : ℕ) → (1 ≤ l → l ≤ k → ⊥) → f l ≡ record { node = l; count = pos 0 }) → (l : ℕ) → (1 ≤ l → l ≤ k → ⊥) → f' l ≡ record { node = l; count = pos 0 }
  outside_stays h l n =
      stays l (λ e. let z : l ≡ p.moved = sym (ap (λ (x : Stand). x.node) (h l n)) ∙ e in n (omega (arith, moved.least)) (omega (arith, moved.most)))
      ∙ h l n

  regions_moved : (labels l : List ℕ) → map (move p) (map (placed labels f) l) ≡ map (placed labels f') l
  unfolding placed move move_to
  regions_moved labels [] = refl
  regions_moved labels (x ∷ xs) = go (eqb p.moved (f x).node) (regions_moved labels xs)
    where
      put : Bool → Stand
      put b = cond b (record { node = p.base; count = (f x).count +ℤ p.gain }) (f x)

      go : (b : Bool) → map (move p) (map (placed labels f) xs) ≡ map (placed labels f') xs
          → (record { label = x; size = size_in labels x; node = cond b p.base (f x).node; count = cond b ((f x).count +ℤ p.gain) (f x).count } ∷ map (move p) (map (placed labels f) xs))
          ≡ (record { label = x; size = size_in labels x; node = (put b).node; count = (put b).count } ∷ map (placed labels f') xs)
      go true ih = ap (λ (l : List Region). record { label = x; size = size_in labels x; node = p.base; count = (f x).count +ℤ p.gain } ∷ l) ih
      go false ih = ap (λ (l : List Region). record { label = x; size = size_in labels x; node = (f x).node; count = (f x).count } ∷ l) ih

  -- ---- its edges
  turn_sound : (b : Bool) (e : Edge) → Sound k f e → Sound k f (turn_if b e)
  unfolding turn_if
  turn_sound true e h = record { first = h.second; second = h.first; weight = h.weight }
  turn_sound false e h = record { first = h.first; second = h.second; weight = h.weight }

  prepare_sound : (e : Edge) → Sound k f e → Sound k f (prepare p e)
  unfolding prepare turn adjust kill
  prepare_sound e h = turn_sound _ _ (turn_sound _ _ (record { first = h.first; second = h.second; weight = h.weight }))

  combine_sound : (es : List Edge) (e : Edge) → Sound k f e → (e.second ≡ p.moved → ⊥) → Sound k f' (combine es p.base p.moved e)
  unfolding combine absorb hand
  combine_sound es e h n = go (eqb p.base e.first) (eqb p.moved e.first) refl refl (find es p.moved e.second) (find es p.base e.second)
    where
      far : Root k f' e.second
      far = root_stays e.second h.second n

      go : (x y : Bool) → eqb p.base e.first ≡ x → eqb p.moved e.first ≡ y → (g o : Option Link) → Sound k f' (cond x (absorb g e) (cond y (hand p.base o e) e))
      go true y r t none o = record { first = subst (λ (a : ℕ). Root k f' a) (eqb-true p.base e.first r) base_stays; second = far; weight = h.weight }
      go true y r t (some g) o = record { first = subst (λ (a : ℕ). Root k f' a) (eqb-true p.base e.first r) base_stays; second = far; weight = omega (arith, h.weight) }
      go false true r t g o = record { first = base_stays; second = far; weight = h.weight }
      go false false r t g o = record { first = root_stays e.first h.first (λ w. eqb-false p.moved e.first t (sym w)); second = far; weight = h.weight }

-- ---- a step

module _ (k : ℕ) (labels : List ℕ) (f : ℕ → Stand) (s : State) (h : Standing k labels f s) (i : ℕ) (c : Edge) (found : at s.edges i ≡ some c) where
  pub chosen : Sound k f c
  chosen = let w : Member c s.edges × (c.live ≡ true) = at_mem i s.edges c found in h.sound c w.0 w.1

  pub roots_joined : Root k f (plan s.regions c).base × Root k f (plan s.regions c).moved
  roots_joined = plan_ends (Root k f) s.regions c chosen.first chosen.second

  pub ends_differ : (plan s.regions c).base ≡ (plan s.regions c).moved → ⊥
  ends_differ = let w : Member c s.edges × (c.live ≡ true) = at_mem i s.edges c found in plan_apart s.regions c (h.simple.proper c w.0 w.1)

  -- where the labels stand then
  abbrev then : ℕ → Stand
  then l = move_to (plan s.regions c) (f l)

  sound_after : (e : Edge) → Member e (merge_edges (plan s.regions c) s.edges) → e.live ≡ true → Sound k then e
  unfolding merge_edges join_all
  sound_after e m l =
      let p : Plan = plan s.regions c in
      let fs : List Edge = map (prepare p) s.edges in
      let w : (d : Edge) × Member d fs × (combine fs p.base p.moved d ≡ e) = mem_map (combine fs p.base p.moved) e fs m in
      let v : (d : Edge) × Member d s.edges × (prepare p d ≡ w.0) = mem_map (prepare p) w.0 s.edges w.1 in
      let live₁ : w.0.live ≡ true = combine_live fs p.base p.moved w.0 (ap (λ (x : Edge). x.live) w.2 ∙ l) in
      let live₀ : v.0.live ≡ true = and_left v.0.live _ (sym (prepare_live p v.0) ∙ ap (λ (x : Edge). x.live) v.2 ∙ live₁) in
      let sound₁ : Sound k f w.0 = subst (λ (x : Edge). Sound k f x) v.2 (prepare_sound k f p roots_joined.0 roots_joined.1 ends_differ v.0 (h.sound v.0 v.1 live₀)) in
      let far : OtherEnds p.base p.moved w.0 = prepared_turned s.edges h.simple i c found s.regions w.0 w.1 live₁ in
      subst (λ (x : Edge). Sound k then x) w.2 (combine_sound k f p roots_joined.0 roots_joined.1 ends_differ fs w.0 sound₁ far.1)

  merged : Standing k labels then (merge (plan s.regions c) s)
  unfolding merge step_to
  merged = record {
    regions = ap (map (move (plan s.regions c))) h.regions ∙ regions_moved k f (plan s.regions c) roots_joined.0 roots_joined.1 ends_differ labels (upto k 1);
    simple = subst (λ (o : Option Edge). Simple (step_to o s).edges) found (unfold step in step_simple s i h.simple);
    sound = sound_after;
    within = λ l. subst (λ (o : Option Edge). All (λ e. e.link.bridged ≤ e.link.weight) (replay (step_to o s) l).edges) found (unfold step replay in h.within (i ∷ l));
    outside = outside_stays k f (plan s.regions c) roots_joined.0 roots_joined.1 ends_differ h.outside;
  }

  pub stepped : Standing k labels (λ l. enter (entry s i) (f l)) (step s i)
  unfolding step entry
  stepped = subst (λ (o : Option Edge). Standing k labels (λ l. enter (entry_of s.regions o) (f l)) (step_to o s)) (sym found) (unfold enter entry_of step_to move_to in merged)

-- ---- the roots

-- how many of the n labels from i on are their own nodes
unfoldable pub roots : (ℕ → Stand) → ℕ → ℕ → ℕ
roots f i zero = 0
roots f i (suc n) = cond (eqb i (f i).node) 1 0 + roots f (suc i) n

pub roots_most : (f : ℕ → Stand) (i n : ℕ) → roots f i n ≤ n
unfolding roots
roots_most f i zero = omega arith
roots_most f i (suc n) = go (eqb i (f i).node) (roots_most f (suc i) n)
  where
    go : (b : Bool) → roots f (suc i) n ≤ n → cond b 1 0 + roots f (suc i) n ≤ suc n
    go true h = omega arith
    go false h = omega arith

roots_some : (f : ℕ → Stand) (a i n : ℕ) → i ≤ a → a < i + n → (f a).node ≡ a → 1 ≤ roots f i n
unfolding roots
roots_some f a i zero p q h = absurd (omega arith)
roots_some f a i (suc n) p q h = ⊎_elim
    (λ e. let t : eqb i (f i).node ≡ true = eq-eqb i (f i).node (subst (λ (x : ℕ). x ≡ (f x).node) (sym e) (sym h)) in rw t (omega arith))
    (λ e. omega (arith, roots_some f a (suc i) n (omega arith) (omega arith) h))
    (eq_or_ne i a)

-- where every root was one before there are no more of them, and fewer where one of these is none now
module _ (f g : ℕ → Stand) (back : (a : ℕ) → (g a).node ≡ a → (f a).node ≡ a) where
  one_fewer : (i : ℕ) → cond (eqb i (g i).node) 1 0 ≤ cond (eqb i (f i).node) 1 0
  one_fewer i = go (eqb i (g i).node) refl
    where
      go : (b : Bool) → eqb i (g i).node ≡ b → cond b 1 0 ≤ cond (eqb i (f i).node) 1 0
      go true e = rw (eq-eqb i (f i).node (sym (back i (sym (eqb-true i (g i).node e))))) (omega arith)
      go false e = omega arith

  roots_fewer : (i n : ℕ) → roots g i n ≤ roots f i n
  unfolding roots
  roots_fewer i zero = omega arith
  roots_fewer i (suc n) = omega (arith, one_fewer i, roots_fewer (suc i) n)

  roots_less : (a i n : ℕ) → i ≤ a → a < i + n → (f a).node ≡ a → ((g a).node ≡ a → ⊥) → roots g i n < roots f i n
  unfolding roots
  roots_less a i zero p q h m = absurd (omega arith)
  roots_less a i (suc n) p q h m = ⊎_elim
      (λ e. let t : eqb i (f i).node ≡ true = eq-eqb i (f i).node (subst (λ (x : ℕ). x ≡ (f x).node) (sym e) (sym h)) in
      let u : eqb i (g i).node ≡ false = ne_eqb i (g i).node (subst (λ (x : ℕ). x ≡ (g x).node → ⊥) (sym e) (λ r. m (sym r))) in
      rw (t, u) (omega (arith, roots_fewer (suc i) n)))
      (λ e. omega (arith, one_fewer i, roots_less a (suc i) n (omega arith) (omega arith) h m))
      (eq_or_ne i a)

-- a merge takes a root, and leaves one
module _ (k : ℕ) (labels : List ℕ) (f : ℕ → Stand) (s : State) (h : Standing k labels f s) (i : ℕ) (c : Edge) (found : at s.edges i ≡ some c) where
  fewer_roots : (1 ≤ roots (λ l. enter (entry s i) (f l)) 1 k) × (roots (λ l. enter (entry s i) (f l)) 1 k < roots f 1 k)
  unfolding entry
  fewer_roots = subst (λ (o : Option Edge). (1 ≤ roots (λ l. enter (entry_of s.regions o) (f l)) 1 k) × (roots (λ l. enter (entry_of s.regions o) (f l)) 1 k < roots f 1 k)) (sym found) (unfold enter entry_of move_to in (some_left, one_less))
    where
      p : Plan
      p = plan s.regions c

      base : Root k f p.base
      base = (roots_joined k labels f s h i c found).0

      moved : Root k f p.moved
      moved = (roots_joined k labels f s h i c found).1

      apart : p.base ≡ p.moved → ⊥
      apart = ends_differ k labels f s h i c found

      some_left : 1 ≤ roots (λ l. move_to p (f l)) 1 k
      some_left = roots_some (λ l. move_to p (f l)) p.base 1 k base.least (omega (arith, base.most)) (base_stays k f p base moved apart).own

      one_less : roots (λ l. move_to p (f l)) 1 k < roots f 1 k
      one_less = roots_less f (λ l. move_to p (f l)) (root_back k f p base moved apart) p.moved 1 k moved.least (omega (arith, moved.most)) moved.own (moved_gone k f p base moved apart)

pub run_less : (k : ℕ) (labels : List ℕ) (n : ℕ) (f : ℕ → Stand) (s : State) → Standing k labels f s → length (run n s) ≤ roots f 1 k - 1
unfolding run follow
run_less k labels zero f s h = omega arith
run_less k labels (suc n) f s h = go (choose s.edges) refl (run_less k labels n)
  where
    go : (o : Option Edge) → choose s.edges ≡ o → ((g : ℕ → Stand) (t : State) → Standing k labels g t → length (run n t) ≤ roots g 1 k - 1) → length (follow o s (run n)) ≤ roots f 1 k - 1
    go none r ih = omega arith
    go (some e) r ih =
        let w : (c : Edge) × (at s.edges e.num ≡ some c) = choose_at s.edges e r in
        let fewer = fewer_roots k labels f s h e.num w.0 w.1 in
        omega (arith, fewer.0, fewer.1, ih (λ l. enter (entry s e.num) (f l)) (step s e.num) (stepped k labels f s h e.num w.0 w.1))
