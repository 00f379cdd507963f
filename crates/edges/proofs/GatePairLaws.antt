-- The pairs of gates against the definition's pairs. Assumes nothing.
use Rattle.std.proofs.Common.{◌≡◌, ℕ, zero, suc, ◌*◌, ◌<◌, ◌≤◌, Bool, true, false, cond, eqb, ltb, List, [], ◌∷◌, map, length, get_or, sym, refl, ap, ◌∙◌, arith, le-ltb, eqb-true}
use mathlib.Core.Option.{Option, none, some, none-ne-some, some-injective}
use lib.Ieee.{Float}
use Rattle.lists.specs.Seq.{upto, keep, each}
use Rattle.lists.proofs.SeqLaws.{keep_each, map_each, each_same}
use Rattle.edges.specs.Edges.{Shape, Direction, Left, Right, Top, Bottom, next, look, sees, bridges, skip, Pair, pair_to, pairs_at, pairs}
use Rattle.edges.specs.Inside.GatePairs.{both, gate_pair_to, gate_pairs_of, gate_pairs_at, gate_pairs, pair_of, greater}
use Rattle.edges.proofs.Next.{next_in}

-- ---- a look's gate

module _ (s : Shape) (d : Direction) (L : List ℕ) where
  -- the gate seen is in the sweep
  look_in : (k g h : ℕ) → g < s.rays * s.gates → look s d L k g ≡ some h → h < s.rays * s.gates
  unfolding look
  look_in zero g h i e = absurd (none-ne-some h e)
  look_in (suc k) g h i e = go (next s d g) refl e (look_in k)
    where
      at : (j x : ℕ) → j < s.rays * s.gates → ◌≡◌ {A = Option ℕ} (elim x [ zero ↦ look s d L k j | suc l ↦ some j ]) (some h) → (look s d L k j ≡ some h → h < s.rays * s.gates) → h < s.rays * s.gates
      at j zero m e ih = ih e
      at j (suc x) m e ih = omega (arith, some-injective j h e)

      go : (o : Option ℕ) → next s d g ≡ o → ◌≡◌ {A = Option ℕ} (elim o [ none ↦ none | some j ↦ elim (get_or L j 0) [ zero ↦ look s d L k j | suc l ↦ some j ] ]) (some h) → ((g h : ℕ) → g < s.rays * s.gates → look s d L k g ≡ some h → h < s.rays * s.gates) → h < s.rays * s.gates
      go none n e ih = absurd (none-ne-some h e)
      go (some j) n e ih = at j (get_or L j 0) (next_in s g d j i n) e (ih j h (next_in s g d j i n))

  -- and labelled
  pub look_labelled : (k g h : ℕ) → look s d L k g ≡ some h → get_or L h 0 ≡ 0 → ⊥
  unfolding look
  look_labelled zero g h e = absurd (none-ne-some h e)
  look_labelled (suc k) g h e = go (next s d g) e (look_labelled k)
    where
      at : (j x : ℕ) → get_or L j 0 ≡ x → ◌≡◌ {A = Option ℕ} (elim x [ zero ↦ look s d L k j | suc l ↦ some j ]) (some h) → (look s d L k j ≡ some h → get_or L h 0 ≡ 0 → ⊥) → get_or L h 0 ≡ 0 → ⊥
      at j zero m e ih = ih e
      at j (suc x) m e ih = λ z. omega (arith, sym m ∙ ap (λ (y : ℕ). get_or L y 0) (some-injective j h e) ∙ z)

      go : (o : Option ℕ) → ◌≡◌ {A = Option ℕ} (elim o [ none ↦ none | some j ↦ elim (get_or L j 0) [ zero ↦ look s d L k j | suc l ↦ some j ] ]) (some h) → ((g h : ℕ) → look s d L k g ≡ some h → get_or L h 0 ≡ 0 → ⊥) → get_or L h 0 ≡ 0 → ⊥
      go none e ih = absurd (none-ne-some h e)
      go (some j) e ih = at j (get_or L j 0) refl e (ih j h)

  pub sees_in : (g h : ℕ) → g < s.rays * s.gates → sees s L d g ≡ some h → h < s.rays * s.gates
  unfolding sees
  sees_in g h i e = look_in (suc (skip s d)) g h i e

-- ---- how many

pub link_to_most : (L : List ℕ) (g : ℕ) (x : Bool) (o : Option ℕ) → length (gate_pair_to L g x o) ≤ 1
unfolding gate_pair_to
link_to_most L g x none = omega arith
link_to_most L g x (some h) = go (ltb (get_or L h 0) (get_or L g 0))
  where
    go : (b : Bool) → length (cond b (both g h x ∷ []) []) ≤ 1
    go true = omega arith
    go false = omega arith

-- ---- against the definition

none_kept : {A B : Type 0} (t : A → Bool) (f : B → A) → keep t [] ≡ map f []
unfolding keep
none_kept t f = refl

module _ (L : List ℕ) (vel : List Float) (g : ℕ) where
  keep_one : (h : ℕ) (x c : Bool) → ltb (get_or L h 0) (get_or L g 0) ≡ c → keep greater (pair_of L vel (both g h x) ∷ []) ≡ map (pair_of L vel) (cond c (both g h x ∷ []) [])
  unfolding keep greater pair_of
  keep_one h x true e = rw e refl
  keep_one h x false e = rw e refl

  to_same : (x : Bool) (o : Option ℕ) → keep greater (pair_to L vel g x o) ≡ map (pair_of L vel) (gate_pair_to L g x o)
  unfolding gate_pair_to pair_to keep pair_of
  to_same x none = refl
  to_same x (some h) = go (eqb (get_or L g 0) (get_or L h 0)) refl
    where
      go : (b : Bool) → eqb (get_or L g 0) (get_or L h 0) ≡ b
          → keep greater (cond b [] (pair_of L vel (both g h x) ∷ [])) ≡ map (pair_of L vel) (cond (ltb (get_or L h 0) (get_or L g 0)) (both g h x ∷ []) [])
      go true e = rw (le-ltb (get_or L h 0) (get_or L g 0) (omega (arith, eqb-true (get_or L g 0) (get_or L h 0) e))) refl
      go false e = keep_one h x (ltb (get_or L h 0) (get_or L g 0)) refl

  at_same : (s : Shape) → keep greater (pairs_at s L vel g) ≡ map (pair_of L vel) (gate_pairs_at s L g)
  unfolding pairs_at gate_pairs_at
  at_same s = go (eqb (get_or L g 0) 0)
    where
      all : List Direction
      all = Left ∷ Right ∷ Top ∷ Bottom ∷ []

      to : Direction → List Pair
      to d = pair_to L vel g (bridges s L d g) (sees s L d g)

      each_way : keep greater (each to all) ≡ map (pair_of L vel) (each (gate_pairs_of s L g) all)
      each_way =
          keep_each greater to all
          ∙ each_same (λ d. keep greater (to d)) (λ d. map (pair_of L vel) (gate_pairs_of s L g d)) all (λ d. to_same (bridges s L d g) (sees s L d g))
          ∙ sym (map_each (pair_of L vel) (gate_pairs_of s L g) all)

      go : (b : Bool) → keep greater (cond b [] (each to all)) ≡ map (pair_of L vel) (cond b [] (each (gate_pairs_of s L g) all))
      go true = none_kept greater (pair_of L vel)
      go false = each_way

-- the definition's pairs of which the first label is the greater, in their order
pub links_same : (s : Shape) (L : List ℕ) (vel : List Float) → keep greater (pairs s L vel) ≡ map (pair_of L vel) (gate_pairs s L)
unfolding pairs gate_pairs
links_same s L vel =
    keep_each greater (pairs_at s L vel) (upto (length L) 0)
    ∙ each_same (λ g. keep greater (pairs_at s L vel g)) (λ g. map (pair_of L vel) (gate_pairs_at s L g)) (upto (length L) 0) (λ g. at_same L vel g s)
    ∙ sym (map_each (pair_of L vel) (gate_pairs_at s L) (upto (length L) 0))
