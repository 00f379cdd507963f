-- Indices sorted by two passes are the pairs in the definition's order; and what the gate_pairs are. Assumes nothing.
use Rattle.std.proofs.Common.{◌≡◌, ℕ, zero, suc, ◌+◌, Bool, true, false, cond, eqb, ltb, List, [], ◌∷◌, ◌++◌, map, length, get_or, sym, refl, ap, ◌∙◌, arith, ltb-true}
use mathlib.Core.Option.{Option, none, some}
use lib.Ieee.{Float, nan}
use Rattle.lists.specs.Seq.{upto, keep, each, All}
use Rattle.lists.proofs.SeqLaws.{keep_each, keep_of_map, keep_same, map_each, each_same, keep_swap}
use Rattle.memory.specs.Inside.Sort.{key_is, sorted}
use Rattle.edges.specs.Edges.{Shape, Left, Right, Top, Bottom, sees, bridges, skip, Pair, first_is, second_is, pairs, records, used}
use Rattle.edges.specs.Inside.GatePairs.{GatePair, both, gate_pair_to, gate_pairs_of, gate_pairs_at, gate_pairs, pair_of}
use Rattle.edges.specs.Inside.Order.{ordered, runs}
use Rattle.edges.proofs.GatePairLaws.{look_labelled, links_same}
use Rattle.edges.proofs.Runs.{Labelled, runs_records, used_records}

-- no pair
abbrev pub blank : Pair
blank = record { one = 0; two = 0; vel1 = nan; vel2 = nan; bridged = false }

key_at : (key : Pair → ℕ) → key blank ≡ 0 → (ps : List Pair) (i : ℕ) → get_or (map key ps) i 0 ≡ key (get_or ps i blank)
key_at key z [] i = sym z
key_at key z (p ∷ ps) zero = refl
key_at key z (p ∷ ps) (suc i) = key_at key z ps i

map_from : (qs ps : List Pair) (k : ℕ) → ((i : ℕ) → get_or qs (k + i) blank ≡ get_or ps i blank) → map (λ i. get_or qs i blank) (upto (length ps) k) ≡ ps
unfolding upto
map_from qs [] k h = refl
map_from qs (p ∷ ps) k h = rw (ap (λ (x : ℕ). get_or qs x blank) {x = k} {y = k + 0} (omega arith) ∙ h 0, map_from qs ps (suc k) (λ i. ap (λ (x : ℕ). get_or qs x blank) {x = suc k + i} {y = k + suc i} (omega arith) ∙ h (suc i))) refl

all_of : (ps : List Pair) → map (λ i. get_or ps i blank) (upto (length ps) 0) ≡ ps
all_of ps = map_from ps ps 0 (λ i. ap (λ (x : ℕ). get_or ps x blank) (omega arith))

map_sorted : (key : Pair → ℕ) → key blank ≡ 0 → (ps : List Pair) (k : ℕ) (S : List ℕ) → map (λ i. get_or ps i blank) (sorted (map key ps) k S) ≡ each (λ v. keep (λ p. eqb (key p) v) (map (λ i. get_or ps i blank) S)) (upto k 0)
unfolding sorted
map_sorted key z ps k S =
    map_each (λ i. get_or ps i blank) (λ v. keep (key_is (map key ps) v) S) (upto k 0)
    ∙ each_same (λ v. map (λ i. get_or ps i blank) (keep (key_is (map key ps) v) S)) (λ v. keep (λ p. eqb (key p) v) (map (λ i. get_or ps i blank) S)) (upto k 0) (λ v.
    ap (map (λ i. get_or ps i blank)) (keep_same (key_is (map key ps) v) (λ i. eqb (key (get_or ps i blank)) v) S (λ i. ap (λ (x : ℕ). eqb x v) (key_at key z ps i)))
    ∙ sym (keep_of_map (λ i. get_or ps i blank) (λ p. eqb (key p) v) S))

-- two passes, by first label and then by second
pub two_passes : (ps : List Pair) (k : ℕ) → map (λ i. get_or ps i blank) (sorted (map (λ p. p.two) ps) k (sorted (map (λ p. p.one) ps) k (upto (length ps) 0))) ≡ ordered k ps
unfolding ordered first_is second_is
two_passes ps k =
    map_sorted (λ p. p.two) refl ps k (sorted (map (λ p. p.one) ps) k (upto (length ps) 0))
    ∙ ap (λ (l : List Pair). each (λ v. keep (λ p. eqb p.two v) l) (upto k 0)) (map_sorted (λ p. p.one) refl ps k (upto (length ps) 0))
    ∙ ap (λ (l : List Pair). each (λ v. keep (λ p. eqb p.two v) (each (λ u. keep (λ p. eqb p.one u) l) (upto k 0))) (upto k 0)) (all_of ps)
    ∙ each_same (λ v. keep (λ p. eqb p.two v) (each (λ u. keep (λ p. eqb p.one u) ps) (upto k 0))) (λ v. each (λ u. keep (λ p. eqb p.one u) (keep (λ p. eqb p.two v) ps)) (upto k 0)) (upto k 0) (λ v.
    keep_each (λ p. eqb p.two v) (λ u. keep (λ p. eqb p.one u) ps) (upto k 0)
    ∙ each_same (λ u. keep (λ p. eqb p.two v) (keep (λ p. eqb p.one u) ps)) (λ u. keep (λ p. eqb p.one u) (keep (λ p. eqb p.two v) ps)) (upto k 0) (λ u. keep_swap (λ p. eqb p.two v) (λ p. eqb p.one u) ps))

-- ---- the gate_pairs

module _ (L : List ℕ) (vel : List Float) where
  to_good : (g : ℕ) (x : Bool) (o : Option ℕ) → ((h : ℕ) → o ≡ some h → get_or L h 0 ≡ 0 → ⊥) → All Labelled (map (pair_of L vel) (gate_pair_to L g x o))
  unfolding gate_pair_to pair_of
  to_good g x none n = tt
  to_good g x (some h) n = go (ltb (get_or L h 0) (get_or L g 0)) refl
    where
      go : (b : Bool) → ltb (get_or L h 0) (get_or L g 0) ≡ b → All Labelled (map (pair_of L vel) (cond b (both g h x ∷ []) []))
      go true e = (record { one = omega (arith, n h refl, ltb-true (get_or L h 0) (get_or L g 0) e); two = omega (arith, n h refl) }, tt)
      go false e = tt

  append_good : (xs ys : List GatePair) → All Labelled (map (pair_of L vel) xs) → All Labelled (map (pair_of L vel) ys) → All Labelled (map (pair_of L vel) (xs ++ ys))
  append_good [] ys s t = t
  append_good (x ∷ xs) ys s t = (s.0, append_good xs ys s.1 t)

  each_good : {A : Type 0} (f : A → List GatePair) (l : List A) → ((x : A) → All Labelled (map (pair_of L vel) (f x))) → All Labelled (map (pair_of L vel) (each f l))
  unfolding each
  each_good f [] h = tt
  each_good f (x ∷ xs) h = append_good (f x) (each f xs) (h x) (each_good f xs h)

  at_good : (s : Shape) (g : ℕ) → All Labelled (map (pair_of L vel) (gate_pairs_at s L g))
  unfolding gate_pairs_at sees
  at_good s g = go (eqb (get_or L g 0) 0) (each_good (gate_pairs_of s L g) (Left ∷ Right ∷ Top ∷ Bottom ∷ []) (λ d. to_good g (bridges s L d g) (sees s L d g) (λ h e. look_labelled s d L (suc (skip s d)) g h e)))
    where
      go : (b : Bool) → All Labelled (map (pair_of L vel) (each (gate_pairs_of s L g) (Left ∷ Right ∷ Top ∷ Bottom ∷ []))) → All Labelled (map (pair_of L vel) (cond b [] (each (gate_pairs_of s L g) (Left ∷ Right ∷ Top ∷ Bottom ∷ []))))
      go true h = tt
      go false h = h

  links_good : (s : Shape) → All Labelled (map (pair_of L vel) (gate_pairs s L))
  unfolding gate_pairs
  links_good s = each_good (gate_pairs_at s L) (upto (length L) 0) (at_good s)

  -- the records that become the edges: the runs of the stored pairs, sorted
  pub used_runs : (s : Shape) (n : ℕ) → used n (pairs s L vel) ≡ runs (ordered (suc n) (map (pair_of L vel) (gate_pairs s L)))
  used_runs s n = used_records n (pairs s L vel) ∙ ap (records n) (links_same s L vel) ∙ sym (runs_records (map (pair_of L vel) (gate_pairs s L)) n (links_good s))
