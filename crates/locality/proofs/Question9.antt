-- Question 9 and an echo: with the limits held fixed, it gets a yes at every merge exactly if it does for the echo alone and for the rest alone. Assumes nothing.
use Prim.Native.Nat.{ℕ, zero, suc, ◌<◌}
use native.Mathlib.Omega.{arith}
use mathlib.Core.Path.{◌≡◌, refl, sym, ap, ◌∙◌, subst}
use mathlib.Core.Logic.{◌↔◌}
use mathlib.Core.Bool.{Bool, true, false, not, ◌&&◌, true≢false}
use mathlib.Core.List.{List, [], ◌∷◌, map}
use lib.ListN.{length, get_or, length-map}
use lib.Ieee.{Float}
use Rattle.lists.specs.Seq.{upto, All}
use Rattle.arithmetic.specs.Intervals.{two_nyquist}
use Rattle.lists.proofs.SeqLaws.{upto-length}
use Rattle.labels.specs.Label.{Found}
use Rattle.locality.proofs.Spot.{spot, shift, flag}
use Rattle.locality.proofs.RootsEcho.{at}
use Rattle.locality.proofs.RegionsEcho.{first_gates}
use Rattle.edges.specs.Edges.{pairs, used}
use Rattle.network.specs.Network.{State, size_in, network_by, merges_in_range}
use Rattle.network.proofs.Restrict.{restrict, Closed}
use Rattle.locality.proofs.Locality.{other}
use Rattle.locality.proofs.EdgesEcho.{record_in, used_all}
use Rattle.locality.proofs.PairsEcho.{flag_side, pairs_all}
use Rattle.locality.proofs.StartEcho.{edge_side}
use Rattle.locality.proofs.AcceptEcho.{range_image, range_sides, restrict_other}
use Rattle.sweep.specs.Sweep.{Sweep, regions_of, pairs_of, sizes, network_of}
use Rattle.locality.proofs.Echo.{only, flags, ApartBy, labels_follow, network_embeds}

-- question 9 of a sweep by these limits
unfoldable pub good_of : Sweep → List Float → Bool
good_of s limits = merges_in_range (network_of s (regions_of s limits))

-- the rest of an echo
unfoldable pub rest : (ℕ → Bool) → ℕ → Bool
rest E g = not (E g)

module _ (E : ℕ → Bool) (s : Sweep) (limits : List Float) (A : ApartBy E s limits) where
  abbrev f : Found
  f = regions_of s limits

  B : ApartBy (rest E) s limits
  B d g h p w = unfold rest in ap not (A d g h p w)

  abbrev p : ℕ → Bool
  p = flag (flags E s limits)

  abbrev p' : ℕ → Bool
  p' = flag (flags (rest E) s limits)

  abbrev N : State
  N = network_of s f

  side : (g : ℕ) → 0 < at f.labels g → p (at f.labels g) ≡ E g
  side = flag_side E s.shape (flags E s limits) f (regions_of (only E s) limits) (labels_follow E s limits A) A

  side' : (g : ℕ) → 0 < at f.labels g → p' (at f.labels g) ≡ not (E g)
  unfolding rest
  side' = flag_side (rest E) s.shape (flags (rest E) s limits) f (regions_of (only (rest E) s) limits) (labels_follow (rest E) s limits B) B

  contrary : All (λ r. record_in p' r ≡ not (record_in p r)) (used f.number (pairs_of s f))
  unfolding record_in pairs_of
  contrary = used_all (λ a b. (p' a && p' b) ≡ not (p a && p b)) f.number (pairs s.shape f.labels s.vel)
      (pairs_all (λ a b. (p' a && p' b) ≡ not (p a && p b)) s.shape f.labels s.vel
      (λ d g h x y w. rw (side g x, side h y, side' g x, side' h y) (twice (E g) (E h) (A d g h x w))))
    where
      twice : (a b : Bool) → a ≡ b → (not a && not b) ≡ not (a && b)
      twice true true h = refl
      twice true false h = absurd (true≢false h)
      twice false true h = absurd (true≢false (sym h))
      twice false false h = refl

  number_is : f.number ≡ length (first_gates s.shape.gates s.vel s.mask limits)
  unfolding flags
  number_is = (labels_follow E s limits A).number ∙ length-map (first_gates s.shape.gates s.vel s.mask limits) E

  not_map : (fs : List ℕ) (i : ℕ) → i < length fs → get_or (map (rest E) fs) i false ≡ not (get_or (map E fs) i false)
  unfolding rest
  not_map [] i h = absurd (omega arith)
  not_map (x ∷ fs) zero h = refl
  not_map (x ∷ fs) (suc i) h = not_map fs i (omega arith)

  labels_contrary : (i : ℕ) → i < length (sizes f) → p' (suc i) ≡ not (p (suc i))
  unfolding flag flags sizes
  labels_contrary i h = not_map (first_gates s.shape.gates s.vel s.mask limits) i (omega (arith, number_is, length-map (upto f.number 1) (size_in f.labels), upto-length f.number 1))

  other_side : restrict p' (edge_side p' (used f.number (pairs_of s f))) N ≡ restrict (other p) (other (edge_side p (used f.number (pairs_of s f)))) N
  unfolding network_of network_by pairs_of sizes
  other_side = restrict_other p p' (two_nyquist s.nyquist) (used f.number (pairs_of s f)) (sizes f) contrary labels_contrary

  image : merges_in_range (restrict p (edge_side p (used f.number (pairs_of s f))) N) ≡ merges_in_range (network_of (only E s) (regions_of (only E s) limits))
  image =
      ap (λ (n : ℕ). merges_in_range (restrict p (edge_side p (used n (pairs_of s f))) N)) (labels_follow E s limits A).number
      ∙ range_image (shift (flags E s limits)) (spot (map (record_in p) (used (length (flags E s limits)) (pairs_of s f)))) p (edge_side p (used (length (flags E s limits)) (pairs_of s f)))
      (network_of (only E s) (regions_of (only E s) limits)) N (network_embeds E s limits A (flags E s limits) (labels_follow E s limits A))

  image' : merges_in_range (restrict p' (edge_side p' (used f.number (pairs_of s f))) N) ≡ merges_in_range (network_of (only (rest E) s) (regions_of (only (rest E) s) limits))
  image' =
      ap (λ (n : ℕ). merges_in_range (restrict p' (edge_side p' (used n (pairs_of s f))) N)) (labels_follow (rest E) s limits B).number
      ∙ range_image (shift (flags (rest E) s limits)) (spot (map (record_in p') (used (length (flags (rest E) s limits)) (pairs_of s f)))) p' (edge_side p' (used (length (flags (rest E) s limits)) (pairs_of s f)))
      (network_of (only (rest E) s) (regions_of (only (rest E) s) limits)) N (network_embeds (rest E) s limits B (flags (rest E) s limits) (labels_follow (rest E) s limits B))

  closed : Closed p (edge_side p (used f.number (pairs_of s f))) N
  closed = subst (λ (n : ℕ). Closed p (edge_side p (used n (pairs_of s f))) N) (sym (labels_follow E s limits A).number) (network_embeds E s limits A (flags E s limits) (labels_follow E s limits A)).closed

  pub good_splits : (good_of s limits ≡ true) ↔ ((good_of (only E s) limits ≡ true) × (good_of (only (rest E) s) limits ≡ true))
  unfolding good_of
  good_splits = rw (← image, ← image', other_side) (range_sides p (edge_side p (used f.number (pairs_of s f))) N closed)
