-- All intervals at once: a gate's band is 1 + the number of the interval that holds it, or 0; gates are joined within their band.
use Rattle.std.specs.Prelude.{◌≡◌, ℕ, suc, ◌-◌, ◌%◌, ◌<◌, Bool, cond, not, ◌&&◌, List, [], ◌∷◌, ◌++◌, map, length, ◌==◌, nat_le, slice_index, slice_index_or, Float}
use mathlib.Core.List.{foldl}
use Rattle.std.specs.Float.{nan}
use Rattle.lists.specs.Seq.{upto, tabulate, each}
use Rattle.labels.specs.Label.{Neighbours, own, join}
use Rattle.labels.specs.Regions.{Interval, within}

-- interval j of the limits
unfoldable pub window : List Float → ℕ → Interval
window limits j = record { lower = slice_index_or limits j nan; upper = slice_index_or limits (suc j) nan }

-- r is the band of a gate with velocity x and mask byte m
pub record Band (limits : List Float) (x : Float) (m r : ℕ) : Type 0 where
  pub small : 0 < r → r < length limits
  pub is : (j : ℕ) → suc j < length limits → within (window limits j) x m ≡ (r == suc j)

-- the bands of all gates
pub record Bands (limits : List Float) (vel : List Float) (mask iv : List ℕ) : Type 0 where
  pub long : length iv ≡ length mask
  pub at : (i : ℕ) → i < length mask → Band limits (slice_index_or vel i nan) (slice_index mask i) (slice_index iv i)

-- the gates that have a band
unfoldable pub marks : List ℕ → List Bool
marks iv = map (λ b. not (b == 0)) iv

-- the link of gate g to the gate of the ray before, if both are of one band
unfoldable pub above_in : ℕ → List ℕ → ℕ → List Neighbours
above_in gates iv g = cond (not (slice_index iv g == 0) && nat_le gates g && slice_index iv (g - gates) == slice_index iv g) (record { a = g - gates; b = g } ∷ []) []

-- and to the gate before on its ray
unfoldable pub before_in : ℕ → List ℕ → ℕ → List Neighbours
before_in gates iv g = cond (not (slice_index iv g == 0) && not (g % gates == 0) && slice_index iv (g - 1) == slice_index iv g) (record { a = g - 1; b = g } ∷ []) []

-- the links of gate g
unfoldable pub links_in : ℕ → List ℕ → ℕ → List Neighbours
links_in gates iv g = above_in gates iv g ++ before_in gates iv g

-- the links of the gates from g on
unfoldable pub later_in : ℕ → List ℕ → ℕ → List Neighbours
later_in gates iv g = each (links_in gates iv) (upto (length iv - g) g)

-- all gates joined within their bands
unfoldable pub joint : ℕ → List ℕ → List ℕ
joint gates iv = foldl join (own (marks iv)) (later_in gates iv 0)

-- the roots of one band
unfoldable pub part : List ℕ → List ℕ → ℕ → List ℕ
part iv rs j = tabulate (length iv) (λ g. cond (slice_index iv g == suc j) (slice_index rs g) 0)

-- the band of the gate before gate g on its ray; 0 where g starts a ray
unfoldable pub band_before : ℕ → List ℕ → ℕ → ℕ
band_before gates iv g = cond (g % gates == 0) 0 (slice_index iv (g - 1))
