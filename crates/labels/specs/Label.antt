-- label.rs: the 4-connected areas of a set of gates, numbered from 1 by their first gate in scan order. No wrap.
use Rattle.std.specs.Prelude.{ℕ, suc, ◌-◌, ◌%◌, min, max, Bool, false, cond, not, ◌&&◌, leb, List, [], ◌∷◌, ◌++◌, map, length, ◌==◌, nat_eq, nat_le, slice_index, slice_index_or}
use mathlib.Core.List.{foldl}
use Rattle.lists.specs.Seq.{upto, tabulate, keep, each}

-- A gate's root is 0 outside the set, and inside it 1 + the number of a gate of its area. At first a gate is its own.
unfoldable pub own : List Bool → List ℕ
own inside = tabulate (length inside) (λ g. cond (slice_index_or inside g false) (suc g) 0)

-- two gates that touch, the earlier first
pub record Neighbours : Type 0 where
  pub a : ℕ
  pub b : ℕ

-- the link of gate g to the gate of the ray before, if both are inside
unfoldable pub above : ℕ → List Bool → ℕ → List Neighbours
above gates inside g = cond (slice_index_or inside g false && nat_le gates g && slice_index_or inside (g - gates) false) (record { a = g - gates; b = g } ∷ []) []

-- and to the gate before on its ray
unfoldable pub before : ℕ → List Bool → ℕ → List Neighbours
before gates inside g = cond (slice_index_or inside g false && not (g % gates == 0) && slice_index_or inside (g - 1) false) (record { a = g - 1; b = g } ∷ []) []

-- the links of gate g
unfoldable pub links_at : ℕ → List Bool → ℕ → List Neighbours
links_at gates inside g = above gates inside g ++ before gates inside g

-- all links, in scan order
unfoldable pub links : ℕ → List Bool → List Neighbours
links gates inside = each (links_at gates inside) (upto (length inside) 0)

-- of two areas' roots the lesser takes the place of the greater
unfoldable pub swap : ℕ → ℕ → ℕ → ℕ
swap x y r = cond (r == max x y) (min x y) r

-- the areas of two gates made one
unfoldable pub join : List ℕ → Neighbours → List ℕ
join roots l = map (swap (slice_index roots l.a) (slice_index roots l.b)) roots

-- all links joined: a gate's root is then the first gate of its area
unfoldable pub roots : ℕ → List Bool → List ℕ
roots gates inside = foldl join (own inside) (links gates inside)

-- the roots that are gates' own, rising
unfoldable pub firsts : List ℕ → List ℕ
firsts rs = keep (λ r. nat_eq (slice_index rs (r - 1)) r) (upto (length rs) 1)

-- how many firsts there are up to r: the label of an area whose root is r, and 0 for 0
unfoldable pub rank : List ℕ → ℕ → ℕ
rank fs r = length (keep (λ f. leb f r) fs)

-- labels by gate, and how many areas there are
pub record Found : Type 0 where
  pub labels : List ℕ
  pub number : ℕ

-- the labels of roots
unfoldable pub labelled : List ℕ → Found
labelled rs = let fs = firsts rs in record { labels = map (rank fs) rs; number = length fs }

-- the areas of a set of gates
unfoldable pub areas : ℕ → List Bool → Found
areas gates inside = labelled (roots gates inside)
