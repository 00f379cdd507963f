-- edges.rs: looks, pairs, and the edge records. Four types are the code's own: a `Shape` is rays, gates per ray, the two skips, and whether
-- rays wrap; a `Direction` is Left or Right, from ray to ray, or Top or Bottom, along a ray; a `Pair` is two labels, the velocities at either
-- end, and whether the look was bridged; an `EdgeRecord` is two labels, the number of their pairs, the sums of the velocities at either end,
-- and how many of the pairs are bridged.
use Rattle.std.specs.Prelude.{ℕ, zero, suc, ◌+◌, ◌-◌, ◌*◌, ◌%◌, Bool, true, false, cond, not, List, [], ◌∷◌, length, ◌==◌, nat_le, nat_lt, slice_index, slice_index_or, Float}
use mathlib.Core.List.{foldl}
use Rattle.std.proofs.Math.Option.{Option, none, some}
use Rattle.std.specs.Float.{nan, binary64}
use Rattle.std.specs.Float.Ieee.{add, sub, div}
use Rattle.lists.specs.Seq.{upto, keep, each}
use Rattle.arithmetic.specs.Rounding.{narrowed}
pub use Rattle.edges.specs.declared.edges.Shape.{Shape}
pub use Rattle.edges.specs.declared.edges.Direction.{Direction}
pub use Rattle.edges.specs.declared.edges.Direction.TheVariants.{Left, Right, Top, Bottom}
pub use Rattle.edges.specs.declared.edges.Pair.{Pair}
pub use Rattle.edges.specs.declared.edges.EdgeRecord.{EdgeRecord}

-- the gate one step from gate g, if it doesn't leave the sweep
unfoldable pub next : Shape → Direction → ℕ → Option ℕ
next s Left g = cond (nat_le s.gates g) (some (g - s.gates)) (cond (s.wrap == 1) (some (g + (s.rays - 1) * s.gates)) none)
next s Right g = cond (nat_lt (g + s.gates) (s.rays * s.gates)) (some (g + s.gates)) (cond (s.wrap == 1) (some (g % s.gates)) none)
next s Top g = cond (not (g % s.gates == 0)) (some (g - 1)) none
next s Bottom g = cond (not (suc g % s.gates == 0)) (some (suc g)) none

-- how many further steps a look takes over label 0
unfoldable pub skip : Shape → Direction → ℕ
skip s Left = s.skip_between_rays
skip s Right = s.skip_between_rays
skip s Top = s.skip_along_ray
skip s Bottom = s.skip_along_ray

-- the first labelled gate within k steps of gate g
unfoldable pub look : Shape → Direction → List ℕ → ℕ → ℕ → Option ℕ
look s d labels zero g = none
look s d labels (suc k) g = elim (next s d g) [
  | none ↦ none
  | some h ↦ elim (slice_index labels h) [ zero ↦ look s d labels k h | suc l ↦ some h ]
]

-- the gate that gate g sees
unfoldable pub sees : Shape → List ℕ → Direction → ℕ → Option ℕ
sees s labels d g = look s d labels (suc (skip s d)) g

-- whether gate g's look takes more than one step, over masked gates or valid ones of label 0: within one step it sees nothing
unfoldable pub bridges : Shape → List ℕ → Direction → ℕ → Bool
bridges s labels d g = elim (look s d labels 1 g) [ none ↦ true | some h ↦ false ]

-- a pair, where a gate is seen, by a look that was bridged or not, and has another label
unfoldable pub pair_to : List ℕ → List Float → ℕ → Bool → Option ℕ → List Pair
pair_to labels vel g b none = []
pair_to labels vel g b (some h) =
    cond (slice_index labels g == slice_index labels h) []
    (record { one = slice_index labels g; two = slice_index labels h; vel1 = slice_index_or vel g nan; vel2 = slice_index_or vel h nan; bridged = b } ∷ [])

-- the pairs of gate g, if it is labelled
unfoldable pub pairs_at : Shape → List ℕ → List Float → ℕ → List Pair
pairs_at s labels vel g =
    cond (slice_index labels g == 0) []
    (each (λ d. pair_to labels vel g (bridges s labels d g) (sees s labels d g)) (Left ∷ Right ∷ Top ∷ Bottom ∷ []))

-- all pairs, in scan order
unfoldable pub pairs : Shape → List ℕ → List Float → List Pair
pairs s labels vel = each (pairs_at s labels vel) (upto (length labels) 0)

-- one more, where asked
unfoldable pub plus_one_if : Bool → ℕ → ℕ
plus_one_if b n = cond b (suc n) n

-- the record of one pair
unfoldable pub begun : Pair → EdgeRecord
begun p = record { one = p.one; two = p.two; count = 1; sum1 = p.vel1; sum2 = p.vel2; bridged = plus_one_if p.bridged 0 }

-- a record with one more pair
unfoldable pub plus : EdgeRecord → Pair → EdgeRecord
plus r p = record {
  one = r.one;
  two = r.two;
  count = suc r.count;
  sum1 = add binary64 r.sum1 p.vel1;
  sum2 = add binary64 r.sum2 p.vel2;
  bridged = plus_one_if p.bridged r.bridged;
}

-- the difference of a record: (sum1 − sum2)/(2 × Nyquist) in f64, narrowed to f32; w is 2 × Nyquist
unfoldable pub difference : Float → EdgeRecord → Float
difference w r = narrowed (div binary64 (sub binary64 r.sum1 r.sum2) w)

-- pairs gathered into one record, in their order: none if there are none
unfoldable pub gathered : List Pair → List EdgeRecord
gathered [] = []
gathered (p ∷ ps) = foldl plus (begun p) ps ∷ []

-- whether a pair's first label is a
unfoldable pub first_is : ℕ → Pair → Bool
first_is a p = p.one == a

-- whether a pair's second label is b
unfoldable pub second_is : ℕ → Pair → Bool
second_is b p = p.two == b

-- the records of these pairs by first label, of labels 1 to n
unfoldable pub records_of : ℕ → List Pair → List EdgeRecord
records_of n ps = each (λ a. gathered (keep (first_is a) ps)) (upto n 1)

-- all records, by second label and then first
unfoldable pub records : ℕ → List Pair → List EdgeRecord
records n ps = each (λ b. records_of n (keep (second_is b) ps)) (upto n 1)

-- whether a record's first label is the greater
unfoldable pub greater_first : EdgeRecord → Bool
greater_first r = nat_lt r.two r.one

-- the records that become the edges
unfoldable pub used : ℕ → List Pair → List EdgeRecord
used n ps = keep greater_first (records n ps)
