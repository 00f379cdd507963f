-- The numbering of all bands at once, with a counter for each.
use Rattle.std.specs.Prelude.{◌≡◌, ℕ, zero, suc, ◌+◌, ◌-◌, ◌^◌, ◌<◌, ◌≤◌, cond, List, length, ◌==◌, ◌≢◌, slice_index, slice_index_or}
use Rattle.labels.specs.Label.{firsts, rank}
use Rattle.labels.specs.Inside.Forest.{Forest}
use Rattle.labels.specs.Inside.Bands.{marks, part}

-- how many regions the first j bands have
unfoldable pub sizes : List ℕ → List ℕ → ℕ → ℕ
sizes iv rs zero = 0
sizes iv rs (suc j) = sizes iv rs j + length (firsts (part iv rs j))

-- the label of gate i: how many regions the bands below have, and its rank in its own
unfoldable pub final : List ℕ → List ℕ → List ℕ → ℕ → ℕ
final iv rs c i = cond (slice_index iv i == 0) 0 (slice_index c (slice_index iv i - 1) + rank (firsts (part iv rs (slice_index iv i - 1))) (slice_index rs i))

-- counters that hold how many regions each band has
abbrev pub Counted : List ℕ → List ℕ → List ℕ → Type 0
Counted iv rs c = (j : ℕ) → j < length c → slice_index c j ≡ length (firsts (part iv rs j))

-- the numbering before gate g: labels of the gates before, bands of the others, and counters over their starts c₀
pub record Numbering (iv rs c₀ labels c : List ℕ) (g : ℕ) : Type 0 where
  pub long : length labels ≡ length iv
  pub long_c : length c ≡ length c₀
  pub bands : (i r : ℕ) → slice_index rs i ≡ suc r → slice_index iv r ≡ slice_index iv i
  pub count : (j : ℕ) → j < length c → slice_index c j ≡ slice_index c₀ j + rank (firsts (part iv rs j)) g
  pub done : (i : ℕ) → i < g → slice_index labels i ≡ final iv rs c₀ i
  pub rest : (i : ℕ) → g ≤ i → slice_index labels i ≡ slice_index iv i
  pub numbered : (i : ℕ) → i < g → (slice_index iv i ≢ 0) → 0 < rank (firsts (part iv rs (slice_index iv i - 1))) (slice_index rs i)

-- gate g is the next to be numbered
pub record Ahead (w labels c : List ℕ) (g : ℕ) : Type 0 where
  pub iv : List ℕ
  pub rs : List ℕ
  pub c₀ : List ℕ
  pub forest : Forest (marks iv) w rs
  pub numbering : Numbering iv rs c₀ labels c g
  pub here : g < length w
  pub small : length w + 1 < 2 ^ 32
  pub band : slice_index_or iv g 0 ≤ length c
  pub fits : (j : ℕ) → j < length c → slice_index c j + 1 < 2 ^ 32

-- bands, words and counters before the numbering
pub record NumbersGates (w labels c : List ℕ) : Type 0 where
  pub rs : List ℕ
  pub forest : Forest (marks labels) w rs
  pub small : length w + 1 < 2 ^ 32
  pub band : (i : ℕ) → slice_index labels i ≤ length c
  pub bands : (i r : ℕ) → slice_index rs i ≡ suc r → slice_index labels r ≡ slice_index labels i
  pub fits : (j : ℕ) → j < length c → slice_index c j + length (firsts (part labels rs j)) + 1 < 2 ^ 32
