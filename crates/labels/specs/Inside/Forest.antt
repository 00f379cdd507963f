-- What the words of a union-find say: words w against the roots rs of the definition. A word is 0 outside, and inside 1 + a gate of the same area, not later.
use Rattle.std.specs.Prelude.{◌≡◌, ℕ, suc, ◌+◌, ◌-◌, ◌^◌, ◌<◌, ◌≤◌, Bool, true, false, List, length, get_or, slice_index, slice_index_or}

-- the word of an inside gate
pub record Parent (inside : List Bool) (w rs : List ℕ) (i : ℕ) : Type 0 where
  pub some : 0 < slice_index w i
  pub not_later : get_or w i 0 ≤ suc i
  pub here : get_or inside (slice_index w i - 1) false ≡ true
  pub same : get_or rs (slice_index w i - 1) 0 ≡ slice_index rs i

-- words that hold the areas of rs
pub record Forest (inside : List Bool) (w rs : List ℕ) : Type 0 where
  pub long : length w ≡ length inside
  pub roots_long : length rs ≡ length inside
  pub out : (i : ℕ) → slice_index_or inside i false ≡ false → slice_index w i ≡ 0
  pub out_root : (i : ℕ) → slice_index_or inside i false ≡ false → slice_index rs i ≡ 0
  pub parent : (i : ℕ) → slice_index_or inside i false ≡ true → Parent inside w rs i
  pub first : (i : ℕ) → slice_index w i ≡ suc i → slice_index rs i ≡ suc i
  pub low : (i : ℕ) → slice_index rs i ≤ suc i

-- the words hold some areas
pub record Some (w : List ℕ) : Type 0 where
  pub inside : List Bool
  pub rs : List ℕ
  pub forest : Forest inside w rs
  pub small : length w + 1 < 2 ^ 32

-- gate g has a word, or a band, that is not 0
abbrev pub Gate : List ℕ → ℕ → Type 0
Gate w g = 0 < slice_index w g

-- the root of gate g, found as r
pub record Root (inside : List Bool) (w rs : List ℕ) (g r : ℕ) : Type 0 where
  pub forest : Forest inside w rs
  pub root : get_or rs g 0 ≡ suc r
  pub self : get_or rs r 0 ≡ suc r
  pub in_r : get_or inside r false ≡ true
