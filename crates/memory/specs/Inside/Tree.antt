-- A winner tree over the first m words, and what it is when all but the places on one way to the root are played.
use Rattle.std.specs.Prelude.{◌≡◌, cond, List, ℕ, zero, suc, ◌+◌, ◌*◌, ◌/◌, ◌≤◌, ◌<◌, ltb, length, get_or, take, drop}

unfoldable pub pick : ℕ → ℕ → ℕ → ℕ → ℕ
pick a b i j = cond (ltb b a) i (cond (ltb a b) j (cond (ltb i j) i j))

-- the winner at place k: the better of those at its two children
unfoldable pub winner : ℕ → List ℕ → ℕ → ℕ
winner m w k = pick (get_or w (get_or w (m + 2 * k) 0) 0) (get_or w (get_or w (m + 2 * k + 1) 0) 0) (get_or w (m + 2 * k) 0) (get_or w (m + 2 * k + 1) 0)

-- what a game at place k asks: the place, its children and their weights lie in w
pub record Game (m : ℕ) (w : List ℕ) (k : ℕ) : Type 0 where
  pub left_in : m + 2 * k + 1 < length w
  pub i_lt : get_or w (m + 2 * k) 0 < length w
  pub j_lt : get_or w (m + 2 * k + 1) 0 < length w
  pub k_in : m + k < length w

-- the place t levels above x
unfoldable pub up : ℕ → ℕ → ℕ
up zero x = x
up (suc t) x = up t (x / 2)

-- place j is on the way from place x to the root
abbrev pub On : ℕ → ℕ → Type 0
On x j = (t : ℕ) × (up t x ≡ j)

-- x is at least as good as y: heavier, or as heavy and not after it
pub record Beats (w : List ℕ) (x y : ℕ) : Type 0 where
  pub heavy : get_or w y 0 ≤ get_or w x 0
  pub early : y < x → get_or w y 0 < get_or w x 0

pub record Won (m : ℕ) (w : List ℕ) (k : ℕ) : Type 0 where
  pub left : Beats w (get_or w (m + k) 0) (get_or w (m + 2 * k) 0)
  pub right : Beats w (get_or w (m + k) 0) (get_or w (m + 2 * k + 1) 0)

-- places from lo on hold winners, but for those on the way from dirty to the root
pub record Played (m : ℕ) (w : List ℕ) (lo dirty : ℕ) : Type 0 where
  pub room : 3 * m ≤ length w
  pub leaf : (e : ℕ) → e < m → get_or w (m + (m + e)) 0 ≡ e
  pub small : (k : ℕ) → lo ≤ k → 1 ≤ k → k < 2 * m → get_or w (m + k) 0 < m
  pub below : (k : ℕ) → lo ≤ k → 1 ≤ k → k < 2 * m → On (m + get_or w (m + k) 0) k
  pub won : (k : ℕ) → lo ≤ k → 1 ≤ k → k < m → (On dirty k → ⊥) → Won m w k

abbrev pub Dirty : ℕ → List ℕ → ℕ → Type 0
Dirty m w k = Played m w 1 k

abbrev pub Tree : ℕ → List ℕ → Type 0
Tree m w = Played m w 1 0

-- only the tree has changed, and it is played
pub record Built (m lo : ℕ) (w₀ w : List ℕ) : Type 0 where
  pub weights : take m w ≡ take m w₀
  pub rest : drop (3 * m) w ≡ drop (3 * m) w₀
  pub long : length w ≡ length w₀
  pub tree : Played m w lo 0

abbrev pub Weighed : ℕ → List ℕ → List ℕ → Type 0
Weighed m w₀ w = Built m 1 w₀ w

-- e is the heaviest, and heavier than each before it
pub record Best (m : ℕ) (w : List ℕ) (e : ℕ) : Type 0 where
  pub within : e < m
  pub beats : (j : ℕ) → j < m → Beats w e j
