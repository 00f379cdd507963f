-- U11: the median of the winds that a gate shows in the sweeps held. `Middle` says what it is; proofs/MedianMeaning proves it.
use Rattle.std.specs.Prelude.{ℕ, ◌*◌, ◌/◌, ◌≤◌, ◌<◌, ◌≡◌, Bool, false, cond, List, [], ◌∷◌, length, get_or, pos, Float}
use Rattle.std.specs.Float.{nan, inf}
use Rattle.std.specs.Float.Ieee.{lt, is_nan}
use Rattle.lists.specs.Seq.{keep, Member}
use Rattle.arithmetic.specs.Rounding.{real}
use Rattle.arithmetic.specs.Intervals.{lesser, greater}

-- above every number
abbrev pub infinity : Float
infinity = inf false

-- x put in its place among values that never fall: at each of them the lesser stays and the greater goes on. At the end stands x itself, or
-- infinity where x is no number; the window's calls write numbers alone
unfoldable pub place : Float → List Float → List Float
place x [] = lesser x infinity ∷ []
place x (y ∷ ys) = lesser x y ∷ place (greater x y) ys

-- values put in their places one after another, s being those placed before
unfoldable pub placed : List Float → List Float → List Float
placed s [] = s
placed s (v ∷ vs) = placed (place v s) vs

-- the middle one of values that never fall: of an even number the lower of the two, of none 0
unfoldable pub middle : List Float → Float
middle [] = real (pos 0)
middle (v ∷ vs) = get_or (v ∷ vs) (length vs / 2) nan

-- the median
unfoldable pub median : List Float → Float
median vs = middle (placed [] vs)

-- the mark: 1 for none, else 0
unfoldable pub mark : List Float → ℕ
mark [] = 1
mark (v ∷ vs) = 0

-- ---- what the median is

-- a value that is a number
abbrev pub Number : Float → Type 0
Number x = is_nan x ≡ false

-- how many values pass a test
abbrev pub count : (Float → Bool) → List Float → ℕ
count p vs = length (keep p vs)

-- x is the median of vs: one of them, with fewer than half of them below it and at most half above it; so of an even number the lower one
pub record Middle (x : Float) (vs : List Float) : Type 0 where
  pub one : Member x vs
  pub below : 2 * count (λ v. lt v x) vs < length vs
  pub above : 2 * count (λ v. lt x v) vs ≤ length vs
