-- What drawing keeps and answers as functions of lists, and what drawing asks of the window's memory.
use Rattle.std.specs.Prelude.{ℕ, ◌*◌, ◌≤◌, ◌<◌, ◌≡◌, true, cond, List, [], ◌∷◌, eqb, length, get_or, Float, Option, Some, None}
use Rattle.std.specs.Float.{inf}
use Rattle.memory.specs.Size.{gates_of_largest}
use Rattle.window.specs.declared.median.Four.{Four}
use Rattle.window.specs.Median.{infinity, middle, median}

-- the first four of values that never fall; infinity where there are fewer
abbrev pub four_of : List Float → Four
four_of l = record { a = get_or l 0 infinity; b = get_or l 1 infinity; c = get_or l 2 infinity; d = get_or l 3 infinity }

-- below every number where a gate's byte is 1, else infinity: a wind is read as the greater of itself and this
unfoldable pub floor_of : ℕ → Float
floor_of b = cond (eqb b 1) (inf true) infinity

-- the middle one of values that never fall, if there are any
abbrev pub middle_of : List Float → Option Float
middle_of [] = None
middle_of (v ∷ vs) = Some (middle (v ∷ vs))

-- the median of the winds that a gate shows, if it shows any: where it shows none, the picture has the median of none and the mark of none
abbrev pub drawn_of : List Float → Option Float
drawn_of [] = None
drawn_of (v ∷ vs) = Some (median (v ∷ vs))

-- eight places of n winds and n bytes, and at most eight sweeps from one of them on
pub record Held (ws : List Float) (bs : List ℕ) (n first held : ℕ) : Type 0 where
  pub winds : length ws ≡ 8 * n
  pub shown : length bs ≡ 8 * n
  pub small : n ≤ gates_of_largest
  pub place : first < 8
  pub few : held ≤ 8
