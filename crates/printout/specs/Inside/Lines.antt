-- A line of numbers of any type, each with its text.
use Rattle.std.specs.Prelude.{ℕ, List, [], ◌∷◌, ◌++◌, map}
use Rattle.printout.specs.Text.{parted}

-- the numbers parted by one space, and a newline
unfoldable pub line_by : {A : Type 0} → (A → List ℕ) → List A → List ℕ
line_by text xs = parted (map text xs) ++ (10 ∷ [])
