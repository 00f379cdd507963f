-- What the programs rely on. `proofs/Theorems` proves it. Statements only.
use Rattle.std.specs.Prelude.{ℕ, ◌<◌, ◌≡◌, List, [], length}
use Rattle.printout.specs.Unfold.{printed}
use Rattle.printout.specs.Book.{printed_book}

-- `longer_prints_nothing`: no file of at most 128 gates has more than 2,178 bytes, so that a program need not read further
abbrev pub LongerPrintsNothing : Type 0
LongerPrintsNothing = (f : List ℕ) → 2178 < length f → ((printed f).text ≡ []) × ((printed_book f).text ≡ [])
