-- A book as the code holds it, six numbers an entry: its text, and what an answer leaves of one.
use Rattle.std.specs.Prelude.{ℕ, List, [], ◌∷◌, ◌++◌, length, get_or, ℤ, pos, nat_abs, sum_by}
use Rattle.lists.specs.Seq.{each}
use Rattle.network.specs.Book.{Entry}
use Rattle.sweep.specs.Questions.{Outcome, refused, accepted}
use Rattle.sweep_book.specs.Book.{over}
use Rattle.printout.specs.Text.{line}

-- number k of each entry, without its sign, summed
abbrev pub column : ℕ → List (List ℤ) → ℕ
column k rows = sum_by (λ (r : List ℤ). nat_abs (get_or r k (pos 0))) rows

-- a line an entry, and a last line with how many there are, all weights and all gates
unfoldable pub rows_text : List (List ℤ) → List ℕ
rows_text rows = each line rows ++ line (pos (length rows) ∷ pos (column 2 rows) ∷ pos (column 5 rows) ∷ [])

-- a number, how many entries, and a book
pub record Booked : Type 0 where
  pub number : ℕ
  pub entries : ℕ
  pub book : List ℤ

-- the same by its parts
abbrev pub booked_by : ℕ → ℕ → List ℤ → Booked
booked_by number entries book = record { number = number; entries = entries; book = book }

-- what an answer with these entries is and leaves, of a number of entries and a book lent: a refusal leaves both as they were
unfoldable pub booked_of : Outcome → List Entry → ℕ → List ℤ → Booked
booked_of (refused k) vs n b = booked_by k n b
booked_of (accepted counts doubtful regions merges) vs n b = booked_by 0 merges (over vs b)
