-- What the program `book` prints for a file: the merge book of its sweep, one entry a line, and a last line with how many entries there are and the
-- sums of their weights and of the gates they moved. A file or a sweep that is refused, or has more than 128 gates, prints nothing. Definitions only.
use Rattle.std.specs.Prelude.{ℕ, List, [], ◌∷◌, ◌++◌, map, length, pos}
use Rattle.lists.specs.Seq.{each, sum}
use Rattle.network.specs.Book.{Entry, numbers}
use Rattle.sweep.specs.Sweep.{regions_of}
use Rattle.sweep.specs.Questions.{own_limits}
use Rattle.sweep_book.specs.Book.{book_of}
use Rattle.files.specs.Format.{sweep_in}
use Rattle.files.specs.Questions.{as_sweep}
use Rattle.printout.specs.Text.{line}
use Rattle.printout.specs.Unfold.{Printed, printed_with}

-- the text of entries: base, moved node, weight, bridged pairs, folds and gates of each; then how many there are, all weights and all gates
unfoldable pub book_text : List Entry → List ℕ
book_text vs =
    each (λ v. line (numbers v)) vs ++ line (pos (length vs) ∷ pos (sum (map (λ (v : Entry). v.weight) vs)) ∷ pos (sum (map (λ (v : Entry). v.gates) vs)) ∷ [])

-- the entries of a file's sweep, by its own limits
unfoldable pub file_book : List ℕ → List Entry
file_book f = let s = as_sweep (sweep_in f) in book_of s (regions_of s (own_limits s))

-- what `book` prints for a file; the counts do not matter
unfoldable pub printed_book : List ℕ → Printed
printed_book f = printed_with (λ counts. book_text (file_book f)) f
