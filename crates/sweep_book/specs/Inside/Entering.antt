-- Entries from the log of merges into a book: what each function asks, and what it leaves.
use Rattle.std.specs.Prelude.{Ok, Err, ℕ, ◌+◌, ◌*◌, ◌≤◌, ◌<◌, ◌^◌, List, [], ◌∷◌, ◌≡◌, ℤ, pos, length, slice_index}
use Rattle.lists.specs.Seq.{tabulate}
use Rattle.memory.specs.Inside.Layout.{book_at}
use Rattle.merge.specs.Inside.Steps.{unbias}
use Rattle.network.specs.Inside.Log.{entry_in}
use Rattle.network.specs.declared.find.Run.{Run}
use Rattle.network.specs.Inside.Find.{Finding}
use Rattle.sweep_book.specs.Book.{over}

-- counts, marks and pair of a sweep of n gates
abbrev pub Lends : ℕ → List ℤ → List ℕ → List ℕ → Type 0
Lends n cs ds p = (length cs ≡ n) × (length ds ≡ n) × (length p ≡ 2)

-- the six numbers that the words from `at` on say
unfoldable pub numbers_at : List ℕ → ℕ → List ℤ
numbers_at w at =
    pos (slice_index w at) ∷ pos (slice_index w (at + 1)) ∷ pos (slice_index w (at + 2)) ∷ pos (slice_index w (at + 3)) ∷ unbias (slice_index w (at + 4)) ∷ pos (slice_index w (at + 5)) ∷ []

-- k entries in the words from `at` on, each number within an i32, and a book that holds them
pub record Enters (w : List ℕ) (at k long : ℕ) : Type 0 where
  pub room : at + 6 * k ≤ length w
  pub holds : 6 * k ≤ long
  pub low : (j : ℕ) → j < 6 * k → slice_index w (at + j) < 2 ^ 31
  pub gains : (j : ℕ) → j < k → slice_index w (at + (6 * j + 4)) ≤ 2000

-- the book with the first k entries of the words from `at` on
abbrev pub entered_from : List ℕ → ℕ → ℕ → List ℤ → List ℤ
entered_from w at k b = over (tabulate k (entry_in (λ j. slice_index w (at + j)))) b

-- what was found, entered: nothing where question 9 refused
abbrev pub entered_by : Finding → List ℕ → ℕ → List ℤ → List ℤ
entered_by (Ok r) w n b = entered_from w (book_at n r.regions) r.merges b
entered_by (Err e) w n b = b

-- what entering asks, of n gates
pub record EntersFound (f : Finding) (w : List ℕ) (n long : ℕ) : Type 0 where
  pub asks : (r : Run) → f ≡ Ok r → Enters w (book_at n r.regions) r.merges long
