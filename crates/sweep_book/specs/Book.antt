-- The call of the sweep entry with a book: from the inputs and everything lent to the answer number and everything lent afterwards.
use Rattle.std.specs.Prelude.{ℕ, ◌-◌, ◌/◌, Bool, cond, List, [], ◌∷◌, ◌++◌, leb, length, drop, ℤ, Float}
use Rattle.std.proofs.Math.Option.{Option, none, some}
use Rattle.lists.specs.Seq.{each}
use Rattle.labels.specs.Label.{Found}
use Rattle.network.specs.Network.{merges}
use Rattle.network.specs.Book.{Entry, book, numbers}
use Rattle.sweep.specs.Sweep.{Sweep, regions_of, network_of, early, unfolded}
use Rattle.sweep.specs.Questions.{Question, ask, first_no, Lent, eight_of, answered, own_limits}
use Rattle.sweep.specs.Call.{Memory, Answer, lengths, worked_on, ending}

-- the entries of a sweep with these regions: none in an early end
unfoldable pub book_of : Sweep → Found → List Entry
book_of s f = cond (early s f) [] (book (network_of s f) (merges (network_of s f)))

-- their numbers over the front of a book; what lies behind them stays
unfoldable pub over : List Entry → List ℤ → List ℤ
over vs b = each numbers vs ++ drop (length (each numbers vs)) b

-- how many entries a book of this length holds
unfoldable pub holds : ℕ → ℕ
holds long = long / 6

-- question 13: a book of this length holds as many entries as there are regions, less one
unfoldable pub book_holds : ℕ → ℕ → Bool
book_holds regions long = leb (regions - 1) (holds long)

-- questions 13 and 9, of a sweep with these limits
unfoldable pub later : Sweep → List Float → ℕ → List Question
later s limits long = ask 13 (book_holds (regions_of s limits).number long) ∷ ask 9 (unfolded s limits).merges_in_range ∷ []

-- the first of questions 1 to 8, 13 and 9 that gets a no
unfoldable pub asked_book : Sweep → Lent → ℕ → Option ℕ
asked_book s l long = first_no (eight_of s l ++ later s (own_limits s) long)

-- an answer with the memory afterwards, as the sweep entry has it, and the book
pub record BookAnswer : Type 0 where
  pub answer : Answer
  pub book : List ℤ

-- the same, of what the slices hold
abbrev pub book_answer_by : Answer → List ℤ → BookAnswer
book_answer_by a b = record { answer = a; book = b }

-- the book by the first no: a refusal leaves it
unfoldable pub book_after : Option ℕ → List Entry → List ℤ → List ℤ
book_after none vs b = over vs b
book_after (some k) vs b = b

-- the end of a call by the first no, of a sweep with these limits
unfoldable pub end_book : Option ℕ → Sweep → List Float → Memory → List ℤ → BookAnswer
end_book o s limits m b = record { answer = ending (answered o (unfolded s limits)) m; book = book_after o (book_of s (regions_of s limits)) b }

-- the call
unfoldable pub call_book : Sweep → Memory → List ℤ → BookAnswer
call_book s m b = end_book (asked_book s (lengths m) (length b)) s (own_limits s) (worked_on s m) b
