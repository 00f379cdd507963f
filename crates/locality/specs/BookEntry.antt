-- What a caller of `jivakkol_dealias_sweep_book` may rely on, from its contract alone: s is the sweep that the call's parameters are, m the memory
-- and b the book lent at entry, a the answer and everything lent at exit. BookTheorems proves each. Statements only.
use Rattle.std.specs.Prelude.{◌<◌, ◌≡◌, List, ◌∷◌, ◌++◌, length, get_or, ℤ, Float}
use Rattle.lists.specs.Seq.{tabulate}
use Rattle.network.specs.Book.{Entry, replayed}
use Rattle.network.specs.BookTheorems.{EntryHolds}
use Rattle.sweep.specs.Sweep.{Sweep, regions_of, gate_count, unfolded}
use Rattle.sweep.specs.Questions.{gates_in, own_limits}
use Rattle.sweep.specs.Call.{Memory, cleared_for, call}
use Rattle.sweep_book.specs.Book.{book_of, over, BookAnswer, call_book}

-- the contract of the entry
abbrev pub CalledBook : Sweep → Memory → List ℤ → BookAnswer → Type 0
CalledBook s m b a = a ≡ call_book s m b

-- `same_as_sweep`: where it does not answer 13, answer number and memory are those of the sweep entry
abbrev pub SameAsSweep : Type 0
SameAsSweep = (s : Sweep) (m : Memory) (b : List ℤ) (a : BookAnswer) → CalledBook s m b a → (a.answer.number ≡ 13 → ⊥) → a.answer ≡ call s m

-- `short_keeps`: after 13 the asked work memory is zero, and all else is as it was
pub record ShortKept (s : Sweep) (m : Memory) (b : List ℤ) (a : BookAnswer) : Type 0 where
  pub memory : a.answer.memory ≡ cleared_for (gates_in s) m
  pub book : a.book ≡ b

abbrev pub ShortKeeps : Type 0
ShortKeeps = (s : Sweep) (m : Memory) (b : List ℤ) (a : BookAnswer) → CalledBook s m b a → a.answer.number ≡ 13 → ShortKept s m b a

-- `refusal_keeps_book`: any refusal leaves the book as it was
abbrev pub RefusalKeepsBook : Type 0
RefusalKeepsBook = (s : Sweep) (m : Memory) (b : List ℤ) (a : BookAnswer) → CalledBook s m b a → 0 < a.answer.number → a.book ≡ b

-- the entries of a sweep by its own limits
abbrev pub own_book : Sweep → List Entry
own_book s = book_of s (regions_of s (own_limits s))

-- `book_written`: a call that answers 0 leaves the entries at the front of the book, one for each merge
pub record BookLeft (s : Sweep) (b : List ℤ) (a : BookAnswer) : Type 0 where
  pub book : a.book ≡ over (own_book s) b
  pub number : length (own_book s) ≡ length (unfolded s (own_limits s)).merges

abbrev pub BookWritten : Type 0
BookWritten = (s : Sweep) (m : Memory) (b : List ℤ) (a : BookAnswer) → CalledBook s m b a → a.answer.number ≡ 0 → BookLeft s b a

-- `book_replays_counts`: replaying the entries over the labels gives the counts before centring
abbrev pub BookReplaysCounts : Type 0
BookReplaysCounts =
    (s : Sweep) (limits : List Float)
    → let f = regions_of s limits in
    let u = unfolded s limits in
    u.counts ≡ tabulate (length s.mask) (λ g. gate_count u.offset (get_or s.mask g 0) (replayed (book_of s f) (get_or f.labels g 0)).count)

-- `book_stands`: of each entry: base and moved node still stand and differ, its gates are those of the moved node's labels, its weight is at least
-- 1, and its bridged pairs are at most its weight
abbrev pub BookStands : Type 0
BookStands =
    (s : Sweep) (limits : List Float) (before : List Entry) (v : Entry) (after : List Entry)
    → let f = regions_of s limits in
    book_of s f ≡ before ++ (v ∷ after) → EntryHolds f.number f.labels before v
