-- What the program `unfold` prints for a file: one line a ray, counts parted by one space. A file or a sweep that is refused, or has more than
-- 128 gates, prints nothing. Definitions only.
use Rattle.std.specs.Prelude.{ℕ, ◌*◌, cond, List, [], leb, ℤ}
use Rattle.std.proofs.Math.Option.{none, some}
use Rattle.sweep.specs.Questions.{Lent, Outcome, refused, accepted, first_no, words_for, floats_for, outcome}
use Rattle.files.specs.Format.{u16_at, sweep_in}
use Rattle.files.specs.Questions.{as_sweep, header_questions, read_questions}
use Rattle.printout.specs.Text.{ray_lines}

-- the gates of a file's sweep
unfoldable pub file_gates : List ℕ → ℕ
file_gates f = u16_at f 3 * u16_at f 5

-- the memory that a sweep of n gates asks for
unfoldable pub lent_for : ℕ → Lent
lent_for n = record { counts = n; doubtful = n; pair = 2; words = words_for n; floats = floats_for n }

-- the answer to a file: the reader's where it refuses, else that of the sweep entry
unfoldable pub file_outcome : List ℕ → Outcome
file_outcome f = elim (first_no (read_questions f (file_gates f) (file_gates f))) [
  | none ↦ outcome (as_sweep (sweep_in f)) (lent_for (file_gates f))
  | some k ↦ refused k
]

-- the number of the first question that gets a no, or 0, and the text
pub record Printed : Type 0 where
  pub number : ℕ
  pub text : List ℕ

-- the same by its parts
abbrev pub printed_by : ℕ → List ℕ → Printed
printed_by number text = record { number = number; text = text }

-- what is printed of an answer, `text` being the text of an accepted sweep's counts
unfoldable pub printed_of : (List ℤ → List ℕ) → Outcome → Printed
printed_of text (refused k) = printed_by k []
printed_of text (accepted counts doubtful regions merges) = printed_by 0 (text counts)

-- what is printed for a file, with such a text
unfoldable pub printed_with : (List ℤ → List ℕ) → List ℕ → Printed
printed_with text f = elim (first_no (header_questions f)) [
  | none ↦ cond (leb (file_gates f) 128) (printed_of text (file_outcome f)) (printed_by 0 [])
  | some k ↦ printed_by k []
]

-- what `unfold` prints for a file
unfoldable pub printed : List ℕ → Printed
printed f = printed_with (ray_lines (u16_at f 3) (u16_at f 5)) f
