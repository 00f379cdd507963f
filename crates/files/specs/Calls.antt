-- The calls of reader and writer: from the inputs and everything lent to the answer and everything lent afterwards. Definitions only.
use Rattle.std.specs.Prelude.{ℕ, List, [], ◌∷◌, cond, eqb, length}
use Rattle.std.proofs.Math.Option.{none, some}
use Rattle.network.specs.declared.options.Options.{Options}
use Rattle.sweep.specs.Questions.{first_no}
use Rattle.files.specs.declared.format.Header.{Header}
use Rattle.files.specs.Format.{Stored, stored, header_by, u16_at, file_of, sweep_in}
use Rattle.files.specs.Questions.{header_questions, read_questions, write_questions}

-- the header of a refused file: all eight numbers 0
abbrev pub no_header : Header
no_header = record { rays = 0; gates = 0; nyquist = 0; splits = 0; skip_between_rays = 0; skip_along_ray = 0; centred = 0; wrap = 0 }

-- an answer number, the header, and velocities and mask afterwards
pub record Read : Type 0 where
  pub number : ℕ
  pub sweep : Stored

-- the same by its parts
abbrev pub read_by : ℕ → Header → List ℕ → List ℕ → Read
read_by number h vel mask = record { number = number; sweep = stored h vel mask }

-- reading a file: a refusal leaves velocities and mask as they were
unfoldable pub read : List ℕ → List ℕ → List ℕ → Read
read f vel mask = elim (first_no (read_questions f (length vel) (length mask))) [
  | none ↦ record { number = 0; sweep = sweep_in f }
  | some k ↦ read_by k no_header vel mask
]

-- an answer number and the buffer afterwards
pub record Written : Type 0 where
  pub number : ℕ
  pub file : List ℕ

-- the same by its parts
abbrev pub written_by : ℕ → List ℕ → Written
written_by number file = record { number = number; file = file }

-- writing a sweep: a refusal leaves the buffer as it was
unfoldable pub write : Stored → List ℕ → Written
write s buffer = elim (first_no (write_questions s (length buffer))) [
  | none ↦ written_by 0 (file_of s)
  | some k ↦ written_by k buffer
]

-- ---- the exported entries

-- the header's numbers as eight words
unfoldable pub header_words : Header → List ℕ
header_words h = h.rays ∷ h.gates ∷ h.nyquist ∷ h.splits ∷ h.skip_between_rays ∷ h.skip_along_ray ∷ h.centred ∷ h.wrap ∷ []

-- an answer number, and what was lent afterwards
pub record ReadAnswer : Type 0 where
  pub number : ℕ
  pub vel : List ℕ
  pub mask : List ℕ
  pub header : List ℕ

-- the same by its parts
abbrev pub read_answer_by : ℕ → List ℕ → List ℕ → List ℕ → ReadAnswer
read_answer_by number vel mask header = record { number = number; vel = vel; mask = mask; header = header }

-- what a reading leaves, its header as words
abbrev pub as_words : Read → ReadAnswer
as_words r = read_answer_by r.number r.sweep.vel r.sweep.mask (header_words r.sweep.header)

-- the reader: a slice for the header that is not 8 long is refused first, and nothing is written
unfoldable pub call_read : List ℕ → List ℕ → List ℕ → List ℕ → ReadAnswer
call_read f vel mask header = cond (eqb (length header) 8) (as_words (read f vel mask)) (read_answer_by 2 vel mask header)

-- the writer
unfoldable pub call_write : Options → List ℕ → List ℕ → List ℕ → Written
call_write o vel mask buffer = write (stored (header_by o) vel mask) buffer

-- an answer number and the slice for the size afterwards
pub record SizeAnswer : Type 0 where
  pub number : ℕ
  pub size : List ℕ

-- the same by its parts
abbrev pub size_answer_by : ℕ → List ℕ → SizeAnswer
size_answer_by number size = record { number = number; size = size }

-- rays and gates of a whole header that passes question 1; a slice that is not 2 long is refused first
unfoldable pub call_size : List ℕ → List ℕ → SizeAnswer
call_size f size = cond (eqb (length size) 2)
    (elim (first_no (header_questions f)) [ none ↦ size_answer_by 0 (u16_at f 3 ∷ u16_at f 5 ∷ []) | some k ↦ size_answer_by k size ])
    (size_answer_by 2 size)
