-- Refusals by number, and what an answer of the code says of the questions.
use Rattle.std.specs.Prelude.{ℕ, Result, Ok, Err}
use Rattle.std.proofs.Math.Option.{Option, none, some}
use Rattle.sweep.specs.declared.refusal.Refusal.{Refusal}
use Rattle.sweep.specs.declared.refusal.Refusal.TheVariants.{Size, Lengths, Mask, Work, Nyquist, Options, Velocities, Limits, Merges, Counts, CutShort, Malformed, Book, Window}

-- the number of the question that a refusal names
abbrev pub number_of : Refusal → ℕ
number_of Size = 1
number_of Lengths = 2
number_of Mask = 3
number_of Work = 4
number_of Nyquist = 5
number_of Options = 6
number_of Velocities = 7
number_of Limits = 8
number_of Merges = 9
number_of Counts = 10
number_of CutShort = 11
number_of Malformed = 12
number_of Book = 13
number_of Window = 14

-- the number of the question that got a no, of an answer
abbrev pub missed_by : {A : Type 0} → Result A Refusal → Option ℕ
missed_by (Ok x) = none
missed_by (Err r) = some (number_of r)
