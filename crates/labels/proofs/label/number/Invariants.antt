-- `labels::label::number` meets its contract. The invariant: gates before g have their labels, the others their bands. Assumes nothing.
use Rattle.labels.specs.Inside.Numbering.{Numbering}
use Rattle.labels.specs.Inside.Bands.{marks}
use Rattle.labels.specs.Inside.Forest.{Forest}
use Rattle.labels.specs.Inside.Sheet.{bands_of, words_of, counts_of}
use Rattle.std.proofs.Common.{◌≡◌, ℕ, suc, List, get_or}
use Rattle.labels.proofs.label.number.Given as goal

abbrev pub invariant-loop-g : goal.invariant-loop-g
invariant-loop-g l = record {
  words : words_of l.u l.n ≡ words_of l.initial.u l.n;
  numbering : (rs : List ℕ) → Forest (marks (bands_of l.initial.u l.n)) (words_of l.initial.u l.n) rs
      → ((i r : ℕ) → get_or rs i 0 ≡ suc r → get_or (bands_of l.initial.u l.n) r 0 ≡ get_or (bands_of l.initial.u l.n) i 0)
      → Numbering (bands_of l.initial.u l.n) rs (counts_of l.initial.u l.n) (bands_of l.u l.n) (counts_of l.u l.n) l.g;
}
