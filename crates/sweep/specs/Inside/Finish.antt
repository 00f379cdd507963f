-- The offset, and the counts and marks of all gates, from the tables of the work memory.
use Rattle.std.specs.Prelude.{◌≡◌, Ok, Err, ℕ, ◌+◌, ◌*◌, ◌^◌, ◌<◌, ◌≤◌, cond, List, [], length, replicate, ℤ, pos, ◌==◌, slice_index}
use Rattle.std.proofs.Math.IntN.{sub_ℕ}
use Rattle.std.specs.Float.{binary64}
use Rattle.std.specs.Float.Ieee.{div}
use Rattle.lists.specs.Seq.{tabulate}
use Rattle.arithmetic.specs.Rounding.{round_even, real}
use Rattle.merge.specs.Inside.Steps.{unbias}
use Rattle.memory.specs.Inside.Layout.{counts_at, marks_at}
use Rattle.network.specs.declared.find.Run.{Run}
use Rattle.network.specs.Inside.Find.{Finding}
use Rattle.sweep.specs.Sweep.{or_zero, gate_count}
use Rattle.sweep.specs.Questions.{Outcome, refused, accepted}
use Rattle.sweep.specs.Call.{Memory, memory_of}
use Rattle.sweep.specs.Inside.Mean.{sum_from, size_at, held_at, Tabled}

-- the mean of sums: gates, and counts with 1,000 added to each
abbrev pub mean_by : ℕ → ℕ → ℤ
mean_by gates held = or_zero (round_even (div binary64 (real (sub_ℕ held (1000 * gates))) (real (pos gates))))

-- what centring takes away
abbrev pub offset_by : List ℕ → ℕ → ℕ → ℕ → ℤ
offset_by w n k centred = cond (centred == 1) (mean_by (sum_from (size_at w n) 1 k) (sum_from (held_at w n k) 1 k)) (pos 0)

-- the count of each gate
abbrev pub counts_by : List ℕ → ℕ → ℕ → List ℕ → ℕ → List ℤ
counts_by w n k mask centred = tabulate n (λ g. gate_count (offset_by w n k centred) (slice_index mask g) (unbias (slice_index w (counts_at n k + slice_index w g))))

-- the mark of each gate
abbrev pub marks_by : List ℕ → ℕ → ℕ → List ℕ
marks_by w n k = tabulate n (λ g. slice_index w (marks_at n k + slice_index w g))

-- what writing the marks asks: labels and marks in the words, one byte a gate
pub record WritesMarks (w : List ℕ) (n k : ℕ) (long : ℕ) : Type 0 where
  pub room : n + (k + 1) + (k + 1) + (k + 1) ≤ length w
  pub bytes : long ≡ n
  pub label : (g : ℕ) → g < n → slice_index w g ≤ k
  pub most : (l : ℕ) → l ≤ k → slice_index w (marks_at n k + l) ≤ 1

-- what writing the counts asks: tables and labels in the words, one mask byte and one count a gate
pub record Finishes (w : List ℕ) (n k : ℕ) (mask : List ℕ) (long : ℕ) : Type 0 where
  pub tabled : Tabled w n k
  pub masks : length mask ≡ n
  pub counts : long ≡ n
  pub label : (g : ℕ) → g < n → slice_index w g ≤ k

-- counts, marks and pair, where the work memory does not matter
abbrev pub lent : List ℤ → List ℕ → List ℕ → Memory
lent cs ds p = record { counts = cs; doubtful = ds; pair = p; words = []; floats = [] }

-- what was found in these words: counts, marks and pair, or the refusal by question 9
abbrev pub outcome_by : Finding → List ℕ → List ℕ → ℕ → Outcome
outcome_by (Ok r) w mask centred = accepted (counts_by w (length mask) r.regions mask centred) (marks_by w (length mask) r.regions) r.regions r.merges
outcome_by (Err e) w mask centred = refused 9

-- what writing asks
pub record WritesFound (f : Finding) (w mask : List ℕ) (long bytes two : ℕ) : Type 0 where
  pub tables : (r : Run) → f ≡ Ok r → Finishes w (length mask) r.regions mask long
  pub marks : (r : Run) → f ≡ Ok r → WritesMarks w (length mask) r.regions bytes
  pub few : (r : Run) → f ≡ Ok r → (r.regions < 2 ^ 32) × (r.merges < 2 ^ 32)
  pub pair : two ≡ 2

-- both work memories all zero
abbrev pub all_zero : Memory → Memory
all_zero m = memory_of m.counts m.doubtful m.pair (replicate (length m.words) 0) (replicate (length m.floats) (real (pos 0)))
