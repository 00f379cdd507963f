-- An answer's number and what it leaves of the counts, and what a text or a refusal prints.
use Rattle.std.specs.Prelude.{ℕ, ◌*◌, ◌≡◌, ◌≤◌, List, [], ℤ, Result, Ok, Err}
use Rattle.arrayvec.specs.ArrayString.{ArrayString}
use Rattle.sweep.specs.Questions.{Outcome, refused, accepted}
use Rattle.sweep.specs.declared.refusal.Refusal.{Refusal}
use Rattle.sweep.specs.Refusal.{number_of}
use Rattle.files.specs.Format.{u16_at}
use Rattle.printout.specs.Unfold.{Printed, printed_by}

-- a number and counts
pub record Folds : Type 0 where
  pub number : ℕ
  pub counts : List ℤ

-- the same by its parts
abbrev pub folds_by : ℕ → List ℤ → Folds
folds_by number counts = record { number = number; counts = counts }

-- what an answer is and leaves, of counts lent: a refusal leaves them as they were
unfoldable pub folds_of : Outcome → List ℤ → Folds
folds_of (refused k) lent = folds_by k lent
folds_of (accepted counts doubtful regions merges) lent = folds_by 0 counts

-- the number and the text of an answer of the code
abbrev pub printed_in : Result ArrayString Refusal → Printed
printed_in (Ok text) = printed_by 0 text.bytes
printed_in (Err refusal) = printed_by (number_of refusal) []

-- the same of an answer beside the text in memory lent
abbrev pub put_in : Result Unit Refusal → List ℕ → Printed
put_in (Ok done) text = printed_by 0 text
put_in (Err refusal) text = printed_by (number_of refusal) text

-- rays and gates are those of a file's sweep, which has at most 720 rays and 128 gates
pub record Shape (f : List ℕ) (rays gates : ℕ) : Type 0 where
  pub rays_are : rays ≡ u16_at f 3
  pub gates_are : gates ≡ u16_at f 5
  pub rays_few : rays ≤ 720
  pub gates_few : rays * gates ≤ 128
