-- `replay::words::numbers` meets its contract. The invariant: each of the first i numbers is its word's. Assumes nothing.
use Rattle.std.proofs.Common.{◌≡◌, ℕ, ◌*◌, ◌<◌, Some, get_or}
use Rattle.replay.specs.Inside.Words.{word_at}
use Rattle.replay.proofs.words.numbers.Given as goal

abbrev pub invariant-loop-i : goal.invariant-loop-i
invariant-loop-i l = (k : ℕ) → k < l.i → word_at l.text (9 * k) ≡ Some (get_or l.out k 0)
