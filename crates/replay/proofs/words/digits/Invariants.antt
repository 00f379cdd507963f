-- `replay::words::digits` meets its contract. The invariant: the value so far and the digits left give the word, and i digits have a value below 16 ^ i. Assumes nothing.
use Rattle.std.proofs.Common.{◌≡◌, ◌+◌, ◌-◌, ◌^◌, ◌<◌}
use Rattle.replay.specs.Inside.Words.{digits_from}
use Rattle.replay.proofs.words.digits.Given as goal

abbrev pub invariant-loop-i : goal.invariant-loop-i
invariant-loop-i l = record { word : digits_from l.text (l.at + l.i) (8 - l.i) l.value ≡ digits_from l.text l.at 8 0; small : l.value < 16 ^ l.i }
