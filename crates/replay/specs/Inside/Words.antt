-- The words of a recorded list: eight hexadecimal digits, then a space or a line end.
use Rattle.std.specs.Prelude.{ℕ, zero, suc, ◌+◌, ◌-◌, ◌*◌, ◌<◌, ◌≡◌, Bool, cond, ◌||◌, ltb, eqb, List, length, get_or}
use Rattle.std.specs.Prelude.{Option, Some, None, is_some, option_and_then, Result, Ok, Err}
use Rattle.lists.specs.Seq.{upto, all}
use Rattle.replay.specs.declared.words.Malformed.{Malformed}
use Rattle.replay.specs.declared.words.Got.{Got}
use Rattle.replay.specs.declared.words.Got.TheVariants.{Numbers, End}

-- the value of a digit in ASCII, 0 to 9 and a to f
abbrev pub digit_of : ℕ → Option ℕ
digit_of b = cond (ltb b 48) None (cond (ltb b 58) (Some (b - 48)) (cond (ltb b 97) None (cond (ltb b 103) (Some (b - 87)) None)))

-- the word of a value so far and the k digits from a place on
unfoldable pub digits_from : List ℕ → ℕ → ℕ → ℕ → Option ℕ
digits_from s at zero value = Some value
digits_from s at (suc k) value = option_and_then (λ d. digits_from s (at + 1) k (value * 16 + d)) (digit_of (get_or s at 0))

-- whether a byte ends a word: a space or a line end
abbrev pub ends_word : ℕ → Bool
ends_word b = eqb b 32 || eqb b 10

-- the word at a place: eight digits and a byte that ends it
unfoldable pub word_at : List ℕ → ℕ → Option ℕ
word_at s at = cond (ends_word (get_or s (at + 8) 0)) (digits_from s at 8 0) None

-- each number of a list is the value of its word, nine bytes a word
abbrev pub Words : List ℕ → List ℕ → Type 0
Words s l = (k : ℕ) → k < length l → word_at s (9 * k) ≡ Some (get_or l k 0)

-- whether text starts with k words
unfoldable pub all_words : List ℕ → ℕ → Bool
all_words s k = all (λ i. is_some (word_at s (9 * i))) (upto k 0)

-- what is got of text of which so many bytes could be read, where k words are to be: fewer bytes than the text is long are its end or malformed
unfoldable pub got_by : List ℕ → ℕ → ℕ → Result Got Malformed
got_by s got k = cond (ltb got (length s)) (cond (eqb got 0) (Ok End) (Err (record {}))) (cond (all_words s k) (Ok Numbers) (Err (record {})))
