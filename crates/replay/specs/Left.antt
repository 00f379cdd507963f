-- What a call is to leave of the memory lent to it. Before it, what it writes holds the pattern, 7 in each place, and so does the work memory, but
-- for the words that a call before has cleared.
use Rattle.std.specs.Prelude.{ℕ, Bool, cond, ◌&&◌, ◌||◌, List, ltb, eqb, length, get_or, ℤ, pos, Float}
use Rattle.std.specs.Ordering.{int_eq}
use Rattle.std.specs.Float.{nan}
use Rattle.std.specs.Float.Ieee.{eq}
use Rattle.lists.specs.Seq.{upto, all}
use Rattle.arithmetic.specs.Rounding.{real}
use Rattle.sweep.specs.Questions.{words_for, floats_for}
use Rattle.replay.specs.declared.left.Left.{Left}
use Rattle.replay.specs.declared.left.Left.TheVariants.{Kept, Cleared, Wrong}

-- the word at place g of a memory whose first k words are cleared
unfoldable pub due_word : ℕ → ℕ → ℕ
due_word k g = cond (ltb g k) 0 7

-- and the f64
unfoldable pub due_float : ℕ → ℕ → Float
due_float k g = cond (ltb g k) (real (pos 0)) (real (pos 7))

-- the first k words are zero and any further ones the pattern
unfoldable pub words_left : ℕ → List ℕ → Bool
words_left k w = all (λ g. eqb (get_or w g 0) (due_word k g)) (upto (length w) 0)

-- the same of f64
unfoldable pub floats_left : ℕ → List Float → Bool
floats_left k d = all (λ g. eq (get_or d g nan) (due_float k g)) (upto (length d) 0)

-- whether a count is the pattern
unfoldable pub is_pattern : ℤ → Bool
is_pattern z = int_eq z (pos 7)

-- every count is the pattern
unfoldable pub counts_kept : List ℤ → Bool
counts_kept cs = all (λ g. is_pattern (get_or cs g (pos 0))) (upto (length cs) 0)

-- every mark is the pattern
unfoldable pub marks_kept : List ℕ → Bool
marks_kept ds = all (λ g. eqb (get_or ds g 0) 7) (upto (length ds) 0)

-- whether the call of an answer clears the work memory that it asks for
unfoldable pub clears_work : ℕ → Bool
clears_work number = eqb number 0 || eqb number 9

-- how many words and f64 a call on n gates clears
unfoldable pub cleared_words : ℕ → ℕ → ℕ
cleared_words number n = cond (clears_work number) (words_for n) 0

unfoldable pub cleared_floats : ℕ → ℕ → ℕ
cleared_floats number n = cond (clears_work number) (floats_for n) 0

-- what a call on n gates left, by its answer's number; kept says whether what it writes beside the work memory still holds the pattern, as a refusal leaves it
unfoldable pub left_by : ℕ → ℕ → Bool → List ℕ → List Float → Left
left_by number n kept w d =
    cond
    (words_left (cleared_words number n) w && floats_left (cleared_floats number n) d && (eqb number 0 || kept))
    (cond (clears_work number) Cleared Kept)
    Wrong
