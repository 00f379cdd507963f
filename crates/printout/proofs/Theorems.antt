-- No file of at most 128 gates has more than 2,178 bytes, so that a longer one prints nothing. Assumes nothing.
use Prim.Native.Nat.{ℕ, zero, suc, ◌+◌, ◌*◌, ◌≤◌, ◌<◌}
use native.Mathlib.Omega.{arith}
use native.Mathlib.Nat.{mul-zero, le-mul_of_pos_right}
use mathlib.Core.Path.{◌≡◌, refl, ap}
use mathlib.Core.Bool.{Bool, true, false}
use mathlib.Core.List.{List, [], ◌++◌}
use mathlib.Core.Option.{Option, none, some}
use lib.Dec.{leb}
use lib.ListN.{length}
use lib.IntN.{ℤ}
use borrow.Author.Tests.{leb-true}
use Rattle.sweep.specs.Questions.{Outcome, first_no}
use Rattle.sweep.proofs.QuestionLaws.{none_all}
use Rattle.sweep.proofs.PassedLaws.{size_rays}
use Rattle.files.specs.Format.{u16_at, ray_at, file_length}
use Rattle.files.specs.Questions.{header_questions, body_questions, content_questions, read_questions}
use Rattle.files.proofs.AskLaws.{yes_left, yes_right}
use Rattle.files.proofs.CodeLaws.{header_is, body_length, rays_long}
use Rattle.printout.specs.Unfold.{file_gates, file_outcome, printed_of, printed_with, printed}
use Rattle.printout.specs.Book.{printed_book}
use Rattle.printout.specs.Theorems.{LongerPrintsNothing}
use Rattle.printout.proofs.UnfoldLaws.{outcome_some}

-- the length of a file of so many rays and gates
at_most : (k rays gates : ℕ) → k ≡ file_length rays gates → rays ≤ 720 → rays * gates ≤ 128 → k ≤ 2178
unfolding file_length ray_at
at_most k rays gates e h l = go gates e l (rays_long rays gates)
  where
    empty : (x y : ℕ) → k ≡ 18 + x → x ≡ 3 * rays + 5 * y → y ≡ 0 → k ≤ 2178
    empty x y a b c = omega arith

    some_gates : (x y : ℕ) → k ≡ 18 + x → x ≡ 3 * rays + 5 * y → rays ≤ y → y ≤ 128 → k ≤ 2178
    some_gates x y a b c d = omega arith

    go : (gates : ℕ) → k ≡ 18 + rays * (3 + 5 * gates) → rays * gates ≤ 128 → rays * (3 + 5 * gates) ≡ 3 * rays + 5 * (rays * gates) → k ≤ 2178
    go zero e l s = empty (rays * (3 + 5 * 0)) (rays * 0) e s (mul-zero rays)
    go (suc g) e l s = some_gates (rays * (3 + 5 * suc g)) (rays * suc g) e s (le-mul_of_pos_right rays (omega arith)) l

-- a file without a fault is as long as its header says
whole_length : (f : List ℕ) (v m : ℕ) → first_no (read_questions f v m) ≡ none → length f ≡ file_length (u16_at f 3) (u16_at f 5)
unfolding read_questions
whole_length f v m h =
    let y = yes_left (header_questions f ++ body_questions f) (content_questions f v m) (none_all (read_questions f v m) h) in
    body_length f (yes_right (header_questions f) (body_questions f) y)

module _ (text : List ℤ → List ℕ) (f : List ℕ) (long : 2178 < length f) where
  -- a file of at most 128 gates is refused by the reader
  few_refused : first_no (header_questions f) ≡ none → file_gates f ≤ 128 → (printed_of text (file_outcome f)).text ≡ []
  unfolding file_gates printed_of
  few_refused h l = go (first_no (read_questions f (file_gates f) (file_gates f))) refl
    where
      clash : (k : ℕ) → 2178 < k → k ≤ 2178 → ⊥
      clash k a b = omega arith

      go : (o : Option ℕ) → first_no (read_questions f (file_gates f) (file_gates f)) ≡ o → (printed_of text (file_outcome f)).text ≡ []
      go none e = absurd (clash (length f) long (at_most (length f) (u16_at f 3) (u16_at f 5) (whole_length f (file_gates f) (file_gates f) e) (size_rays (u16_at f 3) (u16_at f 5) (header_is f (none_all (header_questions f) h)).size) l))
      go (some k) e = ap (λ (o : Outcome). (printed_of text o).text) (outcome_some f k e)

  longer_nothing : (printed_with text f).text ≡ []
  unfolding printed_with
  longer_nothing = go (first_no (header_questions f)) refl
    where
      few : (b : Bool) → leb (file_gates f) 128 ≡ b → first_no (header_questions f) ≡ none → (printed_with text f).text ≡ []
      few true e h = rw (h, printed_with, e) (few_refused h (leb-true (file_gates f) 128 e))
      few false e h = rw (h, printed_with, e) refl

      go : (o : Option ℕ) → first_no (header_questions f) ≡ o → (printed_with text f).text ≡ []
      go none h = few (leb (file_gates f) 128) refl h
      go (some k) h = rw (h, printed_with) refl

pub longer_prints_nothing : LongerPrintsNothing
unfolding printed printed_book
longer_prints_nothing f long = (longer_nothing _ f long, longer_nothing _ f long)
