-- `printout::book::put_entries` meets its contract. Assumes nothing.
use Rattle.std.proofs.Common.{rules, ◌≡◌, ◌*◌, ◌≤◌, [], length, get_or, ℤ, refl, sym, ap, ◌∙◌, arith, length-take, length-take-le}
use Rattle.std.specs.Prelude.{Err}
use Rattle.printout.specs.Inside.Booked.{rows_text}
use Rattle.printout.specs.Unfold.{file_gates, file_outcome, printed_by}
use Rattle.printout.proofs.UnfoldLaws.{Accepted, refused_prints, folds_accepted, gates_are}
use Rattle.printout.proofs.BookedLaws.{book_most, book_prints}
use Rattle.printout.proofs.book.put_entries.Goals.{Start, In_ok-unfold_with_book}
use Rattle.printout.proofs.book.put_entries.Goals as goal

-- as many counts as the file's sweep has gates
many : (c : Start) → c.args.rays * c.args.gates ≡ file_gates c.args.file.now
many c = gates_are _ _ _ _ c.requires.shape.rays_are c.requires.shape.gates_are refl

pub unfold_with_book-requires-clause-lent : goal.unfold_with_book-requires-clause-lent
unfold_with_book-requires-clause-lent c =
    (length-take-le (c.args.rays * c.args.gates) _ (search rules) ∙ many (goal.at.unfold_with_book-requires-clause-lent c).Start, omega (arith, length-take {A = ℤ}, c.requires.shape.gates_few), refl)

pub returns-in_err-unfold_with_book : goal.returns-in_err-unfold_with_book
returns-in_err-unfold_with_book c =
    let e : c.from_residual.result ≡ Err c.in_err-unfold_with_book.field-0.0 = search rules in
    rw e (record { empty = c.requires.empty; printed = ap (printed_by _) c.requires.empty ∙ refused_prints c.args.file.now _ c.unfold_with_book.new.counts _ _ c.in_err-unfold_with_book.ensures.counts_after })

-- what the call left of the book, and how many entries
module _ (c : In_ok-unfold_with_book) where
  few : file_gates c.args.file.now ≤ 128
  few = omega (arith, gates_are _ _ _ _ c.requires.shape.rays_are c.requires.shape.gates_are refl, c.requires.shape.gates_few)

  met : Accepted (file_outcome c.args.file.now)
  met = folds_accepted c.args.file.now (λ counts. []) c.unfold_with_book.new.counts _ c.in_ok-unfold_with_book.ensures.counts_after

  entries : get_or c.unfold_with_book.new.pair 1 0 ≤ 127
  entries = book_most c.args.file.now few _ _ _ _ met c.in_ok-unfold_with_book.ensures.book_after

  -- and the book holds them
  held : 6 * get_or c.unfold_with_book.new.pair 1 0 ≤ length c.unfold_with_book.new.book
  held = let l : length c.unfold_with_book.new.book ≡ 762 = search rules in omega (arith, entries)

pub slice_bounds-book-end : goal.slice_bounds-book-end
slice_bounds-book-end c = held (goal.at.slice_bounds-book-end c).In_ok-unfold_with_book

pub slice_bounds-as_chunks-end : goal.slice_bounds-as_chunks-end
slice_bounds-as_chunks-end c = sym (length-take-le _ _ (held (goal.at.slice_bounds-as_chunks-end c).In_ok-unfold_with_book))

pub returns : goal.returns
returns c =
    let d = (goal.at.returns c).In_ok-unfold_with_book in
    record { empty = tt; printed = ap (printed_by 0) (c.put_rows.ensures ∙ ap rows_text c.as_chunks.ensures.front) ∙ book_prints c.args.file.now (few d) _ _ _ _ (met d) c.in_ok-unfold_with_book.ensures.book_after }
