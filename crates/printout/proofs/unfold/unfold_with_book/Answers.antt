-- `printout::unfold::unfold_with_book` meets its contract. Assumes nothing.
use Rattle.std.proofs.Common.{rules, ◌≡◌, ◌≤◌, subst, ℕ}
use Rattle.std.specs.Prelude.{Err}
use Rattle.printout.specs.Unfold.{file_gates}
use Rattle.printout.proofs.UnfoldLaws.{folds_refused, part_lent, lent_is}
use Rattle.printout.proofs.BookedLaws.{booked_refused, book_folds, book_booked}
use Rattle.printout.proofs.unfold.unfold_with_book.Goals as goal

pub returns-in_err-s : goal.returns-in_err-s
returns-in_err-s c =
    let f = c.args.file.now in let h = c.in_err-s.ensures.refused in
    let e : c.from_residual.result ≡ Err c.in_err-s.field-0.0 = search rules in
    rw e (record { counts_after = folds_refused f _ c.args.counts.now h; book_after = booked_refused f _ _ c.args.book.now h })

pub returns : goal.returns
returns c =
    let a = c.args in let q = c.requires.lent in let f = a.file.now in let m = c.new-m.result in let r = c.in_ok-s.ensures.read in
    let p = part_lent f a.counts.now m.doubtful a.pair.now m.words m.floats in
    let l = lent_is f a.counts.now m.doubtful a.pair.now m.words m.floats q.0 q.2 (search rules) (search rules) (search rules) in
    let few : file_gates f ≤ 128 = subst (λ (k : ℕ). k ≤ 128) q.0 q.1 in
    record {
      counts_after = book_folds f _ p a.book.now _ _ _ _ _ _ _ r.0 r.1 l few c.requires.room c.dealias_sweep_book.ensures;
      book_after = book_booked f _ p a.book.now _ _ _ _ _ _ _ r.0 r.1 l few c.requires.room c.dealias_sweep_book.ensures;
    }
