-- `printout::unfold::unfold_file` meets its contract. Assumes nothing.
use Rattle.std.proofs.Common.{rules, ◌≡◌}
use Rattle.std.specs.Prelude.{Err}
use Rattle.printout.proofs.UnfoldLaws.{folds_refused, file_unfolded, part_lent, lent_is}
use Rattle.printout.proofs.unfold.unfold_file.Goals as goal

pub returns-in_err-s : goal.returns-in_err-s
returns-in_err-s c =
    let e : c.from_residual.result ≡ Err c.in_err-s.field-0.0 = search rules in
    rw e (folds_refused c.args.file.now _ c.args.counts.now c.in_err-s.ensures.refused)

pub returns : goal.returns
returns c =
    let a = c.args in let m = c.new-m.result in let r = c.in_ok-s.ensures.read in
    file_unfolded a.file.now _ (part_lent a.file.now a.counts.now m.doubtful a.pair.now m.words m.floats) _ _ _ _ _ _ r.0 r.1
    (lent_is a.file.now a.counts.now m.doubtful a.pair.now m.words m.floats c.requires.0 c.requires.2 (search rules) (search rules) (search rules))
    c.dealias_sweep.ensures
