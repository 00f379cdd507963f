-- `printout::unfold::read_sweep` meets its contract. Assumes nothing.
use Rattle.std.proofs.Common.{rules, ◌≡◌}
use Rattle.std.specs.Prelude.{Err}
use Rattle.printout.proofs.UnfoldLaws.{file_refused, file_read}
use Rattle.printout.proofs.unfold.read_sweep.Goals as goal

pub returns-in_err-header-clause-refused : goal.returns-in_err-header-clause-refused
returns-in_err-header-clause-refused c =
    let e : c.from_residual.result ≡ Err c.in_err-header.field-0.0 = search rules in
    rw e (file_refused c.args.file.now c.args.bits.now c.args.valid.now c.requires.0 c.requires.1 _ _ _ _ c.in_err-header.ensures)

pub returns-clause-read : goal.returns-clause-read
returns-clause-read c = file_read c.args.file.now c.args.bits.now c.args.valid.now c.requires.0 c.requires.1 _ _ _ c.in_ok-header.ensures _ _ c.into.ensures c.velocities_of.ensures
