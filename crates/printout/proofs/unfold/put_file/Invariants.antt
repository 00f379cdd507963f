-- `printout::unfold::put_file` meets its contract: the text of an accepted sweep's counts. Assumes nothing.
use Rattle.files.specs.Format.{u16_at}
use Rattle.printout.specs.Text.{ray_lines}
use Rattle.printout.proofs.unfold.put_file.Given as goal

abbrev pub ghost-put_by : goal.ghost-put_by
ghost-put_by a = let f = a.file.now in ray_lines (u16_at f 3) (u16_at f 5)
