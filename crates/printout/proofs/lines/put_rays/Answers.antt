-- `printout::lines::put_rays` meets its contract. Assumes nothing.
use Rattle.std.proofs.Common.{arith}
use Rattle.printout.proofs.LineLaws.{no_lines, ray_part, rays_turn}
use Rattle.printout.proofs.lines.put_rays.Goals as goal

pub loop-r-init : goal.loop-r-init
loop-r-init g c = let s = c.args in record { appended = no_lines s.text.now.bytes s.gates s.counts.now; short = omega arith }

pub loop-r-preserved : goal.loop-r-preserved
loop-r-preserved g c =
    let s = c.args in let l = c.loop-r in let e = c.put_line_into.ensures in
    record { appended = rays_turn s.text.now.bytes l.text.bytes c.put_line_into.new.text.bytes l.r s.gates s.counts.now l.invariant.appended e.appended; short = let p = ray_part s.gates l.r s.counts.now in omega arith }
