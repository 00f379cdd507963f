-- `printout::lines::put_rays` meets its contract. The invariant: the lines of the first r rays are appended. Assumes nothing.
use Rattle.std.proofs.Common.{◌≡◌, ◌+◌, ◌*◌, ◌≤◌, ◌++◌, length}
use Rattle.printout.specs.Text.{ray_lines}
use Rattle.printout.proofs.lines.put_rays.Given as goal

abbrev pub invariant-loop-r : goal.invariant-loop-r
invariant-loop-r g l = record {
  appended : l.text.bytes ≡ l.initial.text.bytes ++ ray_lines l.r l.gates l.counts;
  short : length l.text.bytes ≤ length l.initial.text.bytes + (12 * (l.r * l.gates) + l.r);
}
