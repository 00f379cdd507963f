-- `printout::numbers::put_line_into` meets its contract. The invariant: the first i numbers are appended, each with at most one byte before it. Assumes nothing.
use Rattle.std.proofs.Common.{◌≡◌, ◌+◌, ◌*◌, ◌≤◌, ◌++◌, length}
use Rattle.printout.proofs.LineLaws.{front}
use Rattle.printout.proofs.numbers.put_line_into.Given as goal

abbrev pub invariant-loop-i : goal.invariant-loop-i
invariant-loop-i g l = record {
  appended : l.text.bytes ≡ l.initial.text.bytes ++ front g.N.NumberIn.as_text l.numbers l.i;
  short : length l.text.bytes ≤ length l.initial.text.bytes + (g.N.NumberIn.MOST + 1) * l.i;
}
