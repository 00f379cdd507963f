-- `printout::book::put_rows` meets its contract. The invariant: the lines of the first entries are appended. Assumes nothing.
use Rattle.std.proofs.Common.{◌≡◌, ◌*◌, ◌≤◌, length, take}
use Rattle.lists.specs.Seq.{each}
use Rattle.printout.specs.Text.{line}
use Rattle.printout.proofs.book.put_rows.Given as goal

abbrev pub invariant-loop-row : goal.invariant-loop-row
invariant-loop-row l = record { appended : l.text.bytes ≡ each line (take l.row-index l.rows); short : length l.text.bytes ≤ 73 * l.row-index }
