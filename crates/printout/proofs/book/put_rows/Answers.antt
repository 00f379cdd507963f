-- `printout::book::put_rows` meets its contract. Assumes nothing.
use Rattle.std.proofs.Common.{rules, ◌≡◌, [], length, get_or, ap, arith}
use Rattle.printout.specs.Inside.Booked.{column}
use Rattle.printout.proofs.BookLaws.{no_rows, rows_turn, totals_last}
use Rattle.printout.proofs.book.put_rows.Goals as goal

pub loop-row-init : goal.loop-row-init
loop-row-init c = record { appended = no_rows c.args.text.now.bytes c.requires.empty; short = omega (arith, ap length c.requires.empty) }

pub loop-row-preserved : goal.loop-row-preserved
loop-row-preserved c =
    let l = c.loop-row in
    let six : length (get_or c.args.rows.now l.row-index []) ≡ 6 = search rules in
    record { appended = rows_turn c.args.rows.now l.row-index c.loop-row-test.true l.text.bytes _ l.invariant.appended c.put_line_into.ensures.appended; short = omega arith }

pub returns : goal.returns
returns c =
    let a : c.sum-weights.result ≡ column 2 c.args.rows.now = search rules in
    let g : c.sum-gates.result ≡ column 5 c.args.rows.now = search rules in
    let l = c.loop-row in
    totals_last c.args.rows.now l.row-index c.loop-row-test.false l.text.bytes _ _ _ l.invariant.appended c.put_line_into-2.ensures.appended a g
