-- `edges::pairs::pair_amid` meets its contract. Assumes nothing.
use Rattle.edges.proofs.PairTurn.{left_near, after_left, right_puts, right_near, after_right, top_puts, top_near, after_top, bottom_puts, bottom_near, four}
use Rattle.edges.proofs.pairs.pair_amid.Goals as goal

pub put_pair-c2-requires : goal.put_pair-c2-requires
put_pair-c2-requires c = right_puts 2 (after_left 3 c.requires c.put_pair-c1.ensures)

pub pair_along-c3-requires : goal.pair_along-c3-requires
pair_along-c3-requires c =
    let l = after_left 3 c.requires c.put_pair-c1.ensures in
    let r = after_right 2 l c.put_pair-c2.ensures in
    record { puts = top_puts 1 r; some_gates = c.requires.amid.some }

pub pair_along-requires : goal.pair_along-requires
pair_along-requires c =
    let l = after_left 3 c.requires c.put_pair-c1.ensures in
    let r = after_right 2 l c.put_pair-c2.ensures in
    let t = after_top 1 r c.pair_along-c3.ensures in
    record { puts = bottom_puts 0 t; some_gates = c.requires.amid.some }

pub returns : goal.returns
returns c =
    let p = c.put_pair-c1 in
    let p' = c.put_pair-c2 in
    let p'' = c.pair_along-c3 in
    let l = after_left 3 c.requires p.ensures in
    let r = after_right 2 l p'.ensures in
    let t = after_top 1 r p''.ensures in
    four c.requires.gate.place c.requires.gate.label (left_near 3 c.requires p.ensures) (right_near 2 l p'.ensures) (top_near 1 r p''.ensures) (bottom_near 0 t c.pair_along.ensures)
