-- `merge::merge::mate` meets its contract. Assumes nothing.
use Rattle.merge.proofs.Walks.{mate_first, mate_second}
use Rattle.merge.proofs.merge.mate.Goals.{then-w-slot_length, else-w-slot_length}
use Rattle.merge.proofs.merge.mate.Goals as goal

pub returns : goal.returns
returns c =
    let p = c.requires.nodes_in in
    let a = c.args in
    elim c.if-w-slot_length.branch [
      | then-w-slot_length w ↦ mate_first a.at.edges a.at.nodes a.b a.c a.w.now a.d.now p.0 p.1 c.seek.result (rw (c.slot_length.ensures, c.slot_length-2.ensures) at w.if-w-slot_length.true) (rw w.h-is at c.seek.ensures)
      | else-w-slot_length w ↦ mate_second a.at.edges a.at.nodes a.b a.c a.w.now a.d.now p.0 p.1 c.seek.result (rw (c.slot_length.ensures, c.slot_length-2.ensures) at w.if-w-slot_length.false) (rw w.h-is at c.seek.ensures)
    ]
