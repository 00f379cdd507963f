-- `edges::edges::gates_at` meets its contract. Assumes nothing.
use Rattle.edges.specs.Inside.Gather.{sorted_at}
use Rattle.edges.proofs.GatherLaws.{sorted_in}
use Rattle.edges.proofs.edges.gates_at.Goals as goal

pub returns : goal.returns
unfolding sorted_at
returns c =
    let a = c.args in
    let l = c.requires.legible in
    record { sorted = c.stored_pair.ensures; inside = rw c.stored_pair.ensures (sorted_in a.w.now l.0 a.n a.m a.i l.1 c.requires.i_lt_m) }
