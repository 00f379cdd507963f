-- `edges::pairs::put_pair` meets its contract. Assumes nothing.
use Rattle.edges.proofs.PairTurn.{put_other, put_less}
use Rattle.edges.proofs.pairs.put_pair.Goals as goal

pub returns-then-w-g : goal.returns-then-w-g
returns-then-w-g c =
    let a = c.args in
    put_other a.n a.w.now a.g a.h a.c a.bridged c.requires.inside c.requires.far c.if-w-g.true

pub returns : goal.returns
returns c =
    let a = c.args in
    rw (c.coded.ensures, c.coded-2.ensures) (put_less a.n a.w.now a.g a.h a.c a.bridged c.requires.inside c.requires.far c.if-w-g.false)
