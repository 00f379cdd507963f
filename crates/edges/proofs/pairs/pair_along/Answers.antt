-- `edges::pairs::pair_along` meets its contract. Assumes nothing.
use Rattle.std.proofs.Common.{inl, inr}
use Rattle.edges.proofs.PairTurn.{along_other, along_less}
use Rattle.edges.proofs.pairs.pair_along.Goals.{then-w-g-via-then-w-g, then-w-g-via-else-w-g+then-max-gates-eq0}
use Rattle.edges.proofs.pairs.pair_along.Goals as goal

pub returns-then-w-g : goal.returns-then-w-g
returns-then-w-g c =
    let a = c.args in
    let p = c.requires.puts in
    along_other a.n a.w.now a.gates a.g a.h a.c p.inside p.far
    (elim c.then-w-g.branch [ then-w-g-via-then-w-g w ↦ inl w.if-w-g.true | then-w-g-via-else-w-g+then-max-gates-eq0 w ↦ inr (rw w.max.ensures at w.if-max-gates-eq0.true) ])

pub returns : goal.returns
returns c =
    let a = c.args in
    let p = c.requires.puts in
    let q = c.put_pair in
    along_less a.n a.w.now a.gates a.g a.h a.c p.inside p.far (rw c.max.ensures at c.if-max-gates-eq0.false) q.new.w q.result q.ensures
