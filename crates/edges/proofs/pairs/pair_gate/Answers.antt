-- `edges::pairs::pair_gate` meets its contract. Assumes nothing.
use Rattle.edges.proofs.PairTurn.{unlabelled}
use Rattle.edges.proofs.pairs.pair_gate.Goals as goal

pub returns-then-w-g-eq0 : goal.returns-then-w-g-eq0
returns-then-w-g-eq0 c = let a = c.args in unlabelled a.f a.n a.w.now a.g a.c c.requires.inside c.if-w-g-eq0.true
