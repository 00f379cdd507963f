-- `edges::pairs::pair_looks` meets its contract. Assumes nothing.
use Rattle.std.proofs.Common.{arith}
use Rattle.edges.specs.Edges.{Left, Right, Top}
use Rattle.edges.proofs.PairTurn.{place_on, place_one, four}
use Rattle.edges.proofs.pairs.pair_looks.Goals as goal

pub pair_one-c2-requires : goal.pair_one-c2-requires
pair_one-c2-requires c = place_one (place_on 3 Left c.requires.place c.pair_one-c1.ensures) (omega arith)

pub pair_one-c3-requires : goal.pair_one-c3-requires
pair_one-c3-requires c = place_one (place_on 2 Right (place_on 3 Left c.requires.place c.pair_one-c1.ensures) c.pair_one-c2.ensures) (omega arith)

pub pair_one-requires : goal.pair_one-requires
pair_one-requires c = place_on 1 Top (place_on 2 Right (place_on 3 Left c.requires.place c.pair_one-c1.ensures) c.pair_one-c2.ensures) c.pair_one-c3.ensures

pub returns : goal.returns
returns c = four c.requires.place c.requires.label c.pair_one-c1.ensures c.pair_one-c2.ensures c.pair_one-c3.ensures c.pair_one.ensures
