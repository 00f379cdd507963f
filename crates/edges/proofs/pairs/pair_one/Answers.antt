-- `edges::pairs::pair_one` meets its contract. Assumes nothing.
use Rattle.lists.specs.Inside.Seg.{seg}
use Rattle.edges.proofs.PairTurn.{saw_puts, saw_pair, saw_none}
use Rattle.edges.proofs.pairs.pair_one.Goals as goal

pub put_pair-requires : goal.put_pair-requires
unfolding seg
put_pair-requires c = let a = c.args in saw_puts a.f a.n a.w.now a.d a.g c.in-Some.s a.c c.requires c.in-Some.ensures

pub returns-in-Some : goal.returns-in-Some
unfolding seg
returns-in-Some c =
    let p = c.put_pair in
    let a = c.args in
    saw_pair a.f a.n a.w.now a.d a.g c.in-Some.s p.new.w a.c p.result c.in-Some.ensures p.ensures

pub returns-in-None : goal.returns-in-None
unfolding seg
returns-in-None c = let a = c.args in saw_none a.f a.n a.w.now a.d a.g a.c c.in-None.ensures
