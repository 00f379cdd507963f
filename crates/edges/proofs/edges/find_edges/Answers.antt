-- `edges::edges::find_edges` meets its contract. Assumes nothing.
use Rattle.edges.proofs.Assembly.{sorts, ready, gathers, edged}
use Rattle.edges.proofs.edges.find_edges.Goals as goal

pub sort_pairs-requires : goal.sort_pairs-requires
sort_pairs-requires c = let p = c.pair_all-m.ensures in sorts c.requires p.adds_pairs p.upper_bound

pub count_runs-e-requires : goal.count_runs-e-requires
count_runs-e-requires c = let p = c.pair_all-m.ensures in let s = c.sort_pairs in (c.args.vel.now, ready c.requires p.adds_pairs p.upper_bound s.auto.w s.ensures)

pub gather-requires : goal.gather-requires
gather-requires c =
    let p = c.pair_all-m.ensures in
    let s = c.sort_pairs in
    gathers c.requires p.adds_pairs p.upper_bound s.auto.w s.ensures (c.count_runs-e.ensures c.args.vel.now)

pub returns : goal.returns
returns c =
    let p = c.pair_all-m.ensures in
    let s = c.sort_pairs in
    edged c.requires p.adds_pairs p.upper_bound s.auto.w s.ensures (c.count_runs-e.ensures c.args.vel.now) c.gather.ensures
