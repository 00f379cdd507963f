-- `network::network::merge_all` meets its contract. Assumes nothing.
use Rattle.network.proofs.StartRep.{all_is}
use Rattle.merge.specs.Inside.Tables.{view}
use Rattle.network.proofs.network.merge_all.Goals as goal

pub returns : goal.returns
returns c =
    let a = c.args in
    let k = c.begin in let u = c.run in
    all_is a.at.edges a.at.nodes (view a.at.edges a.at.nodes a.w.now a.d.now) k.new.w k.new.d _ _ u.result k.ensures u.ensures
