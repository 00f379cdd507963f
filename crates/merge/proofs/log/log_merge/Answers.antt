-- `merge::log::log_merge` meets its contract. Assumes nothing.
use Rattle.merge.proofs.LogLaws.{log_does}
use Rattle.merge.proofs.log.log_merge.Goals as goal

pub returns : goal.returns
returns c =
    let a = c.args in let u = a.step in let p = c.requires in
    rw (c.entry-entry.ensures, c.bridged.ensures, c.size.ensures) (log_does a.at.edges a.at.nodes a.w.now a.d.now a.e u.base u.moved u.gain a.k p.holds_tables p.edge_in p.node_in p.entry_in)
