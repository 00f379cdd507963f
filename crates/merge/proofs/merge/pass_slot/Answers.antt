-- `merge::merge::pass_slot` meets its contract. Assumes nothing.
use Rattle.merge.proofs.Passing.{pass_drops, pass_keeps}
use Rattle.merge.specs.Inside.Tables.{view}
use Rattle.std.proofs.Common.{refl}
use Rattle.merge.proofs.merge.pass_slot.Goals as goal

pub returns-then-is_spent : goal.returns-then-is_spent
returns-then-is_spent c =
    let i = c.is_spent in
    let a = c.args in pass_drops a.at.edges a.at.nodes a.b a.p a.x (view a.at.edges a.at.nodes a.w.now a.d.now) _ _ i.result i.ensures c.if-is_spent.true c.drop_slot.ensures

pub returns : goal.returns
returns c =
    let i = c.is_spent in
    let a = c.args in
    pass_keeps a.at.edges a.at.nodes a.b a.p a.x (view a.at.edges a.at.nodes a.w.now a.d.now) a.w.now a.d.now i.result i.ensures c.if-is_spent.false (record { tables = refl; tree = c.requires.holds_tables.tree })
