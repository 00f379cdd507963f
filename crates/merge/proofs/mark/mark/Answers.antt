-- `merge::mark::mark` meets its contract. Assumes nothing.
use Rattle.std.proofs.Common.{◌∙◌}
use Rattle.merge.specs.Inside.Tables.{view}
use Rattle.merge.proofs.Marks.{mark_yes, mark_no}
use Rattle.merge.proofs.mark.mark.Goals as goal

pub returns-then-doubtful : goal.returns-then-doubtful
returns-then-doubtful c =
    let a = c.args in let z = c.walk_mark.ensures in
    record { tables = z.tables ∙ mark_yes a.v (view a.at.edges a.at.nodes a.w.now a.d.now) a.doubtful c.if-doubtful.true; tree = z.tree }

pub returns-else-doubtful : goal.returns-else-doubtful
returns-else-doubtful c =
    let a = c.args in
    record { tables = mark_no a.v (view a.at.edges a.at.nodes a.w.now a.d.now) a.doubtful c.if-doubtful.false; tree = c.requires.holds_tables.tree }
