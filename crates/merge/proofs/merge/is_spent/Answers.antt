-- `merge::merge::is_spent` meets its contract. Assumes nothing.
use Rattle.merge.proofs.Passing.{spent_out, spent_word}
use Rattle.merge.proofs.merge.is_spent.Goals as goal

pub returns-then-f-at : goal.returns-then-f-at
returns-then-f-at c = let a = c.args in spent_out a.at.edges a.at.nodes a.w.now a.d.now a.x c.if-f-at.true

pub returns : goal.returns
returns c = let a = c.args in spent_word a.at.edges a.at.nodes a.w.now a.d.now a.x c.if-f-at.false
