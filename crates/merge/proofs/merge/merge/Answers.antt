-- `merge::merge::merge` meets its contract. Assumes nothing.
use Rattle.merge.proofs.MergeDoes.{merge_raise, merge_refused, merge_hand, merge_fit, merge_done}
use Rattle.merge.proofs.Leaf.{room_of}
use Rattle.std.proofs.Common.{◌∙◌}
use Rattle.std.proofs.lemmas.Result.{err_from_is_err_and}
use Rattle.merge.proofs.merge.merge.Goals as goal

pub walk_raise-requires-clause-sound : goal.walk_raise-requires-clause-sound
walk_raise-requires-clause-sound c =
    let a = c.args in let u = a.step in let p = c.requires in let y = c.weigh in let z = c.stamp in
    merge_raise a.at.edges a.at.nodes u.base u.moved u.gain a.k a.e a.w.now a.d.now p.holds_tables p.sound p.gains p.edge_in y.new.w y.ensures z.new.w z.new.d z.ensures

pub returns-in_err-walk_raise : goal.returns-in_err-walk_raise
returns-in_err-walk_raise c =
    let a = c.args in let u = a.step in let p = c.requires in let y = c.weigh in let z = c.stamp in let k = c.walk_raise in
    let f = err_from_is_err_and c.from_residual.result c.from_residual.ensures.1 in
    rw f.1
    (merge_refused a.at.edges a.at.nodes u.base u.moved u.gain a.k a.e a.w.now a.d.now p.holds_tables p.sound p.gains p.edge_in y.new.w y.ensures z.new.w z.new.d z.ensures k.new.w k.new.d f.0 c.in_err-walk_raise.ensures)

pub hand-requires-clause-holds_tables : goal.hand-requires-clause-holds_tables
hand-requires-clause-holds_tables c =
    let a = c.args in let u = a.step in let p = c.requires in let y = c.weigh in let z = c.stamp in let k = c.walk_raise in
    room_of a.at.edges a.at.nodes a.w.now k.new.w a.d.now k.new.d p.holds_tables (k.auto.w ∙ z.auto.w ∙ y.auto.w) (k.auto.d ∙ z.auto.d)
    (merge_hand a.at.edges a.at.nodes u.base u.moved u.gain a.k a.e a.w.now a.d.now p.holds_tables p.sound p.gains p.edge_in y.new.w y.ensures z.new.w z.new.d z.ensures k.new.w k.new.d c.in_ok-walk_raise.ensures).0

pub hand-requires-clause-sound : goal.hand-requires-clause-sound
hand-requires-clause-sound c =
    let a = c.args in let u = a.step in let p = c.requires in let y = c.weigh in let z = c.stamp in let k = c.walk_raise in
    (merge_hand a.at.edges a.at.nodes u.base u.moved u.gain a.k a.e a.w.now a.d.now p.holds_tables p.sound p.gains p.edge_in y.new.w y.ensures z.new.w z.new.d z.ensures k.new.w k.new.d c.in_ok-walk_raise.ensures).1

pub hand-requires-clause-fit : goal.hand-requires-clause-fit
hand-requires-clause-fit c =
    let a = c.args in let u = a.step in let p = c.requires in let y = c.weigh in let z = c.stamp in let k = c.walk_raise in
    merge_fit a.at.edges a.at.nodes u.base u.moved u.gain a.k a.e a.w.now a.d.now p.holds_tables p.sound p.gains p.edge_in y.new.w y.ensures z.new.w z.new.d z.ensures k.new.w k.new.d c.in_ok-walk_raise.ensures p.fit

pub returns : goal.returns
returns c =
    let a = c.args in let u = a.step in let p = c.requires in let y = c.weigh in let z = c.stamp in let k = c.walk_raise in
    merge_done a.at.edges a.at.nodes u.base u.moved u.gain a.k a.e a.w.now a.d.now p.holds_tables p.sound p.gains p.edge_in y.new.w y.ensures z.new.w z.new.d z.ensures k.new.w k.new.d c.in_ok-walk_raise.ensures
    _ _ c.hand.ensures
