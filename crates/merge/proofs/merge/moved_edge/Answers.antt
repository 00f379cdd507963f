-- `merge::merge::moved_edge` meets its contract. Assumes nothing.
use lib.Ieee.{Float, neg}
use Rattle.std.proofs.Common.{ap}
use Rattle.merge.proofs.JoinDoes.{moved_dead, moved_first, moved_second, moved_far, moved_joins, moved_joins_second, moved_single}
use Rattle.merge.proofs.merge.moved_edge.Goals as goal

pub returns-then-t-eq0 : goal.returns-then-t-eq0
returns-then-t-eq0 c = let a = c.args in let u = a.step in moved_dead a.at.edges a.at.nodes a.w.now a.d.now c.requires.holds_tables u.base u.moved u.gain a.f c.requires.edge_in c.if-t-eq0.true

pub single-z-requires : goal.single-z-requires
single-z-requires c =
    let p = c.requires in
    let a = c.args in let u = a.step in moved_single a.at.edges a.at.nodes a.w.now a.d.now p.holds_tables u.base u.moved u.gain a.f p.edge_in p.sound

pub join_edge-requires-clause-joins : goal.join_edge-requires-clause-joins
join_edge-requires-clause-joins c =
    let a = c.args in let u = a.step in
    let p = c.requires in
    rw c.second.ensures (moved_joins a.at.edges a.at.nodes a.w.now a.d.now p.holds_tables u.base u.moved u.gain a.f p.edge_in p.sound p.gains (rw c.first.ensures at c.if-x-step.true))

pub returns-then-x-step : goal.returns-then-x-step
returns-then-x-step c =
    let p = c.requires in
    let a = c.args in let u = a.step in
    moved_first a.at.edges a.at.nodes a.w.now a.d.now p.holds_tables u.base u.moved u.gain a.f p.edge_in c.if-t-eq0.false
    _ _ c.shift.result (rw c.first.ensures at c.if-x-step.true) (rw c.single-z.ensures at c.shift.ensures) (rw c.second.ensures at c.join_edge.ensures)

pub join_edge-requires-then-y-step-clause-joins : goal.join_edge-requires-then-y-step-clause-joins
join_edge-requires-then-y-step-clause-joins c =
    let a = c.args in let u = a.step in
    let p = c.requires in
    rw c.first.ensures
    (moved_joins_second a.at.edges a.at.nodes a.w.now a.d.now p.holds_tables u.base u.moved u.gain a.f p.edge_in p.sound p.gains (rw c.first.ensures at c.if-x-step.false) (rw c.second.ensures at c.if-y-step.true))

pub returns-then-y-step : goal.returns-then-y-step
unfolding neg
returns-then-y-step c =
    let p = c.requires in
    let a = c.args in let u = a.step in
    let s = c.shift-then-y-step in
    moved_second a.at.edges a.at.nodes a.w.now a.d.now p.holds_tables u.base u.moved u.gain a.f p.edge_in c.if-t-eq0.false
    _ _ (neg s.result) (rw c.first.ensures at c.if-x-step.false) (rw c.second.ensures at c.if-y-step.true)
    (ap (λ (x : Float). neg x) (rw c.single-z.ensures at s.ensures)) (rw c.first.ensures at c.join_edge-then-y-step.ensures)

pub returns-else-y-step : goal.returns-else-y-step
returns-else-y-step c =
    let p = c.requires in
    let a = c.args in let u = a.step in
    moved_far a.at.edges a.at.nodes a.w.now a.d.now p.holds_tables u.base u.moved u.gain a.f p.edge_in c.if-t-eq0.false (rw c.first.ensures at c.if-x-step.false) (rw c.second.ensures at c.if-y-step.false)
