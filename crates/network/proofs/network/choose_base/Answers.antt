-- `network::network::choose_base` meets its contract. Assumes nothing.
use Rattle.std.proofs.Common.{inl, inr, arith, ◌<◌}
use Rattle.std.proofs.lemmas.Result.{err_from_is_err_and}
use Rattle.network.proofs.LogIs.{noted_asks}
use Rattle.network.proofs.NumberIs.{number_in}
use Rattle.network.proofs.Turns.{Larger, chosen_in, pick_asks, pick_merged, pick_refused}
use Rattle.network.proofs.network.choose_base.Goals.{Start, Joined-w-size, then-w-size, else-w-size}
use Rattle.network.proofs.network.choose_base.Goals as goal

-- the ends are nodes
ends : (c : Start) → (c.args.edge.node1 < c.args.at.nodes) × (c.args.edge.node2 < c.args.at.nodes)
ends c =
    let a = c.args in
    let x = c.requires.standing in
    chosen_in a.at.edges a.at.nodes x.0 a.k a.w.now a.d.now x.1 x.2 a.edge.edge_number a.edge.node1 a.edge.node2 a.g a.edge.doubtful c.requires.chosen

pub bounds-w-size : goal.bounds-w-size
bounds-w-size c = omega (arith, ends (goal.at.bounds-w-size c).Start, c.requires.holds_tables.words, c.size.ensures)

pub bounds-w-size-2 : goal.bounds-w-size-2
bounds-w-size-2 c = omega (arith, ends (goal.at.bounds-w-size-2 c).Start, c.requires.holds_tables.words, c.size-2.ensures)

pub overflow_sub-step : goal.overflow_sub-step
overflow_sub-step c = omega (arith, (number_in _ c.args.g c.requires.chosen.number).most)

-- the step is the larger's
larger : (c : Joined-w-size) → let a = c.args in Larger a.at.edges a.at.nodes a.w.now a.edge.node1 a.edge.node2 a.g c.if-w-size.step
larger c = elim c.if-w-size.branch [
  | then-w-size w ↦ inl (rw (c.size.ensures, c.size-2.ensures) at w.if-w-size.true, w.step-is)
  | else-w-size w ↦ inr (rw (c.size.ensures, c.size-2.ensures) at w.if-w-size.false, w.step-is)
]

pub log_merge-requires-clause-node_in : goal.log_merge-requires-clause-node_in
log_merge-requires-clause-node_in c =
    let a = c.args in
    let x = c.requires.standing in
    (pick_asks a.at.edges a.at.nodes x.0 a.k a.w.now a.d.now x.1 x.2 a.edge.edge_number a.edge.node1 a.edge.node2 a.g a.edge.doubtful c.requires.chosen c.if-w-size.step (larger (goal.at.log_merge-requires-clause-node_in c).Joined-w-size)).1.0.v_in

pub merge_and_mark-requires : goal.merge_and_mark-requires
merge_and_mark-requires c =
    let a = c.args in
    let x = c.requires.standing in
    let u = c.if-w-size.step in
    let v = c.log_merge in
    let h = noted_asks a.at.edges a.at.nodes a.k a.edge.edge_number u.base u.moved u.gain a.w.now v.new.w a.d.now c.requires.holds_tables v.auto.w v.ensures
    (pick_asks a.at.edges a.at.nodes x.0 a.k a.w.now a.d.now x.1 x.2 a.edge.edge_number a.edge.node1 a.edge.node2 a.g a.edge.doubtful c.requires.chosen u (larger (goal.at.merge_and_mark-requires c).Joined-w-size)) in
    record { holds_tables = h.0; sound = h.1.0; gains = h.1.1.0; fit = h.1.1.1.0; edge_in = h.1.1.1.1 }

pub returns-in_err-merge_and_mark : goal.returns-in_err-merge_and_mark
returns-in_err-merge_and_mark c = λ gates t R.
    let a = c.args in
    let v = c.merge_and_mark in
    let f = err_from_is_err_and c.from_residual.result c.from_residual.ensures.1 in
    rw f.1 (pick_refused a.at.edges a.at.nodes gates a.k a.w.now a.d.now t R a.edge.edge_number a.edge.node1 a.edge.node2 a.g a.edge.doubtful c.requires.chosen c.if-w-size.step (larger (goal.at.returns-in_err-merge_and_mark c).Joined-w-size)
    c.requires.entry_in c.log_merge.new.w v.new.w v.new.d c.log_merge.ensures f.0 c.in_err-merge_and_mark.ensures v.new.w v.new.d)

pub returns : goal.returns
returns c = λ gates t R.
    let a = c.args in
    let v = c.merge_and_mark in
    pick_merged a.at.edges a.at.nodes gates a.k a.w.now a.d.now t R a.edge.edge_number a.edge.node1 a.edge.node2 a.g a.edge.doubtful c.requires.chosen c.if-w-size.step (larger (goal.at.returns c).Joined-w-size)
    c.requires.entry_in c.log_merge.new.w v.new.w v.new.d c.log_merge.ensures c.in_ok-merge_and_mark.ensures
