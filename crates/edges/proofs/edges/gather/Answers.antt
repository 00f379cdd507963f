-- `edges::edges::gather` meets its contract. Assumes nothing.
use Rattle.std.proofs.Common.{ap, sym, ◌∙◌, arith}
use Rattle.edges.specs.Edges.{begun}
use Rattle.edges.specs.Inside.Order.{alike}
use Rattle.edges.proofs.Going.{going_begin, going_ready, going_place, going_on, going_off, going_end, none_gathered}
use Rattle.edges.proofs.edges.gather.Goals.{then-eq, else-eq}
use Rattle.edges.proofs.edges.gather.Goals as goal

pub returns-then-m-eq0 : goal.returns-then-m-eq0
returns-then-m-eq0 c = none_gathered c.args.vel.now c.args.n c.if-m-eq0.true

pub loop-i-init : goal.loop-i-init
loop-i-init c = going_begin (omega (arith, c.if-m-eq0.false)) (c.begun-s.ensures ∙ ap begun c.pair_at.ensures)

pub pair_at-p-requires-clause-reads_pairs : goal.pair_at-p-requires-clause-reads_pairs
pair_at-p-requires-clause-reads_pairs c = going_ready c.requires c.loop-i.invariant

pub put_edge-requires-clause-place : goal.put_edge-requires-clause-place
put_edge-requires-clause-place c = going_place c.requires c.loop-i.invariant

pub loop-i-preserved : goal.loop-i-preserved
unfolding alike
loop-i-preserved c =
    let g = c.loop-i.invariant in
    let h = c.loop-i-test.true in
    elim c.if-eq.branch [
      | then-eq w ↦ rw (w.w-is, w.d-is, w.s-is, w.e-is) (going_on c.requires g h c.pair_at-p.ensures (sym w.if-eq.ensures) w.plus-s.ensures)
      | else-eq w ↦
          rw (w.w-is, w.d-is, w.s-is, w.e-is)
          (going_off c.requires g h c.pair_at-p.ensures (sym w.if-eq.ensures) w.put_edge.ensures.w_after w.put_edge.ensures.d_after w.begun-s-else-eq.ensures)
    ]

pub put_edge-requires-2-clause-place : goal.put_edge-requires-2-clause-place
put_edge-requires-2-clause-place c = going_place c.requires c.loop-i.invariant

pub returns : goal.returns
returns c = going_end c.requires c.loop-i.invariant c.loop-i-test.false c.put_edge-2.ensures.w_after c.put_edge-2.ensures.d_after
