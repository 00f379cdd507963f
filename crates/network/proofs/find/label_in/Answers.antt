-- `network::find::label_in` meets its contract. Assumes nothing.
use Rattle.network.proofs.LimitLaws.{regions_ask, regions_left}
use Rattle.network.proofs.find.label_in.Goals as goal

pub label_gates-requires : goal.label_gates-requires
label_gates-requires c =
    let a = c.args in
    let l = c.limits-m in
    regions_ask a.s.options a.p a.s.velocity.now a.s.valid.now a.work.now c.requires.limited a.out.now l.new.out l.result l.ensures.value l.ensures.out_after

pub returns : goal.returns
returns c =
    let a = c.args in
    let l = c.limits-m in
    let f = c.label_gates in
    let h = regions_left a.s.options a.p a.s.velocity.now a.s.valid.now a.work.now c.requires.limited a.out.now l.new.out l.result l.ensures.value l.ensures.out_after f.result f.new.u f.auto.u f.ensures in
    record { labelled = h.0; work_unchanged = h.1 }
