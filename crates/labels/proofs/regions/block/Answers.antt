-- `labels::regions::block` meets its contract. Assumes nothing.
use Rattle.labels.proofs.PartLaws.{over_asks, block_found}
use Rattle.std.proofs.Common.{length, refl, arith}
use Rattle.labels.specs.Locals.{NoArray}
use Rattle.labels.proofs.regions.block.Code.Mir.{function}
use Rattle.labels.proofs.regions.block.Goals as goal

no_array : NoArray function
no_array = refl

pub put_over-requires-clause-label_bound : goal.put_over-requires-clause-label_bound
put_over-requires-clause-label_bound c =
    let s = c.args.s in
    let f = c.at_once-r in
    over_asks s.per_ray s.velocity.now s.valid.now s.limits.now c.args.u.now (length s.velocity.now) s.sound (omega arith) f.new.u f.result f.auto.u f.ensures c.args.from c.requires.number_bound

pub returns : goal.returns
returns c =
    let s = c.args.s in
    let f = c.at_once-r in
    let p = c.put_over in
    block_found s.per_ray s.velocity.now s.valid.now s.limits.now c.args.u.now (length s.velocity.now) s.sound (omega arith) f.new.u f.result f.auto.u f.ensures c.args.from p.new.u p.auto.u p.ensures
