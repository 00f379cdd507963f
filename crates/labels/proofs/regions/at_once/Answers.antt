-- `labels::regions::at_once` meets its contract. Assumes nothing.
use Rattle.labels.proofs.WholeLaws.{cleared, starts_bound, number_asks, whole}
use Rattle.std.proofs.Common.{length, refl, arith}
use Rattle.labels.specs.Locals.{NoArray}
use Rattle.labels.proofs.regions.at_once.Code.Mir.{function}
use Rattle.labels.proofs.regions.at_once.Goals as goal

no_array : NoArray function
no_array = refl

pub join_all-requires-clause-zeros : goal.join_all-requires-clause-zeros
join_all-requires-clause-zeros c = cleared c.args.s.limits.now c.args.u.now c.fill.new.w (length c.args.s.velocity.now) _ c.requires (omega arith) c.fill.ensures

pub starts-r-requires-clause-sum_bound : goal.starts-r-requires-clause-sum_bound
starts-r-requires-clause-sum_bound c =
    let s = c.args.s in
    let f = c.join_all in
    starts_bound s.per_ray s.velocity.now s.valid.now s.limits.now f.new.u (length s.velocity.now) s.sound (omega arith) _ (omega arith) f.ensures.bands f.ensures.areas_of

pub number-requires-clause-numbers_gates : goal.number-requires-clause-numbers_gates
number-requires-clause-numbers_gates c =
    let s = c.args.s in
    let f = c.join_all in
    let k = c.starts-r in
    number_asks s.per_ray s.velocity.now s.valid.now s.limits.now f.new.u (length s.velocity.now) s.sound (omega arith) _ (omega arith) f.ensures.bands f.ensures.areas_of k.new.w k.result k.ensures.value k.ensures.w_after

pub returns : goal.returns
returns c =
    let s = c.args.s in
    let f = c.join_all in
    let k = c.starts-r in
    whole s.per_ray s.velocity.now s.valid.now s.limits.now f.new.u (length s.velocity.now) s.sound (omega arith) _ (omega arith) f.ensures.bands f.ensures.areas_of k.new.w k.result k.ensures.value k.ensures.w_after c.number.new.u c.number.ensures
