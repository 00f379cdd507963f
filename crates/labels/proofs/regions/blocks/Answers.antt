-- `labels::regions::blocks` meets its contract. The invariant: labels and number are those of the intervals before i. Assumes nothing.
use Rattle.labels.proofs.PartLaws.{Growing, grow_begin, part_sound, part_number, grow_next, grow_end}
use Rattle.std.proofs.Common.{◌≡◌, ◌+◌, min, length, refl, subst, arith}
use Rattle.labels.specs.Locals.{NoArray}
use Rattle.labels.proofs.regions.blocks.Code.Mir.{function}
use Rattle.labels.proofs.regions.blocks.Goals.{In-loop-i}
use Rattle.labels.proofs.regions.blocks.Goals as goal

no_array : NoArray function
no_array = refl

-- i is a limit where a block begins
grown : (c : In-loop-i) → Growing c.args.s.per_ray c.args.s.velocity.now c.args.s.valid.now c.args.s.limits.now (length c.args.s.velocity.now) c.loop-i.u c.loop-i.k c.loop-i.i
grown c =
    let s = c.args.s in
    let e : min c.loop-i.i c.saturating_sub-intervals.result ≡ c.loop-i.i = omega arith in
    subst (Growing s.per_ray s.velocity.now s.valid.now s.limits.now (length s.velocity.now) c.loop-i.u c.loop-i.k) e c.loop-i.invariant

pub loop-i-init : goal.loop-i-init
loop-i-init c =
    let s = c.args.s in
    let e : 0 ≡ min 0 c.saturating_sub-intervals.result = omega arith in
    subst (Growing s.per_ray s.velocity.now s.valid.now s.limits.now (length s.velocity.now) c.fill.new.w 0) e
    (grow_begin s.per_ray s.velocity.now s.valid.now s.limits.now (length s.velocity.now) s.sound c.args.u.now c.fill.new.w (omega arith) c.fill.ensures)

pub invariant_of-block : goal.invariant_of-block
invariant_of-block c =
    let s = c.args.s in
    let l = c.loop-i in
    record { sound = part_sound s.per_ray s.velocity.now s.valid.now s.limits.now (length s.velocity.now) s.sound l.u l.k l.i c.min-e.result (grown (goal.at.invariant_of-block c).In-loop-i) (omega arith) (omega arith) }

pub block-k-requires-clause-number_bound : goal.block-k-requires-clause-number_bound
block-k-requires-clause-number_bound c =
    let s = c.args.s in
    let l = c.loop-i in
    part_number s.per_ray s.velocity.now s.valid.now s.limits.now (length s.velocity.now) s.sound l.u l.k l.i c.min-e.result (grown (goal.at.block-k-requires-clause-number_bound c).In-loop-i) (omega arith) (omega arith)

pub loop-i-preserved : goal.loop-i-preserved
loop-i-preserved c =
    let s = c.args.s in
    let l = c.loop-i in
    let e : c.min-e.result ≡ min (l.i + 64) c.saturating_sub-intervals.result = omega arith in
    subst (Growing s.per_ray s.velocity.now s.valid.now s.limits.now (length s.velocity.now) c.block-k.new.u c.block-k.result) e
    (grow_next s.per_ray s.velocity.now s.valid.now s.limits.now (length s.velocity.now) s.sound l.u l.k l.i c.min-e.result (grown (goal.at.loop-i-preserved c).In-loop-i) (omega arith) (omega arith) c.block-k.new.u c.block-k.result c.block-k.ensures)

pub returns-2 : goal.returns-2
returns-2 c =
    let s = c.args.s in
    let l = c.loop-i in
    grow_end s.per_ray s.velocity.now s.valid.now s.limits.now (length s.velocity.now) s.sound c.block-k.new.u c.block-k.result c.min-e.result
    (grow_next s.per_ray s.velocity.now s.valid.now s.limits.now (length s.velocity.now) s.sound l.u l.k l.i c.min-e.result (grown (goal.at.returns-2 c).In-loop-i) (omega arith) (omega arith) c.block-k.new.u c.block-k.result c.block-k.ensures)
    (omega arith)
