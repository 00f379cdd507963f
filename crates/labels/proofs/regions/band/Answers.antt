-- `labels::regions::band` meets its contract. Assumes nothing.
use Rattle.std.proofs.Common.{◌≡◌, true, false, refl, subst, arith, rules, of_calls}
use Rattle.std.specs.List.Sorted.{IsPartitionPoint}
use Rattle.std.proofs.lemmas.Fn.{always_returns_same}
use lib.Ieee.{Float, le}
use Rattle.labels.specs.Inside.Bands.{Band}
use Rattle.labels.proofs.BandLaws.{masked}
use Rattle.labels.proofs.Ways.{parted, all_up_to, between}
use Rattle.labels.specs.Locals.{NoArray}
use Rattle.labels.proofs.regions.band.Code.Mir.{function}
use Rattle.labels.proofs.regions.band.Goals.{After-partition_point-upper}
use Rattle.labels.proofs.regions.band.Goals as goal

no_array : NoArray function
no_array = refl

pub returns-then-m-ne1 : goal.returns-then-m-ne1
returns-then-m-ne1 c = masked c.args.limits.now c.args.x c.args.m c.if-m-ne1.true

-- the limits before the place found are up to the velocity, the others above it
split : (c : After-partition_point-upper) → IsPartitionPoint (λ y. le y c.f32_to_f64_with_nan-v.result ≡ true) (λ y. le y c.f32_to_f64_with_nan-v.result ≡ false) c.args.limits.now c.partition_point-upper.result
split c =
    let v : Float = c.f32_to_f64_with_nan-v.result in
    c.partition_point-upper.ensures.partitioned (λ y. le y v) (always_returns_same _ _ _ (λ a r f k. search (rules, of_calls))) (parted c.args.limits.now c.requires.rising v c.args.m)

pub returns-then-upper-limits : goal.returns-then-upper-limits
returns-then-upper-limits c =
    let l = c.args.limits.now in
    let s = split (goal.at.returns-then-upper-limits c).After-partition_point-upper in
    subst (λ (y : Float). Band l y c.args.m 0) c.f32_to_f64_with_nan-v.ensures (all_up_to l c.requires.rising c.f32_to_f64_with_nan-v.result c.args.m c.partition_point-upper.result s.0 s.1 c.if-upper-limits.true)

pub returns : goal.returns
returns c =
    let l = c.args.limits.now in
    let s = split (goal.at.returns c).After-partition_point-upper in
    subst (λ (y : Float). Band l y c.args.m c.partition_point-upper.result) c.f32_to_f64_with_nan-v.ensures
    (between l c.requires.rising c.f32_to_f64_with_nan-v.result c.args.m c.partition_point-upper.result s.0 s.1 c.if-m-ne1.false (omega (arith, c.partition_point-upper.ensures.bound)))
