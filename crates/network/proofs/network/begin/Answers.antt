-- `network::network::begin` meets its contract. Assumes nothing.
use Rattle.network.proofs.StartRep.{begin_regions, begin_link, begin_done}
use Rattle.std.proofs.Common.{◌≡◌, ◌*◌, arith}
use Rattle.network.proofs.network.begin.Goals as goal

pub build-requires : goal.build-requires
build-requires c = let p = c.requires.space in (omega (arith, p.words), omega (arith, p.small))

pub number-requires : goal.number-requires
number-requires c = let p = c.requires.space in (omega (arith, p.words, c.build.auto.w, c.slot.ensures), omega (arith, p.small))

pub fill_regions-requires : goal.fill_regions-requires
fill_regions-requires c =
    let a = c.args in
    let k = c.build in
    let u = c.number in
    let s : c.slot.result ≡ 6 * a.at.edges = omega (arith, c.slot.ensures) in
    begin_regions a.at.edges a.at.nodes a.w.now a.d.now c.requires.space c.requires.raw k.new.w k.ensures u.new.w u.auto.w (rw s at u.ensures)

pub link_all-requires : goal.link_all-requires
link_all-requires c =
    let a = c.args in
    let k = c.build in
    let u = c.number in
    let s : c.slot.result ≡ 6 * a.at.edges = omega (arith, c.slot.ensures) in
    let v = c.fill_regions in
    let h = begin_link a.at.edges a.at.nodes a.w.now a.d.now c.requires.space c.requires.raw k.new.w k.ensures u.new.w u.auto.w (rw s at u.ensures) v.new.w v.new.d v.auto.w v.auto.d v.ensures in
    record { holds_tables = h.0; linkable = h.1 }

pub returns : goal.returns
returns c =
    let a = c.args in
    let k = c.build in
    let u = c.number in
    let s : c.slot.result ≡ 6 * a.at.edges = omega (arith, c.slot.ensures) in
    let v = c.fill_regions in
    let z = c.link_all in
    begin_done a.at.edges a.at.nodes a.w.now a.d.now c.requires.space c.requires.raw k.new.w k.ensures u.new.w u.auto.w (rw s at u.ensures) v.new.w v.new.d v.auto.w v.auto.d v.ensures z.new.w z.new.d z.auto.w z.auto.d z.ensures
