-- `network::network::fill_regions` meets its contract. Assumes nothing.
use Rattle.network.proofs.BeginDoes.{going_start, regions_turn, regions_end}
use Rattle.network.specs.Inside.Begin.{regions_from}
use Rattle.network.proofs.network.fill_regions.Goals as goal

pub loop-x-init : goal.loop-x-init
loop-x-init c = let a = c.args in going_start a.at.edges a.at.nodes regions_from a.w.now a.d.now a.at.nodes c.requires

pub loop-x-preserved : goal.loop-x-preserved
loop-x-preserved c =
    let a = c.args in
    let k = c.loop-x in
    rw (c.next_region.ensures, c.region_length.ensures, c.slot_length.ensures, c.count.ensures, c.stamp.ensures, c.mark.ensures)
    (regions_turn a.at.edges a.at.nodes k.w a.d.now k.x _ k.invariant c.loop-x-test.true)

pub returns : goal.returns
returns c = let a = c.args in let k = c.loop-x in regions_end a.at.edges a.at.nodes k.w a.d.now k.x _ k.invariant c.loop-x-test.false
