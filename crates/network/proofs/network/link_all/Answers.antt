-- `network::network::link_all` meets its contract. Assumes nothing.
use Rattle.network.proofs.BeginDoes.{linking_start, link_one, link_two, link_turn, linking_end}
use Rattle.network.proofs.network.link_all.Goals as goal

pub loop-j-init : goal.loop-j-init
loop-j-init c = let a = c.args in linking_start a.at.edges a.at.nodes a.w.now a.d.now c.requires.holds_tables c.requires.linkable

pub link-requires : goal.link-requires
link-requires c =
    let a = c.args in
    let k = c.loop-j in
    let h = link_one a.at.edges a.at.nodes k.w k.d k.j _ k.invariant c.loop-j-test.true in
    rw (c.first.ensures) (record { holds_tables = h.0; node_in = h.1.0.0; slot_in = h.1.0.1; length_fits = h.1.1 })

pub link-requires-in-loop-j : goal.link-requires-in-loop-j
link-requires-in-loop-j c =
    let a = c.args in
    let k = c.loop-j in
    let z = c.link in
    let h = link_two a.at.edges a.at.nodes k.w k.d k.j _ k.invariant c.loop-j-test.true z.new.w z.new.d z.auto.w z.auto.d (rw (c.first.ensures) at z.ensures) in
    rw (c.second.ensures) (record { holds_tables = h.0; node_in = h.1.0.0; slot_in = h.1.0.1; length_fits = h.1.1 })

pub loop-j-preserved : goal.loop-j-preserved
loop-j-preserved c =
    let a = c.args in
    let k = c.loop-j in
    let z = c.link in
    let u = c.link-in-loop-j in
    link_turn a.at.edges a.at.nodes k.w k.d k.j _ k.invariant c.loop-j-test.true z.new.w z.new.d z.auto.w z.auto.d (rw (c.first.ensures) at z.ensures)
    u.new.w u.new.d u.auto.w u.auto.d (rw (c.second.ensures) at u.ensures)

pub returns : goal.returns
returns c = let a = c.args in let k = c.loop-j in linking_end a.at.edges a.at.nodes k.w k.d k.j _ k.invariant c.loop-j-test.false
