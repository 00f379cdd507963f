-- `network::network::pop_edge` meets its contract. Assumes nothing.
use Rattle.arithmetic.specs.Rounding.{real}
use Rattle.network.specs.Inside.Popped.{Pops}
use Rattle.merge.proofs.EndsIn.{ends_in}
use Rattle.network.proofs.Turns.{pop_none, pop_turned, pop_straight}
use native.Mathlib.Omega.{arith}
use lib.Ieee.{neg}
use Rattle.network.proofs.network.pop_edge.Goals as goal

pub returns-then-t-eq0 : goal.returns-then-t-eq0
unfolding Pops
returns-then-t-eq0 c =
    let a = c.args in
    let e = c.best-e in
    record { pops = (e.result, e.ensures, c.if-t-eq0.true); any_pop = λ gates k t R. pop_none a.at.edges a.at.nodes gates k a.w.now a.d.now t R e.result e.ensures c.if-t-eq0.true }

pub bounds-w-stamp : goal.bounds-w-stamp
bounds-w-stamp c =
    let a = c.args in
    let e = c.best-e in
    let h = ends_in a.at.edges a.at.nodes a.w.now a.d.now e.result c.requires.sound e.ensures.within _ _ c.first.ensures c.second.ensures in
    omega (arith, h, c.stamp.ensures, c.requires.holds_tables.words)

pub bounds-w-stamp-2 : goal.bounds-w-stamp-2
bounds-w-stamp-2 c =
    let a = c.args in
    let e = c.best-e in
    let h = ends_in a.at.edges a.at.nodes a.w.now a.d.now e.result c.requires.sound e.ensures.within _ _ c.first.ensures c.second.ensures in
    omega (arith, h, c.stamp-2.ensures, c.requires.holds_tables.words)

pub returns-then-w-stamp : goal.returns-then-w-stamp
unfolding Pops real neg
returns-then-w-stamp c =
    let p = c.requires in
    let a = c.args in
    let e = c.best-e in
    let t = rw (c.stamp.ensures, c.stamp-2.ensures, c.first.ensures, c.second.ensures) at c.if-w-stamp.true in
    let h = pop_turned a.at.edges a.at.nodes a.w.now a.d.now p.holds_tables p.sound e.result e.ensures c.if-t-eq0.false t c.is_doubtful.result c.is_doubtful.ensures in
    rw (c.first.ensures, c.second.ensures) (record { pops = h.0; any_pop = h.1 })

pub returns : goal.returns
unfolding Pops real
returns c =
    let p = c.requires in
    let a = c.args in
    let e = c.best-e in
    let t = rw (c.stamp.ensures, c.stamp-2.ensures, c.first.ensures, c.second.ensures) at c.if-w-stamp.false in
    let h = pop_straight a.at.edges a.at.nodes a.w.now a.d.now p.holds_tables p.sound e.result e.ensures c.if-t-eq0.false t c.is_doubtful-2.result c.is_doubtful-2.ensures in
    rw (c.first.ensures, c.second.ensures) (record { pops = h.0; any_pop = h.1 })
