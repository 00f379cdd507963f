-- `network::network::turn` meets its contract. Assumes nothing.
use Rattle.network.proofs.Turns.{turn_ended, turn_refused, turn_picked, turn_chosen, taken_number}
use Rattle.network.specs.Inside.Popped.{Pops}
use Rattle.std.proofs.lemmas.Result.{err_from_is_err_and}
use mathlib.Core.Path.{refl}
use native.Mathlib.Omega.{arith}
use Rattle.network.proofs.network.turn.Goals as goal

pub pop_edge-requires : goal.pop_edge-requires
pop_edge-requires c = let x = c.requires.standing in record { holds_tables = c.requires.holds_tables; sound = x.2.sound; some_edge = omega (arith, c.requires.entry_in) }

pub returns-in_default : goal.returns-in_default
unfolding Pops
returns-in_default c = λ gates t R.
    let a = c.args in
    let y = c.in_default.ensures.pops in
    turn_ended a.at.edges a.at.nodes gates a.k a.w.now a.d.now t R y.0 y.1 y.2

pub returns-in_err-g : goal.returns-in_err-g
unfolding Pops
returns-in_err-g c = λ gates t R.
    let a = c.args in
    let q = c.in-Some.edge in
    let y = c.in-Some.ensures.pops in
    let p = err_from_is_err_and c.from_residual.result c.from_residual.ensures.1 in
    rw p.1 (turn_refused a.at.edges a.at.nodes gates a.k a.w.now a.d.now t R q.edge_number y.best y.live _ (taken_number a.at.edges a.at.nodes a.w.now a.d.now q y _ c.in_err-g.ensures) _ _)

pub choose_base-requires : goal.choose_base-requires
unfolding Pops
choose_base-requires c =
    let a = c.args in
    let p = c.requires in
    record { holds_tables = p.holds_tables; standing = p.standing; chosen = turn_chosen a.at.edges a.at.nodes a.w.now a.d.now c.in-Some.edge c.in-Some.ensures.pops _ c.in_ok-g.ensures c.in_ok-g.g refl; entry_in = p.entry_in }

pub returns : goal.returns
unfolding Pops
returns c = λ gates t R.
    let a = c.args in
    let y = c.in-Some.ensures.pops in
    let u = c.choose_base in
    turn_picked a.at.edges a.at.nodes gates a.k a.w.now a.d.now t R c.in-Some.edge.edge_number y.best y.live _ _ u.result (u.ensures gates t R)
