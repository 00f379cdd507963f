-- `network::network::run` meets its contract. Assumes nothing.
use Rattle.network.proofs.Runs.{run_start, run_out, run_merged, run_refused, run_ended}
use Rattle.network.specs.Inside.TurnIs.{gates_in, first_of, RunIs}
use Rattle.std.proofs.lemmas.Result.{err_from_is_err_and}
use Rattle.std.proofs.Common.{◌≡◌, ℕ, Ok, ap, ◌∙◌, subst}
use Rattle.merge.specs.Inside.Tables.{view}
use native.Mathlib.Omega.{arith}
use Rattle.network.proofs.network.run.Goals as goal

pub loop-k-init : goal.loop-k-init
loop-k-init c = let a = c.args in run_start a.at.edges a.at.nodes a.w.now a.d.now c.requires.holds_tables c.requires.rep c.requires.unmarked

pub turn-requires : goal.turn-requires
turn-requires c = let a = c.args in let i = c.loop-k.invariant in record { holds_tables = i.room; standing = (gates_in (view a.at.edges a.at.nodes a.w.now a.d.now), i.net, i.rep); entry_in = c.loop-k-test.true }

pub loop-k-preserved : goal.loop-k-preserved
loop-k-preserved c =
    let a = c.args in
    let k = c.loop-k in
    let z = c.turn in
    run_merged a.at.edges a.at.nodes a.w.now a.d.now k.w k.d k.k k.invariant c.loop-k-test.true z.new.w
    z.new.d z.auto.w z.auto.d z.result (c.in_ok-turn.was ∙ ap Ok c.in-Merged.is) (z.ensures (gates_in (view a.at.edges a.at.nodes a.w.now a.d.now)) k.invariant.net k.invariant.rep)

pub returns-in-Ended : goal.returns-in-Ended
returns-in-Ended c =
    let a = c.args in
    let k = c.loop-k in
    let z = c.turn in
    run_ended a.at.edges a.at.nodes a.w.now a.d.now k.w k.d k.k k.invariant c.loop-k-test.true z.new.w
    z.new.d z.auto.w z.auto.d z.result (c.in_ok-turn.was ∙ ap Ok c.in-Ended.is) (z.ensures (gates_in (view a.at.edges a.at.nodes a.w.now a.d.now)) k.invariant.net k.invariant.rep)

pub returns-in_err-turn : goal.returns-in_err-turn
returns-in_err-turn c =
    let a = c.args in
    let k = c.loop-k in
    let z = c.turn in
    let p = err_from_is_err_and c.from_residual.result c.from_residual.ensures.1 in
    rw p.1 (run_refused a.at.edges a.at.nodes a.w.now a.d.now k.w k.d k.k k.invariant c.loop-k-test.true z.new.w
    z.new.d z.auto.w z.auto.d z.result c.in_err-turn.was (z.ensures (gates_in (view a.at.edges a.at.nodes a.w.now a.d.now)) k.invariant.net k.invariant.rep))

pub returns : goal.returns
returns c =
    let a = c.args in
    let k = c.loop-k in
    let e : k.k ≡ a.at.edges = omega (arith, c.loop-k-test.false, k.auto.k-end) in
    subst (λ (j : ℕ). RunIs a.at.edges a.at.nodes (gates_in (view a.at.edges a.at.nodes a.w.now a.d.now)) (first_of a.at.edges a.at.nodes (view a.at.edges a.at.nodes a.w.now a.d.now)) k.w k.d (Ok j)) e
    (run_out a.at.edges a.at.nodes a.w.now a.d.now k.w k.d k.k k.invariant c.loop-k-test.false)
