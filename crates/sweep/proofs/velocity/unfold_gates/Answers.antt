-- `sweep::velocity::unfold_gates` meets its contract. Assumes nothing.
use Rattle.sweep.specs.Velocity.{counted_in}
use Rattle.sweep.proofs.VelocityLaws.{gate_velocity, written_none, written_more, written_all}
use Rattle.std.proofs.Common.{rules, ◌≡◌, arith}
use Rattle.sweep.proofs.velocity.unfold_gates.Goals as goal

pub loop-i-init : goal.loop-i-init
loop-i-init c = written_none (gate_velocity (counted_in c.args.u)) c.args.unfolded.now

pub loop-i-preserved : goal.loop-i-preserved
loop-i-preserved c =
    let l = c.loop-i in
    let e : c.unfolded_at.result ≡ gate_velocity (counted_in c.args.u) l.i = search rules in
    written_more (gate_velocity (counted_in c.args.u)) c.args.unfolded.now l.unfolded _ l.i (omega arith) l.invariant e

pub returns : goal.returns
returns c = let l = c.loop-i in written_all (gate_velocity (counted_in c.args.u)) c.args.unfolded.now l.unfolded l.i (omega arith) l.invariant
