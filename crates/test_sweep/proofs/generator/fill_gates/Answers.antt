-- `test_sweep::generator::fill_gates` meets its contract. Assumes nothing.
use Rattle.std.proofs.Common.{◌≡◌, suc, length, refl, ap, ◌∙◌, arith}
use Rattle.sweep.proofs.FillLaws.{fill_begin, fill_on, fill_all}
use Rattle.test_sweep.specs.declared.generator.Gate.{Gate}
use Rattle.test_sweep.specs.Generator.{state_after, gate_of, gate_at, velocities, mask_bytes}
use Rattle.test_sweep.proofs.StateLaws.{after_none, after_one, after_next}
use Rattle.test_sweep.proofs.generator.fill_gates.Invariants.{velocity_at, valid_at}
use Rattle.test_sweep.proofs.generator.fill_gates.Goals.{After-gate_of-gate}
use Rattle.test_sweep.proofs.generator.fill_gates.Goals as goal

-- the state after one turn, and the gate that it writes
new_is : (c : After-gate_of-gate) → c.next_state-here.result ≡ state_after (suc c.loop-g.g) c.args.state
new_is c = let l = c.loop-g in after_one c.args.state l.g l.here _ l.invariant.state c.next_state-here.ensures

gate_is : (c : After-gate_of-gate) → c.gate_of-gate.result ≡ gate_at c.args.state c.loop-g.g
unfolding gate_at
gate_is c = c.gate_of-gate.ensures ∙ ap gate_of (new_is c)

pub loop-g-init : goal.loop-g-init
loop-g-init c = let a = c.args in record { state = after_none a.state; speeds = fill_begin (velocity_at a.state) a.velocity.now; marks = fill_begin (valid_at a.state) a.valid.now }

pub loop-g-preserved : goal.loop-g-preserved
loop-g-preserved c =
    let a = c.args in
    let l = c.loop-g in record {
      state = after_next a.state l.g _ (new_is (goal.at.loop-g-preserved c).After-gate_of-gate);
      speeds = fill_on (velocity_at a.state) a.velocity.now l.velocity l.g _ l.invariant.speeds (ap (λ (x : Gate). x.velocity) (gate_is (goal.at.loop-g-preserved c).After-gate_of-gate));
      marks = fill_on (valid_at a.state) a.valid.now l.valid l.g _ l.invariant.marks (ap (λ (x : Gate). x.valid) (gate_is (goal.at.loop-g-preserved c).After-gate_of-gate));
    }

pub returns : goal.returns
unfolding velocities mask_bytes
returns c =
    let l = c.loop-g in
    let n = length c.args.velocity.now in
    let e : l.g ≡ n = omega (arith, l.auto.g-end, c.loop-g-test.false) in record {
      after = l.invariant.state ∙ ap (λ j. state_after j c.args.state) e;
      velocity = fill_all (velocity_at c.args.state) c.args.velocity.now l.velocity l.g n l.invariant.speeds e refl;
      valid = fill_all (valid_at c.args.state) c.args.valid.now l.valid l.g n l.invariant.marks e c.requires;
    }
