-- `test_sweep::entry::test_sweep` meets its contract. Assumes nothing.
use Rattle.std.proofs.Common.{rules, arith, length, ◌≡◌, sym, ap, ◌∙◌, get_or}
use Rattle.std.specs.Prelude.{Err, Result}
use Rattle.std.specs.Result.{result_unwrap_or}
use Rattle.sweep.specs.Entry.{answer_of}
use Rattle.sweep.specs.Refusal.{missed_by}
use Rattle.sweep.specs.declared.refusal.Refusal.{Refusal}
use Rattle.test_sweep.specs.Call.{slices_of, fill_answer_by, call_fill}
use Rattle.test_sweep.proofs.CallLaws.{test_done, test_kept}
use Rattle.test_sweep.proofs.entry.test_sweep.Goals.{After-fill_sweep}
use Rattle.test_sweep.proofs.entry.test_sweep.Goals as goal

-- what the call on the word left, its answer being r
left : (c : After-fill_sweep) → (r : Result _ Refusal) → c.fill_sweep.result ≡ r → fill_answer_by (answer_of (missed_by r)) (result_unwrap_or r (get_or c.args.state.now 0 0)) (slices_of c.fill_sweep.new.velocity c.fill_sweep.new.valid)
    ≡ call_fill c.args.rays c.args.gates (get_or c.args.state.now 0 0) (slices_of c.args.velocity.now c.args.valid.now)
left c r e = ap (λ (r : Result _ Refusal). fill_answer_by (answer_of (missed_by r)) (result_unwrap_or r (get_or c.args.state.now 0 0)) (slices_of c.fill_sweep.new.velocity c.fill_sweep.new.valid)) (sym e) ∙ c.fill_sweep.ensures

pub returns-in_err-state : goal.returns-in_err-state
returns-in_err-state c =
    let e : c.from_residual.result ≡ Err c.in_err-state.field-0.0 = search rules in
    let one : length c.args.state.now ≡ 1 = omega arith in
    rw e (test_kept c.args.rays c.args.gates c.args.state.now (slices_of c.args.velocity.now c.args.valid.now) one _ _ (left (goal.at.returns-in_err-state c).After-fill_sweep _ c.in_err-state.was))

pub returns : goal.returns
returns c =
    let one : length c.args.state.now ≡ 1 = omega arith in
    test_done c.args.rays c.args.gates c.args.state.now (slices_of c.args.velocity.now c.args.valid.now) one _ (left (goal.at.returns c).After-fill_sweep _ c.in_ok-state.was)
