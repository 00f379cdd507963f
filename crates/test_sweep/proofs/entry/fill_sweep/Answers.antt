-- `test_sweep::entry::fill_sweep` meets its contract. Assumes nothing.
use Rattle.std.proofs.Common.{rules, ◌≡◌, true, sym, ap, ◌∙◌}
use Rattle.std.specs.Prelude.{Err}
use mathlib.Core.Option.{none}
use Rattle.sweep.specs.Refusal.{missed_by}
use Rattle.test_sweep.specs.Call.{slices_of, asked_test}
use Rattle.test_sweep.proofs.CallLaws.{lengths, fill_refused, fill_done}
use Rattle.test_sweep.proofs.entry.fill_sweep.Goals.{In_ok-first_missed}
use Rattle.test_sweep.proofs.entry.fill_sweep.Goals as goal

-- both questions got a yes
all_yes : (c : In_ok-first_missed) → asked_test c.args.rays c.args.gates (slices_of c.args.velocity.now c.args.valid.now) true ≡ none
all_yes c = sym c.first_missed.ensures ∙ ap missed_by c.in_ok-first_missed.was

pub returns-in_err-first_missed : goal.returns-in_err-first_missed
returns-in_err-first_missed c =
    let a = c.args in
    let e : c.from_residual.result ≡ Err c.in_err-first_missed.field-0.0 = search rules in
    rw e (fill_refused a.rays a.gates a.state (slices_of a.velocity.now a.valid.now) _ (sym c.first_missed.ensures ∙ ap missed_by c.in_err-first_missed.was))

pub fill_gates-requires : goal.fill_gates-requires
fill_gates-requires c =
    let l = lengths c.args.rays c.args.gates (slices_of c.args.velocity.now c.args.valid.now) true (all_yes (goal.at.fill_gates-requires c).In_ok-first_missed) in
    l.1 ∙ sym l.0

pub returns : goal.returns
returns c =
    let a = c.args in
    let f = c.fill_gates.ensures in
    fill_done a.rays a.gates a.state (slices_of a.velocity.now a.valid.now) _ _ _ (all_yes (goal.at.returns c).In_ok-first_missed) (f.after, f.velocity, f.valid)
