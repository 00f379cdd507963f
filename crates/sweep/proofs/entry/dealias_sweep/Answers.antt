-- `sweep::entry::dealias_sweep` meets its contract. Assumes nothing.
use mathlib.Core.Option.{none}
use Rattle.std.proofs.Common.{rules, ◌≡◌, ℕ, sym, ap, ◌∙◌}
use Rattle.std.specs.Prelude.{Err}
use Rattle.sweep.proofs.CallLaws.{call_missed, call_goes_on}
use Rattle.sweep.proofs.PassedLaws.{seven_of_eight}
use Rattle.sweep.proofs.RefusalLaws.{plan_of}
use Rattle.arithmetic.specs.declared.intervals.Plan.{Plan}
use Rattle.sweep.specs.Inside.Planning.{own_plan, Fit}
use Rattle.sweep.specs.Entry.{sweep_in}
use Rattle.sweep.specs.Refusal.{missed_by}
use Rattle.sweep.specs.Call.{memory_of, lengths}
use Rattle.sweep.specs.declared.questions.Room.{Room}
use Rattle.sweep.specs.Questions.{first_no, eight, room, eight_of, gates_in}
use Rattle.sweep.proofs.entry.dealias_sweep.Goals.{After-plan_sweep, In_ok-p}
use Rattle.sweep.proofs.entry.dealias_sweep.Goals as goal

-- the answer of questions 1 to 8
asked : (c : After-plan_sweep) →
    let s = sweep_in c.args.s in
    let m = memory_of c.args.folds.now c.args.doubtful.now c.args.pair.now c.args.words.now c.args.floats.now in
    missed_by c.plan_sweep.result ≡ first_no (eight_of s (lengths m))
unfolding lengths gates_in
asked c =
    let s = sweep_in c.args.s in
    let m = memory_of c.args.folds.now c.args.doubtful.now c.args.pair.now c.args.words.now c.args.floats.now in
    c.plan_sweep.ensures.missed
    ∙ ap (λ (r : Room). first_no (eight s r)) (c.room_of-lent.ensures ∙ ap (λ (n : ℕ). room n (lengths m)) c.gates_in-n.ensures)

-- none got a no
eight_yes : (c : In_ok-p) →
    let s = sweep_in c.args.s in
    let m = memory_of c.args.folds.now c.args.doubtful.now c.args.pair.now c.args.words.now c.args.floats.now in
    missed_by c.plan_sweep.result ≡ first_no (eight_of s (lengths m)) → first_no (eight_of s (lengths m)) ≡ none
eight_yes c e = sym e ∙ ap missed_by c.in_ok-p.was

pub unfold_sweep-requires : goal.unfold_sweep-requires
unfold_sweep-requires c =
    let g = goal.at.unfold_sweep-requires c in
    let s = sweep_in c.args.s in
    let m = memory_of c.args.folds.now c.args.doubtful.now c.args.pair.now c.args.words.now c.args.floats.now in
    record { seven_yes = seven_of_eight s (room (gates_in s) (lengths m)) (eight_yes g.In_ok-p (asked g.After-plan_sweep)); fit = plan_of (Fit c.args.s.options) _ _ c.plan_sweep.ensures.fit c.in_ok-p.was }

pub returns : goal.returns
returns c =
    let g = goal.at.returns c in
    let s = sweep_in c.args.s in
    let m = memory_of c.args.folds.now c.args.doubtful.now c.args.pair.now c.args.words.now c.args.floats.now in
    c.unfold_sweep.ensures ∙ call_goes_on s m c.in_ok-p.p (plan_of (λ (p : Plan). p ≡ own_plan s) _ _ c.plan_sweep.ensures.plan c.in_ok-p.was) (eight_yes g.In_ok-p (asked g.After-plan_sweep))

pub returns-in_err-p : goal.returns-in_err-p
returns-in_err-p c =
    let s = sweep_in c.args.s in
    let m = memory_of c.args.folds.now c.args.doubtful.now c.args.pair.now c.args.words.now c.args.floats.now in
    let e : c.from_residual.result ≡ Err c.in_err-p.field-0.0 = search rules in
    rw e (call_missed s m _ (sym (asked (goal.at.returns-in_err-p c).After-plan_sweep) ∙ ap missed_by c.in_err-p.was))
