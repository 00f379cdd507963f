-- `sweep::questions::gates_missed` meets its contract. Assumes nothing.
use lib.Ieee.{nan}
use mathlib.Core.Option.{some}
use Rattle.std.proofs.Common.{rules, ◌≡◌, ◌∷◌, [], ℤ, get_or, sym, refl, ap, ◌∙◌}
use Rattle.std.specs.Prelude.{Err}
use Rattle.sweep.specs.Refusal.{missed_by}
use Rattle.sweep.specs.Questions.{ask, first_no}
use Rattle.sweep.specs.Inside.Gates.{velocity_passes, gate_asked}
use Rattle.sweep.proofs.GateLaws.{count_test, none_yes, seven_no, ten_no, rest_begins, rest_ends, turn_seven, turn_ten, turn_on}
use Rattle.sweep.proofs.questions.gates_missed.Goals.{After-gate_missed, in-Ok, in-Err}
use Rattle.sweep.proofs.questions.gates_missed.Goals as goal

-- what gate i was answered
here : (c : After-gate_missed) →
    let a = c.args in
    let i = c.loop-i.i in
    missed_by c.gate_missed.result ≡ first_no (ask 7 (velocity_passes (get_or a.velocity.now i nan) (get_or a.valid.now i 0)) ∷ ask 10 (count_test a.valid.now a.folds.now a.labels.now i) ∷ [])
unfolding gate_asked
here c =
    let s = c.args in
    let l = c.loop-i in
    c.gate_missed.ensures ∙ ap (λ (z : ℤ). gate_asked (get_or s.velocity.now l.i nan) (get_or s.valid.now l.i 0) z (get_or s.labels.now l.i 0)) (search rules)

pub loop-i-init : goal.loop-i-init
unfolding first_no
loop-i-init c = record { rest = rest_begins _ _ _ _; ten = refl }

pub loop-i-preserved : goal.loop-i-preserved
unfolding first_no
loop-i-preserved c =
    let l = c.loop-i in
    let a = c.args in
    let h = c.loop-i-test.true in
    let e = here (goal.at.loop-i-preserved c).After-gate_missed in
    elim c.match-gate_missed.branch [
      | in-Ok w ↦ rw w.missed-is (record {
        rest = l.invariant.rest ∙ turn_on a.velocity.now a.valid.now a.folds.now a.labels.now _ l.i c.requires.0 h (none_yes _ _ _ e (ap missed_by w.in-Ok.is));
        ten = l.invariant.ten;
      })
      | in-Err w ↦
          let t = ten_no _ _ _ e _ (ap missed_by w.in-Err.is) (search rules) in
          rw w.missed-is (record {
            rest = l.invariant.rest ∙ turn_ten a.velocity.now a.valid.now a.folds.now a.labels.now _ l.i c.requires.0 h (t.0, t.1);
            ten = ap some t.2;
          })
    ]

pub returns-in-Err-Velocities : goal.returns-in-Err-Velocities
returns-in-Err-Velocities c =
    let l = c.loop-i in
    let a = c.args in
    let e = here (goal.at.returns-in-Err-Velocities c).After-gate_missed in
    sym (l.invariant.rest ∙ turn_seven a.velocity.now a.valid.now a.folds.now a.labels.now _ l.i c.requires.0 c.loop-i-test.true (seven_no _ _ _ e (ap missed_by (c.in-Err-Velocities.is ∙ ap Err c.in-Err-Velocities.field-0-is))))

pub returns : goal.returns
returns c =
    let l = c.loop-i in
    let a = c.args in
    l.invariant.ten ∙ sym (l.invariant.rest ∙ rest_ends a.velocity.now a.valid.now a.folds.now a.labels.now _ l.i c.requires.0 c.loop-i-test.false)
