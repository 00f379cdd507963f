-- `sweep::questions::gates_missed` meets its contract. The invariant: the gates from i on decide, and whether a gate before them missed question 10. Assumes nothing.
use Rattle.std.proofs.Common.{◌≡◌, ◌∷◌, []}
use Rattle.std.specs.Prelude.{is_ok}
use Rattle.sweep.specs.Inside.Gates.{gates_asked}
use Rattle.sweep.specs.Questions.{ask, first_no}
use Rattle.sweep.specs.Refusal.{missed_by}
use Rattle.sweep.proofs.GateLaws.{rest_asked}
use Rattle.sweep.proofs.questions.gates_missed.Given as goal

abbrev pub invariant-loop-i : goal.invariant-loop-i
invariant-loop-i l = record {
  rest : gates_asked l.velocity l.valid l.folds l.labels ≡ rest_asked l.velocity l.valid l.folds l.labels (is_ok l.missed) l.i;
  ten : missed_by l.missed ≡ first_no (ask 10 (is_ok l.missed) ∷ []);
}
