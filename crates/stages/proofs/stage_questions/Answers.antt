-- `stages::stage_questions` meets its contract. Assumes nothing.
use mathlib.Core.Path.{ap, ◌∙◌}
use Prim.Native.Nat.{ℕ}
use lib.ListN.{length}
use Rattle.sweep.specs.Entry.{sweep_of, sweep_by, answer_of}
use Rattle.sweep.specs.Questions.{Lent, first_no, seven, room, gates_in}
use Rattle.sweep.specs.Sweep.{Sweep}
use mathlib.Core.Option.{Option}
use Rattle.network.specs.declared.options.Options.{Options}
use Rattle.sweep.specs.declared.questions.Room.{Room}
use Rattle.stages.proofs.stage_questions.Goals as goal

pub returns : goal.returns
unfolding gates_in
returns c =
    let a = c.args in
    let s : Sweep = sweep_of a.rays a.gates a.nyquist a.splits a.skip_between_rays a.skip_along_ray a.centred a.wrap a.velocity.now a.valid.now in
    let l : Lent = record { counts = length a.velocity.now; doubtful = length a.velocity.now; pair = 2; words = a.words; floats = a.floats } in
    let asked : Options → Room → Option ℕ = λ o r. first_no (seven (sweep_by o a.velocity.now a.valid.now) r) in
    c.answer.ensures
    ∙ ap answer_of (c.first_missed.ensures ∙ ap (λ (o : Options). asked o c.room_of-lent.result) c.new-options.ensures)
    ∙ ap (λ (r : Room). answer_of (first_no (seven s r))) (c.room_of-lent.ensures ∙ ap (λ (n : ℕ). room n l) c.gates_in-n.ensures)
