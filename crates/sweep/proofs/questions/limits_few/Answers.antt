-- `sweep::questions::limits_few` meets its contract. Assumes nothing.
use Rattle.std.proofs.Common.{ap, ◌∙◌, w64}
use mir.ValLaws.{to_z-of_z}
use Rattle.sweep.proofs.PlanLaws.{limits_test}
use Rattle.sweep.specs.Questions.{at_most}
use Rattle.sweep.proofs.questions.limits_few.Goals as goal

pub returns : goal.returns
returns c =
    let p = c.args.p in
    limits_test _ ∙ ap (at_most 10000) (to_z-of_z w64 p.number (record { sfits = c.struct_told-1.given.1.1.0.1 }))
