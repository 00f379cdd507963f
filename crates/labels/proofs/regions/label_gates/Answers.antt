-- `labels::regions::label_gates` meets its contract. Assumes nothing.
use Rattle.labels.specs.Regions.{regions}
use Rattle.labels.proofs.PartLaws.{front_found}
use Rattle.std.proofs.Common.{◌≡◌, ◌+◌, ◌∙◌, length, refl, arith}
use Rattle.std.proofs.lemmas.List.{length-take-le}
use Rattle.labels.specs.Locals.{NoArray}
use Rattle.labels.proofs.regions.label_gates.Code.Mir.{function}
use Rattle.labels.proofs.regions.label_gates.Goals as goal

no_array : NoArray function
no_array = refl

pub returns : goal.returns
returns c =
    let a = c.args in
    let n = length a.velocity.now in
    let lent : length c.at_once.new.u ≡ n + n + c.saturating_sub-intervals.result = c.at_once.auto.u ∙ length-take-le (n + n + c.saturating_sub-intervals.result) a.u.now (omega arith) in
    front_found c.at_once.new.u _ n c.at_once.result (regions a.gates a.velocity.now a.valid.now a.limits.now) (omega arith) c.at_once.ensures
