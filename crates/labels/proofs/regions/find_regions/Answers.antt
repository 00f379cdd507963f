-- `labels::regions::find_regions` meets its contract. Assumes nothing.
use Rattle.labels.specs.Regions.{regions}
use Rattle.labels.proofs.PartLaws.{zeros_after}
use Rattle.std.proofs.Common.{◌+◌, ◌*◌, length, refl, arith}
use Rattle.labels.specs.Locals.{NoArray}
use Rattle.labels.proofs.regions.find_regions.Code.Mir.{function}
use Rattle.labels.proofs.regions.find_regions.Goals as goal

no_array : NoArray function
no_array = refl

pub returns : goal.returns
returns c =
    let a = c.args in let f = c.label_gates-r in let z = c.fill in
    let h = zeros_after f.new.u z.new.w (length a.velocity.now) (2 * length a.velocity.now + 64) (regions a.gates a.velocity.now a.valid.now a.limits.now) f.result (omega (arith, c.requires.long, f.auto.u)) f.ensures z.ensures in
    record { value = h.0; u_after = h.1 }
