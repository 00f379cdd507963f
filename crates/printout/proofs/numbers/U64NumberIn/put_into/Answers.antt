-- `put_into` of a total meets its contract. Assumes nothing.
use Rattle.std.proofs.Common.{◌≤◌, length, ap, ◌∙◌, arith}
use Rattle.std.proofs.Math.Nat.{min-eq_left}
use Rattle.printout.specs.Text.{decimal}
use Rattle.printout.proofs.DecimalLaws.{decimal_same, decimal_most}
use Rattle.printout.proofs.numbers.U64NumberIn.put_into.Goals as goal

pub push_str-requires : goal.push_str-requires
push_str-requires g c =
    let s = c.args.self in
    let few : length (decimal s) ≤ 20 = decimal_most s c.ranges.self in
    omega (arith, c.requires, min-eq_left few, ap length (c.format.ensures.text ∙ decimal_same s c.ranges.self.fits))

pub returns-clause-appended : goal.returns-clause-appended
returns-clause-appended g c = cc (c.push_str.ensures.bytes, c.format.ensures.text, decimal_same c.args.self c.ranges.self.fits)
