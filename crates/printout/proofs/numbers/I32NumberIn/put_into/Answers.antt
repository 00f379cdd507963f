-- `put_into` of a count meets its contract. Assumes nothing.
use Rattle.std.proofs.Common.{◌≡◌, ◌≤◌, length, ap, arith, w32}
use Rattle.std.proofs.Math.Nat.{min-eq_left}
use mir.ValLaws.{to_z-of_z}
use Rattle.printout.specs.Text.{count_text}
use Rattle.printout.proofs.DecimalLaws.{count_same, count_room}
use Rattle.printout.proofs.numbers.I32NumberIn.put_into.Goals as goal

pub push_str-requires : goal.push_str-requires
push_str-requires g c =
    let s = c.args.self in
    let few : length (count_text s) ≤ 11 = count_room s c.ranges.self in
    let e : c.format.result.now ≡ count_text s = cc (c.format.ensures.text, to_z-of_z w32 s c.ranges.self, count_same s c.ranges.self) in
    omega (arith, c.requires, min-eq_left few, ap length e)

pub returns-clause-appended : goal.returns-clause-appended
returns-clause-appended g c = cc (c.push_str.ensures.bytes, c.format.ensures.text, to_z-of_z w32 c.args.self c.ranges.self, count_same c.args.self c.ranges.self)
