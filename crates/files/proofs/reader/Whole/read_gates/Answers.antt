-- `files::reader::Whole::read_gates` meets its contract. Assumes nothing.
use Rattle.std.proofs.Common.{◌≡◌, ◌*◌, arith}
use Rattle.sweep.proofs.FillLaws.{fill_all}
use Rattle.files.specs.Format.{bits_in, mask_in}
use Rattle.files.specs.Inside.Gates.{mask_at, bits_at}
use Rattle.files.proofs.reader.Whole.read_gates.Goals as goal

pub returns : goal.returns
unfolding bits_in mask_in bits_at mask_at
returns c =
    let w = c.args.self in
    let l = c.loop-i in
    let e : l.i ≡ w.rays * w.gates = omega (arith, l.auto.i-end, c.loop-i-test.false, c.requires.velocity_long) in record {
      velocity = fill_all (bits_at w.file.now w.gates) c.args.velocity.now l.velocity l.i (w.rays * w.gates) l.invariant.speeds e c.requires.velocity_long;
      valid = fill_all (mask_at w.file.now w.gates) c.args.valid.now l.valid l.i (w.rays * w.gates) l.invariant.marks e c.requires.valid_long;
    }
