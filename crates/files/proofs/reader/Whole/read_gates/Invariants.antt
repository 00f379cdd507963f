-- `files::reader::Whole::read_gates` meets its contract: the first i gates are written. Assumes nothing.
use Rattle.std.proofs.Common.{◌≡◌}
use Rattle.lists.specs.Inside.Seg.{put}
use Rattle.lists.specs.Seq.{tabulate}
use Rattle.files.specs.Inside.Gates.{mask_at, bits_at}
use Rattle.files.proofs.reader.Whole.read_gates.Given as goal

abbrev pub invariant-loop-i : goal.invariant-loop-i
invariant-loop-i l = record {
  speeds : l.velocity ≡ put l.initial.velocity 0 (tabulate l.i (bits_at l.self.file.now l.self.gates));
  marks : l.valid ≡ put l.initial.valid 0 (tabulate l.i (mask_at l.self.file.now l.self.gates));
}
