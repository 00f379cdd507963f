-- `files::writer::put_gates` meets its contract: the first g gates are stored. Assumes nothing.
use Rattle.std.proofs.Common.{◌≡◌}
use Rattle.lists.specs.Inside.Seg.{put}
use Rattle.files.specs.Format.{ray_bytes}
use Rattle.files.proofs.writer.put_gates.Given as goal

abbrev pub invariant-loop-g : goal.invariant-loop-g
invariant-loop-g l = l.file ≡ put l.initial.file l.at (ray_bytes l.s.velocity.now l.s.valid.now l.g l.first)
