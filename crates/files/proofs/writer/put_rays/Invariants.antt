-- `files::writer::put_rays` meets its contract: the first r rays are stored. Assumes nothing.
use Rattle.std.proofs.Common.{◌≡◌}
use Rattle.lists.specs.Inside.Seg.{put}
use Rattle.files.specs.Format.{rays_bytes}
use Rattle.files.proofs.writer.put_rays.Given as goal

abbrev pub invariant-loop-r : goal.invariant-loop-r
invariant-loop-r l = l.file ≡ put l.initial.file 18 (rays_bytes l.s.velocity.now l.s.valid.now l.r l.s.header.gates)
