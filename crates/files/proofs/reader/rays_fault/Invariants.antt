-- `files::reader::rays_fault` meets its contract: the questions of the rays from r on are left. Assumes nothing.
use Rattle.std.proofs.Common.{◌≡◌, ◌-◌}
use Rattle.sweep.specs.Questions.{first_no}
use Rattle.files.specs.Questions.{rays_questions}
use Rattle.files.proofs.reader.rays_fault.Given as goal

abbrev pub invariant-loop-r : goal.invariant-loop-r
invariant-loop-r l = first_no (rays_questions l.file l.gates l.rays 0) ≡ first_no (rays_questions l.file l.gates (l.rays - l.r) l.r)
