-- `files::reader::Whole::velocities_in_range` meets its contract. Assumes nothing.
use Rattle.std.proofs.Common.{rules, ◌≡◌, ◌*◌, ℕ, Bool, true, false, not, ◌||◌, ◌==◌, refl}
use Rattle.std.proofs.lemmas.Iterator.{cases_from_all, YieldsList-from_range}
use borrow.Author.Tests.{tests}
use lib.Ieee.{binary32, of_bits}
use Rattle.arithmetic.specs.Intervals.{velocity_in_range}
use Rattle.files.specs.Inside.Gates.{mask_at, bits_at}
use Rattle.files.proofs.CodeLaws.{each_below, speeds_by}
use Rattle.files.proofs.reader.Whole.velocities_in_range.Goals as goal

pub returns : goal.returns
returns c =
    let w = c.args.self in
    let n = w.rays * w.gates in
    let t : ℕ → Bool = λ k. not (mask_at w.file.now w.gates k == 1) || velocity_in_range (of_bits binary32 (bits_at w.file.now w.gates k)) in
    speeds_by c.all.result w.file.now w.rays w.gates
    (each_below n t c.all.result
    (cases_from_all _ _ c.all.result (λ k. t k ≡ true) (λ k. t k ≡ false) c.all.ensures.ran (YieldsList-from_range 0 c.gates_in.result n refl (search rules)) (λ x q k. search (rules, tests)) (λ x q k. search (rules, tests))))
