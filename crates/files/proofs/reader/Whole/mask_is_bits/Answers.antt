-- `files::reader::Whole::mask_is_bits` meets its contract. Assumes nothing.
use Rattle.std.proofs.Common.{rules, ◌≡◌, ◌*◌, true, false, leb, refl}
use Rattle.std.proofs.lemmas.Iterator.{cases_from_all, YieldsList-from_range}
use borrow.Author.Tests.{tests}
use Rattle.files.specs.Inside.Gates.{mask_at}
use Rattle.files.proofs.CodeLaws.{each_below, masks_by}
use Rattle.files.proofs.reader.Whole.mask_is_bits.Goals as goal

pub returns : goal.returns
returns c =
    let w = c.args.self in
    let n = w.rays * w.gates in
    masks_by c.all.result w.file.now w.rays w.gates
    (each_below n (λ k. leb (mask_at w.file.now w.gates k) 1) c.all.result
    (cases_from_all _ _ c.all.result (λ k. leb (mask_at w.file.now w.gates k) 1 ≡ true) (λ k. leb (mask_at w.file.now w.gates k) 1 ≡ false) c.all.ensures.ran (YieldsList-from_range 0 c.gates_in.result n refl (search rules)) (λ x q k. search (rules, tests)) (λ x q k. search (rules, tests))))
