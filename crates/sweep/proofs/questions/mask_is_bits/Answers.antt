-- `sweep::questions::mask_is_bits` meets its contract. Assumes nothing.
use Rattle.std.proofs.Common.{rules, ◌≡◌, ◌↔◌, ◌<◌, ◌≤◌, ℕ, true, length, get_or}
use Rattle.sweep.proofs.QuestionLaws.{mask_by}
use Rattle.sweep.proofs.questions.mask_is_bits.Goals as goal

pub returns : goal.returns
returns c =
    let l = c.args.valid.now in
    let h : (c.all.result ≡ true) ↔ ((k : ℕ) → k < length l → get_or l k 0 ≤ 1) = search rules in
    mask_by c.all.result l h
