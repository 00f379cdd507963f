-- `files::writer::velocities_in_range` meets its contract. Assumes nothing.
use Rattle.std.proofs.Common.{rules, ◌≡◌, ◌↔◌, ◌<◌, ℕ, true, length, get_or}
use Rattle.files.proofs.CodeLaws.{bit_test, bit_speeds_by}
use Rattle.files.proofs.writer.velocities_in_range.Goals as goal

pub returns : goal.returns
returns c =
    let vs = c.args.velocity.now in
    let ms = c.args.valid.now in
    let h : (c.all.result ≡ true) ↔ ((k : ℕ) → k < length vs → bit_test (get_or ms k 0) (get_or vs k 0) ≡ true) = search rules in
    bit_speeds_by c.all.result vs ms c.requires h
