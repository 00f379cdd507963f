-- `sweep::questions::velocities_in_range` meets its contract. Assumes nothing.
use Rattle.std.proofs.Common.{rules, ◌≡◌, ◌↔◌, ◌<◌, ℕ, true, length}
use Rattle.sweep.proofs.QuestionLaws.{speed_test, speeds_by}
use Rattle.sweep.proofs.questions.velocities_in_range.Goals as goal

pub returns : goal.returns
returns c =
    let vs = c.args.velocity.now in
    let ms = c.args.valid.now in
    let h : (c.all.result ≡ true) ↔ ((k : ℕ) → k < length vs → speed_test vs ms k ≡ true) = search rules in
    speeds_by c.all.result vs ms c.requires h
