-- `sweep::sweep::solve` meets its contract. Assumes nothing.
use Rattle.std.proofs.Common.{ℕ, replicate, pos, ap, ◌∙◌}
use Rattle.sweep.proofs.SolveLaws.{write_asks, solved_is}
use Rattle.arithmetic.specs.Rounding.{real}
use Rattle.sweep.specs.Entry.{answer_of}
use Rattle.sweep.specs.Refusal.{missed_by}
use Rattle.sweep.proofs.sweep.solve.Goals as goal

pub find-f-requires : goal.find-f-requires
find-f-requires c = c.requires.finds

pub write-r-requires : goal.write-r-requires
write-r-requires c =
    let a = c.args in
    let f = c.find-f in
    write_asks a.s.options a.p a.s.velocity.now a.s.valid.now a.words.now a.floats.now c.requires.finds f.new.words f.result f.auto.words f.ensures _ _ _ c.requires.long.0 c.requires.long.1 c.requires.long.2

pub returns : goal.returns
returns c =
    let a = c.args in
    let f = c.find-f in
    let w = c.write-r in
    let z = c.clear in
    solved_is a.s.options a.p a.s.velocity.now a.s.valid.now a.words.now a.floats.now c.requires.finds f.new.words f.result f.auto.words f.ensures
    (answer_of (missed_by w.result)) a.folds.now w.new.folds a.doubtful.now w.new.doubtful a.pair.now w.new.pair z.new.words z.new.floats w.ensures
    (z.ensures.words_after ∙ ap (λ (k : ℕ). replicate k 0) f.auto.words) (z.ensures.floats_after ∙ ap (λ (k : ℕ). replicate k (real (pos 0))) f.auto.floats)
