-- `channels::both::solve_both` meets its contract. Assumes nothing.
use Rattle.std.proofs.Common.{ℕ, replicate, pos, ap, ◌∙◌}
use Rattle.arithmetic.specs.Rounding.{real}
use Rattle.channels.specs.Call.{channel_of}
use Rattle.channels.proofs.EndLaws.{solved_is}
use Rattle.channels.proofs.SolveLaws.{writes_both, horizontal_is, vertical_is}
use Rattle.channels.proofs.both.solve_both.Goals as goal

pub find_both-f-requires : goal.find_both-f-requires
find_both-f-requires c = c.requires.finds_both

pub write_both-r-requires : goal.write_both-r-requires
write_both-r-requires c =
    let a = c.args in
    let f = c.find_both-f in
    let h = c.requires.h_long in
    let v = c.requires.v_long in
    writes_both a.h a.v a.p a.words.now a.floats.now c.requires.finds_both f.new.words f.result f.auto.words f.ensures _ _
    (record { counts = h.0; doubtful = h.1; pair = h.2 }) (record { counts = v.0; doubtful = v.1; pair = v.2 })

pub returns : goal.returns
returns c =
    let a = c.args in
    let f = c.find_both-f in
    let z = c.clear in
    solved_is _ _ _ _ (channel_of a.h_folds.now a.h_doubtful.now a.h_pair.now) (channel_of a.v_folds.now a.v_doubtful.now a.v_pair.now) _ z.new.words _ z.new.floats _ c.write_both-r.ensures
    (horizontal_is a.h a.v a.p a.words.now a.floats.now c.requires.finds_both f.new.words f.result f.auto.words f.ensures)
    (vertical_is a.h a.v a.p a.words.now a.floats.now c.requires.finds_both f.new.words f.result f.auto.words f.ensures)
    (z.ensures.words_after ∙ ap (λ (k : ℕ). replicate k 0) f.auto.words) (z.ensures.floats_after ∙ ap (λ (k : ℕ). replicate k (real (pos 0))) f.auto.floats)
