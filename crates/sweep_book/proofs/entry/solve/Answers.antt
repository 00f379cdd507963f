-- `sweep_book::entry::solve` meets its contract. Assumes nothing.
use Rattle.sweep_book.specs.Book.{book_answer_by}
use Rattle.sweep_book.proofs.SolveLaws.{short_ends, held_ends, number_held, held_most, enter_asks, entered_is}
use Rattle.sweep.proofs.SolveLaws.{write_asks, solved_is}
use Rattle.sweep.proofs.PassedLaws.{answer_no, answer_yes}
use Rattle.sweep.specs.Inside.Finish.{all_zero}
use Rattle.sweep.specs.Call.{memory_of, answer_by}
use Rattle.sweep.specs.Entry.{sweep_in, answer_of}
use Rattle.sweep.specs.Refusal.{missed_by}
use Rattle.network.specs.Inside.Find.{limits_by, regions_by, network_for, Leaves}
use Rattle.network.proofs.FindLaws.{by_found, merges_ask}
use Rattle.arithmetic.specs.Rounding.{real}
use lib.IntN.{pos}
use mathlib.Core.Path.{◌≡◌, sym, ap, ◌∙◌}
use Prim.Native.Nat.{ℕ}
use lib.ListN.{length, replicate}
use Rattle.sweep_book.proofs.entry.solve.Goals.{After-merge_regions-f}
use Rattle.sweep_book.proofs.entry.solve.Goals as goal

-- merging keeps the length of the words, and leaves the regions by the limits merged
long : (c : After-merge_regions-f) → length c.merge_regions-f.new.words ≡ length c.args.words.now
long c = c.merge_regions-f.auto.words ∙ c.label-k.auto.work

left : (c : After-merge_regions-f) → let a = c.args in
    Leaves (regions_by a.s.options a.p a.s.velocity.now a.s.valid.now) (network_for a.s.options (regions_by a.s.options a.p a.s.velocity.now a.s.valid.now) a.s.velocity.now) (length a.s.velocity.now) c.merge_regions-f.new.words c.merge_regions-f.result
left c =
    let a = c.args in
    let l = c.label-k in
    by_found a.s.options a.p a.s.velocity.now a.s.valid.now a.words.now a.floats.now c.requires.finds l.result l.new.work l.auto.work l.ensures.labelled _ _ c.merge_regions-f.ensures

pub returns-then-not-book_holds : goal.returns-then-not-book_holds
returns-then-not-book_holds c =
    let a = c.args in
    let l = c.label-k in
    let z = c.clear in
    (λ i. book_answer_by (answer_by 13 a.folds.now a.doubtful.now a.pair.now ((z.ensures.words_after ∙ ap (λ (k : ℕ). replicate k 0) l.auto.work) i) (z.ensures.floats_after i)) a.book.now)
    ∙ short_ends (sweep_in a.s) (limits_by a.s.options a.p) (length a.book.now)
    (number_held a.s.options a.p a.s.velocity.now a.s.valid.now l.result (length a.book.now) l.ensures.labelled.number
    ∙ answer_no c.book_holds.ensures c.if-not-book_holds.true)
    (all_zero (memory_of a.folds.now a.doubtful.now a.pair.now a.words.now a.floats.now)) a.book.now

pub merge_regions-f-requires : goal.merge_regions-f-requires
merge_regions-f-requires c =
    let a = c.args in
    let l = c.label-k in
    merges_ask a.s.options a.p a.s.velocity.now a.s.valid.now a.words.now a.floats.now c.requires.finds l.result l.new.work l.auto.work l.ensures.labelled

pub write-r-requires : goal.write-r-requires
write-r-requires c =
    let a = c.args in
    write_asks a.s.options a.p a.s.velocity.now a.s.valid.now a.words.now a.floats.now c.requires.finds c.merge_regions-f.new.words c.merge_regions-f.result (long (goal.at.write-r-requires c).After-merge_regions-f) (left (goal.at.write-r-requires c).After-merge_regions-f) _ _ _ c.requires.lends.0 c.requires.lends.1 c.requires.lends.2

pub enter_found-requires : goal.enter_found-requires
enter_found-requires c =
    let a = c.args in
    let l = c.label-k in
    enter_asks a.s.options a.p a.s.velocity.now a.s.valid.now a.words.now a.floats.now c.requires.finds c.merge_regions-f.new.words c.merge_regions-f.result (long (goal.at.enter_found-requires c).After-merge_regions-f) (left (goal.at.enter_found-requires c).After-merge_regions-f) (length a.book.now)
    (held_most a.s.options a.p a.s.velocity.now a.s.valid.now l.result (length a.book.now) l.ensures.labelled.number
    (answer_yes c.book_holds.ensures c.if-not-book_holds.false))

pub returns : goal.returns
returns c =
    let a = c.args in
    let l = c.label-k in
    let w = c.write-r in
    let e = c.enter_found in
    let z = c.clear-2 in
    (λ i. book_answer_by (solved_is a.s.options a.p a.s.velocity.now a.s.valid.now a.words.now a.floats.now c.requires.finds c.merge_regions-f.new.words c.merge_regions-f.result (long (goal.at.returns c).After-merge_regions-f) (left (goal.at.returns c).After-merge_regions-f)
    (answer_of (missed_by w.result)) a.folds.now w.new.folds a.doubtful.now w.new.doubtful a.pair.now w.new.pair z.new.words z.new.floats w.ensures
    (z.ensures.words_after ∙ ap (λ (k : ℕ). replicate k 0) (long (goal.at.returns c).After-merge_regions-f)) (z.ensures.floats_after ∙ ap (λ (k : ℕ). replicate k (real (pos 0))) c.merge_regions-f.auto.floats) i)
    ((e.ensures ∙ entered_is a.s.options a.p a.s.velocity.now a.s.valid.now a.words.now a.floats.now c.requires.finds c.merge_regions-f.new.words c.merge_regions-f.result (long (goal.at.returns c).After-merge_regions-f) (left (goal.at.returns c).After-merge_regions-f) a.book.now) i))
    ∙ sym (held_ends (sweep_in a.s) (limits_by a.s.options a.p) (length a.book.now)
    (number_held a.s.options a.p a.s.velocity.now a.s.valid.now l.result (length a.book.now) l.ensures.labelled.number
    ∙ answer_yes c.book_holds.ensures
    c.if-not-book_holds.false)
    (all_zero (memory_of a.folds.now a.doubtful.now a.pair.now a.words.now a.floats.now)) a.book.now)
