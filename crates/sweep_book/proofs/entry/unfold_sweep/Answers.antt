-- `sweep_book::entry::unfold_sweep` meets its contract. Assumes nothing.
use Rattle.sweep_book.specs.Book.{later, BookAnswer, end_book, book_answer_by}
use Rattle.sweep.proofs.EndLaws.{small, words_room, floats_room, finds_ask, outputs, solved_ends}
use Rattle.sweep.proofs.WorkLaws.{length_taken}
use Rattle.sweep.specs.Call.{memory_of}
use Rattle.sweep.specs.Entry.{sweep_in}
use Rattle.sweep.specs.Questions.{first_no, answered}
use Rattle.sweep.specs.Sweep.{unfolded}
use Rattle.network.specs.Inside.Find.{limits_by}
use Rattle.memory.specs.Size.{gates_of_largest}
use Rattle.std.proofs.Common.{◌+◌, ◌*◌, ◌≤◌, length, take, sym, refl, ap, arith}
use Rattle.sweep_book.proofs.entry.unfold_sweep.Goals.{Start}
use Rattle.sweep_book.proofs.entry.unfold_sweep.Goals as goal

few : (c : Start) → length c.args.s.velocity.now ≤ gates_of_largest
few c = small (sweep_in c.args.s) (memory_of c.args.folds.now c.args.doubtful.now c.args.pair.now c.args.words.now c.args.floats.now) c.requires.seven_yes

words_are : (c : Start) → 96 * length c.args.s.velocity.now + 64 ≤ length c.args.words.now
words_are c = words_room (sweep_in c.args.s) (memory_of c.args.folds.now c.args.doubtful.now c.args.pair.now c.args.words.now c.args.floats.now) c.requires.seven_yes

floats_are : (c : Start) → 16 * length c.args.s.velocity.now + 16 ≤ length c.args.floats.now
floats_are c = floats_room (sweep_in c.args.s) (memory_of c.args.folds.now c.args.doubtful.now c.args.pair.now c.args.words.now c.args.floats.now) c.requires.seven_yes

pub overflow_mul-w : goal.overflow_mul-w
overflow_mul-w c = record { fits = omega (arith, few (goal.at.overflow_mul-w c).Start) }

pub overflow_add-w : goal.overflow_add-w
overflow_add-w c = record { fits = omega (arith, few (goal.at.overflow_add-w c).Start) }

pub overflow_mul-d : goal.overflow_mul-d
overflow_mul-d c = record { fits = omega (arith, few (goal.at.overflow_mul-d c).Start) }

pub overflow_add-d : goal.overflow_add-d
overflow_add-d c = record { fits = omega (arith, few (goal.at.overflow_add-d c).Start) }

pub slice_bounds-solve-end : goal.slice_bounds-solve-end
slice_bounds-solve-end c = words_are (goal.at.slice_bounds-solve-end c).Start

pub slice_bounds-solve-end-2 : goal.slice_bounds-solve-end-2
slice_bounds-solve-end-2 c = sym (length_taken _ c.args.words.now (words_are (goal.at.slice_bounds-solve-end-2 c).Start))

pub slice_bounds-solve-end-3 : goal.slice_bounds-solve-end-3
slice_bounds-solve-end-3 c = floats_are (goal.at.slice_bounds-solve-end-3 c).Start

pub slice_bounds-solve-end-4 : goal.slice_bounds-solve-end-4
slice_bounds-solve-end-4 c = sym (length_taken _ c.args.floats.now (floats_are (goal.at.slice_bounds-solve-end-4 c).Start))

pub solve-requires : goal.solve-requires
solve-requires c =
    let m = memory_of c.args.folds.now c.args.doubtful.now c.args.pair.now c.args.words.now c.args.floats.now in
    let a = c.args in record { finds = finds_ask a.s.options a.p a.s.velocity.now a.s.valid.now m c.requires.seven_yes c.requires.fit _ _ (length_taken _ a.words.now (words_are (goal.at.solve-requires c).Start)) (length_taken _ a.floats.now (floats_are (goal.at.solve-requires c).Start)); lends = outputs a.s.options a.p a.s.velocity.now a.s.valid.now m c.requires.seven_yes }

pub returns : goal.returns
unfolding end_book
returns c =
    let m = memory_of c.args.folds.now c.args.doubtful.now c.args.pair.now c.args.words.now c.args.floats.now in
    let u = c.solve in
    let a = c.args in
    (λ i. book_answer_by (solved_ends a.s.options a.p a.s.velocity.now a.s.valid.now m c.requires.seven_yes (answered (first_no (later (sweep_in a.s) (limits_by a.s.options a.p) (length a.book.now))) (unfolded (sweep_in a.s) (limits_by a.s.options a.p)))
    (take (96 * length a.s.velocity.now + 64) a.words.now)
    (take (16 * length a.s.velocity.now + 16) a.floats.now) (length_taken _ a.words.now (words_are (goal.at.returns c).Start)) (length_taken _ a.floats.now (floats_are (goal.at.returns c).Start)) _ (ap (λ (x : BookAnswer). x.answer) u.ensures) _ _
    refl refl i) (ap (λ (x : BookAnswer). x.book) u.ensures i))
