-- `channels::entry::unfold_two` meets its contract. Assumes nothing.
use Rattle.std.proofs.Common.{◌+◌, ◌*◌, ◌≤◌, length, take, sym, refl, arith}
use Rattle.memory.specs.Size.{gates_of_largest}
use Rattle.sweep.proofs.WorkLaws.{length_taken}
use Rattle.sweep.proofs.EndLaws.{small, words_room, floats_room, outputs}
use Rattle.sweep.specs.Entry.{sweep_in}
use Rattle.channels.specs.Call.{TwoMemory, channel_of, two_memory_of, lent_to}
use Rattle.channels.proofs.AskLaws.{finds_both_ask, solved_ends}
use Rattle.channels.proofs.entry.unfold_two.Goals.{Start}
use Rattle.channels.proofs.entry.unfold_two.Goals as goal

abbrev lent : (c : Start) → TwoMemory
lent c = let a = c.args in two_memory_of (channel_of a.h_folds.now a.h_doubtful.now a.h_pair.now) (channel_of a.v_folds.now a.v_doubtful.now a.v_pair.now) a.words.now a.floats.now

few : (c : Start) → length c.args.h.velocity.now ≤ gates_of_largest
few c = small (sweep_in c.args.h) (lent_to (lent c).horizontal (lent c)) c.requires.seven_yes.0

words_are : (c : Start) → 96 * length c.args.h.velocity.now + 64 ≤ length c.args.words.now
words_are c = words_room (sweep_in c.args.h) (lent_to (lent c).horizontal (lent c)) c.requires.seven_yes.0

floats_are : (c : Start) → 16 * length c.args.h.velocity.now + 16 ≤ length c.args.floats.now
floats_are c = floats_room (sweep_in c.args.h) (lent_to (lent c).horizontal (lent c)) c.requires.seven_yes.0

pub overflow_mul-w : goal.overflow_mul-w
overflow_mul-w c = record { fits = omega (arith, few (goal.at.overflow_mul-w c).Start) }

pub overflow_add-w : goal.overflow_add-w
overflow_add-w c = record { fits = omega (arith, few (goal.at.overflow_add-w c).Start) }

pub overflow_mul-d : goal.overflow_mul-d
overflow_mul-d c = record { fits = omega (arith, few (goal.at.overflow_mul-d c).Start) }

pub overflow_add-d : goal.overflow_add-d
overflow_add-d c = record { fits = omega (arith, few (goal.at.overflow_add-d c).Start) }

pub slice_bounds-solve_both-end : goal.slice_bounds-solve_both-end
slice_bounds-solve_both-end c = words_are (goal.at.slice_bounds-solve_both-end c).Start

pub slice_bounds-solve_both-end-2 : goal.slice_bounds-solve_both-end-2
slice_bounds-solve_both-end-2 c = sym (length_taken _ c.args.words.now (words_are (goal.at.slice_bounds-solve_both-end-2 c).Start))

pub slice_bounds-solve_both-end-3 : goal.slice_bounds-solve_both-end-3
slice_bounds-solve_both-end-3 c = floats_are (goal.at.slice_bounds-solve_both-end-3 c).Start

pub slice_bounds-solve_both-end-4 : goal.slice_bounds-solve_both-end-4
slice_bounds-solve_both-end-4 c = sym (length_taken _ c.args.floats.now (floats_are (goal.at.slice_bounds-solve_both-end-4 c).Start))

pub solve_both-requires : goal.solve_both-requires
solve_both-requires c =
    let s = (goal.at.solve_both-requires c).Start in
    let a = c.args in
    let m = lent s in
    let y = c.requires.seven_yes in record {
      finds_both = finds_both_ask a.h a.v a.p m y.0 y.1 c.requires.options c.requires.fit _ _ (length_taken _ a.words.now (words_are s)) (length_taken _ a.floats.now (floats_are s));
      h_long = outputs a.h.options a.p a.h.velocity.now a.h.valid.now (lent_to m.horizontal m) y.0;
      v_long = outputs a.v.options a.p a.v.velocity.now a.v.valid.now (lent_to m.vertical m) y.1;
    }

pub returns : goal.returns
returns c =
    let s = (goal.at.returns c).Start in
    let a = c.args in
    let y = c.requires.seven_yes in
    solved_ends a.h a.v a.p (lent s) y.0 y.1 _ _ (take (96 * length a.h.velocity.now + 64) a.words.now) (take (16 * length a.h.velocity.now + 16) a.floats.now)
    (length_taken _ a.words.now (words_are s)) (length_taken _ a.floats.now (floats_are s)) _ c.solve_both.ensures _ _ refl refl
