-- `sweep_book::book::enter_all` meets its contract. Assumes nothing.
use Rattle.std.proofs.Common.{◌∙◌, arith}
use Rattle.sweep_book.proofs.EnterLaws.{enter_start, entry_low, entry_gain, enter_turn, enter_end}
use Rattle.sweep_book.proofs.book.enter_all.Goals as goal

pub loop-j-init : goal.loop-j-init
loop-j-init c = enter_start c.args.w.now c.args.from c.args.k c.args.book.now c.requires

pub numbers_at-requires-clause-low : goal.numbers_at-requires-clause-low
numbers_at-requires-clause-low c = let l = c.loop-j in entry_low c.args.w.now c.args.from c.args.k c.args.book.now c.requires l.book l.j l.invariant c.loop-j-test.true

pub numbers_at-requires-clause-gain : goal.numbers_at-requires-clause-gain
numbers_at-requires-clause-gain c = let l = c.loop-j in entry_gain c.args.w.now c.args.from c.args.k c.args.book.now c.requires l.book l.j l.invariant c.loop-j-test.true

pub loop-j-preserved : goal.loop-j-preserved
loop-j-preserved c =
    let l = c.loop-j in
    enter_turn c.args.w.now c.args.from c.args.k c.args.book.now c.requires l.book l.j l.invariant c.loop-j-test.true _ _ (c.copy_from_slice.ensures.after ∙ c.numbers_at.ensures) (omega arith)

pub returns : goal.returns
returns c = let l = c.loop-j in enter_end c.args.w.now c.args.from c.args.k c.args.book.now c.requires l.book l.j l.invariant (omega arith)
