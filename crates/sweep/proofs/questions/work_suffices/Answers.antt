-- `sweep::questions::work_suffices` meets its contract. Assumes nothing.
use Rattle.sweep.specs.Questions.{words_for, floats_for}
use Rattle.std.proofs.Common.{refl, le-leb}
use borrow.Author.Tests.{lt-leb}
use Rattle.sweep.proofs.questions.work_suffices.Goals as goal

pub returns-then-n-words : goal.returns-then-n-words
unfolding words_for floats_for
returns-then-n-words c = rw (le-leb _ _ c.if-n-words.true) refl

pub returns-else-n-words : goal.returns-else-n-words
unfolding words_for floats_for
returns-else-n-words c = rw (lt-leb _ _ c.if-n-words.false) refl
