-- `sweep::questions::size_in_range` meets its contract. Assumes nothing.
use Rattle.sweep.specs.Questions.{size_in_range}
use Rattle.std.proofs.Common.{refl, le-leb}
use borrow.Author.Tests.{lt-leb}
use Rattle.sweep.proofs.questions.size_in_range.Goals as goal

pub returns-then-rays-le-MOST_RAYS : goal.returns-then-rays-le-MOST_RAYS
unfolding size_in_range
returns-then-rays-le-MOST_RAYS c = rw (le-leb _ _ c.if-rays-le-MOST_RAYS.true) refl

pub returns-else-rays-le-MOST_RAYS : goal.returns-else-rays-le-MOST_RAYS
unfolding size_in_range
returns-else-rays-le-MOST_RAYS c = rw (lt-leb _ _ c.if-rays-le-MOST_RAYS.false) refl
