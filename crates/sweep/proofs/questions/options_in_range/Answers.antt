-- `sweep::questions::options_in_range` meets its contract. Assumes nothing.
use Rattle.std.proofs.Common.{refl, le-leb}
use borrow.Author.Tests.{lt-leb}
use Rattle.sweep.proofs.questions.options_in_range.Goals as goal

pub returns-then-centred-le1 : goal.returns-then-centred-le1
returns-then-centred-le1 c = rw (le-leb _ _ c.if-splits-ge1.true, le-leb _ 9999 c.if-splits-le-MOST_SPLITS.true, le-leb _ _ c.if-skip_rays-le-MOST_SKIP.true, le-leb _ _ c.if-skip_gates-le-MOST_SKIP.true, le-leb _ _ c.if-centred-le1.true) refl

pub returns-else-centred-le1 : goal.returns-else-centred-le1
returns-else-centred-le1 c = rw (le-leb _ _ c.if-splits-ge1.true, le-leb _ 9999 c.if-splits-le-MOST_SPLITS.true, le-leb _ _ c.if-skip_rays-le-MOST_SKIP.true, le-leb _ _ c.if-skip_gates-le-MOST_SKIP.true, lt-leb _ _ c.if-centred-le1.false) refl

pub returns-else-skip_gates-le-MOST_SKIP : goal.returns-else-skip_gates-le-MOST_SKIP
returns-else-skip_gates-le-MOST_SKIP c = rw (le-leb _ _ c.if-splits-ge1.true, le-leb _ 9999 c.if-splits-le-MOST_SPLITS.true, le-leb _ _ c.if-skip_rays-le-MOST_SKIP.true, lt-leb _ _ c.if-skip_gates-le-MOST_SKIP.false) refl

pub returns-else-skip_rays-le-MOST_SKIP : goal.returns-else-skip_rays-le-MOST_SKIP
returns-else-skip_rays-le-MOST_SKIP c = rw (le-leb _ _ c.if-splits-ge1.true, le-leb _ 9999 c.if-splits-le-MOST_SPLITS.true, lt-leb _ _ c.if-skip_rays-le-MOST_SKIP.false) refl

pub returns-else-splits-le-MOST_SPLITS : goal.returns-else-splits-le-MOST_SPLITS
returns-else-splits-le-MOST_SPLITS c = rw (le-leb _ _ c.if-splits-ge1.true, lt-leb _ 9999 c.if-splits-le-MOST_SPLITS.false) refl

pub returns-else-splits-ge1 : goal.returns-else-splits-ge1
returns-else-splits-ge1 c = rw (lt-leb _ _ c.if-splits-ge1.false) refl
