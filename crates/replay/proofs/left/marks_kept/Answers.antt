-- `replay::left::marks_kept` meets its contract. Assumes nothing.
use Rattle.std.proofs.Common.{eqb, length, get_or, rules}
use Rattle.replay.specs.Left.{marks_kept}
use Rattle.replay.proofs.LeftLaws.{all_by}
use Rattle.replay.proofs.left.marks_kept.Goals as goal

pub returns : goal.returns
unfolding marks_kept
returns c = let ds = c.args.doubtful.now in all_by (λ g. eqb (get_or ds g 0) 7) (length ds) c.all.result (search rules)
