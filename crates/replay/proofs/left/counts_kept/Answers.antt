-- `replay::left::counts_kept` meets its contract. Assumes nothing.
use Rattle.std.proofs.Common.{length, get_or, pos, rules}
use Rattle.replay.specs.Left.{is_pattern, counts_kept}
use Rattle.replay.proofs.LeftLaws.{all_by}
use Rattle.replay.proofs.left.counts_kept.Goals as goal

pub returns : goal.returns
unfolding counts_kept is_pattern
returns c = let cs = c.args.counts.now in all_by (λ g. is_pattern (get_or cs g (pos 0))) (length cs) c.all.result (search rules)
