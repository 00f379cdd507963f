-- `replay::left::words_left` meets its contract. Assumes nothing.
use Rattle.std.proofs.Common.{eqb}
use Rattle.replay.specs.Left.{due_word, words_left}
use Rattle.replay.proofs.LeftLaws.{due_by}
use Rattle.replay.proofs.left.words_left.Goals as goal

pub returns : goal.returns
unfolding words_left due_word
returns c = due_by eqb c.args.words.now 7 0 (due_word c.args.k) c.holds_due.result c.holds_due.ensures
