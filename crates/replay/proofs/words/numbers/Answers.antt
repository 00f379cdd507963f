-- `replay::words::numbers` meets its contract. The invariant: each of the first i numbers is its word's. Assumes nothing.
use Rattle.std.proofs.Common.{◌≡◌, ◌*◌, false, None, is_ok, is_some, length, sym, ap, ◌∙◌, arith}
use Rattle.std.proofs.lemmas.Grind.{common_steps}
use Rattle.lists.proofs.AllLaws.{all_false}
use Rattle.replay.specs.Inside.Words.{word_at, all_words}
use Rattle.replay.proofs.LeftLaws.{all_from}
use Rattle.replay.proofs.words.numbers.Goals as goal

pub returns-in_err-n-clause-all : goal.returns-in_err-n-clause-all
unfolding all_words
returns-in_err-n-clause-all c =
    let l = c.loop-i in
    let s = c.args in
    let no : c.word_at.result ≡ None = grind arith in
    let e : is_ok c.from_residual.result ≡ false = grind (arith, common_steps) in
    e ∙ sym (all_false (λ i. is_some (word_at s.text.now (9 * i))) (length s.out.now) 0 l.i (omega arith) (omega arith) (ap is_some (sym c.word_at.ensures ∙ no)))

pub returns-clause-all : goal.returns-clause-all
unfolding all_words
returns-clause-all c =
    let l = c.loop-i in
    let s = c.args in
    sym (all_from (λ i. is_some (word_at s.text.now (9 * i))) (length s.out.now) 0 (λ i a b. ap is_some (l.invariant i (omega arith))))
