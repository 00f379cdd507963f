-- `sweep::questions::missed_after_lengths` meets its contract. Assumes nothing.
use Rattle.std.proofs.Common.{◌≡◌, ℕ, drop, sym, ◌∙◌}
use Rattle.sweep.proofs.VelocityLaws.{gates_are}
use Rattle.sweep.proofs.PassedLaws.{answer_no, answer_yes}
use Rattle.sweep.proofs.QuestionLaws.{on, no}
use Rattle.sweep.specs.Velocity.{Counted, counted, counted_in, after_lengths}
use Rattle.sweep.specs.Questions.{first_no}
use Rattle.sweep.proofs.questions.missed_after_lengths.Goals.{Else-not-mask_is_bits, Else-not-nyquist_in_range}
use Rattle.sweep.proofs.questions.missed_after_lengths.Goals as goal

-- the sweep of any rays and gates
abbrev of_size : Counted → ℕ → ℕ → Counted
of_size u rays gates = counted rays gates u.nyquist u.vel u.mask u.counts u.labels

-- the questions that are left after each yes
left_3 : (c : Else-not-mask_is_bits) (rays gates : ℕ) → let u = of_size (counted_in c.args.u) rays gates in first_no (after_lengths u) ≡ first_no (drop 1 (after_lengths u))
left_3 c rays gates = on _ _ (answer_yes c.mask_is_bits.ensures c.if-not-mask_is_bits.false)

left_5 : (c : Else-not-nyquist_in_range) (rays gates : ℕ) → let u = of_size (counted_in c.args.u) rays gates in first_no (after_lengths u) ≡ first_no (drop 2 (after_lengths u))
left_5 c rays gates = (on _ _ (answer_yes c.mask_is_bits.ensures c.if-not-mask_is_bits.false)) ∙ on _ _ (answer_yes c.nyquist_in_range.ensures c.if-not-nyquist_in_range.false)

pub returns-then-not-mask_is_bits : goal.returns-then-not-mask_is_bits
returns-then-not-mask_is_bits c = λ rays gates e. sym (no _ _ (answer_no c.mask_is_bits.ensures c.if-not-mask_is_bits.true))

pub returns-then-not-nyquist_in_range : goal.returns-then-not-nyquist_in_range
returns-then-not-nyquist_in_range c = λ rays gates e. sym (left_3 (goal.at.returns-then-not-nyquist_in_range c).Else-not-mask_is_bits rays gates ∙ no _ _ (answer_no c.nyquist_in_range.ensures c.if-not-nyquist_in_range.true))

pub gates_missed-requires : goal.gates_missed-requires
gates_missed-requires c = c.requires

pub returns : goal.returns
returns c =
    λ rays gates e. c.gates_missed.ensures
    ∙ gates_are (of_size (counted_in c.args.u) rays gates) e ∙ sym (left_5 (goal.at.returns c).Else-not-nyquist_in_range rays gates)
