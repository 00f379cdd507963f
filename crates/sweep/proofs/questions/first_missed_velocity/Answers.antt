-- `sweep::questions::first_missed_velocity` meets its contract. Assumes nothing.
use Rattle.std.proofs.Common.{◌≡◌, ◌*◌, true, ◌∷◌, drop, sym, ◌∙◌}
use Rattle.sweep.proofs.VelocityLaws.{Long, length_is, lengths}
use Rattle.sweep.proofs.PassedLaws.{answer_no, answer_yes}
use Rattle.sweep.proofs.QuestionLaws.{on, no}
use Rattle.sweep.specs.Velocity.{counted_in, own_long, after_lengths, asked_velocity}
use Rattle.sweep.specs.Questions.{ask, size_in_range, first_no, lengths_fit}
use Rattle.sweep.proofs.questions.first_missed_velocity.Goals.{Else-not-lengths_fit, Else-not-size_in_range}
use Rattle.sweep.proofs.questions.first_missed_velocity.Goals as goal

-- what each yes says, and the questions that are left after it
long_yes : (c : Else-not-lengths_fit) → lengths_fit (c.args.u.rays * c.args.u.gates) c.args.u.velocity.now c.args.u.valid.now (own_long (counted_in c.args.u) c.args.unfolded) ≡ true
long_yes c = answer_yes (length_is (counted_in c.args.u) c.args.unfolded _ _ _ c.lengths_fit.ensures c.three_long-own.ensures c.gates_in-n.ensures) c.if-not-lengths_fit.false

left_1 : (c : Else-not-size_in_range) →
    let u = counted_in c.args.u in
    first_no (let u = u in ask 1 (size_in_range u.rays u.gates) ∷ ask 2 (lengths_fit (u.rays * u.gates) u.vel u.mask (own_long u c.args.unfolded)) ∷ after_lengths u) ≡ first_no (drop 1 (let u = u in ask 1 (size_in_range u.rays u.gates) ∷ ask 2 (lengths_fit (u.rays * u.gates) u.vel u.mask (own_long u c.args.unfolded)) ∷ after_lengths u))
left_1 c = on _ _ (answer_yes c.size_in_range.ensures c.if-not-size_in_range.false)

left_2 : (c : Else-not-lengths_fit) →
    let u = counted_in c.args.u in
    first_no (let u = u in ask 1 (size_in_range u.rays u.gates) ∷ ask 2 (lengths_fit (u.rays * u.gates) u.vel u.mask (own_long u c.args.unfolded)) ∷ after_lengths u) ≡ first_no (drop 2 (let u = u in ask 1 (size_in_range u.rays u.gates) ∷ ask 2 (lengths_fit (u.rays * u.gates) u.vel u.mask (own_long u c.args.unfolded)) ∷ after_lengths u))
left_2 c = (on _ _ (answer_yes c.size_in_range.ensures c.if-not-size_in_range.false)) ∙ on _ _ (long_yes c)

-- the lengths, where they got a yes
long_here : (c : Else-not-lengths_fit) → Long (counted_in c.args.u) c.args.unfolded
long_here c = lengths _ _ (long_yes c)

pub returns-then-not-size_in_range : goal.returns-then-not-size_in_range
unfolding asked_velocity
returns-then-not-size_in_range c = sym (no _ _ (answer_no c.size_in_range.ensures c.if-not-size_in_range.true))

pub returns-then-not-lengths_fit : goal.returns-then-not-lengths_fit
unfolding asked_velocity
returns-then-not-lengths_fit c =
    let u = counted_in c.args.u in
    sym (left_1 (goal.at.returns-then-not-lengths_fit c).Else-not-size_in_range ∙ no _ _ (answer_no (length_is u c.args.unfolded _ _ _ c.lengths_fit.ensures c.three_long-own.ensures c.gates_in-n.ensures) c.if-not-lengths_fit.true))

pub missed_after_lengths-requires : goal.missed_after_lengths-requires
missed_after_lengths-requires c = let l = long_here c in (l.mask ∙ sym l.vel, l.counts ∙ sym l.vel, l.labels ∙ sym l.vel)

pub returns : goal.returns
unfolding asked_velocity
returns c = c.missed_after_lengths.ensures _ _ (long_here (goal.at.returns c).Else-not-lengths_fit).vel ∙ sym (left_2 (goal.at.returns c).Else-not-lengths_fit)
