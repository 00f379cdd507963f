-- `sweep::questions::first_missed` meets its contract. Assumes nothing.
use Rattle.std.proofs.Common.{◌≡◌, true, [], drop, sym, ◌∙◌}
use Rattle.sweep.proofs.PassedLaws.{answer_no, answer_yes, size_product, long_are, length_is, room_is, options_are}
use Rattle.sweep.proofs.QuestionLaws.{on, no}
use Rattle.sweep.specs.Entry.{sweep_in}
use Rattle.sweep.specs.Questions.{first_no, seven, gates_in, size_in_range, lengths_fit}
use Rattle.sweep.proofs.questions.first_missed.Goals.{Else-not-lengths_fit, Else-not-mask_is_bits, Else-not-nyquist_in_range, Else-not-options_in_range, Else-not-size_in_range, Else-not-work_suffices}
use Rattle.sweep.proofs.questions.first_missed.Goals as goal

-- what each yes says, and the questions that are left after it
size_yes : (c : Else-not-size_in_range) → size_in_range c.args.s.options.rays c.args.s.options.gates ≡ true
size_yes c = answer_yes c.size_in_range.ensures c.if-not-size_in_range.false

long_yes : (c : Else-not-lengths_fit) → lengths_fit (gates_in (sweep_in c.args.s)) c.args.s.velocity.now c.args.s.valid.now c.args.lent.own ≡ true
long_yes c = answer_yes (length_is (sweep_in c.args.s) c.args.lent _ _ c.lengths_fit.ensures c.gates_in-n.ensures) c.if-not-lengths_fit.false

-- the questions that are left after each yes, from those that were left before it
left_1 : (c : Else-not-size_in_range) → let q = seven (sweep_in c.args.s) c.args.lent in first_no q ≡ first_no (drop 1 q)
unfolding seven
left_1 c = on _ _ (size_yes c)

left_2 : (c : Else-not-lengths_fit) → let q = seven (sweep_in c.args.s) c.args.lent in first_no q ≡ first_no (drop 1 q) → first_no q ≡ first_no (drop 2 q)
unfolding seven
left_2 c e = e ∙ on _ _ (long_yes c)

left_3 : (c : Else-not-mask_is_bits) → let q = seven (sweep_in c.args.s) c.args.lent in first_no q ≡ first_no (drop 2 q) → first_no q ≡ first_no (drop 3 q)
unfolding seven
left_3 c e = e ∙ on _ _ (answer_yes c.mask_is_bits.ensures c.if-not-mask_is_bits.false)

left_4 : (c : Else-not-work_suffices) → let q = seven (sweep_in c.args.s) c.args.lent in first_no q ≡ first_no (drop 3 q) → first_no q ≡ first_no (drop 4 q)
unfolding seven
left_4 c e = e ∙ on _ _ (answer_yes (room_is (sweep_in c.args.s) c.args.lent _ _ c.work_suffices.ensures c.gates_in-n.ensures) c.if-not-work_suffices.false)

left_5 : (c : Else-not-nyquist_in_range) → let q = seven (sweep_in c.args.s) c.args.lent in first_no q ≡ first_no (drop 4 q) → first_no q ≡ first_no (drop 5 q)
unfolding seven
left_5 c e = e ∙ on _ _ (answer_yes c.nyquist_in_range.ensures c.if-not-nyquist_in_range.false)

left_6 : (c : Else-not-options_in_range) → let q = seven (sweep_in c.args.s) c.args.lent in first_no q ≡ first_no (drop 5 q) → first_no q ≡ first_no (drop 6 q)
unfolding seven
left_6 c e = e ∙ on _ _ (answer_yes (options_are (sweep_in c.args.s) c.options_in_range.ensures) c.if-not-options_in_range.false)

pub returns-then-not-size_in_range : goal.returns-then-not-size_in_range
unfolding seven
returns-then-not-size_in_range c = sym (no _ _ (answer_no c.size_in_range.ensures c.if-not-size_in_range.true))

pub returns-then-not-lengths_fit : goal.returns-then-not-lengths_fit
unfolding seven
returns-then-not-lengths_fit c =
    let g = goal.at.returns-then-not-lengths_fit c in
    sym ((left_1 g.Else-not-size_in_range)
    ∙ no _ _ (answer_no (length_is (sweep_in c.args.s) c.args.lent _ _ c.lengths_fit.ensures c.gates_in-n.ensures) c.if-not-lengths_fit.true))

pub returns-then-not-mask_is_bits : goal.returns-then-not-mask_is_bits
unfolding seven
returns-then-not-mask_is_bits c =
    let g = goal.at.returns-then-not-mask_is_bits c in
    sym ((left_2 g.Else-not-lengths_fit (left_1 g.Else-not-size_in_range)
    ∙ no _ _ (answer_no c.mask_is_bits.ensures c.if-not-mask_is_bits.true)))

pub work_suffices-requires : goal.work_suffices-requires
work_suffices-requires c = size_product _ _ _ c.gates_in-n.ensures (size_yes (goal.at.work_suffices-requires c).Else-not-size_in_range)

pub returns-then-not-work_suffices : goal.returns-then-not-work_suffices
unfolding seven
returns-then-not-work_suffices c = let g = goal.at.returns-then-not-work_suffices c in
    let s = sweep_in c.args.s in
    sym ((left_3 g.Else-not-mask_is_bits (left_2 g.Else-not-lengths_fit (left_1 g.Else-not-size_in_range))) ∙ no _ _ (answer_no (room_is s c.args.lent _ _ c.work_suffices.ensures c.gates_in-n.ensures) c.if-not-work_suffices.true))

pub returns-then-not-nyquist_in_range : goal.returns-then-not-nyquist_in_range
unfolding seven
returns-then-not-nyquist_in_range c =
    let g = goal.at.returns-then-not-nyquist_in_range c in
    sym ((left_4 g.Else-not-work_suffices (left_3 g.Else-not-mask_is_bits (left_2 g.Else-not-lengths_fit (left_1 g.Else-not-size_in_range)))
    ∙ no _ _ (answer_no c.nyquist_in_range.ensures c.if-not-nyquist_in_range.true)))

pub returns-then-not-options_in_range : goal.returns-then-not-options_in_range
unfolding seven
returns-then-not-options_in_range c =
    let g = goal.at.returns-then-not-options_in_range c in
    sym ((left_5 g.Else-not-nyquist_in_range (left_4 g.Else-not-work_suffices (left_3 g.Else-not-mask_is_bits (left_2 g.Else-not-lengths_fit (left_1 g.Else-not-size_in_range))))
    ∙ no _ _ (answer_no (options_are (sweep_in c.args.s) c.options_in_range.ensures) c.if-not-options_in_range.true)))

pub velocities_in_range-requires : goal.velocities_in_range-requires
velocities_in_range-requires c = let q = long_are _ _ _ _ (long_yes (goal.at.velocities_in_range-requires c).Else-not-lengths_fit) in q.1 ∙ sym q.0

pub returns-then-not-velocities_in_range : goal.returns-then-not-velocities_in_range
unfolding seven
returns-then-not-velocities_in_range c =
    let g = goal.at.returns-then-not-velocities_in_range c in
    sym ((left_6 g.Else-not-options_in_range (left_5 g.Else-not-nyquist_in_range (left_4 g.Else-not-work_suffices (left_3 g.Else-not-mask_is_bits (left_2 g.Else-not-lengths_fit (left_1 g.Else-not-size_in_range)))))
    ∙ no _ _ (answer_no c.velocities_in_range.ensures c.if-not-velocities_in_range.true)))

pub returns : goal.returns
unfolding seven first_no
returns c =
    let g = goal.at.returns c in
    sym ((left_6 g.Else-not-options_in_range (left_5 g.Else-not-nyquist_in_range (left_4 g.Else-not-work_suffices (left_3 g.Else-not-mask_is_bits (left_2 g.Else-not-lengths_fit (left_1 g.Else-not-size_in_range)))))
    ∙ on _ [] (answer_yes c.velocities_in_range.ensures c.if-not-velocities_in_range.false)))
