-- `channels::entry::dealias_two` meets its contract. Assumes nothing.
use mathlib.Core.Option.{none}
use Rattle.std.proofs.Common.{rules, ◌≡◌, refl, sym, ap, ◌∙◌}
use Rattle.std.specs.Prelude.{Err}
use Rattle.arithmetic.specs.declared.intervals.Plan.{Plan}
use Rattle.sweep.proofs.RefusalLaws.{plan_of}
use Rattle.sweep.specs.Call.{lengths}
use Rattle.sweep.specs.Inside.Planning.{Fit}
use Rattle.sweep.specs.Questions.{first_no, room, gates_in}
use Rattle.sweep.specs.Refusal.{missed_by}
use Rattle.channels.specs.Call.{TwoMemory, channel_of, two_memory_of, lent_to, eight_both, asked_two, horizontal_in, vertical_in}
use Rattle.channels.specs.Inside.Both.{shared_plan}
use Rattle.channels.proofs.CallLaws.{call_some, call_goes_on, horizontal_seven, vertical_seven}
use Rattle.channels.proofs.entry.dealias_two.Goals.{Start, After-plan_two, In_ok-p}
use Rattle.channels.proofs.entry.dealias_two.Goals as goal

abbrev lent : (c : Start) → TwoMemory
lent c = let a = c.args in two_memory_of (channel_of a.h_folds.now a.h_doubtful.now a.h_pair.now) (channel_of a.v_folds.now a.v_doubtful.now a.v_pair.now) a.words.now a.floats.now

-- the answer of questions 1 to 8
asked : (c : After-plan_two) →
    let a = c.args in
    missed_by c.plan_two.result
    ≡ asked_two (horizontal_in a.c) (vertical_in a.c) (two_memory_of (channel_of a.h_folds.now a.h_doubtful.now a.h_pair.now) (channel_of a.v_folds.now a.v_doubtful.now a.v_pair.now) a.words.now a.floats.now)
unfolding lengths gates_in asked_two
asked c =
    let a = c.args in
    let h = horizontal_in a.c in
    let v = vertical_in a.c in
    let m = two_memory_of (channel_of a.h_folds.now a.h_doubtful.now a.h_pair.now) (channel_of a.v_folds.now a.v_doubtful.now a.v_pair.now) a.words.now a.floats.now in
    let n = c.gates_in-n.ensures in
    let r = c.room_of-h_lent.ensures ∙ (λ i. room (n i) (lengths (lent_to m.horizontal m))) in
    let t = c.room_of-v_lent.ensures ∙ (λ i. room (n i) (lengths (lent_to m.vertical m))) in
    c.plan_two.ensures.missed ∙ (λ i. first_no (eight_both h (r i) v (t i)))

-- none got a no
eight_yes : (c : In_ok-p) →
    let a = c.args in
    let m = two_memory_of (channel_of a.h_folds.now a.h_doubtful.now a.h_pair.now) (channel_of a.v_folds.now a.v_doubtful.now a.v_pair.now) a.words.now a.floats.now in
    missed_by c.plan_two.result ≡ asked_two (horizontal_in a.c) (vertical_in a.c) m → asked_two (horizontal_in a.c) (vertical_in a.c) m ≡ none
eight_yes c e = sym e ∙ ap missed_by c.in_ok-p.was

pub unfold_two-requires : goal.unfold_two-requires
unfold_two-requires c =
    let g = goal.at.unfold_two-requires c in
    let h = horizontal_in c.args.c in
    let v = vertical_in c.args.c in
    let m = lent g.Start in
    let y = eight_yes g.In_ok-p (asked g.After-plan_two) in
    record { seven_yes = (horizontal_seven h v m y, vertical_seven h v m y); options = refl; fit = plan_of (Fit c.args.c.options) _ _ c.plan_two.ensures.fit c.in_ok-p.was }

pub returns : goal.returns
returns c =
    let g = goal.at.returns c in
    let h = horizontal_in c.args.c in
    let v = vertical_in c.args.c in
    c.unfold_two.ensures
    ∙ call_goes_on h v (lent g.Start) (eight_yes g.In_ok-p (asked g.After-plan_two)) c.in_ok-p.p (plan_of (λ (p : Plan). p ≡ shared_plan h v) _ _ c.plan_two.ensures.plan c.in_ok-p.was)

pub returns-in_err-p : goal.returns-in_err-p
returns-in_err-p c =
    let g = goal.at.returns-in_err-p c in
    let e : c.from_residual.result ≡ Err c.in_err-p.field-0.0 = search rules in
    rw e (sym (call_some (horizontal_in c.args.c) (vertical_in c.args.c) (lent g.Start) _ (sym (asked g.After-plan_two) ∙ ap missed_by c.in_err-p.was)))
