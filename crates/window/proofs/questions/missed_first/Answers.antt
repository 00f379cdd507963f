-- `window::questions::missed_first` meets its contract. Assumes nothing.
use mathlib.Core.Bool.{true}
use mathlib.Core.Path.{◌≡◌}
use Rattle.sweep.specs.Questions.{size_in_range}
use Rattle.sweep.specs.Velocity.{counted_in}
use Rattle.sweep.proofs.PassedLaws.{answer_no, answer_yes, size_product}
use Rattle.window.specs.Window.{arrival_long}
use Rattle.window.proofs.AskLaws.{size_no, window_size_no, long_no, fits_no, both_yes, arrival_is, window_is}
use Rattle.window.proofs.questions.missed_first.Goals.{Else-not-lengths_fit, Else-not-size_in_range, Else-not-size_in_range-2}
use Rattle.window.proofs.questions.missed_first.Goals as goal

-- what each yes says
size_yes : (c : Else-not-size_in_range) → size_in_range c.args.u.rays c.args.u.gates ≡ true
size_yes c = answer_yes c.size_in_range.ensures c.if-not-size_in_range.false

window_size_yes : (c : Else-not-size_in_range-2) → size_in_range c.args.w.rays c.args.w.gates ≡ true
window_size_yes c = answer_yes c.size_in_range-2.ensures c.if-not-size_in_range-2.false

long_yes : (c : Else-not-lengths_fit) → arrival_long (counted_in c.args.u) ≡ true
long_yes c = answer_yes (arrival_is (counted_in c.args.u) c.args.w c.args.l _ _ _ c.lengths_fit.ensures c.two_long-own.ensures c.gates_in-n.ensures) c.if-not-lengths_fit.false

pub returns-then-not-size_in_range : goal.returns-then-not-size_in_range
returns-then-not-size_in_range c = size_no (counted_in c.args.u) c.args.w c.args.l (answer_no c.size_in_range.ensures c.if-not-size_in_range.true)

pub returns-then-not-size_in_range-2 : goal.returns-then-not-size_in_range-2
returns-then-not-size_in_range-2 c =
    let u = counted_in c.args.u in
    window_size_no u c.args.w c.args.l (size_yes (goal.at.returns-then-not-size_in_range-2 c).Else-not-size_in_range) (answer_no c.size_in_range-2.ensures c.if-not-size_in_range-2.true)

pub returns-then-not-lengths_fit : goal.returns-then-not-lengths_fit
returns-then-not-lengths_fit c =
    let u = counted_in c.args.u in
    long_no u c.args.w c.args.l (size_yes (goal.at.returns-then-not-lengths_fit c).Else-not-size_in_range) (window_size_yes (goal.at.returns-then-not-lengths_fit c).Else-not-size_in_range-2)
    (answer_no (arrival_is u c.args.w c.args.l _ _ _ c.lengths_fit.ensures c.two_long-own.ensures c.gates_in-n.ensures) c.if-not-lengths_fit.true)

pub window_fits-requires : goal.window_fits-requires
window_fits-requires c = size_product _ _ _ c.gates_in-m.ensures (window_size_yes (goal.at.window_fits-requires c).Else-not-size_in_range-2)

pub returns-then-not-window_fits : goal.returns-then-not-window_fits
returns-then-not-window_fits c =
    let u = counted_in c.args.u in
    fits_no u c.args.w c.args.l (size_yes (goal.at.returns-then-not-window_fits c).Else-not-size_in_range) (window_size_yes (goal.at.returns-then-not-window_fits c).Else-not-size_in_range-2) (long_yes (goal.at.returns-then-not-window_fits c).Else-not-lengths_fit)
    (answer_no (window_is u c.args.w c.args.l _ _ c.window_fits.ensures c.gates_in-m.ensures) c.if-not-window_fits.true)

pub returns : goal.returns
returns c =
    let u = counted_in c.args.u in
    both_yes u c.args.w c.args.l (size_yes (goal.at.returns c).Else-not-size_in_range) (window_size_yes (goal.at.returns c).Else-not-size_in_range-2) (long_yes (goal.at.returns c).Else-not-lengths_fit)
    (answer_yes (window_is u c.args.w c.args.l _ _ c.window_fits.ensures c.gates_in-m.ensures) c.if-not-window_fits.false)
