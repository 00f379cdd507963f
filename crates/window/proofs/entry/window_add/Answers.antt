-- `window::entry::window_add` meets its contract. Assumes nothing.
use mathlib.Core.Option.{none}
use Rattle.std.proofs.Common.{rules, ◌≡◌, ap}
use Rattle.std.specs.Prelude.{Err}
use Rattle.sweep.specs.Velocity.{counted_in}
use Rattle.sweep.specs.Refusal.{missed_by}
use Rattle.window.specs.Window.{window_of, asked_window}
use Rattle.window.proofs.CallLaws.{call_missed, call_asked, call_taken}
use Rattle.window.proofs.entry.window_add.Goals.{In_ok-first_missed}
use Rattle.window.proofs.entry.window_add.Goals as goal

-- every question got a yes
all_yes : (c : In_ok-first_missed) → asked_window (counted_in c.args.u) (window_of c.args.window.now c.args.winds.now c.args.shown.now c.args.picture.now c.args.marks.now) ≡ none
all_yes c =
    let w = window_of c.args.window.now c.args.winds.now c.args.shown.now c.args.picture.now c.args.marks.now in
    call_asked (counted_in c.args.u) w _ _ c.words_in.ensures c.first_missed.ensures (ap missed_by c.in_ok-first_missed.was)

pub returns-in_err-first_missed : goal.returns-in_err-first_missed
returns-in_err-first_missed c =
    let w = window_of c.args.window.now c.args.winds.now c.args.shown.now c.args.picture.now c.args.marks.now in
    let e : c.from_residual.result ≡ Err c.in_err-first_missed.field-0.0 = search rules in
    rw e (call_missed (counted_in c.args.u) w _ _ c.words_in.ensures c.first_missed.ensures _ (ap missed_by c.in_err-first_missed.was))

pub take_in-requires : goal.take_in-requires
take_in-requires c = all_yes (goal.at.take_in-requires c).In_ok-first_missed

pub returns : goal.returns
returns c =
    let w = window_of c.args.window.now c.args.winds.now c.args.shown.now c.args.picture.now c.args.marks.now in
    call_taken (counted_in c.args.u) w _ (all_yes (goal.at.returns c).In_ok-first_missed) c.take_in.ensures
