-- `window::entry::take_in` meets its contract. Assumes nothing.
use Rattle.sweep.specs.Velocity.{counted_in}
use Rattle.window.specs.Window.{window_of}
use Rattle.window.proofs.RingNumbers.{after_below, more_few}
use Rattle.window.proofs.TakeLaws.{Ready, ready, held_now, taken_in}
use native.Mathlib.Omega.{arith}
use mathlib.Core.Path.{sym, ◌∙◌}
use lib.ListN.{length-set}
use Rattle.window.proofs.entry.take_in.Goals.{Start}
use Rattle.window.proofs.entry.take_in.Goals as goal

-- what the questions gave
at : (c : Start) → Ready (counted_in c.args.u) (window_of c.args.window.now c.args.winds.now c.args.shown.now c.args.picture.now c.args.marks.now)
at c = ready (counted_in c.args.u) (window_of c.args.window.now c.args.winds.now c.args.shown.now c.args.picture.now c.args.marks.now) c.requires

pub bounds-window-3 : goal.bounds-window-3
bounds-window-3 c = omega (arith, (at (goal.at.bounds-window-3 c).Start).words)

pub bounds-window-2 : goal.bounds-window-2
bounds-window-2 c = omega (arith, (at (goal.at.bounds-window-2 c).Start).words)

pub more-held-requires : goal.more-held-requires
more-held-requires c = (at (goal.at.more-held-requires c).Start).held

pub after-next-requires : goal.after-next-requires
after-next-requires c = (at (goal.at.after-next-requires c).Start).next

pub oldest-first-requires : goal.oldest-first-requires
oldest-first-requires c = (omega (arith, c.after-next.ensures, after_below _ (at (goal.at.oldest-first-requires c).Start).next), omega (arith, c.more-held.ensures, more_few _ (at (goal.at.oldest-first-requires c).Start).held))

pub overflow_mul-base : goal.overflow_mul-base
overflow_mul-base c = record { fits = omega (arith, (at (goal.at.overflow_mul-base c).Start).room, (at (goal.at.overflow_mul-base c).Start).small) }

pub write_winds-requires : goal.write_winds-requires
write_winds-requires c = ((at (goal.at.write_winds-requires c).Start).mask, (at (goal.at.write_winds-requires c).Start).counts, (at (goal.at.write_winds-requires c).Start).labels, omega (arith, (at (goal.at.write_winds-requires c).Start).room, (at (goal.at.write_winds-requires c).Start).winds))

pub write_shown-requires : goal.write_shown-requires
write_shown-requires c = ((at (goal.at.write_shown-requires c).Start).labels ∙ sym (at (goal.at.write_shown-requires c).Start).mask, omega (arith, (at (goal.at.write_shown-requires c).Start).room, (at (goal.at.write_shown-requires c).Start).shown, (at (goal.at.write_shown-requires c).Start).mask))

pub draw-requires : goal.draw-requires
draw-requires c =
    let w = window_of c.args.window.now c.args.winds.now c.args.shown.now c.args.picture.now c.args.marks.now in
    let u = counted_in c.args.u in
    (held_now u w c.requires _ _ _ _ _ c.more-held.ensures c.after-next.ensures c.oldest-first.ensures c.write_winds.ensures c.write_shown.ensures, (at (goal.at.draw-requires c).Start).picture, (at (goal.at.draw-requires c).Start).marks)

pub overflow_cast-window-2 : goal.overflow_cast-window-2
overflow_cast-window-2 c = record { fits = omega (arith, c.more-held.ensures, more_few _ (at (goal.at.overflow_cast-window-2 c).Start).held) }

pub bounds-window-2-2 : goal.bounds-window-2-2
bounds-window-2-2 c = omega (arith, (at (goal.at.bounds-window-2-2 c).Start).words)

pub overflow_cast-window-3 : goal.overflow_cast-window-3
overflow_cast-window-3 c = record { fits = omega (arith, c.after-next.ensures, after_below _ (at (goal.at.overflow_cast-window-3 c).Start).next) }

pub bounds-window-3-2 : goal.bounds-window-3-2
bounds-window-3-2 c = omega (arith, (at (goal.at.bounds-window-3-2 c).Start).words, length-set c.args.window.now 2 c.more-held.result)

pub returns : goal.returns
returns c =
    let w = window_of c.args.window.now c.args.winds.now c.args.shown.now c.args.picture.now c.args.marks.now in
    let u = counted_in c.args.u in
    taken_in u w c.requires _ _ _ _ _ c.more-held.ensures c.after-next.ensures c.oldest-first.ensures c.write_winds.ensures c.write_shown.ensures _ _ c.draw.ensures.0 c.draw.ensures.1
