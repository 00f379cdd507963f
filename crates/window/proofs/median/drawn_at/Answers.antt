-- `window::median::drawn_at` meets its contract. The invariant: the values so far are in their places, and those of the places left follow. Assumes nothing.
use Rattle.std.proofs.Common.{◌≡◌, ◌+◌, ◌-◌, arith}
use Rattle.std.proofs.lemmas.Bool.Decides.{nat_tests}
use Rattle.window.proofs.MedianLaws.{turn, sofar_end, winds_none}
use Rattle.window.proofs.RingNumbers.{after_below}
use Rattle.window.proofs.median.drawn_at.Goals as goal

pub loop-preserved : goal.loop-preserved
loop-preserved c =
    let l = c.loop in
    let s = c.args in
    let less : s.held - (l.counter + 1) ≡ s.held - l.counter - 1 = omega arith in (
      omega (arith, c.after-p.ensures, after_below l.p l.invariant.0),
      rw less (turn s.winds.now s.shown.now s.n s.g l.s l.k l.p (s.held - l.counter) _ l.invariant.1 (omega (arith, c.loop-test.true)) c.greater.result c.floor_of.result c.with_value-s.result c.from-k.result c.after-p.result
          c.floor_of.ensures c.greater.ensures c.with_value-s.ensures (grind (arith, nat_tests)) c.after-p.ensures),
    )

pub returns : goal.returns
returns c = sofar_end _ _ _ _ _ _ c.loop.invariant.1 (winds_none _ _ _ _ _ _ (omega (arith, c.loop-test.false))) c.middle.ensures
