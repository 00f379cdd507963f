-- `sweep::velocity::unfolded_at` meets its contract. Assumes nothing.
use Rattle.sweep.specs.Velocity.{wind}
use Rattle.sweep.proofs.VelocityLaws.{shown_at, hidden_at}
use Rattle.arithmetic.specs.Rounding.{real}
use Rattle.arithmetic.specs.Intervals.{two_nyquist}
use lib.Ieee.{of_bits, of_int}
use mir.ValLaws.{to_z-of_z}
use Rattle.std.proofs.Common.{sym, refl, ◌∙◌, w32}
use Rattle.sweep.proofs.velocity.unfolded_at.Goals as goal

pub returns-then-shows_wind : goal.returns-then-shows_wind
unfolding wind two_nyquist real of_bits of_int
returns-then-shows_wind c =
    let shown = sym c.shows_wind.ensures ∙ c.if-shows_wind.true in
    rw (shown_at c.args.nyquist c.args.v c.args.valid c.args.count c.args.label shown, c.f32_to_f64_with_nan-fold.ensures, c.f32_to_f64_with_nan.ensures, to_z-of_z w32 c.args.count c.ranges.count) refl

pub returns : goal.returns
unfolding real of_bits of_int
returns c =
    let s = c.args in
    rw (hidden_at s.nyquist s.v s.valid s.count s.label (sym c.shows_wind.ensures ∙ c.if-shows_wind.false)) refl
