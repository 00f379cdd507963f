-- `sweep::velocity::unfold_velocity` meets its contract. Assumes nothing.
use mathlib.Core.Option.{none}
use Rattle.std.proofs.Common.{rules, ◌≡◌, length, sym, ap, ◌∙◌}
use Rattle.std.specs.Prelude.{Err}
use Rattle.sweep.proofs.VelocityLaws.{all_long, velocity_refused, unfolds}
use Rattle.sweep.specs.Velocity.{counted_in, asked_velocity}
use Rattle.sweep.specs.Refusal.{missed_by}
use Rattle.sweep.proofs.velocity.unfold_velocity.Goals.{In_ok-first_missed_velocity}
use Rattle.sweep.proofs.velocity.unfold_velocity.Goals as goal

-- every question got a yes
all_yes : (c : In_ok-first_missed_velocity) → asked_velocity (counted_in c.args.u) (length c.args.unfolded.now) ≡ none
all_yes c = sym c.first_missed_velocity.ensures ∙ ap missed_by c.in_ok-first_missed_velocity.was

pub returns-in_err-first_missed_velocity : goal.returns-in_err-first_missed_velocity
returns-in_err-first_missed_velocity c =
    let e : c.from_residual.result ≡ Err c.in_err-first_missed_velocity.field-0.0 = search rules in
    rw e (velocity_refused (counted_in c.args.u) c.args.unfolded.now _ (sym c.first_missed_velocity.ensures ∙ ap missed_by c.in_err-first_missed_velocity.was))

pub unfold_gates-requires : goal.unfold_gates-requires
unfold_gates-requires c =
    let l = all_long _ _ (all_yes (goal.at.unfold_gates-requires c).In_ok-first_missed_velocity) in
    (l.vel ∙ sym l.written, l.mask ∙ sym l.written, l.counts ∙ sym l.written, l.labels ∙ sym l.written)

pub returns : goal.returns
returns c = unfolds (counted_in c.args.u) c.args.unfolded.now _ (all_yes (goal.at.returns c).In_ok-first_missed_velocity) c.unfold_gates.ensures
