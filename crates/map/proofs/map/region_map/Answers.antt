-- `map::map::region_map` meets its contract. Assumes nothing.
use mathlib.Core.Option.{none}
use Rattle.std.proofs.Common.{rules, ◌≡◌, ℕ, length, sym, ap, ◌∙◌}
use Rattle.std.specs.Prelude.{Err}
use Rattle.arithmetic.specs.declared.intervals.Plan.{Plan}
use Rattle.sweep.proofs.PassedLaws.{seven_of_eight}
use Rattle.sweep.proofs.RefusalLaws.{plan_of}
use Rattle.sweep.specs.Entry.{sweep_in}
use Rattle.sweep.specs.Inside.Planning.{own_plan, Fit}
use Rattle.sweep.specs.declared.questions.Room.{Room}
use Rattle.sweep.specs.Questions.{first_no, eight, gates_in}
use Rattle.sweep.specs.Refusal.{missed_by}
use Rattle.sweep.specs.Sweep.{regions_of}
use Rattle.map.specs.Map.{map_memory_of, map_room, map_lent, asked_map}
use Rattle.map.proofs.MapLaws.{map_missed, map_goes_on}
use Rattle.map.proofs.map.region_map.Goals.{After-plan_sweep, In_ok-p}
use Rattle.map.proofs.map.region_map.Goals as goal

-- the answer of questions 1 to 8
asked : (c : After-plan_sweep) →
    let a = c.args in
    missed_by c.plan_sweep.result ≡ asked_map (sweep_in a.s) (map_memory_of a.labels.now a.regions.now a.words.now a.floats.now)
unfolding asked_map map_lent gates_in
asked c =
    let a = c.args in
    c.plan_sweep.ensures.missed
    ∙ ap (λ (r : Room). first_no (eight (sweep_in a.s) r))
    (c.room_of-lent.ensures ∙ ap (λ (n : ℕ). map_room n (length a.labels.now) (length a.regions.now) (length a.words.now) (length a.floats.now)) c.gates_in-n.ensures)

-- none got a no
eight_yes : (c : In_ok-p) →
    let a = c.args in
    let m = map_memory_of a.labels.now a.regions.now a.words.now a.floats.now in
    missed_by c.plan_sweep.result ≡ asked_map (sweep_in a.s) m → asked_map (sweep_in a.s) m ≡ none
eight_yes c e = sym e ∙ ap missed_by c.in_ok-p.was

pub draw-requires : goal.draw-requires
unfolding asked_map
draw-requires c =
    let g = goal.at.draw-requires c in
    let a = c.args in
    let s = sweep_in a.s in
    let m = map_memory_of a.labels.now a.regions.now a.words.now a.floats.now in
    record { seven_yes = seven_of_eight s (map_lent (gates_in s) m) (eight_yes g.In_ok-p (asked g.After-plan_sweep)); fit = plan_of (Fit a.s.options) _ _ c.plan_sweep.ensures.fit c.in_ok-p.was }

pub returns : goal.returns
unfolding regions_of
returns c =
    let g = goal.at.returns c in
    let a = c.args in
    let s = sweep_in a.s in
    let m = map_memory_of a.labels.now a.regions.now a.words.now a.floats.now in
    c.draw.ensures ∙ map_goes_on s m c.in_ok-p.p (plan_of (λ (p : Plan). p ≡ own_plan s) _ _ c.plan_sweep.ensures.plan c.in_ok-p.was) (eight_yes g.In_ok-p (asked g.After-plan_sweep))

pub returns-in_err-p : goal.returns-in_err-p
returns-in_err-p c =
    let a = c.args in
    let e : c.from_residual.result ≡ Err c.in_err-p.field-0.0 = search rules in
    rw e (map_missed (sweep_in a.s) (map_memory_of a.labels.now a.regions.now a.words.now a.floats.now) _ (sym (asked (goal.at.returns-in_err-p c).After-plan_sweep) ∙ ap missed_by c.in_err-p.was))
