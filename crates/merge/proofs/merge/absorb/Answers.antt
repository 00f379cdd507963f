-- `merge::merge::absorb` meets its contract. Assumes nothing.
use lib.Ieee.{binary32, nan, Float, add}
use Rattle.memory.specs.Inside.Layout.{table_words}
use Rattle.merge.specs.Inside.Tables.{view}
use Rattle.merge.specs.Inside.Table.{weight}
use Rattle.merge.proofs.View.{weight_at_lem}
use Rattle.merge.proofs.Leaf.{absorb_does, sum_two}
use Rattle.merge.proofs.JoinDoes.{ready_sound, handed_sound}
use Rattle.std.proofs.Common.{◌≡◌, ◌≤◌, length, get_or, set, ap, ◌∙◌, arith}
use Rattle.merge.proofs.merge.absorb.Goals.{After-f32_to_f64_with_nan}
use Rattle.merge.proofs.merge.absorb.Goals as goal

pub single-requires : goal.single-requires
unfolding view
single-requires c = c.requires.sound.single c.args.q c.requires.other_edge.q_in

-- the sum that edge q gets
sum_is : (c : After-f32_to_f64_with_nan) → c.f32_to_f64_with_nan.result ≡ add binary32 (get_or c.args.d.now c.args.q nan) c.args.x
unfolding add
sum_is c = c.f32_to_f64_with_nan.ensures ∙ ap (λ (y : Float). add binary32 y c.args.x) c.single.ensures

pub hand_bridged-requires-clause-sound : goal.hand_bridged-requires-clause-sound
hand_bridged-requires-clause-sound c =
    let a = c.args in
    ready_sound a.at.edges a.at.nodes a.w.now a.d.now a.q a.x _ c.requires.sound (sum_is (goal.at.hand_bridged-requires-clause-sound c).After-f32_to_f64_with_nan)

pub overflow_add-t : goal.overflow_add-t
overflow_add-t c =
    let a = c.args in
    let o = c.requires.other_edge in
    let h = c.hand_bridged in
    let r = ready_sound a.at.edges a.at.nodes a.w.now a.d.now a.q a.x _ c.requires.sound (sum_is (goal.at.overflow_add-t c).After-f32_to_f64_with_nan) in
    let u = handed_sound a.at.edges a.at.nodes a.w.now (set a.d.now a.q c.f32_to_f64_with_nan.result) a.q a.f h.new.w h.new.d r o h.ensures in
    let b = sum_two ((view a.at.edges a.at.nodes h.new.w h.new.d).at weight) a.q a.f (omega (arith, u.lengths weight, o.q_in)) (omega (arith, u.lengths weight, o.f_in)) o.apart in
    omega (arith, b, weight_at_lem a.at.edges a.at.nodes h.new.w h.new.d a.q o.q_in, weight_at_lem a.at.edges a.at.nodes h.new.w h.new.d a.f o.f_in, u.light)

pub returns : goal.returns
returns c =
    let a = c.args in
    let o = c.requires.other_edge in
    let h = c.hand_bridged in
    let r : table_words a.at.edges a.at.nodes ≤ length h.new.w = omega (arith, c.requires.holds_tables.words, h.auto.w) in
    absorb_does a.at.edges a.at.nodes a.w.now h.new.w c.weigh.new.w c.weigh-2.new.w a.d.now h.new.d a.q a.f a.x _ r o.q_in o.f_in
    (sum_is (goal.at.returns c).After-f32_to_f64_with_nan) h.ensures c.weigh.ensures c.weigh-2.ensures
