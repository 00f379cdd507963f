-- `arithmetic::intervals::least_and_greatest` meets its contract. Assumes nothing.
use Rattle.std.proofs.Common.{◌≡◌, length, min, sym, ap, ◌∙◌, arith, length-append, rules}
use Rattle.std.proofs.lemmas.Slice.Zip.{zip_turn, zip_end}
use lib.Ieee.{nan}
use Rattle.arithmetic.proofs.IntervalLaws.{up_to, up_none, up_all, turn_yes, turn_no}
use Rattle.arithmetic.proofs.intervals.least_and_greatest.Goals as goal

pub loop-v-init : goal.loop-v-init
loop-v-init c = sym (up_none c.args.velocity.now c.args.valid.now)

pub loop-v-preserved-then-m-eq1 : goal.loop-v-preserved-then-m-eq1
loop-v-preserved-then-m-eq1 c =
    let vs = c.args.velocity.now in
    let ms = c.args.valid.now in
    let xs = c.loop-v.yielded in
    let t = zip_turn vs ms xs c.into_iter-v-iterator.result c.loop-v.v-iterator c.next.new.self _ (search rules) (search rules) c.loop-v.yielded_by _ c.in-Some.is c.next.ensures.steps in
    turn_yes vs ms (length xs) c.loop-v.e _ c.f32_to_f64_with_nan-v.result t.0 c.requires (sym (t.3 0) ∙ c.if-m-eq1.true) c.loop-v.invariant (c.f32_to_f64_with_nan-v.ensures ∙ t.2 nan) c.widen.ensures
    ∙ ap (up_to vs ms) (sym (length-append xs _))

pub loop-v-preserved : goal.loop-v-preserved
loop-v-preserved c =
    let vs = c.args.velocity.now in
    let ms = c.args.valid.now in
    let xs = c.loop-v.yielded in
    let t = zip_turn vs ms xs c.into_iter-v-iterator.result c.loop-v.v-iterator c.next.new.self _ (search rules) (search rules) c.loop-v.yielded_by _ c.in-Some.is c.next.ensures.steps in
    turn_no vs ms (length xs) c.loop-v.e t.0 c.requires (λ e. c.if-m-eq1.false (t.3 0 ∙ e)) c.loop-v.invariant
    ∙ ap (up_to vs ms) (sym (length-append xs _))

pub returns : goal.returns
returns c =
    let vs = c.args.velocity.now in
    let ms = c.args.valid.now in
    let xs = c.loop-v.yielded in
    let n : length xs ≡ min (length vs) (length ms) = zip_end vs ms xs c.into_iter-v-iterator.result c.loop-v.v-iterator c.next.new.self _ (search rules) (search rules) c.loop-v.yielded_by c.in-None.is c.next.ensures.steps in
    c.loop-v.invariant ∙ up_all vs ms (length xs) (omega arith) c.requires
