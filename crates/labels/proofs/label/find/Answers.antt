-- `labels::label::find` meets its contract. The invariant: p is the word of gate x, and gate x is of the area of the gate asked for. Assumes nothing.
use Rattle.std.proofs.Common.{◌≡◌, suc, ◌+◌, ◌-◌, ◌^◌, ◌<◌, length, get_or, refl, arith, length-set}
use Rattle.labels.proofs.ForestLaws.{Turn, turn, gate_in, in_length, next, found}
use Rattle.labels.specs.Locals.{NoArray}
use Rattle.labels.proofs.label.find.Code.Mir.{function}
use Rattle.labels.proofs.label.find.Goals.{At-loop-p, Start}
use Rattle.labels.proofs.label.find.Goals as goal

no_array : NoArray function
no_array = refl

at : (c : At-loop-p) → Turn c.requires.some.inside c.loop-p.w c.requires.some.rs c.loop-p.x c.loop-p.p (get_or c.loop-p.w (c.loop-p.p - 1) 0)
at c =
    let s = c.requires.some in
    let t = c.loop-p.invariant.1 s.inside s.rs s.forest in
    turn s.inside c.loop-p.w s.rs c.loop-p.x c.loop-p.p t.forest t.in_x c.loop-p.invariant.0

tight : (c : At-loop-p) → length c.loop-p.w + 1 < 2 ^ 32
tight c =
    let s = c.requires.some in
    omega (arith, s.small, s.forest.long, (c.loop-p.invariant.1 s.inside s.rs s.forest).forest.long)

start_in : (c : Start) → c.args.start < length c.args.w.now
start_in c =
    let s = c.requires.some in
    omega (arith, s.forest.long, in_length s.inside c.args.start (gate_in s.inside c.args.w.now s.rs s.forest c.args.start c.requires.gate))

pub loop-p-init : goal.loop-p-init
loop-p-init c = (refl, λ inside rs F. record { forest = F; in_x = gate_in inside c.args.w.now rs F c.args.start c.requires.gate; same = refl })

pub overflow_add-x : goal.overflow_add-x
overflow_add-x c = omega (arith, at c, tight c)

pub overflow_sub-q : goal.overflow_sub-q
overflow_sub-q c = omega (arith, at (goal.at.overflow_sub-q c).At-loop-p)

pub bounds-w-p : goal.bounds-w-p
bounds-w-p c = (at (goal.at.bounds-w-p c).At-loop-p).p_in

pub bounds-w-x-in-loop-p : goal.bounds-w-x-in-loop-p
bounds-w-x-in-loop-p c = (at (goal.at.bounds-w-x-in-loop-p c).At-loop-p).x_in

pub overflow_sub-x : goal.overflow_sub-x
overflow_sub-x c = (at (goal.at.overflow_sub-x c).At-loop-p).q_some

pub bounds-w-x-in-loop-p-2 : goal.bounds-w-x-in-loop-p-2
bounds-w-x-in-loop-p-2 c = simp length-set (omega (arith, at (goal.at.bounds-w-x-in-loop-p-2 c).At-loop-p))

pub loop-p-smaller : goal.loop-p-smaller
loop-p-smaller c = omega (arith, at (goal.at.loop-p-smaller c).At-loop-p, c.loop-p-test.true)

pub loop-p-preserved : goal.loop-p-preserved
loop-p-preserved c =
    let l = c.loop-p in
    (refl, λ inside rs F. next inside l.w rs c.args.start l.x l.p (l.invariant.1 inside rs F) l.invariant.0)

pub returns : goal.returns
returns c inside rs F =
    let l = c.loop-p in
    let e : get_or l.w l.x 0 ≡ suc l.x = omega arith in
    found inside l.w rs c.args.start l.x (l.invariant.1 inside rs F) e
