-- `memory::tree::build` meets its contract. Assumes nothing.
use native.Mathlib.Omega.{arith}
use Rattle.memory.proofs.TreeLaws.{game_in, leaves_are, build_start, build_turn, build_all}
use Rattle.memory.proofs.tree.build.Goals as goal

pub loop-k-init : goal.loop-k-init
loop-k-init c = build_start c.args.m c.args.w.now c.number.new.w (leaves_are _ _ _ c.requires.0 c.number.ensures)

pub game-requires : goal.game-requires
game-requires c =
    let l = c.loop-k in
    game_in c.args.m l.w l.k 0 _ l.invariant.played (omega arith) (omega arith) (omega arith)

pub loop-k-preserved : goal.loop-k-preserved
loop-k-preserved c =
    let l = c.loop-k in
    rw c.game.ensures (build_turn c.args.m c.number.new.w l.w l.k l.invariant (omega arith) (omega arith))

pub returns : goal.returns
returns c = build_all c.args.m c.args.w.now c.number.new.w c.loop-k.w c.loop-k.k (leaves_are _ _ _ c.requires.0 c.number.ensures) c.loop-k.invariant (omega arith)
