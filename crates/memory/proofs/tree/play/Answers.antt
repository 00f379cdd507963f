-- `memory::tree::play` meets its contract. Assumes nothing.
use native.Mathlib.Omega.{arith}
use Rattle.memory.proofs.TreeLaws.{game_in, play_turn, play_end}
use Rattle.memory.proofs.tree.play.Goals as goal

pub game-requires : goal.game-requires
game-requires c =
    let l = c.loop-k in
    game_in c.args.m l.w 1 l.k l.k l.invariant.playing.played (omega arith) (omega arith) (omega arith)

pub loop-k-preserved : goal.loop-k-preserved
loop-k-preserved c =
    let l = c.loop-k in
    record { below = omega arith; playing = rw c.game.ensures (play_turn c.args.m c.args.w.now l.w l.k l.invariant.playing (omega arith) l.invariant.below) }

pub returns : goal.returns
returns c = play_end c.args.m c.args.w.now c.loop-k.w c.loop-k.k c.loop-k.invariant.playing (omega arith)
