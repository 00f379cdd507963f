-- `merge::merge::hand` meets its contract. Assumes nothing.
use Rattle.merge.proofs.MergeDoes.{hand_walk, hand_grow, hand_does}
use Rattle.merge.proofs.merge.hand.Goals as goal

pub walk_moved-requires-clause-sound : goal.walk_moved-requires-clause-sound
walk_moved-requires-clause-sound c =
    let a = c.args in let u = a.step in
    let p = c.requires in let j = c.prune in
    hand_walk a.at.edges a.at.nodes u.base u.moved u.gain a.w.now a.d.now p.gains j.new.w j.new.d j.ensures p.sound

pub grow-requires-clause-fit : goal.grow-requires-clause-fit
grow-requires-clause-fit c =
    let a = c.args in let u = a.step in
    let p = c.requires in let j = c.prune in let k = c.walk_moved in let z = c.splice in
    hand_grow a.at.edges a.at.nodes u.base u.moved u.gain a.w.now a.d.now p.gains j.new.w j.new.d j.ensures k.new.w k.new.d k.ensures z.new.w z.new.d z.ensures p.fit

pub returns : goal.returns
returns c =
    let a = c.args in let u = a.step in
    let j = c.prune in let k = c.walk_moved in let z = c.splice in
    hand_does a.at.edges a.at.nodes u.base u.moved u.gain a.w.now a.d.now c.requires.gains j.new.w j.new.d j.ensures k.new.w k.new.d k.ensures z.new.w z.new.d z.ensures _ _ c.grow.ensures
