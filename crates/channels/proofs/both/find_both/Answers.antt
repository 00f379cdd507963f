-- `channels::both::find_both` meets its contract. Assumes nothing.
use Rattle.channels.proofs.LeavesLaws.{leaves_both}
use Rattle.channels.proofs.both.find_both.Goals as goal

pub returns : goal.returns
returns c =
    let a = c.args in
    let f = c.find-horizontal in
    let g = c.find-vertical in
    leaves_both a.h a.v a.p a.words.now f.new.words g.new.words a.floats.now c.requires f.result g.result f.auto.words g.auto.words f.ensures g.ensures
