-- `network::find::find` meets its contract. Assumes nothing.
use Rattle.network.proofs.FindLaws.{merges_ask}
use Rattle.network.proofs.find.find.Goals as goal

pub merge_regions-requires : goal.merge_regions-requires
merge_regions-requires c = let a = c.args in let l = c.label-k in merges_ask a.s.options a.p a.s.velocity.now a.s.valid.now a.words.now a.floats.now c.requires l.result l.new.work l.auto.work l.ensures.labelled
