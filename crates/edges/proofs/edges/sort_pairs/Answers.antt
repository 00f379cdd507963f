-- `edges::edges::sort_pairs` meets its contract. Assumes nothing.
use Rattle.edges.proofs.SortSteps.{reads, sort_lay, sort_done}
use Rattle.edges.proofs.edges.sort_pairs.Goals as goal

pub labels_of-requires : goal.labels_of-requires
labels_of-requires c = reads c.requires c.number.ensures

pub sort2-requires : goal.sort2-requires
sort2-requires c = sort_lay c.requires c.number.ensures c.labels_of.ensures

pub returns : goal.returns
returns c = sort_done c.requires c.number.ensures c.labels_of.ensures c.sort2.ensures.sorted c.sort2.ensures.elsewhere
