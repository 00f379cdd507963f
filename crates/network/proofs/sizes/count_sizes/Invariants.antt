-- `network::sizes::count_sizes` meets its contract. Assumes nothing.
use Rattle.lists.specs.Inside.Seg.{seg, put}
use Rattle.lists.specs.Seq.{tabulate}
use Rattle.network.specs.Network.{size_in}
use Rattle.network.specs.Inside.Sizes.{Sizes}
use mathlib.Core.Path.{◌≡◌}
use lib.ListN.{take}
use Rattle.network.proofs.sizes.count_sizes.Given as goal

abbrev pub invariant-loop-g : goal.invariant-loop-g
invariant-loop-g l = Sizes l.initial.w l.n l.at l.k × (l.w ≡ put l.initial.w l.at (tabulate l.k (size_in (take l.g (seg l.initial.w 0 l.n)))))
