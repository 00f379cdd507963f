-- A mark that opens the definitions of this crate and of those below: `unfolding evaluating` under a signature lets antt compute them.
use Rattle.network.specs.Network
use Rattle.network.specs.Book
use Rattle.edges.specs.Evaluating as Below

unfoldable pub evaluating : Unit {0}
unfolding Below.evaluating Network.bounded Network.is_zero Network.size_of Network.gates_of Network.gather Network.members Network.raised Network.at Network.whole Network.quot
    Network.plan_for Network.plan Network.kill Network.shifted Network.adjust Network.turn_if Network.turn Network.find Network.absorb Network.absent Network.hand Network.combine
    Network.prepare Network.join_all Network.merge_edges Network.move Network.merge Network.step_to Network.step Network.better Network.choose Network.popped Network.follow Network.run
    Network.merges Network.replay Network.event_of Network.event Network.trace Network.count_of Network.has Network.marks Network.marked
    Network.mark_of Network.in_range Network.edge_of Network.numbered Network.alone Network.size_in
    Network.start Network.network_by Network.merges_in_range Book.entry_of Book.entry Book.book Book.numbers Book.enter Book.entered Book.replayed
evaluating = tt
