-- `replay::raise::is_near` meets its contract. Assumes nothing.
use Rattle.std.proofs.Common.{◌≡◌, ◌&&◌, ◌∙◌, ℤ, pos, negsuc, arith}
use Rattle.std.proofs.lemmas.Bool.Decides.{nat_tests}
use Rattle.std.proofs.lemmas.Int.{to_z-of_z}
use Rattle.std.specs.Int.{w32}
use Rattle.std.specs.Ordering.{int_cmp, as_partial_cmp, partial_le}
use Rattle.network.specs.Network.{bounded}
use Rattle.replay.specs.Record.{is_near}
use Rattle.replay.proofs.raise.is_near.Goals as goal

-- the range, from both its ends
near_range : (z : ℤ) → (partial_le (as_partial_cmp int_cmp) (negsuc 99999) z && partial_le (as_partial_cmp int_cmp) z (pos 100000)) ≡ is_near z
unfolding is_near bounded
near_range (pos n) = grind (arith, nat_tests)
near_range (negsuc n) = grind (arith, nat_tests)

pub returns : goal.returns
returns c = c.contains.ensures.value ∙ rw (to_z-of_z w32 c.args.count c.ranges.count, c.new.ensures.start, c.new.ensures.end, c.new.ensures.exhausted) (near_range c.args.count)
