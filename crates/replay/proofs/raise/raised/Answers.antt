-- `replay::raise::raised` meets its contract: the sum of two numbers that are not past 100,000 fits. Assumes nothing.
use Rattle.std.proofs.Common.{◌≡◌, true, ℤ, pos, negsuc, ◌+ℤ◌, ◌≤ℤ◌, w32, to_z, of_z, sym, ◌∙◌, arith}
use Rattle.std.proofs.lemmas.Bool.Decides.{nat_tests}
use Rattle.std.proofs.lemmas.Int.{ints, to_z-of_z}
use Rattle.network.specs.Network.{bounded}
use Rattle.replay.specs.Record.{is_near, raised_by}
use Rattle.replay.proofs.raise.raised.Goals.{then-more-gt100000-via-then-more-gt100000, then-more-gt100000-via-else-more-gt100000+then-not-is_near}
use Rattle.replay.proofs.raise.raised.Goals as goal

-- the bounds of such a count
near_bounds : (z : ℤ) → is_near z ≡ true → (negsuc 99999 ≤ℤ z) × (z ≤ℤ pos 100000)
unfolding is_near bounded
near_bounds (pos n) h = (grind (arith, nat_tests, ints), grind (arith, nat_tests, ints))
near_bounds (negsuc n) h = (grind (arith, nat_tests, ints), grind (arith, nat_tests, ints))

pub returns-then-more-gt100000 : goal.returns-then-more-gt100000
unfolding raised_by
returns-then-more-gt100000 c = elim c.then-more-gt100000.branch [ then-more-gt100000-via-then-more-gt100000 w ↦ grind (arith, nat_tests, ints) | then-more-gt100000-via-else-more-gt100000+then-not-is_near w ↦ grind (arith, nat_tests, to_z-of_z) ]

pub overflow_add-result : goal.overflow_add-result
overflow_add-result c = let h = near_bounds _ (sym c.is_near.ensures ∙ c.if-not-is_near.false) in omega (arith, ints)

pub returns : goal.returns
unfolding raised_by
returns c =
    let z = c.args.count in
    let near : is_near z ≡ true = grind (arith, to_z-of_z) in
    let bounds = near_bounds z near in
    let sum : to_z w32 (of_z w32 (to_z w32 (of_z w32 z) +ℤ to_z w32 c.args.more)) ≡ z +ℤ pos c.args.more = omega (arith, ints) in
    grind (arith, nat_tests)
