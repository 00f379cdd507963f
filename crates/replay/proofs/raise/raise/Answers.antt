-- `replay::raise::raise` meets its contract. The invariant: the counts so far have the number added, and the others are as they were. Assumes nothing.
use Rattle.std.proofs.Common.{◌<◌, length, pos, w32, get_or, ap, ◌∙◌, arith, rules, FitsSigned}
use Rattle.std.proofs.lemmas.Int.{to_z-of_z}
use Rattle.std.proofs.lemmas.List.{get_or_default}
use Rattle.std.proofs.lemmas.List.Edits.{map_over_more}
use Rattle.replay.specs.Record.{raised_by}
use Rattle.replay.proofs.raise.raise.Goals as goal

pub loop-count-preserved : goal.loop-count-preserved
loop-count-preserved c =
    let l = c.loop-count in
    let old = get_or l.counts l.count-index (pos 0) in
    let new = c.raised.result in
    let within : l.count-index < length l.counts = omega arith in
    let old_fits : FitsSigned w32 old = search rules in
    let new_fits : FitsSigned w32 new = search rules in
    rw
    (to_z-of_z w32 new new_fits ∙ c.raised.ensures ∙ ap (raised_by c.args.more) (to_z-of_z w32 old old_fits))
    (map_over_more (raised_by c.args.more) c.args.counts.now l.counts l.count-index old c.loop-count-test.true l.invariant (get_or_default l.counts l.count-index (pos 0) old within))
