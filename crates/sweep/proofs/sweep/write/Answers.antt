-- `sweep::sweep::write` meets its contract. Assumes nothing.
use Rattle.std.proofs.Common.{rules, ◌≡◌, sym, ap, ◌∙◌}
use Rattle.std.specs.Prelude.{Err}
use Rattle.network.specs.Inside.Find.{Finding}
use Rattle.sweep.specs.Inside.Finish.{lent, outcome_by}
use Rattle.sweep.specs.Call.{ending}
use Rattle.sweep.specs.declared.refusal.Refusal.TheVariants.{Merges}
use Rattle.sweep.proofs.sweep.write.Goals as goal

pub settle-requires : goal.settle-requires
settle-requires c = c.requires.tables c.in_ok-found.found c.in_ok-found.was

pub write_marks-requires : goal.write_marks-requires
write_marks-requires c = c.requires.marks c.in_ok-found.found c.in_ok-found.was

pub write_pair-requires : goal.write_pair-requires
write_pair-requires c = let p = c.requires in (p.pair, p.few c.in_ok-found.found c.in_ok-found.was)

pub returns : goal.returns
unfolding ending
returns c =
    let a = c.args in
    (λ i. record { number = 0; memory = lent (c.settle.ensures i) (c.write_marks.ensures i) (c.write_pair.ensures i) })
    ∙ ap (λ (y : Finding). ending (outcome_by y a.w.now a.valid.now a.centred) (lent a.folds.now a.doubtful.now a.pair.now)) (sym c.in_ok-found.was)

pub returns-in_err-found : goal.returns-in_err-found
unfolding ending
returns-in_err-found c =
    let a = c.args in
    let e : c.from_residual.result ≡ Err Merges = search rules in
    rw e (ap (λ (y : Finding). ending (outcome_by y a.w.now a.valid.now a.centred) (lent a.folds.now a.doubtful.now a.pair.now)) (sym c.in_err-found.was))
