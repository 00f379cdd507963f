-- `sweep::sweep::settle` meets its contract. Assumes nothing.
use Rattle.sweep.proofs.FinishLaws.{writes_ask}
use Rattle.sweep.specs.Sweep.{gate_count}
use Rattle.memory.specs.Inside.Layout.{counts_at}
use Rattle.merge.specs.Inside.Steps.{unbias}
use Rattle.lists.specs.Seq.{tabulate}
use Rattle.std.proofs.Common.{◌+◌, length, get_or, ℤ, ap, ◌∙◌, w32, to_z, of_z}
use mir.ValLaws.{to_z-of_z}
use Rattle.sweep.proofs.sweep.settle.Goals as goal

pub write_folds-requires : goal.write_folds-requires
write_folds-requires c = let a = c.args in writes_ask a.w.now a.n a.k a.centred a.valid.now (length a.folds.now) (to_z w32 (of_z w32 c.offset_of-offset.result)) c.requires (to_z-of_z w32 c.offset_of-offset.result (record { sfits = c.offset_of-offset.type_inv }) ∙ c.offset_of-offset.ensures)

pub returns : goal.returns
returns c = let a = c.args in let o = c.offset_of-offset in c.write_folds.ensures ∙ ap (λ (z : ℤ). tabulate a.n (λ g. gate_count z (get_or a.valid.now g 0) (unbias (get_or a.w.now (counts_at a.n a.k + get_or a.w.now g 0) 0)))) (to_z-of_z w32 o.result (record { sfits = o.type_inv }) ∙ o.ensures)
