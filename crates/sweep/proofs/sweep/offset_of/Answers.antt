-- `sweep::sweep::offset_of` meets its contract. Assumes nothing.
use Rattle.sweep.proofs.FinishLaws.{offset_none, offset_some}
use Rattle.sweep.proofs.SumLaws.{held_few}
use mir.ValLaws.{to_z-of_z}
use Rattle.std.proofs.Common.{◌∙◌, arith, w32}
use Rattle.sweep.proofs.sweep.offset_of.Goals as goal

pub returns-then-centred-ne1 : goal.returns-then-centred-ne1
returns-then-centred-ne1 c = offset_none c.args.w.now c.args.n c.args.k c.args.centred c.if-centred-ne1.true

pub mean-requires : goal.mean-requires
mean-requires c = (omega (arith, c.add_up.ensures.0, c.requires.few), omega (arith, c.add_up.ensures.1, held_few c.args.w.now c.args.n c.args.k c.requires))

pub returns : goal.returns
returns c =
    let a = c.args in
    to_z-of_z w32 c.mean.result (record { sfits = c.mean.type_inv }) ∙ c.mean.ensures ∙ offset_some a.w.now a.n a.k a.centred c.if-centred-ne1.false c.add_up.result.gates c.add_up.result.held c.add_up.ensures.0 c.add_up.ensures.1
