-- `printout::unfold::put_by` meets its contract. Assumes nothing.
use Rattle.std.proofs.Common.{rules, ◌≡◌, ℕ, List, refl, sym, ap, ◌∙◌, arith}
use Rattle.std.specs.Prelude.{Err}
use mathlib.Core.Option.{none}
use Rattle.sweep.specs.Questions.{first_no}
use Rattle.sweep.proofs.QuestionLaws.{none_all}
use Rattle.sweep.proofs.PassedLaws.{size_rays}
use Rattle.files.specs.Questions.{header_questions}
use Rattle.files.proofs.CodeLaws.{Begun, header_is}
use Rattle.printout.specs.Unfold.{printed_by}
use Rattle.printout.specs.Inside.Folds.{Shape}
use Rattle.printout.proofs.UnfoldLaws.{fault_prints, many_print, few_print, gates_are}
use Rattle.printout.proofs.unfold.put_by.Goals.{Else-rays-gates-gt-MOST_PRINTED}
use Rattle.printout.proofs.unfold.put_by.Goals as goal

pub returns-in_err-header_fault : goal.returns-in_err-header_fault
returns-in_err-header_fault g c =
    let e : c.from_residual.result ≡ Err c.in_err-header_fault.field-0.0 = search rules in
    rw e (ap (printed_by _) c.clear.ensures ∙ fault_prints c.args.file.now g.form _ c.in_err-header_fault.ensures)

-- a header without a fault
begun : (f : List ℕ) → none ≡ first_no (header_questions f) → Begun f
begun f e = header_is f (none_all (header_questions f) (sym e))

pub read_u16-requires : goal.read_u16-requires
read_u16-requires g c = omega (arith, (begun c.args.file.now c.in_ok-header_fault.ensures).field.whole)

pub read_u16-requires-2 : goal.read_u16-requires-2
read_u16-requires-2 g c = omega (arith, (begun c.args.file.now c.in_ok-header_fault.ensures).field.whole)

pub returns-then-rays-gates-gt-MOST_PRINTED : goal.returns-then-rays-gates-gt-MOST_PRINTED
returns-then-rays-gates-gt-MOST_PRINTED g c =
    ap (printed_by 0) c.clear.ensures ∙ many_print c.args.file.now g.form c.in_ok-header_fault.ensures _ (gates_are _ _ _ _ (c.from-rays.ensures ∙ c.read_u16.ensures) (c.from-gates.ensures ∙ c.read_u16-2.ensures) refl) c.if-rays-gates-gt-MOST_PRINTED.true

-- the shape of a sweep that is printed
shape : (g : _) (c : Else-rays-gates-gt-MOST_PRINTED g) → Shape c.args.file.now c.from-rays.result c.from-gates.result
shape g c = record {
  rays_are = c.from-rays.ensures ∙ c.read_u16.ensures;
  gates_are = c.from-gates.ensures ∙ c.read_u16-2.ensures;
  rays_few = omega (arith, size_rays _ _ (begun c.args.file.now c.in_ok-header_fault.ensures).size, c.from-rays.ensures, c.read_u16.ensures);
  gates_few = c.if-rays-gates-gt-MOST_PRINTED.false;
}

pub put_text-requires : goal.put_text-requires
put_text-requires g c =
    let d = (goal.at.put_text-requires g c).Else-rays-gates-gt-MOST_PRINTED in
    c.requires.1.0 _ _ _ (shape g d) c.clear.ensures

pub returns : goal.returns
returns g c =
    c.requires.1.1 _ _ _ _ _ (shape g (goal.at.returns g c).Else-rays-gates-gt-MOST_PRINTED) c.clear.ensures c.put_text.ensures
    ∙ few_print c.args.file.now g.form c.in_ok-header_fault.ensures _ (gates_are _ _ _ _ (c.from-rays.ensures ∙ c.read_u16.ensures) (c.from-gates.ensures ∙ c.read_u16-2.ensures) refl) c.if-rays-gates-gt-MOST_PRINTED.false
