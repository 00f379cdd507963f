-- `edges::edges::Shape::sees` meets its contract. Assumes nothing.
use Rattle.std.proofs.Common.{◌≡◌, ℕ, suc, ◌+◌, ◌-◌, ◌*◌, ◌<◌, Bool, sym, ap, ◌∙◌, arith}
use mathlib.Core.Option.{some}
use Rattle.edges.proofs.Looking.{none_on, seen_on, skip_on, last_on, begins, not_stepped, stepped_on, stepped_end}
use Rattle.edges.proofs.Next.{next_in}
use Rattle.edges.specs.Inside.Sees.{sighted}
use Rattle.edges.specs.Edges.{bridges, look}
use Rattle.edges.proofs.edges.Shape.sees.Goals.{In_ok-h}
use Rattle.edges.proofs.edges.Shape.sees.Goals as goal

inside : (c : In_ok-h) → c.in_ok-h.h < c.args.self.rays * c.args.self.gates
inside c =
    let a = c.args in
    let l = c.loop-skipped in
    next_in a.self l.h a.d c.in_ok-h.h l.invariant.0 (sym c.in_ok-h.ensures)

pub loop-skipped-init : goal.loop-skipped-init
loop-skipped-init c = (
  c.requires.inside,
  begins c.args.self c.args.d c.args.labels.now (c.skip-most.result - 0) c.args.g (omega (arith, c.skip-most.ensures)),
  not_stepped c.args.self c.args.d c.args.labels.now c.args.g,
)

pub returns-in_err-h : goal.returns-in_err-h
returns-in_err-h c =
    let l = c.loop-skipped in
    let q = c.skip-most.result - l.skipped in
    let a = c.args in
    c.from_residual.ensures ∙ sym (ap (sighted (bridges a.self a.labels.now a.d a.g)) (l.invariant.1 ∙ none_on a.self a.d a.labels.now q l.h (sym c.in_err-h.ensures)))

pub offset_bounds-labels-h : goal.offset_bounds-labels-h
offset_bounds-labels-h c = omega (arith, inside c, c.requires.small)

pub bounds-labels-h : goal.bounds-labels-h
bounds-labels-h c = omega (arith, inside (goal.at.bounds-labels-h c).In_ok-h, c.requires.whole)

pub returns-then-labels-h-ne0 : goal.returns-then-labels-h-ne0
returns-then-labels-h-ne0 c =
    let l = c.loop-skipped in
    let q = c.skip-most.result - l.skipped in
    let a = c.args in
    let j = c.in_ok-h.h in
    let e = sym c.in_ok-h.ensures in
    ap (λ (x : Bool). sighted x (some j)) (stepped_end a.self a.d a.labels.now a.g l.skipped l.h j l.invariant.2 e c.if-labels-h-ne0.true)
    ∙ ap (sighted (bridges a.self a.labels.now a.d a.g)) (sym (l.invariant.1 ∙ seen_on a.self a.d a.labels.now q l.h j e c.if-labels-h-ne0.true))

-- as many steps over label 0 as a look may take
no_more : (skipped most : ℕ) → skipped ≡ most → suc (most - skipped) ≡ 1
no_more skipped most e = omega arith

pub returns-else-labels-h-ne0 : goal.returns-else-labels-h-ne0
returns-else-labels-h-ne0 c =
    let a = c.args in
    let l = c.loop-skipped in
    let most = c.skip-most.result in
    sym (ap (sighted (bridges a.self a.labels.now a.d a.g)) (l.invariant.1 ∙ ap (λ (x : ℕ). look a.self a.d a.labels.now x l.h) (no_more l.skipped most (omega arith))
    ∙ last_on a.self a.d a.labels.now l.h c.in_ok-h.h (sym c.in_ok-h.ensures) c.if-labels-h-ne0.false))

pub loop-skipped-preserved : goal.loop-skipped-preserved
loop-skipped-preserved c =
    let a = c.args in
    let l = c.loop-skipped in
    let most = c.skip-most.result in
    let e = sym c.in_ok-h.ensures in
    let left : most - l.skipped ≡ suc (most - (l.skipped + 1)) = omega arith in (
      inside (goal.at.loop-skipped-preserved c).In_ok-h,
      l.invariant.1
          ∙ skip_on a.self a.d a.labels.now (most - l.skipped) l.h c.in_ok-h.h e c.if-labels-h-ne0.false
          ∙ ap (λ (x : ℕ). look a.self a.d a.labels.now x c.in_ok-h.h) left,
      stepped_on a.self a.d a.labels.now a.g l.skipped l.h c.in_ok-h.h l.invariant.2 e c.if-labels-h-ne0.false,
    )
