-- `printout::numbers::put_line_into` meets its contract, by whether a number is the first. Assumes nothing.
use Rattle.std.proofs.Common.{◌≡◌, [], ◌∷◌, ◌++◌, length, ap, ◌∙◌, arith, length-append}
use Rattle.arrayvec.specs.ArrayString.{ArrayString}
use Rattle.printout.proofs.LineLaws.{no_numbers, first_number, next_number, line_whole}
use Rattle.printout.proofs.numbers.put_line_into.Goals.{then-later, else-later}
use Rattle.printout.proofs.numbers.put_line_into.Goals as goal

pub loop-i-init : goal.loop-i-init
loop-i-init g c = record { appended = no_numbers g.N.NumberIn.as_text c.args.numbers.now c.args.text.now.bytes; short = omega arith }

pub loop-i-preserved : goal.loop-i-preserved
loop-i-preserved g c =
    let s = c.args in let l = c.loop-i in let x = c.index-numbers-i in
    elim c.if-later.branch [
      | then-later w ↦
          let a : c.if-later.text.bytes ≡ l.text.bytes ++ (32 ∷ []) = ap (λ (t : ArrayString). t.bytes) w.text-is ∙ w.push.ensures.ascii (omega arith) in
          let e = next_number g.N.NumberIn.as_text s.numbers.now s.text.now.bytes l.i x.result c.loop-i-test.true x.is w.if-later.true in
          record { appended = cc; short = omega (arith, simp length-append at (ap length a)) }
      | else-later w ↦
          let a : c.if-later.text.bytes ≡ l.text.bytes = ap (λ (t : ArrayString). t.bytes) w.text-is in
          let e = first_number g.N.NumberIn.as_text s.numbers.now s.text.now.bytes l.i x.result c.loop-i-test.true x.is w.if-later.false in
          record { appended = cc; short = omega (arith, ap length a) }
    ]

pub returns-clause-appended : goal.returns-clause-appended
returns-clause-appended g c =
    let a = c.push-2.ensures.ascii (omega arith) in
    let e = line_whole g.N.NumberIn.as_text c.args.numbers.now c.args.text.now.bytes c.loop-i.i c.loop-i-test.false in cc
