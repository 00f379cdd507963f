-- `printout::unfold::put_counts` meets its contract. Assumes nothing.
use Rattle.std.proofs.Common.{rules, ◌≡◌, ◌*◌, ◌++◌, ℤ, refl, ap, ◌∙◌, arith, length-take, length-take-le}
use Rattle.std.specs.Prelude.{Err}
use Rattle.files.specs.Format.{u16_at}
use Rattle.printout.specs.Text.{ray_lines}
use Rattle.printout.specs.Unfold.{file_gates, printed_by}
use Rattle.printout.proofs.UnfoldLaws.{refused_prints, counts_print, gates_are}
use Rattle.printout.proofs.unfold.put_counts.Goals.{Start}
use Rattle.printout.proofs.unfold.put_counts.Goals as goal

-- as many counts as the file's sweep has gates
many : (c : Start) → c.args.rays * c.args.gates ≡ file_gates c.args.file.now
many c = gates_are _ _ _ _ c.requires.shape.rays_are c.requires.shape.gates_are refl

pub unfold_file-requires : goal.unfold_file-requires
unfold_file-requires c = (length-take-le (c.args.rays * c.args.gates) _ (search rules) ∙ many (goal.at.unfold_file-requires c).Start, omega (arith, length-take {A = ℤ}, c.requires.shape.gates_few), refl)

pub returns-in_err-unfold_file : goal.returns-in_err-unfold_file
returns-in_err-unfold_file c =
    let e : c.from_residual.result ≡ Err c.in_err-unfold_file.field-0.0 = search rules in
    rw e (record { empty = c.requires.empty; printed = ap (printed_by _) c.requires.empty ∙ refused_prints c.args.file.now _ c.unfold_file.new.counts _ _ c.in_err-unfold_file.ensures })

pub returns : goal.returns
returns c =
    let f = c.args.file.now in let n = c.unfold_file.new.counts in
    record {
      empty = tt;
      printed =
          ap (printed_by 0) (c.put_rays.ensures.appended ∙ (λ i. c.requires.empty i ++ ray_lines (c.requires.shape.rays_are i) (c.requires.shape.gates_are i) n))
          ∙ counts_print f (ray_lines (u16_at f 3) (u16_at f 5)) n _ c.in_ok-unfold_file.ensures;
    }
