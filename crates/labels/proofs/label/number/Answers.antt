-- `labels::label::number` meets its contract. The invariant: gates before g have their labels, the others their bands. Assumes nothing.
use Rattle.labels.proofs.GateLaws.{label_asks}
use Rattle.labels.proofs.CountLaws.{number_begin}
use Rattle.labels.specs.Inside.Numbering.{Numbering}
use Rattle.labels.specs.Inside.Sheet.{bands_of, counts_of}
use Rattle.std.proofs.Common.{◌≡◌, refl, ◌∙◌, subst, arith}
use Rattle.labels.specs.Locals.{NoArray}
use Rattle.labels.proofs.label.number.Code.Mir.{function}
use Rattle.labels.proofs.label.number.Goals as goal

no_array : NoArray function
no_array = refl

pub loop-g-init : goal.loop-g-init
loop-g-init c = let u = c.args.u.now in record { words = refl; numbering = λ rs F b. number_begin (bands_of u c.args.n) rs (counts_of u c.args.n) b }

pub label_gate-requires-clause-ahead : goal.label_gate-requires-clause-ahead
label_gate-requires-clause-ahead c =
    let a = c.args in
    let l = c.loop-g in
    let R = c.requires.numbers_gates in
    label_asks a.u.now l.u a.n c.requires.in_bounds l.auto.u l.invariant.words R l.g c.loop-g-test.true (l.invariant.numbering R.rs R.forest R.bands)

pub loop-g-preserved : goal.loop-g-preserved
loop-g-preserved c =
    let u = c.args.u.now in
    let l = c.loop-g in
    let f = c.label_gate.ensures in
    record {
      words = f.words_unchanged ∙ l.invariant.words;
      numbering = λ rs F b. f.labels_gate (bands_of u c.args.n) rs (counts_of u c.args.n) (rw l.invariant.words F) (l.invariant.numbering rs F b);
    }

pub returns : goal.returns
returns c = λ rs F b.
    let a = c.args in
    let l = c.loop-g in
    let e : l.g ≡ a.n = omega arith in
    subst (Numbering (bands_of a.u.now a.n) rs (counts_of a.u.now a.n) (bands_of l.u a.n) (counts_of l.u a.n)) e (l.invariant.numbering rs F b)
