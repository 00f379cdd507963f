-- `map::map::label_and_clear` meets its contract. Assumes nothing.
use Rattle.std.proofs.Common.{ℕ, [], ◌∷◌, take, replicate, ap, ◌∙◌}
use Rattle.lists.specs.Inside.Seg.{seg}
use Rattle.sweep.proofs.FillLaws.{one_set}
use Rattle.map.proofs.map.label_and_clear.Goals as goal

pub returns : goal.returns
unfolding seg
returns c =
    let a = c.args in
    let l = c.label-k in
    let z = c.clear in record {
      found = (
        c.copy_labels.ensures ∙ ap (λ (n : ℕ). take n l.new.work) c.requires.long.0 ∙ l.ensures.labelled.labels,
        one_set a.regions.now l.result c.requires.long.1 ∙ ap (λ (n : ℕ). n ∷ []) l.ensures.labelled.number,
      );
      words_after = z.ensures.words_after ∙ ap (λ (n : ℕ). replicate n 0) l.auto.work;
      floats_after = z.ensures.floats_after;
    }
