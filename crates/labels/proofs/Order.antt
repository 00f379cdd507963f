-- Labels in order, for limits that never fall: interval by interval, and in an interval by first gate. Assumes nothing.
use Rattle.std.proofs.Common.{◌≡◌, ℕ, suc, ◌+◌, ◌<◌, ◌≤◌, List, length, get_or, sym, ap, ◌∙◌, ⊎_elim, arith}
use lib.Ieee.{Float}
use Rattle.arithmetic.specs.Inside.Asked.{Rising}
use Rattle.lists.proofs.SegLaws.{lt_or_le}
use Rattle.labels.specs.Label.{firsts, rank}
use Rattle.labels.specs.Regions.{regions}
use Rattle.labels.specs.Inside.Bands.{Bands, part, joint}
use Rattle.labels.specs.Inside.Numbering.{sizes}
use Rattle.labels.proofs.Closed.{rooted, label_some, same_label_joined, joined_same_label}
use Rattle.labels.proofs.FoldLaws.{sizes_below}
use Rattle.labels.proofs.ForestLaws.{some_pred}
use Rattle.labels.proofs.JointLaws.{joint_own, joint_some}
use Rattle.labels.proofs.RankLaws.{rank_le, rank_mono}
use Rattle.labels.proofs.Ways.{Lies, banded, in_sweep, lies_band}

less : (m n : ℕ) → m ≤ n → (m ≡ n → ⊥) → m < n
less m n h e = ⊎_elim (λ p. p) (λ p. absurd (e (omega arith))) (lt_or_le m n)

module _ (gates : ℕ) (vel : List Float) (mask : List ℕ) (limits : List Float) (rising : Rising limits) where
  abbrev label : ℕ → ℕ
  label g = get_or (regions gates vel mask limits).labels g 0

  abbrev iv : List ℕ
  iv = (banded vel mask limits rising).iv

  abbrev are : Bands limits vel mask iv
  are = (banded vel mask limits rising).are

  abbrev roots : List ℕ
  roots = joint gates iv

  -- a gate of the sweep that lies in interval j
  pub record At (j g : ℕ) : Type 0 where
    pub here : g < length mask
    pub interval : suc j < length limits
    pub lies : Lies vel mask limits j g

  band : (j g : ℕ) → At j g → get_or iv g 0 ≡ suc j
  band j g p = lies_band gates vel mask limits iv are g j p.here p.interval p.lies

  label_is : (j g : ℕ) → At j g → label g ≡ sizes iv roots j + rank (firsts (part iv roots j)) (get_or roots g 0)
  label_is j g p = label_some gates vel mask limits iv are g j p.here (band j g p)

  -- a lower interval has the lower labels
  pub by_interval : (i j g h : ℕ) → At i g → At j h → i < j → label g < label h
  by_interval i j g h p q l = less (label g) (label h)
      (omega (arith, label_is i g p, label_is j h q, rank_le (firsts (part iv roots i)) (get_or roots g 0), sizes_below iv roots i j l))
      (λ e. apart (same_label_joined gates vel mask limits iv are g h i j p.here q.here (band i g p) (band j h q) e).0)
    where
      apart : i ≡ j → ⊥
      apart e = omega arith

  -- no earlier gate has g's label
  abbrev pub First : ℕ → Type 0
  First g = (i : ℕ) → i < g → label i ≡ label g → ⊥

  -- the first gate of its label is its own root
  own_root : (j g : ℕ) → At j g → First g → get_or roots g 0 ≡ suc g
  own_root j g p first =
      let (r, e) = some_pred (get_or roots g 0) (joint_some gates iv g (λ z. no z)) in
      let b : get_or iv r 0 ≡ suc j = joint_own gates iv g r e ∙ band j g p in
      let t = rooted gates iv g r e in
      let same : label g ≡ label r = joined_same_label gates vel mask limits iv are g r j j p.here (in_sweep gates vel mask limits iv are r j b) (band j g p) b t.0 in
      e ∙ ap suc (⊎_elim (λ l. absurd (first r l (sym same))) (λ l. omega (arith, t.1)) (lt_or_le r g))
    where
      no : get_or iv g 0 ≡ 0 → ⊥
      no z = omega (arith, band j g p)

  -- in an interval the region whose first gate is earlier has the lower label
  pub by_first : (j g h : ℕ) → At j g → At j h → First g → First h → g < h → label g < label h
  by_first j g h p q f k l =
      let fs : List ℕ = firsts (part iv roots j) in
      less (label g) (label h)
      (omega (arith, label_is j g p, label_is j h q, ap (rank fs) (own_root j g p f), ap (rank fs) (own_root j h q k), rank_mono fs (suc g) (suc h) (omega arith)))
      (k g l)
