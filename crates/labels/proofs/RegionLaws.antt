-- What the crates above use of the regions of a sweep, for limits that never fall. A gate is a place of the mask; interval j lies between limits j and j + 1. Assumes nothing.
use Rattle.std.proofs.Common.{◌≡◌, ℕ, zero, suc, ◌<◌, ◌≤◌, List, length, get_or, sym, refl, ⊎_elim, arith}
use lib.Ieee.{Float}
use lib.ListN.{get_or-eq_default}
use Rattle.arithmetic.specs.Inside.Asked.{Rising}
use Rattle.lists.proofs.SegLaws.{lt_or_le}
use Rattle.labels.specs.Regions.{regions}
use Rattle.labels.proofs.RegionFacts.{regions_are}
use Rattle.labels.proofs.BlockLaws.{regions_long}
use Rattle.labels.proofs.Closed.{label_none, label_pos, same_label_joined, joined_same_label}
use Rattle.labels.proofs.Ways.{Beside, Way, Lies, banded, band_lies, lies_band, joined_way, beside_joined}

-- one label for each gate, for any limits
pub labels_long : (gates : ℕ) (vel : List Float) (mask : List ℕ) (limits : List Float) → length (regions gates vel mask limits).labels ≡ length mask
labels_long = regions_long

module _ (gates : ℕ) (vel : List Float) (mask : List ℕ) (limits : List Float) (rising : Rising limits) where
  -- no label is above the number of regions
  pub label_at_most : (i : ℕ) → get_or (regions gates vel mask limits).labels i 0 ≤ (regions gates vel mask limits).number
  label_at_most = (regions_are gates vel mask limits rising).low

  -- there are no more regions than gates
  pub number_at_most : (regions gates vel mask limits).number ≤ length mask
  number_at_most = (regions_are gates vel mask limits rising).few

  -- each number from 1 on is the label of a gate
  pub label_shown : (j : ℕ) → 0 < j → j ≤ (regions gates vel mask limits).number → (i : ℕ) × (i < length mask) × (get_or (regions gates vel mask limits).labels i 0 ≡ j)
  label_shown = (regions_are gates vel mask limits rising).shown

  -- a gate with a label is one of the sweep
  labelled_in : (i : ℕ) → 0 < get_or (regions gates vel mask limits).labels i 0 → i < length mask
  labelled_in i p = ⊎_elim (λ h. h) (λ h. absurd (none (get_or-eq_default (regions gates vel mask limits).labels 0 (omega (arith, regions_long gates vel mask limits))))) (lt_or_le i (length mask))
    where
      none : get_or (regions gates vel mask limits).labels i 0 ≡ 0 → ⊥
      none z = omega arith

  -- and lies in an interval
  labelled_lies : (i : ℕ) → 0 < get_or (regions gates vel mask limits).labels i 0 → (j : ℕ) × (suc j < length limits) × Lies vel mask limits j i
  labelled_lies i p = go (get_or (banded vel mask limits rising).iv i 0) refl
    where
      go : (b : ℕ) → get_or (banded vel mask limits rising).iv i 0 ≡ b → (j : ℕ) × (suc j < length limits) × Lies vel mask limits j i
      go zero e = absurd (bad (label_none gates vel mask limits (banded vel mask limits rising).iv (banded vel mask limits rising).are i (labelled_in i p) e))
        where
          bad : get_or (regions gates vel mask limits).labels i 0 ≡ 0 → ⊥
          bad z = omega arith
      go (suc j) e =
          let q = band_lies gates vel mask limits (banded vel mask limits rising).iv (banded vel mask limits rising).are i j e in
          (j, q.0, q.1)

  -- gates of one label, not 0, are joined by a way of neighbouring gates that all lie in one interval
  pub one_label_joined : (i h : ℕ) → 0 < get_or (regions gates vel mask limits).labels i 0 → get_or (regions gates vel mask limits).labels h 0 ≡ get_or (regions gates vel mask limits).labels i 0
      → (j : ℕ) × (suc j < length limits) × Way gates (Lies vel mask limits j) i h
  one_label_joined i h p e =
      let b = banded vel mask limits rising in
      let q = labelled_lies i p in
      let r = labelled_lies h (omega arith) in
      let in_i : i < length mask = labelled_in i p in
      let in_h : h < length mask = labelled_in h (omega arith) in
      let bi : get_or b.iv i 0 ≡ suc q.0 = lies_band gates vel mask limits b.iv b.are i q.0 in_i q.1 q.2 in
      let bh : get_or b.iv h 0 ≡ suc r.0 = lies_band gates vel mask limits b.iv b.are h r.0 in_h r.1 r.2 in
      (q.0, q.1, joined_way gates vel mask limits b.iv b.are q.0 i h (same_label_joined gates vel mask limits b.iv b.are i h q.0 r.0 in_i in_h bi bh (sym e)).1 bi)

  -- a gate in an interval has a label
  pub lies_labelled : (i j : ℕ) → i < length mask → suc j < length limits → Lies vel mask limits j i → 0 < get_or (regions gates vel mask limits).labels i 0
  lies_labelled i j h l p =
      let b = banded vel mask limits rising in
      label_pos gates vel mask limits b.iv b.are i j h (lies_band gates vel mask limits b.iv b.are i j h l p)

  -- neighbouring gates of one interval share a label, which is not 0
  pub beside_one_label : (a c j : ℕ) → a < length mask → c < length mask → suc j < length limits → Lies vel mask limits j a → Lies vel mask limits j c → Beside gates a c
      → (0 < get_or (regions gates vel mask limits).labels a 0) × (get_or (regions gates vel mask limits).labels a 0 ≡ get_or (regions gates vel mask limits).labels c 0)
  beside_one_label a c j ha hc l p q s =
      let b = banded vel mask limits rising in
      let e = lies_band gates vel mask limits b.iv b.are a j ha l p in
      let f = lies_band gates vel mask limits b.iv b.are c j hc l q in
      (lies_labelled a j ha l p, joined_same_label gates vel mask limits b.iv b.are a c j j ha hc e f (beside_joined gates vel mask limits b.iv b.are a c j e f s))
