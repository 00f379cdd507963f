-- Gathering, over plain values. Assumes nothing.
use Rattle.std.proofs.Common.{◌≡◌, ℕ, suc, ◌+◌, ◌-◌, ◌*◌, ◌<◌, ◌≤◌, Bool, true, false, cond, List, [], ◌∷◌, ◌++◌, map, length, get_or, set, sym, refl, ap, ◌∙◌, arith}
use lib.ListN.{length-map}
use lib.Ieee.{Float}
use Rattle.lists.specs.Seq.{upto}
use Rattle.lists.proofs.SeqLaws.{map_append}
use Rattle.lists.specs.Inside.Seg.{seg, put}
use Rattle.lists.proofs.SegLaws.{length-put, get_or-put_below, seg-put_below}
use Rattle.edges.proofs.GrowLaws.{snoc_at, four}
use Rattle.edges.specs.Edges.{Pair, begun, plus, difference}
use Rattle.edges.specs.Inside.Order.{alike, runs_from}
use Rattle.edges.specs.Inside.Gather.{sorted_at, pair_at, later, ReadsPairs, written, tables}
use Rattle.edges.specs.declared.edges.EdgeRecord.{EdgeRecord}

-- the gates of the sorted pairs are in the sweep
pub sorted_in : (w : List ℕ) (vel : List Float) (n m i : ℕ) → ReadsPairs w vel n m → i < m → ((sorted_at w n i).gate < n) × ((sorted_at w n i).far < n)
unfolding sorted_at
sorted_in w vel n m i r h = let x = r.index i h in (r.gate (get_or w (9 * n + i) 0) x, r.far (get_or w (9 * n + i) 0) x)

-- ---- tables

module _ (w : List ℕ) (t c : ℕ) where
  -- the four tables of edges
  abbrev laid : List ℕ → List ℕ → List ℕ → List ℕ → List ℕ
  laid X Y Z U = put (put (put (put w t X) (t + 3 * c) Y) (t + 4 * c) Z) (t + 5 * c) U

  pub tables_snoc : (e : ℕ) (rs : List EdgeRecord) (r : EdgeRecord) → e ≡ length rs → e < c → written (tables w t c rs) t c e r ≡ tables w t c (rs ++ (r ∷ []))
  unfolding written tables
  tables_snoc e rs r l h =
      let X : List ℕ = map (λ r. r.count) rs in
      let Y : List ℕ = map (λ r. r.one) rs in
      let Z : List ℕ = map (λ r. r.two) rs in
      let U : List ℕ = map (λ r. r.bridged) rs in
      four w t (t + 3 * c) (t + 4 * c) (t + 5 * c) e X Y Z U r.count r.one r.two r.bridged
      (long (λ r. r.count)) (long (λ r. r.one)) (long (λ r. r.two)) (long (λ r. r.bridged)) (omega arith) (omega arith) (omega arith)
      ∙ ap (λ (z : List ℕ). laid z (Y ++ (r.one ∷ [])) (Z ++ (r.two ∷ [])) (U ++ (r.bridged ∷ []))) (more (λ r. r.count))
      ∙ ap (λ (z : List ℕ). laid (map (λ r. r.count) (rs ++ (r ∷ []))) z (Z ++ (r.two ∷ [])) (U ++ (r.bridged ∷ []))) (more (λ r. r.one))
      ∙ ap (λ (z : List ℕ). laid (map (λ r. r.count) (rs ++ (r ∷ []))) (map (λ r. r.one) (rs ++ (r ∷ []))) z (U ++ (r.bridged ∷ []))) (more (λ r. r.two))
      ∙ ap (laid (map (λ r. r.count) (rs ++ (r ∷ []))) (map (λ r. r.one) (rs ++ (r ∷ []))) (map (λ r. r.two) (rs ++ (r ∷ [])))) (more (λ r. r.bridged))
    where
      long : (f : EdgeRecord → ℕ) → length (map f rs) ≡ e
      long f = length-map rs f ∙ sym l

      more : (f : EdgeRecord → ℕ) → map f rs ++ (f r ∷ []) ≡ map f (rs ++ (r ∷ []))
      more f = sym (map_append f rs (r ∷ []))

  module _ (rs : List EdgeRecord) where
    abbrev first_two : List ℕ
    first_two = put (put w t (map (λ r. r.count) rs)) (t + 3 * c) (map (λ r. r.one) rs)

    abbrev first_three : List ℕ
    first_three = put first_two (t + 4 * c) (map (λ r. r.two) rs)

    pub tables_below : (j : ℕ) → j < t → get_or (tables w t c rs) j 0 ≡ get_or w j 0
    unfolding tables
    tables_below j h =
        get_or-put_below first_three (t + 5 * c) (map (λ r. r.bridged) rs) j 0 (omega arith)
        ∙ get_or-put_below first_two (t + 4 * c) (map (λ r. r.two) rs) j 0 (omega arith)
        ∙ get_or-put_below (put w t (map (λ r. r.count) rs)) (t + 3 * c) (map (λ r. r.one) rs) j 0 (omega arith)
        ∙ get_or-put_below w t (map (λ r. r.count) rs) j 0 h

    pub tables_labels : (n : ℕ) → n ≤ t → seg (tables w t c rs) 0 n ≡ seg w 0 n
    unfolding tables
    tables_labels n h =
        seg-put_below first_three (t + 5 * c) (map (λ r. r.bridged) rs) 0 n (omega arith)
        ∙ seg-put_below first_two (t + 4 * c) (map (λ r. r.two) rs) 0 n (omega arith)
        ∙ seg-put_below (put w t (map (λ r. r.count) rs)) (t + 3 * c) (map (λ r. r.one) rs) 0 n (omega arith)
        ∙ seg-put_below w t (map (λ r. r.count) rs) 0 n (omega arith)

    pub tables_length : length (tables w t c rs) ≡ length w
    unfolding tables
    tables_length = simp length-put refl

pub diffs_snoc : (two_nyquist : Float) (d : List Float) (e : ℕ) (rs : List EdgeRecord) (r : EdgeRecord) → e ≡ length rs → set (put d 0 (map (difference two_nyquist) rs)) e (difference two_nyquist r) ≡ put d 0 (map (difference two_nyquist) (rs ++ (r ∷ [])))
diffs_snoc two_nyquist d e rs r l =
    ap (λ (x : ℕ). set (put d 0 (map (difference two_nyquist) rs)) x (difference two_nyquist r)) {x = e} {y = 0 + e} (omega arith)
    ∙ snoc_at d 0 (map (difference two_nyquist) rs) e (difference two_nyquist r) (length-map rs (difference two_nyquist) ∙ sym l)
    ∙ ap (put d 0) (sym (map_append (difference two_nyquist) rs (r ∷ [])))

-- ---- pairs

pub later_cons : (w : List ℕ) (vel : List Float) (n m i : ℕ) → i < m → later w vel n m i ≡ pair_at w vel n i ∷ later w vel n m (i + 1)
unfolding later upto
later_cons w vel n m i h =
    ap (λ (x : ℕ). map (pair_at w vel n) (upto x i)) {x = m - i} {y = suc (m - (i + 1))} (omega arith)
    ∙ ap (λ (x : ℕ). pair_at w vel n i ∷ map (pair_at w vel n) (upto (m - (i + 1)) x)) {x = suc i} {y = i + 1} (omega arith)

pub later_end : (w : List ℕ) (vel : List Float) (n m i : ℕ) → m ≤ i → later w vel n m i ≡ []
unfolding later upto
later_end w vel n m i h = ap (λ (x : ℕ). map (pair_at w vel n) (upto x i)) {x = m - i} {y = 0} (omega arith)

pub runs_some : (r : EdgeRecord) (l : List Pair) → 1 ≤ length (runs_from r l)
unfolding runs_from
runs_some r [] = omega arith
runs_some r (p ∷ ps) = go (alike r p) (runs_some (plus r p) ps)
  where
    go : (b : Bool) → 1 ≤ length (runs_from (plus r p) ps) → 1 ≤ length (cond b (runs_from (plus r p) ps) (r ∷ runs_from (begun p) ps))
    go true h = h
    go false h = omega arith
