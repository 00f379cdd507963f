-- The regions of limits that never fall: every number is the label of a gate, and there are no more numbers than gates. Assumes nothing.
use Rattle.std.proofs.Common.{◌≡◌, ℕ, zero, suc, ◌+◌, ◌-◌, ◌<◌, ◌≤◌, Bool, true, false, ◌⊎◌, List, [], ◌∷◌, length, get_or, replicate, sym, refl, ap, ◌∙◌, inl, inr, ⊎_elim, arith}
use mathlib.Core.List.{foldl}
use lib.Ieee.{Float, nan, lt, le}
use lib.ListN.{length-replicate, get_or-replicate, get_or-eq_default}
use Rattle.labels.specs.Label.{own, join, links, roots, firsts, rank, labelled, areas, Found, Neighbours, swap}
use Rattle.arithmetic.specs.Inside.Asked.{Rising}
use Rattle.lists.proofs.SeqLaws.{tab_at, tab_length, map_at}
use Rattle.lists.proofs.SegLaws.{lt_or_le, eq_or_ne}
use Rattle.labels.specs.Regions.{inside, over, added, grow, regions, nothing, windows, windows_from, within}
use Rattle.labels.proofs.ForestLaws.{join_at, length_join, swap_zero}
use Rattle.labels.proofs.OwnLaws.{own_out, length_own, within_from, within_to}
use Rattle.labels.proofs.RankLaws.{rank_zero, rank_hit, rank_miss, rank_end, rank_le, rank_more}
use Rattle.labels.proofs.OverLaws.{over_old, over_new, added_at, added_long}
use Rattle.labels.proofs.FloatOrder.{lt_le, lt_not_le, of_T}

-- ---- roots
pub long_joins : (ls : List Neighbours) (rs : List ℕ) → length (foldl join rs ls) ≡ length rs
long_joins [] rs = refl
long_joins (l ∷ ls) rs = long_joins ls (join rs l) ∙ length_join rs l

zero_joins : (ls : List Neighbours) (rs : List ℕ) (i : ℕ) → get_or rs i 0 ≡ 0 → get_or (foldl join rs ls) i 0 ≡ 0
zero_joins [] rs i e = e
zero_joins (l ∷ ls) rs i e = zero_joins ls (join rs l) i (join_at rs l i ∙ ap (λ (y : ℕ). swap (get_or rs l.a 0) (get_or rs l.b 0) y) e ∙ swap_zero (get_or rs l.a 0) (get_or rs l.b 0))

pub roots_long : (gates : ℕ) (ins : List Bool) → length (roots gates ins) ≡ length ins
unfolding roots
roots_long gates ins = long_joins (links gates ins) (own ins) ∙ length_own ins

roots_out : (gates : ℕ) (ins : List Bool) (i : ℕ) → get_or ins i false ≡ false → get_or (roots gates ins) i 0 ≡ 0
unfolding roots
roots_out gates ins i o = zero_joins (links gates ins) (own ins) i (own_out ins i o)

-- ---- every number up to a rank is the rank of a first gate
record Gate-of (rs : List ℕ) (j : ℕ) : Type 0 where
  pub gate : ℕ
  pub here : gate < length rs
  pub first : get_or rs gate 0 ≡ suc gate
  pub is : rank (firsts rs) (suc gate) ≡ j

first_of : (rs : List ℕ) (j g : ℕ) → 0 < j → g ≤ length rs → j ≤ rank (firsts rs) g → Gate-of rs j
first_of rs j zero p h k = absurd (bad (rank_zero rs))
  where
    bad : rank (firsts rs) 0 ≡ 0 → ⊥
    bad z = omega arith
first_of rs j (suc g) p h k = ⊎_elim
    (λ l. first_of rs j g p (omega arith) l)
    (λ l. ⊎_elim
    (λ e. record { gate = g; here = h; first = e; is = omega (arith, rank_hit rs g h e) })
    (λ n. absurd (bad l (rank_miss rs g h n)))
    (eq_or_ne (get_or rs g 0) (suc g)))
    (le_or_lt j (rank (firsts rs) g))
  where
    le_or_lt : (m n : ℕ) → (m ≤ n) ⊎ (n < m)
    le_or_lt m n = ⊎_elim inr inl (lt_or_le n m)

    bad : rank (firsts rs) g < j → rank (firsts rs) (suc g) ≡ rank (firsts rs) g → ⊥
    bad a b = omega arith

last_of : Float → List Float → Float
last_of x [] = x
last_of x (y ∷ ys) = last_of y ys

-- ---- one interval
module _ (gates : ℕ) (vel : List Float) (mask : List ℕ) where
  pub record Facts (f : Found) (u : Float) : Type 0 where
    pub long : length f.labels ≡ length mask
    pub low : (i : ℕ) → get_or f.labels i 0 ≤ f.number
    pub below : (i : ℕ) → 0 < get_or f.labels i 0 → lt (get_or vel i nan) u ≡ true
    pub shown : (j : ℕ) → 0 < j → j ≤ f.number → (i : ℕ) × (i < length mask) × (get_or f.labels i 0 ≡ j)

  module _ (f : Found) (x y : Float) (rise : le x y ≡ true) (F : Facts f x) where
    ins : List Bool
    ins = inside vel mask (record { lower = x; upper = y })

    rs : List ℕ
    rs = roots gates ins

    new : Found
    new = grow gates vel mask f (record { lower = x; upper = y })

    ins_long : length ins ≡ length mask
    unfolding ins inside
    ins_long = tab_length (λ g. within (record { lower = x; upper = y }) (get_or vel g nan) (get_or mask g 0)) (length mask)

    rs_long : length rs ≡ length mask
    unfolding rs
    rs_long = roots_long gates ins ∙ ins_long

    new_number : new.number ≡ f.number + length (firsts rs)
    unfolding new grow added areas labelled rs ins
    new_number = refl

    new_long : length new.labels ≡ length mask
    unfolding new grow added areas labelled rs ins
    new_long = added_long f (areas gates ins) ∙ F.long

    new_at : (i : ℕ) → i < length mask → get_or new.labels i 0 ≡ over f.number (get_or f.labels i 0) (rank (firsts rs) (get_or rs i 0))
    unfolding new grow added areas labelled rs ins
    new_at i h =
        added_at f (areas gates ins) i (omega (arith, F.long))
        ∙ ap (over f.number (get_or f.labels i 0)) (map_at (rank (firsts rs)) rs i 0 0 (omega (arith, rs_long)))

    -- a gate is outside and keeps its label, or is inside with a new one
    Kept : ℕ → Type 0
    Kept i = (rank (firsts rs) (get_or rs i 0) ≡ 0) × (get_or new.labels i 0 ≡ get_or f.labels i 0)

    New : ℕ → Type 0
    New i = (0 < rank (firsts rs) (get_or rs i 0)) × (get_or new.labels i 0 ≡ rank (firsts rs) (get_or rs i 0) + f.number) × (le x (get_or vel i nan) ≡ true) × (lt (get_or vel i nan) y ≡ true)

    outside : (i : ℕ) → i < length mask → get_or ins i false ≡ false → Kept i
    unfolding Kept rs
    outside i h o =
        let z : rank (firsts rs) (get_or rs i 0) ≡ 0 = ap (rank (firsts rs)) (roots_out gates ins i o) ∙ rank_zero rs in
        (z, new_at i h ∙ over_old f.number (get_or f.labels i 0) (rank (firsts rs) (get_or rs i 0)) z)

    holds : (i : ℕ) → i < length mask → get_or ins i false ≡ true → (le x (get_or vel i nan) ≡ true) × (lt (get_or vel i nan) y ≡ true)
    unfolding ins inside
    holds i h e =
        let w : within (record { lower = x; upper = y }) (get_or vel i nan) (get_or mask i 0) ≡ true = sym (tab_at (λ g. within (record { lower = x; upper = y }) (get_or vel g nan) (get_or mask g 0)) (length mask) i false h) ∙ e in
        (within_from (record { lower = x; upper = y }) (get_or vel i nan) (get_or mask i 0) w, within_to (record { lower = x; upper = y }) (get_or vel i nan) (get_or mask i 0) w)

    either : (i : ℕ) → i < length mask → Kept i ⊎ New i
    unfolding New Kept
    either i h = go (get_or ins i false) refl
      where
        go : (b : Bool) → get_or ins i false ≡ b → Kept i ⊎ New i
        go false o = inl (outside i h o)
        go true e = ⊎_elim
            (λ p. inr (p, new_at i h ∙ over_new f.number (get_or f.labels i 0) (rank (firsts rs) (get_or rs i 0)) p, (holds i h e).0, (holds i h e).1))
            (λ p. inl (omega arith, new_at i h ∙ over_old f.number (get_or f.labels i 0) (rank (firsts rs) (get_or rs i 0)) (omega arith)))
            (lt_or_le 0 (rank (firsts rs) (get_or rs i 0)))

    past : (i : ℕ) → length mask ≤ i → get_or new.labels i 0 ≡ 0
    past i h = get_or-eq_default new.labels 0 (omega (arith, new_long))

    step_low : (i : ℕ) → get_or new.labels i 0 ≤ new.number
    unfolding Kept New
    step_low i = ⊎_elim
        (λ h. ⊎_elim (λ k. omega (arith, k.1, F.low i, new_number)) (λ k. omega (arith, k.1, rank_le (firsts rs) (get_or rs i 0), new_number)) (either i h))
        (λ h. omega (arith, past i h))
        (lt_or_le i (length mask))

    step_below : (i : ℕ) → 0 < get_or new.labels i 0 → lt (get_or vel i nan) y ≡ true
    unfolding Kept New
    step_below i p = ⊎_elim
        (λ h. ⊎_elim (λ k. lt_le (get_or vel i nan) x y (F.below i (omega (arith, k.1))) rise) (λ k. k.3) (either i h))
        (λ h. absurd (bad (past i h)))
        (lt_or_le i (length mask))
      where
        bad : get_or new.labels i 0 ≡ 0 → ⊥
        bad z = omega arith

    -- an old label stays, since its gate lies below the interval
    step_old : (i : ℕ) → i < length mask → 0 < get_or f.labels i 0 → get_or new.labels i 0 ≡ get_or f.labels i 0
    unfolding Kept New
    step_old i h p = ⊎_elim (λ k. k.1) (λ k. absurd (lt_not_le (get_or vel i nan) x (F.below i p) k.2)) (either i h)

    step_shown : (j : ℕ) → 0 < j → j ≤ new.number → (i : ℕ) × (i < length mask) × (get_or new.labels i 0 ≡ j)
    unfolding Kept New
    step_shown j p h = ⊎_elim
        (λ k. let s = F.shown j p k in (s.0, s.1, step_old s.0 s.1 (omega (arith, s.2)) ∙ s.2))
        (λ k. fresh k (first_of rs (j - f.number) (length rs) (omega arith) (omega arith) (omega (arith, rank_end rs, new_number))))
        (le_or_lt j f.number)
      where
        le_or_lt : (m n : ℕ) → (m ≤ n) ⊎ (n < m)
        le_or_lt m n = ⊎_elim inr inl (lt_or_le n m)

        fresh : f.number < j → Gate-of rs (j - f.number) → (i : ℕ) × (i < length mask) × (get_or new.labels i 0 ≡ j)
        fresh k G =
            let g : ℕ = G.gate in
            let h₂ : g < length mask = omega (arith, G.here, rs_long) in
            let r : rank (firsts rs) (get_or rs g 0) ≡ j - f.number = ap (rank (firsts rs)) G.first ∙ G.is in
            (g, h₂, new_at g h₂ ∙ over_new f.number (get_or f.labels g 0) (rank (firsts rs) (get_or rs g 0)) (omega arith) ∙ omega arith)

    pub step : Facts (grow gates vel mask f (record { lower = x; upper = y })) y
    unfolding new
    step = record { long = new_long; low = step_low; below = step_below; shown = step_shown }

  -- ---- all intervals
  all_steps : (xs : List Float) (x : Float) (f : Found) → Rising (x ∷ xs) → Facts f x → Facts (foldl (grow gates vel mask) f (windows_from x xs)) (last_of x xs)
  unfolding windows_from last_of
  all_steps [] x f c F = F
  all_steps (y ∷ ys) x f c F = all_steps ys y (grow gates vel mask f (record { lower = x; upper = y })) (λ i h. c (suc i) (omega arith)) (step f x y (of_T (le x y) (c 0 (omega arith))) F)

  zero_labels : (n i : ℕ) → get_or (replicate {A = ℕ} n 0) i 0 ≡ 0
  zero_labels n i = ⊎_elim (λ h. get_or-replicate n i 0 0 h) (λ h. get_or-eq_default (replicate {A = ℕ} n 0) 0 (omega (arith, length-replicate {A = ℕ} n 0))) (lt_or_le i n)

  none : (u : Float) → Facts (nothing (length mask)) u
  unfolding nothing
  none u =
      record {
        long = length-replicate (length mask) 0;
        low = λ i. omega (arith, zero_labels (length mask) i);
        below = λ i p. absurd (bad i p (zero_labels (length mask) i));
        shown = λ j p h. absurd (no j p h);
      }
    where
      bad : (i : ℕ) → 0 < get_or (replicate {A = ℕ} (length mask) 0) i 0 → get_or (replicate {A = ℕ} (length mask) 0) i 0 ≡ 0 → ⊥
      bad i p z = omega arith

      no : (j : ℕ) → 0 < j → j ≤ 0 → ⊥
      no j p h = omega arith

  region_facts : (limits : List Float) → Rising limits → (u : Float) × Facts (regions gates vel mask limits) u
  unfolding regions windows
  region_facts [] c = (nan, none nan)
  region_facts (x ∷ xs) c = (last_of x xs, all_steps xs x (nothing (length mask)) c (none x))

-- ---- no more numbers than gates
pigeons : (l : List ℕ) (k : ℕ) → ((j : ℕ) → 0 < j → j ≤ k → (i : ℕ) × (i < length l) × (get_or l i 0 ≡ j)) → k ≤ rank l k
pigeons l zero s = omega arith
pigeons l (suc k) s =
    let t = s (suc k) (omega arith) (omega arith) in
    omega (arith, pigeons l k (λ j p h. s j p (omega arith)), rank_more l t.0 k t.1 t.2)

-- the regions of limits that never fall: how long, how many, and each number's gate
pub record Regions (mask : List ℕ) (f : Found) : Type 0 where
  pub long : length f.labels ≡ length mask
  pub low : (i : ℕ) → get_or f.labels i 0 ≤ f.number
  pub few : f.number ≤ length mask
  pub shown : (j : ℕ) → 0 < j → j ≤ f.number → (i : ℕ) × (i < length mask) × (get_or f.labels i 0 ≡ j)

pub regions_are : (gates : ℕ) (vel : List Float) (mask : List ℕ) (limits : List Float) → Rising limits → Regions mask (regions gates vel mask limits)
regions_are gates vel mask limits c =
    let F = (region_facts gates vel mask limits c).1 in
    let f : Found = regions gates vel mask limits in
    record {
      long = F.long;
      low = F.low;
      few = omega (arith, F.long, rank_le f.labels f.number, pigeons f.labels f.number (λ j p h. let t = F.shown j p h in (t.0, omega (arith, t.1, F.long), t.2)));
      shown = F.shown;
    }
