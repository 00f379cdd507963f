-- Limits cut into blocks: the regions of the first limits, with those of the next block put over them. Assumes nothing.
use Rattle.std.proofs.Common.{◌≡◌, ℕ, zero, suc, ◌+◌, ◌-◌, ◌<◌, ◌≤◌, min, List, [], ◌∷◌, ◌++◌, length, get_or, take, drop, sym, refl, ap, ◌∙◌, ⊎_elim, not-suc-le-zero, arith, length-drop, length-take, get_or-drop, get_or-take, ext_get_or}
use mathlib.Core.List.{foldl, foldl-append}
use lib.Ieee.{Float, nan}
use lib.ListN.{length-replicate, get_or-replicate}
use Rattle.arithmetic.specs.Inside.Asked.{Rising}
use Rattle.lists.proofs.SegLaws.{lt_or_le}
use Rattle.labels.specs.Label.{Found, areas}
use Rattle.labels.specs.Regions.{Interval, windows, windows_from, inside, over, added, grow, nothing, regions}
use Rattle.labels.proofs.OverLaws.{over_old, over_new, added_at, added_long}

-- ---- areas over areas over areas
over_over : (k j old mid new : ℕ) → over k old (over j mid new) ≡ over (k + j) (over k old mid) new
over_over k j old mid new = ⊎_elim
    (λ h. ap (over k old) (over_new j mid new h) ∙ over_new k old (new + j) (omega arith) ∙ omega (arith, over_new (k + j) (over k old mid) new h))
    (λ h. ap (over k old) (over_old j mid new (omega arith)) ∙ sym (over_old (k + j) (over k old mid) new (omega arith)))
    (lt_or_le 0 new)

added_assoc : (f g a : Found) → length g.labels ≡ length f.labels → added f (added g a) ≡ added (added f g) a
unfolding added
added_assoc f g a e =
    let m : length (added (added f g) a).labels ≡ length f.labels = added_long (added f g) a ∙ added_long f g in
    let l : (added f (added g a)).labels ≡ (added (added f g) a).labels =
    ext_get_or 0 (added f (added g a)).labels (added (added f g) a).labels (added_long f (added g a) ∙ sym m)
    (λ i q.
    let h : i < length f.labels = omega (arith, added_long f (added g a)) in
    added_at f (added g a) i h
    ∙ ap (over f.number (get_or f.labels i 0)) (added_at g a i (omega arith))
    ∙ over_over f.number g.number (get_or f.labels i 0) (get_or g.labels i 0) (get_or a.labels i 0)
    ∙ ap (λ (y : ℕ). over (f.number + g.number) y (get_or a.labels i 0)) (sym (added_at f g i h))
    ∙ sym (added_at (added f g) a i (omega (arith, added_long f g)))) in
    let n : f.number + (g.number + a.number) ≡ f.number + g.number + a.number = omega arith in
    λ i. record { labels = l i; number = n i }

added_nothing : (f : Found) → added f (nothing (length f.labels)) ≡ f
unfolding added nothing
added_nothing f =
    let z : Found = nothing (length f.labels) in
    let l : (added f z).labels ≡ f.labels =
    ext_get_or 0 (added f z).labels f.labels (added_long f z)
    (λ i q.
    let h : i < length f.labels = omega (arith, added_long f z) in
    added_at f z i h ∙ over_old f.number (get_or f.labels i 0) (get_or z.labels i 0) (get_or-replicate (length f.labels) i 0 0 h)) in
    let n : f.number + 0 ≡ f.number = omega arith in
    λ i. record { labels = l i; number = n i }

module _ (gates : ℕ) (vel : List Float) (mask : List ℕ) where
  fold_long : (ws : List Interval) (f : Found) → length (foldl (grow gates vel mask) f ws).labels ≡ length f.labels
  unfolding grow
  fold_long [] f = refl
  fold_long (i ∷ ws) f = fold_long ws (grow gates vel mask f i) ∙ added_long f (areas gates (inside vel mask i))

  fold_added : (ws : List Interval) (f g : Found) → length g.labels ≡ length f.labels → foldl (grow gates vel mask) (added f g) ws ≡ added f (foldl (grow gates vel mask) g ws)
  unfolding grow
  fold_added [] f g e = refl
  fold_added (i ∷ ws) f g e =
      ap (λ (t : Found). foldl (grow gates vel mask) t ws) (sym (added_assoc f g (areas gates (inside vel mask i)) e))
      ∙ fold_added ws f (grow gates vel mask g i) (added_long g (areas gates (inside vel mask i)) ∙ e)

  -- more intervals: their own regions put over what was found before
  more : (ws : List Interval) (f : Found) → length f.labels ≡ length mask → foldl (grow gates vel mask) f ws ≡ added f (foldl (grow gates vel mask) (nothing (length mask)) ws)
  unfolding nothing
  more ws f e =
      ap (λ (t : Found). foldl (grow gates vel mask) t ws) (sym (ap (λ (k : ℕ). added f (nothing k)) (sym e) ∙ added_nothing f))
      ∙ fold_added ws f (nothing (length mask)) (length-replicate (length mask) 0 ∙ sym e)

  pub regions_long : (limits : List Float) → length (regions gates vel mask limits).labels ≡ length mask
  unfolding regions nothing
  regions_long limits = fold_long (windows limits) (nothing (length mask)) ∙ length-replicate (length mask) 0

-- ---- the intervals of limits up to i, and of those from i to j
windows_split : (l : List Float) (i j : ℕ) → i ≤ j → j < length l → windows (take (suc j) l) ≡ windows (take (suc i) l) ++ windows (take (suc (j - i)) (drop i l))
unfolding windows windows_from
windows_split [] i j h q = absurd (not-suc-le-zero q)
windows_split (x ∷ l) zero j h q =
    let e : j ≡ j - 0 = omega arith in
    ap (λ (k : ℕ). windows (take (suc k) (x ∷ l))) e
windows_split (x ∷ l) (suc i) zero h q = absurd (not-suc-le-zero h)
windows_split (x ∷ []) (suc i) (suc j) h q = absurd (bad q)
  where
    bad : suc j < 1 → ⊥
    bad p = omega arith
windows_split (x ∷ y ∷ l) (suc i) (suc j) h q =
    let e : j - i ≡ suc j - suc i = omega arith in
    ap (λ (ws : List Interval). record { lower = x; upper = y } ∷ ws) (windows_split (y ∷ l) i j (omega arith) (omega arith))
    ∙ ap (λ (k : ℕ). record { lower = x; upper = y } ∷ (windows (take (suc i) (y ∷ l)) ++ windows (take (suc k) (drop i (y ∷ l))))) e

module _ (gates : ℕ) (vel : List Float) (mask : List ℕ) (limits : List Float) where
  pub begin : regions gates vel mask (take 1 limits) ≡ nothing (length mask)
  unfolding regions windows windows_from
  begin = go limits
    where
      go : (l : List Float) → foldl (grow gates vel mask) (nothing (length mask)) (windows (take 1 l)) ≡ nothing (length mask)
      go [] = refl
      go (x ∷ l) = refl

  pub next : (i j : ℕ) → i ≤ j → j < length limits → regions gates vel mask (take (suc j) limits) ≡ added (regions gates vel mask (take (suc i) limits)) (regions gates vel mask (take (suc (j - i)) (drop i limits)))
  unfolding regions
  next i j h q =
      let f : Found = regions gates vel mask (take (suc i) limits) in
      ap (foldl (grow gates vel mask) (nothing (length mask))) (windows_split limits i j h q)
      ∙ foldl-append (grow gates vel mask) (nothing (length mask)) (windows (take (suc i) limits)) (windows (take (suc (j - i)) (drop i limits)))
      ∙ more gates vel mask (windows (take (suc (j - i)) (drop i limits))) f (regions_long gates vel mask (take (suc i) limits))

-- part of limits that never fall
pub rising_part : (l : List Float) → Rising l → (i k : ℕ) → Rising (take k (drop i l))
rising_part l R i k p h =
    let b : suc p < min k (length l - i) = omega (arith, length-take k (drop i l), length-drop i l) in
    let at : (q : ℕ) → q ≤ suc p → get_or (take k (drop i l)) q nan ≡ get_or l (i + q) nan = λ q s. get_or-take k (drop i l) q nan (omega arith) ∙ get_or-drop i l q nan in
    let e : get_or (take k (drop i l)) p nan ≡ get_or l (i + p) nan = at p (omega arith) in
    let f : get_or (take k (drop i l)) (suc p) nan ≡ get_or l (suc (i + p)) nan = at (suc p) (omega arith) ∙ ap (λ (y : ℕ). get_or l y nan) (omega arith) in
    rw (e, f) (R (i + p) (omega arith))
