-- The regions of a sweep and those of the sweep with all but an echo masked: the echo's regions are the sweep's, in order. Assumes nothing.
use Prim.Native.Nat.{ℕ, zero, suc, ◌+◌, ◌-◌, ◌%◌, ◌≤◌, ◌<◌}
use native.Mathlib.Omega.{arith}
use mathlib.Core.Path.{◌≡◌, refl, sym, ap, ◌∙◌}
use mathlib.Core.Bool.{Bool, true, false, not, ◌&&◌}
use mathlib.Core.List.{List, [], ◌∷◌, ◌++◌, map, foldl}
use lib.Dec.{eqb, leb}
use lib.ListN.{length, get_or, replicate, length-map, length-append, length-replicate, get_or-eq_default, get_or-append}
use lib.Seq.{get_or-append-add}
use lib.Ieee.{Float, nan}
use Rattle.lists.proofs.SeqLaws.{map_append, tab_length}
use Rattle.labels.specs.Label.{roots, firsts, rank, Found, labelled, areas}
use Rattle.labels.specs.Regions.{Interval, windows, within, inside, over, added, grow, nothing, regions}
use Rattle.lists.proofs.AllLaws.{tab_all}
use Rattle.locality.proofs.Spot.{spot, trues, shift, spot_low, spot_high, trues_append}
use Rattle.labels.proofs.RegionFacts.{roots_long}
use Rattle.locality.proofs.RootsEcho.{at, roots_zero, roots_follow}
use Rattle.locality.proofs.LabelEcho.{Parts, first_gates_of, labels_at, rank_zero, root_pos, labelled_parts}
use Rattle.lists.specs.Seq.{All}

-- ---- the first gate of each region, by label

unfoldable pub firsts_in : ℕ → List Float → List ℕ → Interval → List ℕ
firsts_in gates vel mask i = first_gates_of (roots gates (inside vel mask i))

unfoldable pub more : ℕ → List Float → List ℕ → List ℕ → Interval → List ℕ
more gates vel mask fs i = fs ++ firsts_in gates vel mask i

unfoldable pub first_gates : ℕ → List Float → List ℕ → List Float → List ℕ
first_gates gates vel mask limits = foldl (more gates vel mask) [] (windows limits)

-- ---- one interval put over the others

added_at : (f a : Found) → length a.labels ≡ length f.labels → (g : ℕ) → at (added f a).labels g ≡ over f.number (at f.labels g) (at a.labels g)
unfolding added over
added_at f a long g = tab_all (λ g. over f.number (at f.labels g) (at a.labels g)) (length f.labels) g 0
    (λ w. let v : length a.labels ≤ g = omega arith in rw (get_or-eq_default a.labels 0 v, get_or-eq_default f.labels 0 w) refl)

added_length : (f a : Found) → length (added f a).labels ≡ length f.labels
unfolding added
added_length f a = tab_length _ (length f.labels)

areas_length : (gates : ℕ) (ins : List Bool) → length (areas gates ins).labels ≡ length ins
unfolding areas labelled
areas_length gates ins = length-map (roots gates ins) (rank (firsts (roots gates ins))) ∙ roots_long gates ins

module _ (E : ℕ → Bool) (bs cs : List Bool) (f f' a a' : Found) (P : Parts E bs f f') (Q : Parts E cs a a') (long : length a.labels ≡ length f.labels) where
  long' : length a'.labels ≡ length f'.labels
  long' = Q.size ∙ long ∙ sym P.size

  low : (l : ℕ) → l ≤ trues bs → shift (bs ++ cs) l ≡ shift bs l
  unfolding shift
  low zero h = refl
  low (suc l) h = ap suc (spot_low bs cs l h)

  high : (l : ℕ) → shift (bs ++ cs) (suc l + trues bs) ≡ suc (spot cs l) + length bs
  unfolding shift
  high l =
      let w : suc l + trues bs ≡ suc (trues bs + l) = omega arith in
      rw w (omega (arith, spot_high bs cs l))

  added_within : (g : ℕ) → E g ≡ true → at (added f a).labels g ≡ shift (bs ++ cs) (at (added f' a').labels g)
  unfolding over shift
  added_within g e = rw (added_at f a long g, added_at f' a' long' g, Q.within g e, P.within g e) (go (at a'.labels g))
    where
      go : (l : ℕ) → over f.number (shift bs (at f'.labels g)) (shift cs l) ≡ shift (bs ++ cs) (over f'.number (at f'.labels g) l)
      go zero = sym (low (at f'.labels g) (P.bound' g))
      go (suc l) = ap (λ (n : ℕ). suc (spot cs l) + n) P.number ∙ sym (high l) ∙ ap (λ (n : ℕ). shift (bs ++ cs) (suc l + n)) (sym P.number')

  added_outside : (g : ℕ) → E g ≡ false → at (added f' a').labels g ≡ 0
  unfolding over
  added_outside g e = rw (added_at f' a' long' g, Q.outside g e, P.outside g e) refl

  added_sides : (g l : ℕ) → at (added f a).labels g ≡ suc l → (l < length (bs ++ cs)) × (get_or (bs ++ cs) l false ≡ E g)
  unfolding over
  added_sides g l h = go (at a.labels g) refl (sym (added_at f a long g) ∙ h)
    where
      go : (z : ℕ) → at a.labels g ≡ z → over f.number (at f.labels g) (at a.labels g) ≡ suc l → (l < length (bs ++ cs)) × (get_or (bs ++ cs) l false ≡ E g)
      go zero w q =
          let old : at f.labels g ≡ suc l = rw w at q in
          let s : (l < length bs) × (get_or bs l false ≡ E g) = P.sides g l old in
          (omega (arith, length-append bs cs, s.0), get_or-append bs cs false l s.0 ∙ s.1)
      go (suc m) w q =
          let new : suc m + f.number ≡ suc l = rw w at q in
          let s : (m < length cs) × (get_or cs m false ≡ E g) = Q.sides g m w in
          let v : l ≡ length bs + m = omega (arith, P.number) in
          (omega (arith, length-append bs cs, s.0), (rw v (get_or-append-add bs cs m false ∙ s.1)))

  added_bound : (g : ℕ) → at (added f' a').labels g ≤ trues (bs ++ cs)
  unfolding over
  added_bound g = rw (added_at f' a' long' g) (go (at a'.labels g) refl)
    where
      go : (z : ℕ) → at a'.labels g ≡ z → over f'.number (at f'.labels g) z ≤ trues (bs ++ cs)
      go zero w = omega (arith, trues_append bs cs, P.bound' g)
      go (suc m) w = omega (arith, trues_append bs cs, Q.bound' g, P.number')

  added_parts : Parts E (bs ++ cs) (added f a) (added f' a')
  added_parts = record {
    number = unfold added in omega (arith, P.number, Q.number, length-append bs cs);
    number' = unfold added in omega (arith, P.number', Q.number', trues_append bs cs);
    within = added_within;
    outside = added_outside;
    sides = added_sides;
    bound' = added_bound;
    size = added_length f' a' ∙ P.size ∙ sym (added_length f a);
  }

-- ---- all intervals

inside_at : (vel : List Float) (mask : List ℕ) (i : Interval) (g : ℕ) → get_or (inside vel mask i) g false ≡ within i (get_or vel g nan) (get_or mask g 0)
unfolding inside within
inside_at vel mask i g = tab_all (λ g. within i (get_or vel g nan) (get_or mask g 0)) (length mask) g false (λ h. rw (get_or-eq_default mask 0 h) refl)

nothing_at : (n g : ℕ) → at (replicate n 0) g ≡ 0
nothing_at zero g = refl
nothing_at (suc n) zero = refl
nothing_at (suc n) (suc g) = nothing_at n g

inside_length : (vel : List Float) (mask : List ℕ) (i : Interval) → length (inside vel mask i) ≡ length mask
unfolding inside
inside_length vel mask i = tab_length _ (length mask)

module _ (gates : ℕ) (vel : List Float) (mask : List ℕ) where
  abbrev after : Found → List Interval → Found
  after f ws = foldl (grow gates vel mask) f ws

  grow_long : (f : Found) (i : Interval) → length f.labels ≡ length mask → length (areas gates (inside vel mask i)).labels ≡ length f.labels
  grow_long f i h = areas_length gates (inside vel mask i) ∙ inside_length vel mask i ∙ sym h

  grow_length : (f : Found) (i : Interval) → length f.labels ≡ length mask → length (grow gates vel mask f i).labels ≡ length mask
  unfolding grow
  grow_length f i h = added_length f (areas gates (inside vel mask i)) ∙ h

  grow_at : (f : Found) (i : Interval) → length f.labels ≡ length mask → (g : ℕ) → at (grow gates vel mask f i).labels g ≡ over f.number (at f.labels g) (at (areas gates (inside vel mask i)).labels g)
  unfolding grow
  grow_at f i h g = added_at f (areas gates (inside vel mask i)) (grow_long f i h) g

  -- a label stays a label
  over_pos : (k o n : ℕ) → 0 < o → 0 < over k o n
  unfolding over
  over_pos k o zero h = h
  over_pos k o (suc n) h = omega arith

  over_new : (k o n : ℕ) → 0 < n → 0 < over k o n
  unfolding over
  over_new k o zero h = absurd (omega arith)
  over_new k o (suc n) h = omega arith

  stays : (ws : List Interval) (f : Found) → length f.labels ≡ length mask → (g : ℕ) → 0 < at f.labels g → 0 < at (after f ws).labels g
  stays [] f h g p = p
  stays (i ∷ ws) f h g p = stays ws (grow gates vel mask f i) (grow_length f i h) g (rw (grow_at f i h g) (over_pos f.number (at f.labels g) _ p))

  area_pos : (ins : List Bool) (g : ℕ) → get_or ins g false ≡ true → 0 < at (areas gates ins).labels g
  unfolding areas
  area_pos ins g h = root_pos gates ins g h

  -- a gate of an interval is labelled in the end
  lives : (ws : List Interval) (f : Found) → length f.labels ≡ length mask → All (λ i. (g : ℕ) → get_or (inside vel mask i) g false ≡ true → 0 < at (after f ws).labels g) ws
  lives [] f h = tt
  lives (i ∷ ws) f h = (
    (λ g w. stays ws (grow gates vel mask f i) (grow_length f i h) g (rw (grow_at f i h g) (over_new f.number (at f.labels g) _ (area_pos (inside vel mask i) g w)))),
    lives ws (grow gates vel mask f i) (grow_length f i h),
  )

  -- a labelled gate is valid
  area_zero : (ins : List Bool) (g : ℕ) → get_or ins g false ≡ false → at (areas gates ins).labels g ≡ 0
  unfolding areas
  area_zero ins g h = labels_at (roots gates ins) g ∙ (rw (roots_zero gates ins g h) (rank_zero (roots gates ins)))

  invalid : (i : Interval) (g : ℕ) → eqb (get_or mask g 0) 1 ≡ false → get_or (inside vel mask i) g false ≡ false
  unfolding within
  invalid i g h = inside_at vel mask i g ∙ (rw h refl)

  after_zero : (ws : List Interval) (f : Found) → length f.labels ≡ length mask → (g : ℕ) → eqb (get_or mask g 0) 1 ≡ false → at f.labels g ≡ 0 → at (after f ws).labels g ≡ 0
  unfolding over
  after_zero [] f h g m z = z
  after_zero (i ∷ ws) f h g m z = after_zero ws (grow gates vel mask f i) (grow_length f i h) g m (grow_at f i h g ∙ (rw (area_zero (inside vel mask i) g (invalid i g m)) z))

  nothing_length : length (nothing (length mask)).labels ≡ length mask
  unfolding nothing
  nothing_length = length-replicate (length mask) 0

  pub regions_valid : (limits : List Float) (g : ℕ) → 0 < at (regions gates vel mask limits).labels g → eqb (get_or mask g 0) 1 ≡ true
  unfolding regions nothing
  regions_valid limits g h = go (eqb (get_or mask g 0) 1) refl
    where
      go : (b : Bool) → eqb (get_or mask g 0) 1 ≡ b → b ≡ true
      go true e = refl
      go false e = absurd (omega (arith, after_zero (windows limits) (nothing (length mask)) (nothing_length) g e (nothing_at (length mask) g)))

module _ (E : ℕ → Bool) (gates : ℕ) (vel vel' : List Float) (mask mask' : List ℕ) (long : length mask' ≡ length mask)
    (part_of : (i : Interval) (g : ℕ) → within i (get_or vel' g nan) (get_or mask' g 0) ≡ (E g && within i (get_or vel g nan) (get_or mask g 0)))
    (L : ℕ → ℕ) (up-near : (g : ℕ) → leb gates g ≡ true → 0 < L (g - gates) → 0 < L g → E (g - gates) ≡ E g)
    (back-near : (g : ℕ) → not (eqb (g % gates) 0) ≡ true → 0 < L (g - 1) → 0 < L g → E (g - 1) ≡ E g) where
  Living : Interval → Type 0
  Living i = (g : ℕ) → get_or (inside vel mask i) g false ≡ true → 0 < L g

  inside_part : (i : Interval) (g : ℕ) → get_or (inside vel' mask' i) g false ≡ (E g && get_or (inside vel mask i) g false)
  inside_part i g = inside_at vel' mask' i g ∙ part_of i g ∙ ap (λ (b : Bool). E g && b) (sym (inside_at vel mask i g))

  abbrev area : Interval → Found
  area i = areas gates (inside vel mask i)

  abbrev area' : Interval → Found
  area' i = areas gates (inside vel' mask' i)

  abbrev flags : Interval → List Bool
  flags i = map E (firsts_in gates vel mask i)

  area_parts : (i : Interval) → Living i → Parts E (flags i) (area i) (area' i)
  unfolding areas Living firsts_in
  area_parts i w = labelled_parts E (roots gates (inside vel mask i)) (roots gates (inside vel' mask' i))
      (roots_follow E gates (inside vel mask i) (inside vel' mask' i) (inside_part i)
      (λ g m u v. up-near g m (w (g - gates) u) (w g v))
      (λ g m u v. back-near g m (w (g - 1) u) (w g v))
      (inside_length vel' mask' i ∙ long ∙ sym (inside_length vel mask i)))
      (roots_long gates (inside vel' mask' i) ∙ inside_length vel' mask' i ∙ long ∙ sym (roots_long gates (inside vel mask i) ∙ inside_length vel mask i))

  after_parts : (ws : List Interval) → All Living ws → (fs : List ℕ) (f f' : Found) → length f.labels ≡ length mask → Parts E (map E fs) f f'
      → Parts E (map E (foldl (more gates vel mask) fs ws)) (foldl (grow gates vel mask) f ws) (foldl (grow gates vel' mask') f' ws)
  unfolding grow more
  after_parts [] t fs f f' h P = P
  after_parts (i ∷ ws) t fs f f' h P = after_parts ws t.1 (fs ++ firsts_in gates vel mask i) (added f (area i)) (added f' (area' i)) (added_length f (area i) ∙ h)
      (rw (map_append E fs (firsts_in gates vel mask i)) (added_parts E (map E fs) (flags i) f f' (area i) (area' i) P (area_parts i t.0) (areas_length gates (inside vel mask i) ∙ inside_length vel mask i ∙ sym h)))

  nothing_parts : Parts E [] (nothing (length mask)) (nothing (length mask'))
  unfolding nothing shift trues
  nothing_parts = record {
    number = refl;
    number' = refl;
    within = λ g e. nothing_at (length mask) g ∙ (rw (nothing_at (length mask') g) refl);
    outside = λ g e. nothing_at (length mask') g;
    sides = λ g l h. absurd (impossible l (sym (nothing_at (length mask) g) ∙ h));
    bound' = λ g. omega (arith, nothing_at (length mask') g);
    size = length-replicate (length mask') 0 ∙ long ∙ sym (length-replicate (length mask) 0);
  }
    where
      impossible : (l : ℕ) → 0 ≡ suc l → ⊥
      impossible l h = omega arith

  regions_parts' : (limits : List Float) → All Living (windows limits) → Parts E (map E (first_gates gates vel mask limits)) (regions gates vel mask limits) (regions gates vel' mask' limits)
  unfolding regions first_gates
  regions_parts' limits t = after_parts (windows limits) t [] (nothing (length mask)) (nothing (length mask')) (nothing_length gates vel mask) nothing_parts

-- Labels of a sweep and of its echo alone, where neighbouring labelled gates lie on one side
pub regions_parts : (E : ℕ → Bool) (gates : ℕ) (vel vel' : List Float) (mask mask' : List ℕ) (limits : List Float) → length mask' ≡ length mask
    → ((i : Interval) (g : ℕ) → within i (get_or vel' g nan) (get_or mask' g 0) ≡ (E g && within i (get_or vel g nan) (get_or mask g 0)))
    → ((g : ℕ) → leb gates g ≡ true → 0 < at (regions gates vel mask limits).labels (g - gates) → 0 < at (regions gates vel mask limits).labels g → E (g - gates) ≡ E g)
    → ((g : ℕ) → not (eqb (g % gates) 0) ≡ true → 0 < at (regions gates vel mask limits).labels (g - 1) → 0 < at (regions gates vel mask limits).labels g → E (g - 1) ≡ E g)
    → Parts E (map E (first_gates gates vel mask limits)) (regions gates vel mask limits) (regions gates vel' mask' limits)
regions_parts E gates vel vel' mask mask' limits long part_of ln tn =
    regions_parts' E gates vel vel' mask mask' long part_of (at (regions gates vel mask limits).labels) ln tn limits living
  where
    living : All (Living E gates vel vel' mask mask' long part_of (at (regions gates vel mask limits).labels) ln tn) (windows limits)
    living = unfold Living regions in lives gates vel mask (windows limits) (nothing (length mask)) (nothing_length gates vel mask)
