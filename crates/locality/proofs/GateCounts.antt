-- The counts of a sweep's gates: the counts of their regions, less the offset. Assumes nothing.
use Prim.Native.Nat.{ℕ, suc, ◌<◌}
use native.Mathlib.Omega.{arith}
use mathlib.Core.Path.{◌≡◌, refl, sym, ap, ◌∙◌}
use mathlib.Core.Bool.{Bool, true, false, cond, true≢false}
use mathlib.Core.List.{List, ◌∷◌, []}
use mathlib.Core.Option.{Option, none, some}
use lib.Dec.{eqb}
use lib.ListN.{length, get_or, get_or-eq_default}
use lib.IntN.{ℤ, pos, ◌+ℤ◌, ◌-ℤ◌, -ℤ-+ℤ_cancel, +ℤ_idr}
use lib.Ieee.{Float}
use borrow.Author.Tests.{ne_eqb, eqb-false, eqb-true}
use Rattle.labels.specs.Label.{Found}
use Rattle.locality.proofs.RootsEcho.{at}
use Rattle.lists.proofs.AllLaws.{all_map, tab_all}
use Rattle.locality.proofs.RegionsEcho.{regions_valid}
use Rattle.network.specs.Network.{State, merges, count_of, Region, Edge, plan, move, merge, step_to, step, replay, alone, start, network_by}
use Rattle.network.specs.Network as Network
use Rattle.sweep.specs.Sweep.{Sweep, Unfolded, regions_of, network_of, final, early, ended, finished, offset_of, gate_count, unfolded_by, unfolded, sizes, pairs_of}
use Rattle.locality.specs.Demand3.{first, count_at, uncentred}
use Rattle.sweep.proofs.Early.{early_merges, early_counts}
use Rattle.locality.proofs.Echo.{region_count}
use Rattle.lists.specs.Seq.{All}

module _ (s : Sweep) (limits : List Float) where
  abbrev f : Found
  f = regions_of s limits

  -- an early end, or the end after the last merge
  abbrev ends : Bool → Unfolded
  ends b = elim b [ true ↦ ended s f | false ↦ finished s f (network_of s f) ]

  -- the count of a gate: 0 if masked, else its region's count less the offset
  pub gate_counts : (g : ℕ) → get_or (unfolded s limits).counts g (pos 0) ≡ gate_count (unfolded s limits).offset (get_or s.mask g 0) (region_count s limits g)
  unfolding unfolded unfolded_by region_count
  gate_counts g = go (early s f) refl
    where
      no_counts : (b : Bool) → pos 0 ≡ cond b (pos 0 -ℤ pos 0) (pos 0)
      no_counts true = refl
      no_counts false = refl

      go : (b : Bool) → early s f ≡ b → get_or (ends b).counts g (pos 0) ≡ gate_count (ends b).offset (get_or s.mask g 0) (count_of (final (network_of s f)).regions (at f.labels g))
      go true e = unfold ended gate_count in rw (early_counts s f e (at f.labels g)) (tab_all (λ g. pos 0) (length s.mask) g (pos 0) (λ h. refl) ∙ no_counts (eqb (get_or s.mask g 0) 1))
      go false e = unfold finished gate_count in tab_all _ (length s.mask) g (pos 0) (λ h. rw (get_or-eq_default s.mask 0 h) refl)

  pub valid_counts : (g : ℕ) → get_or s.mask g 0 ≡ 1 → get_or (unfolded s limits).counts g (pos 0) +ℤ (unfolded s limits).offset ≡ region_count s limits g
  unfolding gate_count
  valid_counts g h = ap (λ (z : ℤ). z +ℤ (unfolded s limits).offset) (gate_counts g ∙ valid (get_or s.mask g 0) h) ∙ -ℤ-+ℤ_cancel (region_count s limits g) (unfolded s limits).offset
    where
      valid : (m : ℕ) → m ≡ 1 → gate_count (unfolded s limits).offset m (region_count s limits g) ≡ region_count s limits g -ℤ (unfolded s limits).offset
      valid m w = rw w refl

  pub no_offset : s.centred ≡ 0 → (unfolded s limits).offset ≡ pos 0
  unfolding unfolded unfolded_by ended finished offset_of
  no_offset h = go (early s (regions_of s limits))
    where
      go : (b : Bool) → (ends b).offset ≡ pos 0
      go true = refl
      go false = rw h refl

  -- the merges of the call are the network's, also in the early ends
  pub call_merges : (unfolded s limits).merges ≡ merges (network_of s (regions_of s limits))
  unfolding unfolded unfolded_by ended finished
  call_merges = go (early s (regions_of s limits)) refl
    where
      go : (b : Bool) → early s (regions_of s limits) ≡ b → (ends b).merges ≡ merges (network_of s (regions_of s limits))
      go true e = sym (early_merges s (regions_of s limits) e)
      go false e = refl

-- ---- a gate's count with centring off

-- a region's label is not 0
abbrev pub Numbered : Region → Type 0
Numbered r = eqb 0 r.label ≡ false

pub step_numbered : (n : State) (i : ℕ) → All Numbered n.regions → All Numbered (step n i).regions
unfolding step step_to merge move
step_numbered n i t = go (Network.at n.edges i)
  where
    go : (o : Option Edge) → All Numbered (step_to o n).regions
    go none = t
    go (some e) = all_map Numbered (move (plan n.regions e)) (λ r w. w) n.regions t

replay_numbered : (l : List ℕ) (n : State) → All Numbered n.regions → All Numbered (replay n l).regions
unfolding replay
replay_numbered [] n t = t
replay_numbered (i ∷ l) n t = replay_numbered l (step n i) (step_numbered n i t)

pub alone_numbered : (k : ℕ) (ns : List ℕ) → All Numbered (alone (suc k) ns)
unfolding alone
alone_numbered k [] = tt
alone_numbered k (m ∷ ns) = (ne_eqb 0 (suc k) (λ w. omega arith), alone_numbered (suc k) ns)

count_zero : (rs : List Region) → All Numbered rs → count_of rs 0 ≡ pos 0
unfolding count_of
count_zero [] t = refl
count_zero (r ∷ rs) t = rw t.0 (count_zero rs t.1)

module _ (s : Sweep) (limits : List Float) where
  -- label 0 counts 0
  zero_count : count_of (final (first s limits)).regions 0 ≡ pos 0
  unfolding final network_of network_by start sizes
  zero_count = count_zero (final (first s limits)).regions (replay_numbered (merges (first s limits)) (first s limits) (alone_numbered 0 (sizes (regions_of s limits))))

  -- centring plays no part in a region's count
  pub same_region : (g : ℕ) → region_count (uncentred s) limits g ≡ region_count s limits g
  unfolding region_count uncentred regions_of network_of pairs_of
  same_region g = refl

  -- what the network's regions say of a gate is its count with centring off
  pub off_counts : (g : ℕ) → count_at s limits (final (first s limits)) g ≡ get_or (unfolded (uncentred s) limits).counts g (pos 0)
  off_counts g = here (eqb (at (regions_of s limits).labels g) 0) refl (eqb (get_or s.mask g 0) 1) refl ∙ sym (gate_counts (uncentred s) limits g ∙ there)
    where
      c : ℤ
      c = region_count s limits g

      there : gate_count (unfolded (uncentred s) limits).offset (get_or (uncentred s).mask g 0) (region_count (uncentred s) limits g) ≡ gate_count (pos 0) (get_or s.mask g 0) (region_count s limits g)
      there = rw (no_offset (uncentred s) limits (unfold uncentred in refl), same_region g) (unfold uncentred in refl)

      none_there : at (regions_of s limits).labels g ≡ 0 → region_count s limits g ≡ pos 0
      none_there h = unfold region_count in rw h zero_count

      here : (b : Bool) → eqb (at (regions_of s limits).labels g) 0 ≡ b → (v : Bool) → eqb (get_or s.mask g 0) 1 ≡ v → count_at s limits (final (first s limits)) g ≡ gate_count (pos 0) (get_or s.mask g 0) (region_count s limits g)
      here true h true w = unfold count_at gate_count in rw (h, w, none_there (eqb-true (at (regions_of s limits).labels g) 0 h)) refl
      here true h false w = unfold count_at gate_count in rw (h, w) refl
      here false h true w = unfold count_at gate_count in rw (h, w) (unfold region_count in sym (+ℤ_idr (count_of (final (first s limits)).regions (at (regions_of s limits).labels g))))
      here false h false w = absurd (true≢false (sym (labelled (eqb-false (at (regions_of s limits).labels g) 0 h)) ∙ w))
        where
          positive : (at (regions_of s limits).labels g ≡ 0 → ⊥) → 0 < at (regions_of s limits).labels g
          positive q = omega arith

          labelled : (at (regions_of s limits).labels g ≡ 0 → ⊥) → eqb (get_or s.mask g 0) 1 ≡ true
          labelled q = unfold regions_of in regions_valid s.shape.gates s.vel s.mask limits g (positive q)
