-- The key theorem: a sweep with all but an echo masked has the echo's labels, records and merges of the whole, renumbered in order, and its counts. Assumes nothing.
use Prim.Native.Nat.{ℕ, zero, suc, ◌≤◌, ◌<◌}
use native.Mathlib.Omega.{arith}
use mathlib.Core.Path.{◌≡◌, refl, sym, ap, ◌∙◌}
use mathlib.Core.Bool.{Bool, true, false, cond, ◌&&◌, true≢false}
use mathlib.Core.List.{List, map}
use lib.Dec.{eqb}
use lib.ListN.{length, get_or, get_or-eq_default}
use lib.IntN.{ℤ}
use lib.Ieee.{Float, nan}
use borrow.Author.Tests.{ne_eqb}
use Rattle.lists.specs.Seq.{upto, keep, tabulate}
use Rattle.arithmetic.specs.Intervals.{two_nyquist}
use Rattle.lists.proofs.SeqLaws.{eqb_renamed, tab_length, keep_count}
use Rattle.labels.specs.Label.{Found}
use Rattle.labels.specs.Regions.{Interval, within}
use Rattle.locality.proofs.Spot.{spot, trues, shift, flag, shift_inj, shift_rises, flag_shift}
use Rattle.locality.proofs.RootsEcho.{at}
use Rattle.locality.proofs.LabelEcho.{Parts}
use Rattle.locality.proofs.RegionsEcho.{first_gates, regions_parts, regions_valid}
use Rattle.lists.proofs.AllLaws.{tab_all}
use Rattle.edges.specs.declared.edges.EdgeRecord.{EdgeRecord}
use Rattle.edges.specs.Edges.{pairs, used}
use Rattle.network.specs.Network.{start, merges, count_of, size_in, network_by}
use Rattle.locality.proofs.Embed.{Embedding, merges_image, counts_image}
use Rattle.locality.proofs.EdgesEcho.{ApartIn, record_in, ren_q, used_ren, used_all}
use Rattle.locality.proofs.PairsEcho.{left_near, top_near, flag_side, pairs_part, pairs_sides}
use Rattle.locality.proofs.StartEcho.{Unjoined, edge_side, start_embeds}
use Rattle.sweep.specs.Sweep.{Sweep, regions_of, pairs_of, network_of, final}

-- ---- the sweep with every gate outside the echo masked; a masked gate's velocity is left out

unfoldable pub only_mask : (ℕ → Bool) → Sweep → ℕ → ℕ
only_mask E s g = cond (E g) (get_or s.mask g 0) 0

unfoldable pub only_vel : (ℕ → Bool) → Sweep → ℕ → Float
only_vel E s g = cond (E g && eqb (get_or s.mask g 0) 1) (get_or s.vel g nan) nan

unfoldable pub only : (ℕ → Bool) → Sweep → Sweep
only E s = record {
  shape = s.shape;
  splits = s.splits;
  centred = s.centred;
  nyquist = s.nyquist;
  vel = tabulate (length s.mask) (only_vel E s);
  mask = tabulate (length s.mask) (only_mask E s);
}

-- whether each region lies in the echo: whether its first gate does
unfoldable pub flags : (ℕ → Bool) → Sweep → List Float → List Bool
flags E s limits = map E (first_gates s.shape.gates s.vel s.mask limits)

-- an echo apart from the rest, by these limits
abbrev pub ApartBy : (ℕ → Bool) → Sweep → List Float → Type 0
ApartBy E s limits = ApartIn E s.shape (regions_of s limits).labels

-- the uncentred count of a gate
unfoldable pub region_count : Sweep → List Float → ℕ → ℤ
region_count s limits g = count_of (final (network_of s (regions_of s limits))).regions (at (regions_of s limits).labels g)

module _ (E : ℕ → Bool) (s : Sweep) where
  mask_at : (g : ℕ) → get_or (only E s).mask g 0 ≡ only_mask E s g
  unfolding only only_mask
  mask_at g = tab_all (only_mask E s) (length s.mask) g 0 (λ h. rw (get_or-eq_default s.mask 0 h) (gone (E g)))
    where
      gone : (e : Bool) → ◌≡◌ {A = ℕ} (cond e 0 0) 0
      gone true = refl
      gone false = refl

  vel_at : (g : ℕ) → get_or (only E s).vel g nan ≡ only_vel E s g
  unfolding only only_vel
  vel_at g = tab_all (only_vel E s) (length s.mask) g nan (λ h. rw (get_or-eq_default s.mask 0 h) (gone (E g)))
    where
      gone : (e : Bool) → cond (e && false) (get_or s.vel g nan) nan ≡ nan
      gone true = refl
      gone false = refl

  only_length : length (only E s).mask ≡ length s.mask
  unfolding only
  only_length = tab_length (only_mask E s) (length s.mask)

  within_part : (i : Interval) (g : ℕ) → within i (get_or (only E s).vel g nan) (get_or (only E s).mask g 0) ≡ (E g && within i (get_or s.vel g nan) (get_or s.mask g 0))
  unfolding within only_vel only_mask
  within_part i g = rw (vel_at g, mask_at g) (go (E g) (eqb (get_or s.mask g 0) 1) refl)
    where
      go : (e b : Bool) → eqb (get_or s.mask g 0) 1 ≡ b → within i (cond (e && b) (get_or s.vel g nan) nan) (cond e (get_or s.mask g 0) 0) ≡ (e && within i (get_or s.vel g nan) (get_or s.mask g 0))
      go true true w = refl
      go true false w = rw w refl
      go false b w = refl

  module _ (limits : List Float) (A : ApartBy E s limits) where
    abbrev f : Found
    f = regions_of s limits

    abbrev f' : Found
    f' = regions_of (only E s) limits

    -- 1. labels
    pub labels_follow : Parts E (flags E s limits) f f'
    unfolding regions_of only flags
    labels_follow =
        regions_parts E s.shape.gates s.vel (only E s).vel s.mask (only E s).mask limits only_length within_part
        (left_near E s.shape (regions_of s limits).labels A) (top_near E s.shape (regions_of s limits).labels A)

    same_vel : (g : ℕ) → E g ≡ true → 0 < at f.labels g → get_or (only E s).vel g nan ≡ get_or s.vel g nan
    unfolding regions_of only_vel
    same_vel g e p = vel_at g ∙ (rw (e, regions_valid s.shape.gates s.vel s.mask limits g p) refl)

    module _ (bs : List Bool) (P : Parts E bs f f') where
      -- 2. sizes
      size_follows : (l : ℕ) → 0 < l → l ≤ trues bs → size_in f.labels (shift bs l) ≡ size_in f'.labels l
      unfolding size_in
      size_follows l a b = keep_count (eqb (shift bs l)) (eqb l) f.labels f'.labels (sym P.size) (λ g. gate g (E g) refl)
        where
          high : 0 < shift bs l
          high = omega (arith, shift_rises bs 0 l a)

          apart : (g : ℕ) → E g ≡ false → (z : ℕ) → at f.labels g ≡ z → shift bs l ≡ z → ⊥
          apart g e zero w q = omega (arith, high)
          apart g e (suc m) w q = true≢false (sym (flag_shift bs l b) ∙ ap (flag bs) (q ∙ sym w) ∙ flag_side E s.shape bs f f' P A g (omega arith) ∙ e)

          gate : (g : ℕ) (e : Bool) → E g ≡ e → eqb (shift bs l) (at f.labels g) ≡ eqb l (at f'.labels g)
          gate g true e = rw (P.within g e) (eqb_renamed (shift bs) (shift_inj bs) l (at f'.labels g))
          gate g false e = ne_eqb (shift bs l) (at f.labels g) (apart g e (at f.labels g) refl) ∙ sym (rw (P.outside g e) (ne_eqb l 0 (λ q. below q)))
            where
              below : l ≡ 0 → ⊥
              below q = omega arith

      -- 3. records
      records_follow : keep (record_in (flag bs)) (used (length bs) (pairs_of s f)) ≡ map (ren_q (shift bs)) (used (trues bs) (pairs_of (only E s) f'))
      unfolding pairs_of only
      records_follow = used_ren bs (pairs s.shape f.labels s.vel) (pairs s.shape f'.labels (only E s).vel)
          (pairs_part E s.shape bs f f' P A s.vel (only E s).vel same_vel)

      unjoined : Unjoined (flag bs) (used (length bs) (pairs_of s f))
      unfolding pairs_of
      unjoined = used_all (λ a b. flag bs a ≡ flag bs b) (length bs) (pairs s.shape f.labels s.vel)
          (pairs_sides E s.shape f.labels s.vel (flag bs) A (flag_side E s.shape bs f f' P A))

      abbrev rs : List EdgeRecord
      rs = used (length bs) (pairs_of s f)

      whole_is : network_of s f ≡ start (two_nyquist s.nyquist) rs (map (size_in f.labels) (upto (length bs) 1))
      unfolding network_of network_by pairs_of
      whole_is = ap (λ (n : ℕ). start (two_nyquist s.nyquist) (used n (pairs_of s f)) (map (size_in f.labels) (upto n 1))) P.number

      part_is : network_of (only E s) f' ≡ start (two_nyquist s.nyquist) (used (trues bs) (pairs_of (only E s) f')) (map (size_in f'.labels) (upto (trues bs) 1))
      unfolding network_of network_by pairs_of only
      part_is = ap (λ (n : ℕ). start (two_nyquist s.nyquist) (used n (pairs_of (only E s) f')) (map (size_in f'.labels) (upto n 1))) P.number'

      -- 4. the network of the echo alone lies in the whole's
      pub network_embeds : Embedding (shift bs) (spot (map (record_in (flag bs)) rs)) (flag bs) (edge_side (flag bs) rs) (network_of (only E s) f') (network_of s f)
      network_embeds = rw (whole_is, part_is) (start_embeds bs (two_nyquist s.nyquist) rs (used (trues bs) (pairs_of (only E s) f')) (size_in f.labels) (size_in f'.labels) unjoined records_follow size_follows)

      -- 5. merges and counts
      pub merges_follow : keep (edge_side (flag bs) rs) (merges (network_of s f)) ≡ map (spot (map (record_in (flag bs)) rs)) (merges (network_of (only E s) f'))
      merges_follow = merges_image (shift bs) (spot (map (record_in (flag bs)) rs)) (flag bs) (edge_side (flag bs) rs) (network_of (only E s) f') (network_of s f) network_embeds

      counts_follow : (g : ℕ) → E g ≡ true → region_count s limits g ≡ region_count (only E s) limits g
      unfolding region_count final
      counts_follow g e = rw (P.within g e) (counts_image (shift bs) (spot (map (record_in (flag bs)) rs)) (flag bs) (edge_side (flag bs) rs) (network_of (only E s) f') (network_of s f) network_embeds (at f'.labels g) (flag_shift bs (at f'.labels g) (P.bound' g)))

    -- the uncentred count of the whole at a gate of the echo is that of the echo alone
    pub key : (g : ℕ) → E g ≡ true → region_count s limits g ≡ region_count (only E s) limits g
    key g e = counts_follow (flags E s limits) labels_follow g e
