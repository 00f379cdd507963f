-- Two sweeps alike on an echo that is apart from the rest in both have the same counts there, but for the offset, and the same marks. Assumes
-- nothing.
use Prim.Native.Nat.{ℕ}
use mathlib.Core.Path.{◌≡◌, refl, sym, ap, ◌∙◌}
use mathlib.Core.Bool.{Bool, true, false, cond, ◌&&◌}
use mathlib.Core.List.{List}
use lib.Dec.{eqb}
use lib.ListN.{length, get_or}
use lib.IntN.{pos, ◌+ℤ◌}
use lib.Ieee.{Float, nan}
use borrow.Author.Tests.{eqb-true}
use Rattle.lists.specs.Seq.{tabulate}
use Rattle.lists.proofs.SeqLaws.{tab_same}
use Rattle.network.specs.Network.{trace}
use Rattle.sweep.specs.Sweep.{Sweep, gate_count, unfolded}
use Rattle.locality.specs.Demand3.{Alike, first, mark_at}
use Rattle.locality.proofs.Echo.{only_mask, only_vel, only, ApartBy, region_count, key}
use Rattle.locality.proofs.GateCounts.{gate_counts, valid_counts, no_offset, call_merges}
use Rattle.locality.proofs.MarksEcho.{own_mark, own_marks}
use Rattle.locality.proofs.GateMarks.{gate_marks}

module _ (E : ℕ → Bool) (s t : Sweep) (a : Alike E s t) (long : length s.mask ≡ length t.mask) where
  -- the echo alone is one sweep
  masks : (g : ℕ) → only_mask E s g ≡ only_mask E t g
  unfolding only_mask
  masks g = go (E g) refl
    where
      go : (e : Bool) → E g ≡ e → cond e (get_or s.mask g 0) 0 ≡ cond e (get_or t.mask g 0) 0
      go true e = a.mask g e
      go false e = refl

  vels : (g : ℕ) → only_vel E s g ≡ only_vel E t g
  unfolding only_vel
  vels g = go (E g) refl
    where
      both : (b : Bool) → E g ≡ true → eqb (get_or s.mask g 0) 1 ≡ b → cond b (get_or s.vel g nan) nan ≡ cond b (get_or t.vel g nan) nan
      both true e h = a.vel g e (eqb-true (get_or s.mask g 0) 1 h)
      both false e h = refl

      go : (e : Bool) → E g ≡ e → cond (e && eqb (get_or s.mask g 0) 1) (get_or s.vel g nan) nan ≡ cond (e && eqb (get_or t.mask g 0) 1) (get_or t.vel g nan) nan
      go true e = rw (← (a.mask g e)) (both (eqb (get_or s.mask g 0) 1) e refl)
      go false e = refl

  only_same : only E s ≡ only E t
  unfolding only
  only_same = λ i. record {
    shape = a.shape i;
    splits = a.splits i;
    centred = a.centred i;
    nyquist = a.nyquist i;
    vel = (ap (λ (n : ℕ). tabulate n (only_vel E s)) long ∙ tab_same (only_vel E s) (only_vel E t) (length t.mask) (λ g w. vels g)) i;
    mask = (ap (λ (n : ℕ). tabulate n (only_mask E s)) long ∙ tab_same (only_mask E s) (only_mask E t) (length t.mask) (λ g w. masks g)) i;
  }

  -- the uncentred counts
  same_uncentred : (limits : List Float) → ApartBy E s limits → ApartBy E t limits → (g : ℕ) → E g ≡ true → region_count s limits g ≡ region_count t limits g
  same_uncentred limits p q g e = key E s limits p g e ∙ ap (λ (u : Sweep). region_count u limits g) only_same ∙ sym (key E t limits q g e)

  module _ (limits : List Float) (p : ApartBy E s limits) (q : ApartBy E t limits) where
    -- without centring the counts are the same at every gate of the echo
    pub same_counts : s.centred ≡ 0 → (g : ℕ) → E g ≡ true → get_or (unfolded s limits).counts g (pos 0) ≡ get_or (unfolded t limits).counts g (pos 0)
    same_counts c g e =
        let o : (unfolded s limits).offset ≡ pos 0 = no_offset s limits c in
        let o' : (unfolded t limits).offset ≡ pos 0 = no_offset t limits (sym a.centred ∙ c) in
        let step : gate_count (unfolded s limits).offset (get_or s.mask g 0) (region_count s limits g) ≡ gate_count (unfolded t limits).offset (get_or t.mask g 0) (region_count t limits g)
        = rw (o, o', a.mask g e, same_uncentred limits p q g e) refl in
        gate_counts s limits g ∙ step ∙ sym (gate_counts t limits g)

    -- with it they are the same but for each sweep's own offset, at every valid gate of the echo
    pub same_but_offset : (g : ℕ) → E g ≡ true → get_or s.mask g 0 ≡ 1
        → get_or (unfolded s limits).counts g (pos 0) +ℤ (unfolded s limits).offset ≡ get_or (unfolded t limits).counts g (pos 0) +ℤ (unfolded t limits).offset
    same_but_offset g e m = valid_counts s limits g m ∙ same_uncentred limits p q g e ∙ sym (valid_counts t limits g (sym (a.mask g e) ∙ m))

    -- the marks are the same at every gate of the echo
    pub same_marks : (g : ℕ) → E g ≡ true → get_or (unfolded s limits).doubtful g 0 ≡ get_or (unfolded t limits).doubtful g 0
    same_marks g e = by_run s ∙ own_marks E s limits p g e ∙ ap (λ (u : Sweep). own_mark u limits g) only_same ∙ sym (own_marks E t limits q g e) ∙ sym (by_run t)
      where
        by_run : (u : Sweep) → get_or (unfolded u limits).doubtful g 0 ≡ own_mark u limits g
        by_run u = gate_marks u limits g ∙ ap (λ (l : List ℕ). mark_at u limits (trace (first u limits) l) g) (call_merges u limits)
