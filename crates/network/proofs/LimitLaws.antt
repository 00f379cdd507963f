-- The limits written at the front of a slice, and the labels found by them in a part of the work memory. Assumes nothing.
use Prim.Native.Nat.{ℕ, zero, suc, ◌+◌, ◌*◌, ◌-◌, ◌≤◌}
use native.Mathlib.Omega.{arith}
use mathlib.Core.Path.{◌≡◌, refl, sym, ap, ◌∙◌, subst}
use mathlib.Core.List.{List, [], ◌∷◌, ◌++◌}
use lib.ListN.{length, drop, take, length-append}
use borrow.Rule.Slice.PartMut.{post_of, Post-is}
use lib.Seq.{take-append_seam, take-append-le, drop-append_seam, length-take-le}
use lib.IntN.{ℤ}
use lib.Ieee.{Float}
use Rattle.arithmetic.specs.Inside.Asked.{front}
use Rattle.arithmetic.specs.Intervals.{spaced, at_least0, step_of, limit_at, limits_of, start_of, end_of, width}
use Rattle.lists.specs.Inside.Seg.{seg}
use Rattle.lists.specs.Seq.{tabulate}
use Rattle.arithmetic.specs.declared.intervals.Plan.{Plan}
use Rattle.lists.proofs.SeqLaws.{tab_length}
use Rattle.labels.specs.Label.{Found}
use Rattle.labels.specs.Regions.{regions}
use Rattle.labels.specs.Inside.Sheet as Sheet
use Rattle.network.specs.Inside.Find.{limits_by, regions_by, Limited, Labelled}
use Rattle.network.specs.declared.options.Options.{Options}

spaced_length : (s e : Float) (k : ℕ) → length (spaced s e k) ≡ k
unfolding spaced
spaced_length s e zero = refl
spaced_length s e (suc zero) = refl
spaced_length s e (suc (suc k)) = length-append (tabulate (suc k) (limit_at s (step_of s e (suc k)))) (e ∷ []) ∙ omega (arith, tab_length (limit_at s (step_of s e (suc k))) (suc k))

-- a plan has as many limits as it says
pub limits_length : (nyq : Float) (S : ℕ) (a b n : ℤ) → length (limits_of nyq S a b n) ≡ at_least0 n
unfolding limits_of
limits_length nyq S a b n = spaced_length (start_of nyq (width nyq S) a) (end_of nyq (width nyq S) b) (at_least0 n)

-- what was written at the front is read back
front_back : (l w : List Float) (m : ℕ) → m ≡ length l → take m (front l w) ≡ l
unfolding front
front_back l w m e = ap (λ (k : ℕ). take k (l ++ drop (length l) w)) e ∙ take-append_seam l (drop (length l) w)

module _ (o : Options) (p : Plan) (vel : List Float) (mask : List ℕ) (w : List ℕ) (h : Limited o p vel mask (length w)) (out l : List Float) (m : ℕ) (e : m ≡ at_least0 p.number) (el : l ≡ front (limits_by o p) out) where
  long : length (limits_by o p) ≡ at_least0 p.number
  long = limits_length o.nyquist o.splits p.add_start p.add_end p.number

  -- the limits are read back
  limits_read : take (m - 0) l ≡ limits_by o p
  limits_read = ap (take (m - 0)) el ∙ front_back (limits_by o p) out (m - 0) (omega (arith, long))

  pub limits_room : 10000 ≤ length out → m ≤ length l
  limits_room k = subst (λ (x : List Float). m ≤ length x) (sym el) (room k)
    where
      room : 10000 ≤ length out → m ≤ length (front (limits_by o p) out)
      room k = unfold front in rw (length-append (limits_by o p) (drop (length (limits_by o p)) out)) (omega (arith, long))

  -- what finding the regions asks
  pub regions_ask : Sheet.FindsRegions o.gates vel mask (take (m - 0) l) (take (3 * length vel + 64 - 0) w)
  regions_ask = subst (λ (x : List Float). Sheet.FindsRegions o.gates vel mask x (take (3 * length vel + 64 - 0) w)) (sym limits_read) (record {
    masks = h.masks;
    small = omega (arith, h.small);
    some_gates = h.some_gates;
    rising = h.rising;
    few_limits = omega (arith, long, h.planned.few);
    long = omega (arith, length-take-le (3 * length vel + 64 - 0) w (omega (arith, h.room)));
  })

  -- and what it leaves
  pub regions_left : (r : ℕ) (u : List ℕ) → length u ≡ length (take (3 * length vel + 64 - 0) w) → record { labels = seg u 0 (length vel); number = r } ≡ regions o.gates vel mask (take (m - 0) l)
      → Labelled (regions_by o p vel mask) (length vel) r (u ++ post_of 0 (3 * length vel + 64 - 0) w) × (drop (3 * length vel + 64) (u ++ post_of 0 (3 * length vel + 64 - 0) w) ≡ drop (3 * length vel + 64) w)
  unfolding seg
  regions_left r u k q =
      let rest : List ℕ = post_of 0 (3 * length vel + 64 - 0) w in
      let long_u : length u ≡ 3 * length vel + 64 = omega (arith, k, length-take-le (3 * length vel + 64 - 0) w (omega (arith, h.room))) in
      let is : record { labels = seg u 0 (length vel); number = r } ≡ regions_by o p vel mask = q ∙ ap (regions o.gates vel mask) limits_read in (
        record { number = ap (λ (f : Found). f.number) is; labels = take-append-le (length vel) u rest (omega (arith, long_u)) ∙ ap (λ (f : Found). f.labels) is },
        ap (λ (j : ℕ). drop j (u ++ rest)) (sym long_u) ∙ drop-append_seam u rest ∙ Post-is 0 (3 * length vel + 64) w (omega arith),
      )
