-- An early end is what the run with no merges gives: its offset is 0 too. Assumes nothing.
use Rattle.std.proofs.Common.{◌≡◌, ℕ, zero, suc, ◌*◌, ◌<◌, Bool, true, false, cond, eqb, List, [], ◌∷◌, length, get_or, ℤ, pos, ◌+ℤ◌, ◌-ℤ◌, sym, refl, ap, ◌∙◌, mul-pos, zero-mul, arith}
use lib.IntN.{*ℤ-zero}
use lib.Ieee.{Float, nan, inf, fin, binary64, div, round, unlike, up, down}
use lib.Ieee.Fits.{up_pos, down_pos}
use lib.Ieee.Scale.{round_same}
use borrow.Author.Tests.{eqb-false}
use Rattle.arithmetic.specs.Rounding.{round_even, real, within}
use Rattle.lists.specs.Seq.{tabulate, all}
use Rattle.arithmetic.specs.Evaluating.{evaluating}
use Rattle.lists.proofs.SeqLaws.{tab_same}
use Rattle.labels.specs.Label.{Found}
use Rattle.network.specs.Network.{alone, start, merges, replay, trace, count_of, gates_of, mark_of, network_by, merges_in_range}
use Rattle.sweep.specs.Sweep.{Sweep, or_zero, sizes, network_of, final, early, weighed, mean_of, offset_of, gate_count, ended, finished, unfolded_by, Unfolded}
use Rattle.sweep.specs.Questions.{first_no, answered, asked9}
use Rattle.sweep.proofs.Early.{early_merges, early_counts, early_marks}

-- ---- a zero divided by anything rounds to 0, or is no number

real_zero : real (pos 0) ≡ fin false 0 (pos 0)
unfolding evaluating
real_zero = refl

zero_rounds : (s : Bool) → or_zero (round_even (round binary64 s 0 1)) ≡ pos 0
unfolding evaluating or_zero
zero_rounds true = refl
zero_rounds false = refl

zero_inf : (s : Bool) → or_zero (round_even (fin s 0 (pos 0))) ≡ pos 0
unfolding evaluating or_zero
zero_inf true = refl
zero_inf false = refl

nan_none : or_zero (round_even nan) ≡ pos 0
unfolding within or_zero
nan_none = refl

zero_over : (y : Float) → or_zero (round_even (div binary64 (fin false 0 (pos 0)) y)) ≡ pos 0
unfolding div
zero_over nan = nan_none
zero_over (inf t) = zero_inf (unlike false t)
zero_over (fin t n d) = go (eqb n 0) refl
  where
    more : (eqb n 0 ≡ false) → 0 < n
    more e = let h : n ≡ 0 → ⊥ = eqb-false n 0 e in above n h
      where
        above : (n : ℕ) → (n ≡ 0 → ⊥) → 0 < n
        above zero h = absurd (h refl)
        above (suc n) h = omega arith

    go : (b : Bool) → eqb n 0 ≡ b → or_zero (round_even (cond b (cond (eqb 0 0) nan (inf (unlike false t))) (round binary64 (unlike false t) (0 * up (pos 0) * down d) (n * up d * down (pos 0))))) ≡ pos 0
    go true e = nan_none
    go false e =
        let s = unlike false t in
        let D : 0 < n * up d * down (pos 0) = mul-pos (mul-pos (more e) (up_pos d)) (down_pos (pos 0)) in
        let z : 0 * up (pos 0) * down d ≡ 0 = ap (λ (x : ℕ). x * down d) (zero-mul (up (pos 0))) ∙ zero-mul (down d) in
        ap (λ (x : ℕ). or_zero (round_even (round binary64 s x (n * up d * down (pos 0))))) z
        ∙ ap (λ (x : Float). or_zero (round_even x)) (round_same binary64 s 0 (n * up d * down (pos 0)) 0 1 D (omega arith) (zero-mul 1 ∙ sym (zero-mul (n * up d * down (pos 0)))))
        ∙ zero_rounds s

-- ---- the offset of regions that are all alone

alone_weighed : (i : ℕ) (ns : List ℕ) → weighed (alone i ns) ≡ pos 0
unfolding weighed alone
alone_weighed i [] = refl
alone_weighed i (n ∷ ns) = ap (λ (z : ℤ). z +ℤ weighed (alone (suc i) ns)) (*ℤ-zero (pos n)) ∙ ap (λ (z : ℤ). pos 0 +ℤ z) (alone_weighed (suc i) ns)

alone_mean : (i : ℕ) (ns : List ℕ) → mean_of (alone i ns) ≡ pos 0
unfolding mean_of
alone_mean i ns =
    ap (λ (z : ℤ). or_zero (round_even (div binary64 (real z) (real (pos (gates_of (alone i ns))))))) (alone_weighed i ns)
    ∙ ap (λ (x : Float). or_zero (round_even (div binary64 x (real (pos (gates_of (alone i ns))))))) real_zero ∙ zero_over (real (pos (gates_of (alone i ns))))

pub no_count : (m : ℕ) → gate_count (pos 0) m (pos 0) ≡ pos 0
unfolding gate_count
no_count m = go (eqb m 1)
  where
    go : (b : Bool) → cond b (pos 0 -ℤ pos 0) (pos 0) ≡ pos 0
    go true = refl
    go false = refl

-- ---- both ends of an early sweep are one

module _ (s : Sweep) (f : Found) (h : early s f ≡ true) where
  early_offset : offset_of s (final (network_of s f)) ≡ pos 0
  unfolding offset_of final
  early_offset = rw (early_merges s f h) (go (eqb s.centred 1))
    where
      mean : mean_of (replay (network_of s f) []).regions ≡ pos 0
      mean = unfold replay network_of network_by start sizes in alone_mean 1 (sizes f)

      go : (b : Bool) → cond b (mean_of (replay (network_of s f) []).regions) (pos 0) ≡ pos 0
      go true = mean
      go false = refl

  early_gates : tabulate (length s.mask) (λ g. gate_count (offset_of s (final (network_of s f))) (get_or s.mask g 0) (count_of (final (network_of s f)).regions (get_or f.labels g 0))) ≡ tabulate (length s.mask) (λ g. pos 0)
  early_gates = tab_same (λ g. gate_count (offset_of s (final (network_of s f))) (get_or s.mask g 0) (count_of (final (network_of s f)).regions (get_or f.labels g 0))) (λ g. pos 0) (length s.mask)
      (λ g l. ap (λ (z : ℤ). gate_count z (get_or s.mask g 0) (count_of (final (network_of s f)).regions (get_or f.labels g 0))) early_offset
      ∙ ap (gate_count (pos 0) (get_or s.mask g 0)) (early_counts s f h (get_or f.labels g 0)) ∙ no_count (get_or s.mask g 0))

  early_none : tabulate (length s.mask) (λ g. mark_of (trace (network_of s f) (merges (network_of s f))) (get_or f.labels g 0)) ≡ tabulate (length s.mask) (λ g. 0)
  early_none = tab_same (λ g. mark_of (trace (network_of s f) (merges (network_of s f))) (get_or f.labels g 0)) (λ g. 0) (length s.mask) (λ g l. early_marks s f h (get_or f.labels g 0))

  early_good : merges_in_range (network_of s f) ≡ true
  unfolding merges_in_range
  early_good = rw (early_merges s f h) (unfold trace all in refl)

  early_same : asked9 (finished s f (network_of s f)) ≡ asked9 (ended s f)
  unfolding finished ended asked9 answered first_no
  early_same = rw (early_good, early_none, early_merges s f h, early_gates) refl

-- question 9 of a sweep is that of its network
pub range_same : (s : Sweep) (f : Found) → (unfolded_by s f).merges_in_range ≡ merges_in_range (network_of s f)
unfolding unfolded_by ended finished
range_same s f = go (early s f) refl
  where
    by : Bool → Unfolded
    by b = elim b [ true ↦ ended s f | false ↦ finished s f (network_of s f) ]

    go : (b : Bool) → early s f ≡ b → (by b).merges_in_range ≡ merges_in_range (network_of s f)
    go true e = sym (early_good s f e)
    go false e = refl

pub ends_same : (s : Sweep) (f : Found) → asked9 (finished s f (network_of s f)) ≡ asked9 (unfolded_by s f)
unfolding unfolded_by
ends_same s f = go (early s f) refl
  where
    go : (b : Bool) → early s f ≡ b → asked9 (finished s f (network_of s f)) ≡ asked9 (elim b [ true ↦ ended s f | false ↦ finished s f (network_of s f) ])
    go true e = early_same s f e
    go false e = refl
