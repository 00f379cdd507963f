-- Demand 3, proved: `merge_lists` and `two_sweeps` are the two statements of Demand3. Assumes nothing.
use Prim.Native.Nat.{ℕ}
use native.Mathlib.Omega.{arith}
use mathlib.Core.Path.{◌≡◌, refl, sym, ap, ◌∙◌}
use mathlib.Core.Bool.{Bool, true}
use mathlib.Core.List.{List}
use mathlib.Core.Option.{Option, none, some}
use lib.ListN.{length, get_or}
use lib.IntN.{ℤ, pos, ◌+ℤ◌, ◌-ℤ◌, neg_ℤ, +ℤ_assoc, +ℤ-neg_ℤ_cancel}
use lib.Ieee.{Float}
use Rattle.sweep.specs.Sweep.{Sweep, Unfolded, unfolded}
use Rattle.sweep.specs.Questions.{refused, accepted, gates_in, own_limits, seven, first_missed, answered, outcome}
use Rattle.sweep.proofs.QuestionLaws.{all_yes}
use Rattle.sweep.proofs.PassedLaws.{long_are}
use Rattle.locality.specs.Demand3.{Accepted, Apart, Alike, offset, MergeListsHold, TwoSweepsHold}
use Rattle.locality.proofs.Echo.{ApartBy}
use Rattle.locality.proofs.TwoSweeps.{same_counts, same_but_offset, same_marks}
use Rattle.locality.proofs.MergeLists.{every_list}

-- a sweep with its own limits
abbrev own : Sweep → Unfolded
own s = unfolded s (own_limits s)

apart_by : (E : ℕ → Bool) (s : Sweep) (limits : List Float) → Apart E s limits → ApartBy E s limits
apart_by E s limits a d g h p w = a g h (record { labelled = p; direction = d; seen = w })

-- ---- what an accepted sweep has

module _ (s : Sweep) (c : List ℤ) (ds : List ℕ) (a : Accepted s c ds) where
  unrefused : (k : ℕ) → refused k ≡ accepted c ds a.regions a.merges → ⊥
  unrefused k h = let z : ◌≡◌ {A = ℕ} 0 1 = cc in omega arith

  -- all nine questions got a yes, and the counts and marks are the sweep's
  both : (first_missed s a.lent ≡ none) × (c ≡ (own s).counts) × (ds ≡ (own s).doubtful)
  unfolding outcome answered
  both = go (first_missed s a.lent) a.yes
    where
      go : (o : Option ℕ) → answered o (own s) ≡ accepted c ds a.regions a.merges → (o ≡ none) × (c ≡ (own s).counts) × (ds ≡ (own s).doubtful)
      go none h = (refl, cc, cc)
      go (some k) h = absurd (unrefused k h)

  accepted_counts : c ≡ (own s).counts
  accepted_counts = both.1

  accepted_marks : ds ≡ (own s).doubtful
  accepted_marks = both.2

  accepted_length : length s.mask ≡ gates_in s
  unfolding first_missed seven
  accepted_length = (long_are (gates_in s) s.vel s.mask _ (all_yes _ _ (all_yes _ _ both.0).1).0).1

-- ---- the statements

pub merge_lists : MergeListsHold
merge_lists E s c ds y a l m = every_list E s (own_limits s) (apart_by E s (own_limits s) a) l m

module _ (E : ℕ → Bool) (s t : Sweep) (c d : List ℤ) (x z : List ℕ) (y : Accepted s c x) (y' : Accepted t d z) (a : Alike E s t) (p : Apart E s (own_limits s)) (q : Apart E t (own_limits t)) where
  long : length s.mask ≡ length t.mask
  long = accepted_length s c x y ∙ gates ∙ sym (accepted_length t d z y')
    where
      gates : gates_in s ≡ gates_in t
      gates = unfold gates_in in rw a.shape refl

  p' : ApartBy E s (own_limits s)
  p' = apart_by E s (own_limits s) p

  q' : ApartBy E t (own_limits s)
  q' = rw a.limits (apart_by E t (own_limits t) q)

  off : s.centred ≡ 0 → (g : ℕ) → E g ≡ true → get_or c g (pos 0) ≡ get_or d g (pos 0)
  off h g e =
      ap (λ (k : List ℤ). get_or k g (pos 0)) (accepted_counts s c x y)
      ∙ same_counts E s t a long (own_limits s) p' q' h g e
      ∙ ap (λ (x : List Float). get_or (unfolded t x).counts g (pos 0)) a.limits
      ∙ ap (λ (k : List ℤ). get_or k g (pos 0)) (sym (accepted_counts t d z y'))

  on : (g : ℕ) → E g ≡ true → get_or s.mask g 0 ≡ 1 → get_or c g (pos 0) +ℤ offset s ≡ get_or d g (pos 0) +ℤ offset t
  on g e v =
      ap (λ (k : List ℤ). get_or k g (pos 0) +ℤ offset s) (accepted_counts s c x y)
      ∙ same_but_offset E s t a long (own_limits s) p' q' g e v
      ∙ ap (λ (x : List Float). get_or (unfolded t x).counts g (pos 0) +ℤ (unfolded t x).offset) a.limits
      ∙ ap (λ (k : List ℤ). get_or k g (pos 0) +ℤ offset t) (sym (accepted_counts t d z y'))

  apart_by_one : (g : ℕ) → E g ≡ true → get_or s.mask g 0 ≡ 1 → get_or c g (pos 0) ≡ get_or d g (pos 0) +ℤ (offset t -ℤ offset s)
  apart_by_one g e v =
      sym (+ℤ-neg_ℤ_cancel (get_or c g (pos 0)) (offset s))
      ∙ ap (λ (z : ℤ). z -ℤ offset s) (on g e v)
      ∙ +ℤ_assoc (get_or d g (pos 0)) (offset t) (neg_ℤ (offset s))

  marks : (g : ℕ) → E g ≡ true → get_or x g 0 ≡ get_or z g 0
  marks g e =
      ap (λ (l : List ℕ). get_or l g 0) (accepted_marks s c x y)
      ∙ same_marks E s t a long (own_limits s) p' q' g e
      ∙ ap (λ (l : List Float). get_or (unfolded t l).doubtful g 0) a.limits
      ∙ ap (λ (l : List ℕ). get_or l g 0) (sym (accepted_marks t d z y'))

pub two_sweeps : TwoSweepsHold
two_sweeps E s t c d x z y y' a p q = record {
  off = off E s t c d x z y y' a p q;
  on = on E s t c d x z y y' a p q;
  marks = marks E s t c d x z y y' a p q;
  one = (offset t -ℤ offset s, apart_by_one E s t c d x z y y' a p q);
}
