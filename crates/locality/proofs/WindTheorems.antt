-- What the second entry shows of the labels and counts that the map and the sweep entry leave: the statements of Wind, proved. Assumes nothing.
use Prim.Native.Nat.{ℕ, zero, suc, ◌+◌, ◌*◌, ◌≤◌, ◌<◌}
use native.Mathlib.Omega.{arith}
use mathlib.Core.Path.{◌≡◌, refl, sym, ap, ◌∙◌}
use mathlib.Core.Bool.{Bool, true, false, not, ◌&&◌, ◌||◌, true≢false}
use mathlib.Core.List.{List, []}
use mathlib.Core.Option.{none}
use lib.Dec.{eqb}
use lib.IntN.{pos}
use lib.ListN.{length, get_or}
use lib.Ieee.{Float, nan}
use borrow.Author.Tests.{eqb-true, eq-eqb, ne_eqb}
use Rattle.lists.specs.Seq.{upto, all, All}
use Rattle.lists.proofs.SeqLaws.{tab_at, tab_length, tab_same}
use Rattle.lists.proofs.AllLaws.{and_right, all_true}
use Rattle.memory.specs.Size.{gates_of_largest}
use Rattle.arithmetic.specs.Rounding.{real}
use Rattle.labels.specs.Label.{Found}
use Rattle.sweep.specs.Sweep.{Sweep, Unfolded, regions_of, network_of, early, ended, finished, unfolded_by, unfolded}
use Rattle.sweep.specs.Questions.{gates_in, lengths_fit, seven, nine_of, first_missed, own_limits}
use Rattle.sweep.specs.Call.{Answer, lengths}
use Rattle.sweep.specs.Entry.{answer_of}
use Rattle.sweep.specs.Velocity.{Counted, wind, shows_wind, unfolded_at, velocities, own_long, count_passes, counts_in_range, asked_velocity, VelocityAnswer}
use Rattle.sweep.proofs.QuestionLaws.{none_all, all_none}
use Rattle.sweep.proofs.PassedLaws.{size_product, long_are, missed_none}
use Rattle.sweep.proofs.VelocityLaws.{shown_at, hidden_at}
use Rattle.map.specs.Map.{MapAnswer}
use Rattle.locality.specs.RegionMap.{SharedIsPath}
use Rattle.locality.specs.Wind.{handed, Calls, NeverRefused, InRegion, GateShows, AllLabelled, LabelsPlayNoPart}
use Rattle.locality.proofs.EntryTheorems.{answer_is, counts_are}
use Rattle.locality.proofs.VelocityTheorems.{velocity_answer_is, velocities_are}
use Rattle.locality.proofs.MapTheorems.{labels_left, shared_is_path}
use Rattle.locality.proofs.CountRange.{counts_within}

-- ---- a gate that shows a wind

module _ (m l : ℕ) where
  shows_label : shows_wind m l ≡ true → 0 < l
  unfolding shows_wind
  shows_label h = go l (and_right (eqb m 1) (not (eqb l 0)) h)
    where
      go : (l : ℕ) → not (eqb l 0) ≡ true → 0 < l
      go zero h = absurd (true≢false (sym h))
      go (suc k) h = omega arith

  shows_both : m ≡ 1 → 0 < l → shows_wind m l ≡ true
  unfolding shows_wind
  shows_both h k = rw (eq-eqb m 1 h, ne_eqb l 0 (λ e. omega arith)) refl

-- ---- three calls for one sweep

-- a count for each gate
counts_long : (s : Sweep) (limits : List Float) → length (unfolded s limits).counts ≡ length s.mask
unfolding unfolded unfolded_by ended finished
counts_long s limits = go (early s found)
  where
    found : Found
    found = regions_of s limits

    by : Bool → Unfolded
    by b = elim b [ true ↦ ended s found | false ↦ finished s found (network_of s found) ]

    go : (b : Bool) → length (by b).counts ≡ length s.mask
    go true = tab_length _ (length s.mask)
    go false = tab_length _ (length s.mask)

module _ (s : Sweep) (a : MapAnswer) (b : Answer) (out : List Float) (w : VelocityAnswer) (k : Calls s a b out w) where
  -- what the sweep entry's yes to all nine says
  nine : All (λ q. q.yes ≡ true) (nine_of s (lengths k.lent))
  unfolding first_missed
  nine = none_all (nine_of s (lengths k.lent)) (missed_none s (lengths k.lent) (sym (answer_is s k.lent b k.sweep) ∙ k.accepted))

  counts : b.memory.counts ≡ (unfolded s (own_limits s)).counts
  counts = (counts_are s k.lent b k.sweep k.accepted).counts

  masks : length s.mask ≡ gates_in s
  unfolding seven
  masks = (long_are (gates_in s) s.vel s.mask _ nine.1.0).1

  lengths_yes : lengths_fit (gates_in s) s.vel s.mask (own_long (handed s a b) (length out)) ≡ true
  unfolding seven lengths_fit own_long gates_in
  lengths_yes =
      let n = gates_in s in
      let vel = (long_are n s.vel s.mask _ nine.1.0).0 in
      rw (eq-eqb (length s.vel) n vel, eq-eqb (length s.mask) n masks, eq-eqb (length b.memory.counts) n (ap length counts ∙ counts_long s (own_limits s) ∙ masks), eq-eqb (length a.memory.labels) n (labels_left s k.lent_map a k.map k.mapped), eq-eqb (length out) n k.long) refl

  counts_yes : counts_in_range (handed s a b) ≡ true
  unfolding seven counts_in_range count_passes
  counts_yes = all_true _ _ (λ g. rw counts (or_true (not (shows_wind (get_or s.mask g 0) (get_or a.memory.labels g 0))) _ (counts_within s (own_limits s) (omega (arith, masks, size)) nine.1.1.1.1.1.1.1.1.0 g)))
    where
      size : gates_in s ≤ gates_of_largest
      size = unfold gates_in in size_product s.shape.rays s.shape.gates (gates_in s) refl nine.0

      or_true : (x y : Bool) → y ≡ true → (x || y) ≡ true
      or_true true y h = refl
      or_true false y h = h

  none_missed : asked_velocity (handed s a b) (length out) ≡ none
  unfolding asked_velocity seven gates_in
  none_missed = all_none _ (nine.0, (lengths_yes, (nine.1.1.0, (nine.1.1.1.1.0, (nine.1.1.1.1.1.1.0, (counts_yes, tt))))))

pub never_refused : NeverRefused
never_refused s a b out w k = velocity_answer_is (handed s a b) out w k.velocity ∙ ap answer_of (none_missed s a b out w k)

pub wind_shown : GateShows
wind_shown s a b out w f k g h = record { shown = shown; region = region; wind = here; none = elsewhere }
  where
    m : ℕ
    m = get_or s.mask g 0

    l : ℕ
    l = get_or a.memory.labels g 0

    path : SharedIsPath s a g g
    path = shared_is_path s k.lent_map a f k.map k.mapped g g

    shown : shows_wind m l ≡ true → InRegion s g
    shown e = let p = path.shared (shows_label m l e) refl in (p.interval, p.inside.0)

    region : InRegion s g → shows_wind m l ≡ true
    region r = shows_both m l r.1.valid (path.path (record { interval = r.0; through = []; steps = tt; ends = refl; inside = (r.1, tt) })).0

    written : get_or w.unfolded g nan ≡ unfolded_at s.nyquist (get_or s.vel g nan) m (get_or b.memory.counts g (pos 0)) l
    written =
        ap (λ (x : List Float). get_or x g nan) (velocities_are (handed s a b) out w k.velocity (never_refused s a b out w k))
        ∙ (unfold velocities gates_in in tab_at _ (gates_in s) g nan h)

    here : InRegion s g → get_or w.unfolded g nan ≡ wind s.nyquist (get_or s.vel g nan) (get_or b.memory.counts g (pos 0))
    here r = written ∙ shown_at s.nyquist (get_or s.vel g nan) m (get_or b.memory.counts g (pos 0)) l (region r)

    elsewhere : (InRegion s g → ⊥) → get_or w.unfolded g nan ≡ real (pos 0)
    elsewhere r = written ∙ hidden_at s.nyquist (get_or s.vel g nan) m (get_or b.memory.counts g (pos 0)) l (hidden (shows_wind m l) refl)
      where
        hidden : (x : Bool) → shows_wind m l ≡ x → shows_wind m l ≡ false
        hidden true e = absurd (r (shown e))
        hidden false e = e

-- ---- where every valid gate has a label

-- tests that agree agree on all
all_same : (p q : ℕ → Bool) (n k : ℕ) → ((i : ℕ) → k ≤ i → i < n + k → p i ≡ q i) → all p (upto n k) ≡ all q (upto n k)
unfolding all upto
all_same p q zero k h = refl
all_same p q (suc n) k h = λ i. h k (omega arith) (omega arith) i && all_same p q n (suc k) (λ j a b. h j (omega arith) (omega arith)) i

module _ (u : Counted) (labelled : AllLabelled u) where
  -- a gate shows a wind if it is valid
  shows_same : (g : ℕ) → g < u.rays * u.gates → shows_wind (get_or u.mask g 0) (get_or u.labels g 0) ≡ eqb (get_or u.mask g 0) 1
  unfolding shows_wind
  shows_same g h = go (eqb (get_or u.mask g 0) 1) refl
    where
      go : (x : Bool) → eqb (get_or u.mask g 0) 1 ≡ x → (x && not (eqb (get_or u.labels g 0) 0)) ≡ x
      go true e = rw (ne_eqb (get_or u.labels g 0) 0 (labelled g h (eqb-true (get_or u.mask g 0) 1 e))) refl
      go false e = refl

pub all_labelled : LabelsPlayNoPart
unfolding velocities counts_in_range count_passes unfolded_at
all_labelled u labelled = record {
  velocities = tab_same _ _ (u.rays * u.gates) (λ g h. rw (shows_same u labelled g h) refl);
  counts = all_same _ _ (u.rays * u.gates) 0 (λ g p h. rw (shows_same u labelled g (omega arith)) refl);
}
