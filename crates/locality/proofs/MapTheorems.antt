-- What a caller of `jivakkol_region_map` may rely on, from its contract alone: the statements of RegionMap, proved. Assumes nothing.
use Prim.Native.Nat.{ℕ, ◌*◌, ◌<◌}
use native.Mathlib.Omega.{arith}
use mathlib.Core.Path.{◌≡◌, refl, sym, ap, ◌∙◌, subst}
use mathlib.Core.Logic.{◌⊎◌, ⊎_elim}
use mathlib.Core.Bool.{Bool, true, false, ◌&&◌}
use mathlib.Core.List.{List, [], ◌∷◌}
use mathlib.Core.Option.{Option, none, some}
use borrow.Author.Tests.{eq-eqb, le-leb, ltb-true}
use lib.Dec.{ltb}
use lib.ListN.{length, get_or}
use Rattle.lists.specs.Seq.{all}
use Rattle.arithmetic.specs.Inside.Asked.{Rising}
use Rattle.arithmetic.proofs.Rising.{sweep_limits_rise}
use Rattle.labels.specs.Label.{Found}
use Rattle.labels.proofs.RegionLaws.{labels_long, label_at_most, label_shown}
use Rattle.sweep.specs.Sweep.{Sweep, Unfolded, regions_of, early, network_of, ended, finished, unfolded_by, unfolded}
use Rattle.sweep.specs.Questions.{Lent, Question, ask, first_no, gates_in, words_for, floats_for, lengths_fit, work_suffices, room, limits_few, own_limits, seven, eight, eight_of, first_missed}
use Rattle.sweep.specs.Call.{Memory, Answer, lengths}
use Rattle.sweep.specs.Entry.{answer_of}
use Rattle.sweep.specs.declared.questions.Room.{Room}
use Rattle.sweep.proofs.QuestionLaws.{or_else, list_after, zero_none, no_meets, none_all, all_none}
use Rattle.sweep.proofs.PassedLaws.{Passed, passed, long_are, seven_of_eight}
use Rattle.sweep.proofs.PlanLaws.{limits_yes}
use Rattle.map.specs.Map.{MapMemory, MapAnswer, map_room, map_lent, asked_map, drawn}
use Rattle.map.proofs.MapLaws.{map_end, map_ends}
use Rattle.locality.specs.Theorems.{Called}
use Rattle.locality.specs.RegionMap.{Mapped, Single, SharedIsPath, SharedLabels, Numbered, LabelsNumbered, MapAnswerIs, MapRefusalKeeps, MapWorkCleared, Lends, MapAfterNine, PairAgrees}
use Rattle.locality.proofs.EntryTheorems.{answer_is, counts_are}
use Rattle.locality.proofs.MapPaths.{path_same, inside_labelled, walk, by_interval, by_first}

-- ---- the call by the first no
module _ (s : Sweep) (m : MapMemory) where
  abbrev found : Found
  found = regions_of s (own_limits s)

  number_ends : (o : Option ℕ) → (map_end s m o).number ≡ answer_of o
  unfolding drawn
  number_ends none = refl
  number_ends (some k) = refl

  keeps_ends : (o : Option ℕ) → 0 < (map_end s m o).number → (map_end s m o).memory ≡ m
  unfolding drawn
  keeps_ends none h = absurd (omega arith)
  keeps_ends (some k) h = refl

pub map_answer_is : MapAnswerIs
map_answer_is s m a c = ap (λ (x : MapAnswer). x.number) (c ∙ map_ends s m) ∙ number_ends s m (asked_map s m)

pub map_refusal_keeps : MapRefusalKeeps
map_refusal_keeps s m a c h =
    let e = c ∙ map_ends s m in
    ap (λ (x : MapAnswer). x.memory) e ∙ keeps_ends s m (asked_map s m) (rw (← e) h)

-- ---- a call that answers 0
module _ (s : Sweep) (m : MapMemory) (a : MapAnswer) (c : Mapped s m a) (h : a.number ≡ 0) where
  passes : asked_map s m ≡ none
  unfolding asked_map seven all
  passes = zero_none (eight s (map_lent (gates_in s) m)) refl (sym (map_answer_is s m a c) ∙ h)

  draws : a ≡ drawn (found s m) (gates_in s) m
  draws = c ∙ map_ends s m ∙ ap (map_end s m) passes

  known : Passed s (map_lent (gates_in s) m)
  unfolding asked_map
  known = passed s (map_lent (gates_in s) m) (seven_of_eight s (map_lent (gates_in s) m) passes)

  -- a label for each gate, whatever the floats
  pub labels_left : length a.memory.labels ≡ gates_in s
  unfolding drawn regions_of gates_in
  labels_left = ap (λ (x : MapAnswer). length x.memory.labels) draws ∙ labels_long s.shape.gates s.vel s.mask (own_limits s) ∙ known.mask

  rises : Single s → Rising (own_limits s)
  unfolding own_limits limits_few asked_map seven
  rises f = sweep_limits_rise s.nyquist s.splits s.vel s.mask f.nyquist f.velocities known.asked known.velocity_in_range
      (limits_yes _ (none_all (eight s (map_lent (gates_in s) m)) passes).1.1.1.1.1.1.1.0)

pub map_work_cleared : MapWorkCleared
unfolding drawn
map_work_cleared s m a c h = record { words = ap (λ (x : MapAnswer). x.memory.words) (draws s m a c h); floats = ap (λ (x : MapAnswer). x.memory.floats) (draws s m a c h) }

pub shared_is_path : SharedLabels
unfolding drawn regions_of
shared_is_path s m a f c h g k =
    let r = rises s m a c h f in
    subst (λ (x : MapAnswer). SharedIsPath s x g k) (sym (draws s m a c h)) (record {
      shared = λ p e. let w = walk s r g k p e in record { interval = w.0; through = w.1.through; steps = w.1.steps; ends = w.1.ends; inside = w.1.inside };
      path = λ p. (inside_labelled s r p.interval g p.inside.0, path_same s r p.interval g p.through p.steps p.inside ∙ ap (λ (i : ℕ). get_or (found s m).labels i 0) p.ends);
    })

pub labels_numbered : LabelsNumbered
unfolding drawn regions_of gates_in
labels_numbered s m a f c h =
    let r = rises s m a c h f in
    let n : length s.mask ≡ s.shape.rays * s.shape.gates = (known s m a c h).mask in
    subst (Numbered s) (sym (draws s m a c h)) (record {
      number = (found s m).number;
      written = refl;
      long = labels_long s.shape.gates s.vel s.mask (own_limits s) ∙ n;
      most = label_at_most s.shape.gates s.vel s.mask (own_limits s) r;
      used = λ j p l. let t = label_shown s.shape.gates s.vel s.mask (own_limits s) r j p l in (t.0, subst (λ (x : ℕ). t.0 < x) n t.1, t.2);
      intervals = by_interval s r;
      firsts = by_first s r;
    })

-- ---- beside the sweep entry

-- the regions of a sweep's outcome are those found
module _ (s : Sweep) (f : Found) where
  abbrev unfolded_if : Bool → Unfolded
  unfolded_if b = elim b [ true ↦ ended s f | false ↦ finished s f (network_of s f) ]

  if_regions : (b : Bool) → (unfolded_if b).regions ≡ f.number
  unfolding ended finished
  if_regions true = refl
  if_regions false = refl

  regions_are : (unfolded_by s f).regions ≡ f.number
  unfolding unfolded_by
  regions_are = if_regions (early s f)

pub same_number : PairAgrees
unfolding drawn unfolded
same_number s m a n b c d h k = record {
  regions = (found s m).number;
  merges = length (unfolded s (own_limits s)).merges;
  map = ap (λ (x : MapAnswer). x.memory.regions) (draws s m a c h);
  pair = (counts_are s n b d k).pair ∙ ap (λ (r : ℕ). r ∷ length (unfolded s (own_limits s)).merges ∷ []) (regions_are s (regions_of s (own_limits s)));
}

-- the number of a no to one of questions 1 to 8 is neither 0 nor 9
eight_numbers : (s : Sweep) (l : Lent) (k : ℕ) → first_no (eight_of s l) ≡ some k → (0 < k) × (k < 9)
unfolding seven all
eight_numbers s l k e = (ltb-true 0 k (no_meets (ltb 0) (eight_of s l) k refl e), ltb-true k 9 (no_meets (λ j. ltb j 9) (eight_of s l) k refl e))

-- so an answer of 0 or 9 comes after a yes to all eight
eight_yes : (s : Sweep) (n : Memory) (b : Answer) → Called s n b → (b.number ≡ 0) ⊎ (b.number ≡ 9) → first_no (eight_of s (lengths n)) ≡ none
unfolding first_missed
eight_yes s n b d h = go (first_no (eight_of s (lengths n))) refl (sym (answer_is s n b d ∙ ap answer_of (list_after (eight_of s (lengths n)) nine)))
  where
    nine : List Question
    nine = ask 9 (unfolded s (own_limits s)).merges_in_range ∷ []

    go : (o : Option ℕ) → first_no (eight_of s (lengths n)) ≡ o → answer_of (or_else o (first_no nine)) ≡ b.number → first_no (eight_of s (lengths n)) ≡ none
    go none e t = e
    go (some k) e t = let p = eight_numbers s (lengths n) k e in absurd (⊎_elim (λ z. not_0 p.0 (t ∙ z)) (λ z. not_9 p.1 (t ∙ z)) h)
      where
        not_0 : 0 < k → k ≡ 0 → ⊥
        not_0 p z = omega arith

        not_9 : k < 9 → k ≡ 9 → ⊥
        not_9 p z = omega arith

-- questions 1 to 8 put again with other memory lent, enough of it
module _ (s : Sweep) (r q : Room) (own : q.own ≡ true) (enough : work_suffices (gates_in s) q ≡ true) where
  own_fits : lengths_fit (gates_in s) s.vel s.mask r.own ≡ true → lengths_fit (gates_in s) s.vel s.mask q.own ≡ true
  unfolding lengths_fit
  own_fits h =
      let p = long_are (gates_in s) s.vel s.mask r.own h in
      (λ i. eq-eqb (length s.vel) (gates_in s) p.0 i && eq-eqb (length s.mask) (gates_in s) p.1 i && own i)

  eight_again : first_no (eight s r) ≡ none → first_no (eight s q) ≡ none
  unfolding seven
  eight_again h =
      let y = none_all (eight s r) h in
      all_none (eight s q) (y.0, (own_fits y.1.0, (y.1.1.0, (enough, y.1.1.1.1))))

module _ (s : Sweep) (m : MapMemory) (d : Lends s m) where
  own_yes : (map_lent (gates_in s) m).own ≡ true
  unfolding map_lent map_room
  own_yes = (λ i. eq-eqb (length m.labels) (gates_in s) d.labels i && eq-eqb (length m.regions) 1 d.regions i)

  work_yes : work_suffices (gates_in s) (map_lent (gates_in s) m) ≡ true
  unfolding work_suffices map_lent map_room
  work_yes = (λ i. le-leb (words_for (gates_in s)) (length m.words) d.words i && le-leb (floats_for (gates_in s)) (length m.floats) d.floats i)

pub map_after_nine : MapAfterNine
unfolding asked_map
map_after_nine s m a n b c e h d =
    map_answer_is s m a c
    ∙ ap answer_of (eight_again s (room (gates_in s) (lengths n)) (map_lent (gates_in s) m) (own_yes s m d) (work_yes s m d) (eight_yes s n b e h))
