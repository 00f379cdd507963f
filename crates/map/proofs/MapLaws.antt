-- The call of the region map by the answer of questions 1 to 8, and over plain memory. Assumes nothing.
use Prim.Native.Nat.{ℕ, ◌+◌, ◌*◌, ◌≤◌, ◌<◌}
use native.Mathlib.Omega.{arith}
use mathlib.Core.Path.{◌≡◌, refl, sym, ap, ◌∙◌}
use mathlib.Core.List.{List, [], ◌∷◌, ◌++◌}
use mathlib.Core.Option.{Option, none, some}
use lib.IntN.{pos}
use lib.ListN.{length, get_or, set, drop, replicate}
use lib.Ieee.{Float}
use Rattle.lists.specs.Inside.Seg.{seg, put}
use Rattle.lists.proofs.SegLaws.{length-put, length-seg, put_snoc, put_nil, seg_snoc, seg_all, seg-put_same}
use Rattle.memory.specs.Size.{gates_of_largest}
use Rattle.arithmetic.specs.Rounding.{real}
use Rattle.arithmetic.specs.Intervals.{limits_of}
use Rattle.arithmetic.specs.declared.intervals.Plan.{Plan}
use Rattle.labels.specs.Label.{Found}
use Rattle.network.specs.Inside.Find.{Limited}
use Rattle.network.specs.declared.options.Options.{Options}
use Rattle.sweep.specs.Sweep.{Sweep, regions_of}
use Rattle.sweep.specs.Questions.{first_no, seven, gates_in, words_for, floats_for, own_limits}
use Rattle.sweep.specs.Entry.{sweep_by}
use Rattle.sweep.specs.Inside.Planning.{own_plan, Fit}
use Rattle.sweep.specs.declared.questions.Room.{Room}
use Rattle.sweep.proofs.PassedLaws.{Passed, passed, two_are}
use Rattle.sweep.proofs.PlanLaws.{limits_are}
use Rattle.sweep.proofs.WorkLaws as Work
use Rattle.map.specs.Map.{MapMemory, MapAnswer, map_answer_by, map_room, map_lent, asked_map, drawn, call_map}

-- ---- the first words of w copied over labels l₀, word by word
module _ (w l₀ : List ℕ) where
  pub copy_begin : l₀ ≡ put l₀ 0 (seg w 0 0)
  unfolding seg
  copy_begin = sym (put_nil l₀ 0)

  pub copy_on : (l : List ℕ) (g : ℕ) → l ≡ put l₀ 0 (seg w 0 g) → g < length w → set l g (get_or w g 0) ≡ put l₀ 0 (seg w 0 (g + 1))
  copy_on l g e h =
      ap (λ (x : List ℕ). set x g (get_or w g 0)) e
      ∙ ap (λ (j : ℕ). set (put l₀ 0 (seg w 0 g)) j (get_or w g 0)) {x = g} {y = 0 + length (seg w 0 g)} (omega (arith, length-seg w 0 g (omega arith)))
      ∙ put_snoc l₀ 0 (seg w 0 g) (get_or w g 0)
      ∙ ap (λ (x : ℕ). put l₀ 0 (seg w 0 g ++ (x ∷ []))) (ap (λ (j : ℕ). get_or w j 0) {x = g} {y = 0 + g} (omega arith))
      ∙ ap (put l₀ 0) (sym (seg_snoc w 0 g 0 (omega arith)))

  pub copy_all : (l : List ℕ) (g n : ℕ) → l ≡ put l₀ 0 (seg w 0 g) → g ≡ n → length l₀ ≡ n → n ≤ length w → l ≡ seg w 0 n
  copy_all l g n e q k h =
      let long : length (seg w 0 n) ≡ n = length-seg w 0 n (omega arith) in
      e ∙ ap (λ (j : ℕ). put l₀ 0 (seg w 0 j)) q
      ∙ sym (seg_all (put l₀ 0 (seg w 0 n)) (length (seg w 0 n)) (length-put l₀ 0 (seg w 0 n) ∙ k ∙ sym long))
      ∙ seg-put_same l₀ 0 (seg w 0 n) (omega arith)

module _ (s : Sweep) (m : MapMemory) where
  -- the call's end by the first no
  abbrev pub map_end : Option ℕ → MapAnswer
  map_end o = elim o [ none ↦ drawn (regions_of s (own_limits s)) (gates_in s) m | some k ↦ record { number = k; memory = m } ]

  pub map_ends : call_map s m ≡ map_end (asked_map s m)
  unfolding call_map
  map_ends = refl

  pub map_missed : (k : ℕ) → asked_map s m ≡ some k → ◌≡◌ {A = MapAnswer} (record { number = k; memory = m }) (call_map s m)
  map_missed k e = sym (map_ends ∙ ap map_end e)

  pub map_goes_on : (p : Plan) → p ≡ own_plan s → asked_map s m ≡ none → drawn (regions_of s (limits_of s.nyquist s.splits p.add_start p.add_end p.number)) (gates_in s) m ≡ call_map s m
  map_goes_on p e h = ap (λ (x : List Float). drawn (regions_of s x) (gates_in s) m) (limits_are s p e) ∙ sym (map_ends ∙ ap map_end h)

-- ---- once questions 1 to 7 have got a yes
module _ (s : Sweep) (m : MapMemory) (h : first_no (seven s (map_lent (gates_in s) m)) ≡ none) where
  abbrev lent_room : Room
  lent_room = map_lent (gates_in s) m

  known : Passed s lent_room
  known = passed s lent_room h

  pub map_small : length s.vel ≤ gates_of_largest
  map_small = Work.small s lent_room known

  pub map_words : 96 * length s.vel + 64 ≤ length m.words
  unfolding map_lent map_room
  map_words = Work.words_room s lent_room known

  pub map_floats : 16 * length s.vel + 16 ≤ length m.floats
  unfolding map_lent map_room
  map_floats = Work.floats_room s lent_room known

  pub map_long : (length m.labels ≡ length s.vel) × (length m.regions ≡ 1)
  unfolding map_lent map_room gates_in
  map_long =
      let q = two_are (length m.labels) (gates_in s) (length m.regions) 1 known.own in
      (q.0 ∙ sym known.vel, q.1)

-- just as much of the work memory as is asked for
module _ (o : Options) (p : Plan) (vel : List Float) (mask : List ℕ) (m : MapMemory) (h : first_no (seven (sweep_by o vel mask) (map_lent (gates_in (sweep_by o vel mask)) m)) ≡ none) where
  abbrev s : Sweep
  s = sweep_by o vel mask

  pub map_asks : Fit o p → (words : ℕ) → words ≡ 96 * length vel + 64 → Limited o p vel mask words
  map_asks = Work.label_asks o p vel mask (lent_room s m h) (known s m h)

  pub drawn_is : (f : Found) (ls k w : List ℕ) (d : List Float) (lw ld : ℕ) → ls ≡ f.labels → k ≡ f.number ∷ [] → w ≡ replicate lw 0 → d ≡ replicate ld (real (pos 0))
      → lw ≡ 96 * length vel + 64 → ld ≡ 16 * length vel + 16
      → (W : List ℕ) (D : List Float) → W ≡ drop (96 * length vel + 64) m.words → D ≡ drop (16 * length vel + 16) m.floats
      → map_answer_by 0 ls k (w ++ W) (d ++ D) ≡ drawn f (gates_in s) m
  unfolding drawn
  drawn_is f ls k w d lw ld el ek ew ed e₁ e₂ W D eW eD =
      let q = known s m h in
      let cw = Work.cleared_is 0 (96 * length vel + 64) (words_for (gates_in s)) w W m.words (Work.words_asked s (lent_room s m h) q) (ew ∙ ap (λ (n : ℕ). replicate n 0) e₁) eW in
      let cd = Work.cleared_is (real (pos 0)) (16 * length vel + 16) (floats_for (gates_in s)) d D m.floats (Work.floats_asked s (lent_room s m h) q) (ed ∙ ap (λ (n : ℕ). replicate n (real (pos 0))) e₂) eD in
      (λ i. map_answer_by 0 (el i) (ek i) (cw i) (cd i))
