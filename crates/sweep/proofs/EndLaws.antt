-- From questions 1 to 7 to what solving asks, and from its end to the end of the call. Assumes nothing.
use Rattle.std.proofs.Common.{◌≡◌, ℕ, ◌+◌, ◌*◌, ◌≤◌, List, ◌++◌, length, drop, replicate, pos, sym, refl, ap, ◌∙◌, arith}
use mathlib.Core.Option.{none}
use lib.Ieee.{Float}
use Rattle.memory.specs.Size.{gates_of_largest}
use Rattle.arithmetic.specs.Rounding.{real}
use Rattle.arithmetic.specs.declared.intervals.Plan.{Plan}
use Rattle.network.specs.Inside.Find.{Finds}
use Rattle.network.specs.declared.options.Options.{Options}
use Rattle.sweep.specs.Sweep.{Sweep}
use Rattle.sweep.specs.Questions.{Outcome, refused, accepted, first_no, room, seven_of, gates_in, words_for, floats_for}
use Rattle.sweep.specs.Call.{Memory, Answer, memory_of, answer_by, lengths, cleared_for, ending}
use Rattle.sweep.specs.Entry.{sweep_by}
use Rattle.sweep.specs.Inside.Finish.{all_zero}
use Rattle.sweep.specs.Inside.Planning.{Fit}
use Rattle.sweep.specs.declared.questions.Room.{Room}
use Rattle.sweep.proofs.PassedLaws.{Passed, passed, three_are}
use Rattle.sweep.proofs.WorkLaws as Work

-- an answer with more words behind those of its memory
abbrev behind : List ℕ → List Float → Answer → Answer
behind W D x = answer_by x.number x.memory.counts x.memory.doubtful x.memory.pair (x.memory.words ++ W) (x.memory.floats ++ D)

end_behind : (o : Outcome) (m : Memory) (W : List ℕ) (D : List Float) → behind W D (ending o m) ≡ ending o (memory_of m.counts m.doubtful m.pair (m.words ++ W) (m.floats ++ D))
unfolding ending
end_behind (refused k) m W D = refl
end_behind (accepted c x r k) m W D = refl

-- a sweep and memory whose questions 1 to 7 got a yes
module _ (s : Sweep) (m : Memory) (h : first_no (seven_of s (lengths m)) ≡ none) where
  abbrev lent_room : Room
  lent_room = room (gates_in s) (lengths m)

  known : Passed s lent_room
  known = passed s lent_room h

  pub small : length s.vel ≤ gates_of_largest
  small = Work.small s lent_room known

  pub words_room : 96 * length s.vel + 64 ≤ length m.words
  unfolding room lengths
  words_room = Work.words_room s lent_room known

  pub floats_room : 16 * length s.vel + 16 ≤ length m.floats
  unfolding room lengths
  floats_room = Work.floats_room s lent_room known

-- just as much of the work memory as is asked for
module _ (o : Options) (p : Plan) (vel : List Float) (mask : List ℕ) (m : Memory) (h : first_no (seven_of (sweep_by o vel mask) (lengths m)) ≡ none) where
  abbrev s : Sweep
  s = sweep_by o vel mask

  pub finds_ask : Fit o p → (w : List ℕ) (d : List Float) → length w ≡ 96 * length vel + 64 → length d ≡ 16 * length vel + 16 → Finds o p vel mask w d
  finds_ask f w d ew ed = record {
    limited = Work.label_asks o p vel mask (lent_room s m h) (known s m h) f (length w) ew;
    whole = (known s m h).vel;
    words = omega (arith, ew);
    floats = omega (arith, ed);
  }

  pub outputs : (length m.counts ≡ length vel) × (length m.doubtful ≡ length vel) × (length m.pair ≡ 2)
  unfolding room lengths gates_in
  outputs =
      let q = three_are (length m.counts) (gates_in s) (length m.doubtful) (gates_in s) (length m.pair) 2 (known s m h).own in
      (q.0 ∙ sym (known s m h).vel, q.1 ∙ sym (known s m h).vel, q.2)

  -- by whatever outcome
  pub solved_ends : (y : Outcome) (w : List ℕ) (d : List Float) → length w ≡ 96 * length vel + 64 → length d ≡ 16 * length vel + 16 → (x : Answer)
      → x ≡ ending y (all_zero (memory_of m.counts m.doubtful m.pair w d))
      → (W : List ℕ) (D : List Float) → W ≡ drop (96 * length vel + 64) m.words → D ≡ drop (16 * length vel + 16) m.floats
      → behind W D x ≡ ending y (cleared_for (gates_in s) m)
  unfolding cleared_for
  solved_ends y w d ew ed x e W D eW eD =
      let cw = Work.cleared_is 0 (96 * length vel + 64) (words_for (gates_in s)) (replicate (length w) 0) W m.words (Work.words_asked s (lent_room s m h) (known s m h)) (ap (λ (n : ℕ). replicate n 0) ew) eW in
      let cd = Work.cleared_is (real (pos 0)) (16 * length vel + 16) (floats_for (gates_in s)) (replicate (length d) (real (pos 0))) D m.floats (Work.floats_asked s (lent_room s m h) (known s m h)) (ap (λ (n : ℕ). replicate n (real (pos 0))) ed) eD in
      ap (behind W D) e
      ∙ end_behind y (all_zero (memory_of m.counts m.doubtful m.pair w d)) W D
      ∙ (λ i. ending y (memory_of m.counts m.doubtful m.pair (cw i) (cd i)))
