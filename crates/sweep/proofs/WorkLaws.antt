-- What a yes to questions 1 to 7 gives of the work memory, for any entry: the asked part of it, what region finding asks, and that part cleared. Assumes nothing.
use Rattle.std.proofs.Common.{◌≡◌, ℕ, zero, suc, ◌+◌, ◌*◌, ◌<◌, ◌≤◌, List, [], ◌∷◌, ◌++◌, length, take, drop, replicate, sym, refl, ap, ◌∙◌, mul-le-mul, arith}
use lib.Ieee.{Float}
use Rattle.memory.specs.Size.{gates_of_largest}
use Rattle.arithmetic.specs.declared.intervals.Plan.{Plan}
use Rattle.arithmetic.proofs.Plans.{no_nan}
use Rattle.network.specs.Inside.Find.{Limited}
use Rattle.network.specs.declared.options.Options.{Options}
use Rattle.sweep.specs.Sweep.{Sweep}
use Rattle.sweep.specs.Questions.{gates_in, words_for, floats_for}
use Rattle.sweep.specs.Call.{cleared}
use Rattle.sweep.specs.Entry.{sweep_by}
use Rattle.sweep.specs.Inside.Planning.{Fit}
use Rattle.sweep.specs.declared.questions.Room.{Room}
use Rattle.sweep.proofs.PassedLaws.{Passed}

-- as much as is lent of a work memory
pub length_taken : {A : Type 0} (k : ℕ) (w : List A) → k ≤ length w → length (take k w) ≡ k
length_taken zero w h = refl
length_taken (suc k) [] h = absurd (omega arith)
length_taken (suc k) (x ∷ w) h = ap suc (length_taken k w (omega arith))

-- k zeros, and what lies behind the first k words
pub cleared_is : {A : Type 0} (z : A) (k j : ℕ) (w rest m : List A) → k ≡ j → w ≡ replicate k z → rest ≡ drop k m → w ++ rest ≡ cleared z j m
unfolding cleared
cleared_is z k j w rest m e f g = (λ i. f i ++ g i) ∙ ap (λ (x : ℕ). replicate x z ++ drop x m) e

module _ (s : Sweep) (r : Room) (k : Passed s r) where
  product : s.shape.rays * s.shape.gates ≤ gates_of_largest
  product = mul-le-mul k.rays k.gates

  pub small : length s.vel ≤ gates_of_largest
  small = omega (arith, k.vel, product)

  pub words_room : 96 * length s.vel + 64 ≤ r.words
  words_room = omega (arith, k.vel, k.words)

  pub floats_room : 16 * length s.vel + 16 ≤ r.floats
  floats_room = omega (arith, k.vel, k.floats)

  -- the words asked for, by the velocities and by the size
  pub words_asked : 96 * length s.vel + 64 ≡ words_for (gates_in s)
  unfolding words_for gates_in
  words_asked = ap (λ (n : ℕ). 96 * n + 64) k.vel

  pub floats_asked : 16 * length s.vel + 16 ≡ floats_for (gates_in s)
  unfolding floats_for gates_in
  floats_asked = ap (λ (n : ℕ). 16 * n + 16) k.vel

  some_gates : 0 < length s.vel → 0 < s.shape.gates
  some_gates p = go s.shape.gates k.vel
    where
      go : (g : ℕ) → length s.vel ≡ s.shape.rays * g → 0 < g
      go zero e = absurd (omega (arith, e, p))
      go (suc g) e = omega arith

module _ (o : Options) (p : Plan) (vel : List Float) (mask : List ℕ) (r : Room) (k : Passed (sweep_by o vel mask) r) where
  pub label_asks : Fit o p → (words : ℕ) → words ≡ 96 * length vel + 64 → Limited o p vel mask words
  label_asks f words e = record {
    planned = record { sound = no_nan _ _ k.asked.low; few = f.few };
    rising = f.rising;
    masks = k.mask ∙ sym k.vel;
    small = small (sweep_by o vel mask) r k;
    some_gates = some_gates (sweep_by o vel mask) r k;
    room = omega (arith, e);
  }
