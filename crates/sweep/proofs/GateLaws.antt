-- The second entry's questions 7 and 10, put gate by gate: one gate's number, and one turn of the loop. Assumes nothing.
use Rattle.std.proofs.Common.{◌≡◌, ℕ, suc, ◌+◌, ◌-◌, ◌<◌, ◌≤◌, Bool, true, false, cond, not, ◌&&◌, ◌||◌, eqb, List, [], ◌∷◌, length, get_or, drop, ℤ, pos, sym, refl, ap, ◌∙◌, add-one, arith}
use mathlib.Core.Option.{Option, none, some, none-ne-some}
use lib.Ieee.{Float, nan}
use Rattle.lists.specs.Seq.{upto, all}
use Rattle.arithmetic.specs.Intervals.{velocity_in_range}
use Rattle.network.specs.Network.{bounded}
use Rattle.sweep.specs.Questions.{ask, first_no, velocities_in_range}
use Rattle.sweep.specs.Entry.{answer_of}
use Rattle.sweep.specs.Velocity.{shows_wind, count_passes}
use Rattle.sweep.specs.Inside.Gates.{velocity_passes, gates_asked}
use Rattle.sweep.proofs.QuestionLaws.{no, speed_turn, speed_end}

-- ---- one gate

module _ (m : ℕ) (c : ℤ) (l : ℕ) where
  pub passes_shown : shows_wind m l ≡ true → count_passes m c l ≡ bounded 2000 c
  unfolding count_passes
  passes_shown h = rw h refl

-- what an answer r to the questions of one gate says of them
module _ (r : Option ℕ) (a b : Bool) (e : r ≡ first_no (ask 7 a ∷ ask 10 b ∷ [])) where
  pub none_yes : r ≡ none → (a ≡ true) × (b ≡ true)
  none_yes h = go a b (sym h ∙ e)
    where
      go : (a b : Bool) → none ≡ first_no (ask 7 a ∷ ask 10 b ∷ []) → (a ≡ true) × (b ≡ true)
      go true true q = (refl, refl)
      go true false q = unfold first_no in absurd (none-ne-some 10 q)
      go false b q = unfold first_no in absurd (none-ne-some 7 q)

  pub seven_no : r ≡ some 7 → a ≡ false
  seven_no h = go a b (sym h ∙ e)
    where
      go : (a b : Bool) → some 7 ≡ first_no (ask 7 a ∷ ask 10 b ∷ []) → a ≡ false
      go false b q = refl
      go true false q = unfold first_no in absurd (omega (arith, ap (λ o. answer_of o) q))
      go true true q = unfold first_no in absurd (none-ne-some 7 (sym q))

  pub ten_no : (k : ℕ) → r ≡ some k → (k ≡ 7 → ⊥) → (a ≡ true) × (b ≡ false) × (k ≡ 10)
  ten_no k h n = go a b (sym h ∙ e)
    where
      go : (a b : Bool) → some k ≡ first_no (ask 7 a ∷ ask 10 b ∷ []) → (a ≡ true) × (b ≡ false) × (k ≡ 10)
      go false b q = unfold first_no in absurd (n (ap answer_of q))
      go true false q = unfold first_no in (refl, refl, ap answer_of q)
      go true true q = unfold first_no in absurd (none-ne-some k (sym q))

-- ---- the gates from i on

-- question 10 of gate g
abbrev pub count_test : List ℕ → List ℤ → List ℕ → ℕ → Bool
count_test ms cs ls g = count_passes (get_or ms g 0) (get_or cs g (pos 0)) (get_or ls g 0)

-- both questions of the gates from i on, ten being whether question 10 got a yes at each gate before them
abbrev pub rest_asked : List Float → List ℕ → List ℤ → List ℕ → Bool → ℕ → Option ℕ
rest_asked vs ms cs ls ten i = first_no (ask 7 (velocities_in_range (drop i vs) (drop i ms)) ∷ ask 10 (ten && all (count_test ms cs ls) (upto (length vs - i) i)) ∷ [])

module _ (vs : List Float) (ms : List ℕ) (cs : List ℤ) (ls : List ℕ) where
  -- before the first gate, and after the last
  pub rest_begins : gates_asked vs ms cs ls ≡ rest_asked vs ms cs ls true 0
  unfolding gates_asked
  rest_begins = ap (λ (k : ℕ). first_no (ask 7 (velocities_in_range vs ms) ∷ ask 10 (all (count_test ms cs ls) (upto k 0)) ∷ [])) (omega arith)

  module _ (ten : Bool) (i : ℕ) (same : length ms ≡ length vs) where
    pub rest_ends : length vs ≤ i → rest_asked vs ms cs ls ten i ≡ first_no (ask 10 ten ∷ [])
    unfolding all upto first_no
    rest_ends h = let z : length vs - i ≡ 0 = omega arith in rw (z, speed_end vs ms i same h) (go ten)
      where
        go : (b : Bool) → first_no (ask 10 (b && true) ∷ []) ≡ first_no (ask 10 b ∷ [])
        go true = refl
        go false = refl

    -- gate i
    module _ (h : i < length vs) where
      -- its questions 7 and 10
      abbrev pub seven_here : Bool
      seven_here = velocity_passes (get_or vs i nan) (get_or ms i 0)

      abbrev pub ten_here : Bool
      ten_here = count_test ms cs ls i

      -- either question of the gates from i on is that of gate i and that of the rest
      speeds : velocities_in_range (drop i vs) (drop i ms) ≡ (seven_here && velocities_in_range (drop (i + 1) vs) (drop (i + 1) ms))
      unfolding velocity_passes
      speeds = speed_turn vs ms i same h ∙ go (eqb (get_or ms i 0) 1) (velocity_in_range (get_or vs i nan)) (velocities_in_range (drop (i + 1) vs) (drop (i + 1) ms))
        where
          go : (x y z : Bool) → cond x (y && z) z ≡ ((not x || y) && z)
          go true y z = refl
          go false y z = refl

      counts : all (count_test ms cs ls) (upto (length vs - i) i) ≡ (ten_here && all (count_test ms cs ls) (upto (length vs - (i + 1)) (i + 1)))
      unfolding all upto
      counts =
          let z : length vs - i ≡ suc (length vs - (i + 1)) = omega arith in
          ap (λ (k : ℕ). all (count_test ms cs ls) (upto k i)) z ∙ ap (λ (k : ℕ). ten_here && all (count_test ms cs ls) (upto (length vs - (i + 1)) k)) (sym (add-one i))

      speeds_on : seven_here ≡ true → velocities_in_range (drop i vs) (drop i ms) ≡ velocities_in_range (drop (i + 1) vs) (drop (i + 1) ms)
      speeds_on k = speeds ∙ ap (λ (x : Bool). x && velocities_in_range (drop (i + 1) vs) (drop (i + 1) ms)) k

      -- a no to question 7 ends it
      pub turn_seven : seven_here ≡ false → rest_asked vs ms cs ls ten i ≡ some 7
      turn_seven k = no _ _ (speeds ∙ ap (λ (x : Bool). x && velocities_in_range (drop (i + 1) vs) (drop (i + 1) ms)) k)

      -- a no to question 10 is remembered
      pub turn_ten : (seven_here ≡ true) × (ten_here ≡ false) → rest_asked vs ms cs ls ten i ≡ rest_asked vs ms cs ls false (i + 1)
      turn_ten k = rw (speeds_on k.0, counts, k.1) (ap (λ (x : Bool). first_no (ask 7 (velocities_in_range (drop (i + 1) vs) (drop (i + 1) ms)) ∷ ask 10 x ∷ [])) (go ten))
        where
          go : (x : Bool) → (x && false) ≡ false
          go true = refl
          go false = refl

      -- a gate without a no changes nothing
      pub turn_on : (seven_here ≡ true) × (ten_here ≡ true) → rest_asked vs ms cs ls ten i ≡ rest_asked vs ms cs ls ten (i + 1)
      turn_on k = rw (speeds_on k.0, counts, k.1) refl
