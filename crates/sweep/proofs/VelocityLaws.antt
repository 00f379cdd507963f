-- The second entry: one turn of the loop over its gates, its own questions, and its call. Assumes nothing.
use Rattle.std.proofs.Common.{◌≡◌, ℕ, ◌+◌, ◌*◌, ◌<◌, ◌≤◌, Bool, true, false, ◌&&◌, eqb, List, [], ◌∷◌, ◌++◌, length, get_or, drop, set, ℤ, pos, negsuc, sym, refl, ap, ◌∙◌, true≢false, append-nil, arith, drop_of_length-le, w32, SFits, to_z, of_z, le-ltb, lt-ltb, leb-false, leb-true}
use mathlib.Core.Option.{none, some}
use lib.Signed.{le_z}
use mir.ValLaws.{to_z-of_z}
use lib.Ieee.{Float, nan}
use Rattle.lists.specs.Seq.{upto, all, tabulate}
use Rattle.arithmetic.specs.Rounding.{real}
use Rattle.arithmetic.specs.Inside.Asked.{front}
use Rattle.lists.proofs.SeqLaws.{tab_length, tab_snoc}
use Rattle.arithmetic.proofs.IntervalLaws.{front_more, front_none}
use Rattle.network.specs.Network.{bounded}
use Rattle.sweep.specs.Questions.{ask, first_no, lengths_fit, velocities_in_range}
use Rattle.sweep.specs.Entry.{answer_of}
use Rattle.sweep.specs.Velocity.{Counted, wind, shows_wind, unfolded_at, velocities, own_long, counts_in_range, asked_velocity, call_velocity}
use Rattle.sweep.specs.Inside.Gates.{gates_asked}
use Rattle.sweep.proofs.QuestionLaws.{zero_none, all_yes}
use Rattle.sweep.proofs.PassedLaws.{long_are, three_are}
use Rattle.sweep.proofs.GateLaws.{count_test}

-- a gate's unfolded velocity
abbrev pub gate_velocity : Counted → ℕ → Float
gate_velocity u g = unfolded_at u.nyquist (get_or u.vel g nan) (get_or u.mask g 0) (get_or u.counts g (pos 0)) (get_or u.labels g 0)

-- at a gate that shows a wind it is the wind, at any other 0
pub shown_at : (nyq v : Float) (m : ℕ) (c : ℤ) (l : ℕ) → shows_wind m l ≡ true → unfolded_at nyq v m c l ≡ wind nyq v c
unfolding unfolded_at
shown_at nyq v m c l h = rw h refl

pub hidden_at : (nyq v : Float) (m : ℕ) (c : ℤ) (l : ℕ) → shows_wind m l ≡ false → unfolded_at nyq v m c l ≡ real (pos 0)
unfolding unfolded_at
hidden_at nyq v m c l h = rw h refl

-- ---- velocities at the front of what is written

module _ (f : ℕ → Float) (w : List Float) where
  pub written_none : w ≡ front (tabulate 0 f) w
  unfolding tabulate upto
  written_none = sym (front_none w)

  pub written_more : (out : List Float) (v : Float) (i : ℕ) → i < length w → out ≡ front (tabulate i f) w → v ≡ f i → set out i v ≡ front (tabulate (i + 1) f) w
  written_more out v i h e g =
      (λ j. set (e j) i (g j))
      ∙ front_more (tabulate i f) w (f i) i (tab_length f i) h
      ∙ ap (λ (l : List Float). front l w) (sym (tab_snoc f i))

  pub written_all : (out : List Float) (i : ℕ) → i ≡ length w → out ≡ front (tabulate i f) w → out ≡ tabulate (length w) f
  unfolding front
  written_all out i h e =
      e
      ∙ ap (λ (k : ℕ). tabulate k f ++ drop (length (tabulate k f)) w) h
      ∙ ap (λ (l : List Float). tabulate (length w) f ++ l) (drop_of_length-le w (past (length w) (length (tabulate (length w) f)) (tab_length f (length w))))
      ∙ append-nil (tabulate (length w) f)
    where
      past : (a b : ℕ) → b ≡ a → a ≤ b
      past a b e = omega arith

-- ---- a count from -2,000 to 2,000

module _ (z : ℤ) (f : SFits w32 z) where
  pub bounded_above : le_z (negsuc 1999) (to_z w32 (of_z w32 z)) ≡ true → le_z (to_z w32 (of_z w32 z)) (pos 2000) ≡ bounded 2000 z
  unfolding bounded
  bounded_above h = rw (to_z-of_z w32 z f) (go z (rw (to_z-of_z w32 z f) at h))
    where
      go : (z : ℤ) → le_z (negsuc 1999) z ≡ true → le_z z (pos 2000) ≡ bounded 2000 z
      go (pos n) h = refl
      go (negsuc n) h = let k : n ≤ 1999 = leb-true n 1999 h in sym (lt-ltb n 2000 (omega arith))

  pub bounded_below : le_z (negsuc 1999) (to_z w32 (of_z w32 z)) ≡ false → le_z (negsuc 1999) (to_z w32 (of_z w32 z)) ≡ bounded 2000 z
  unfolding bounded
  bounded_below h = h ∙ go z (rw (to_z-of_z w32 z f) at h)
    where
      go : (z : ℤ) → le_z (negsuc 1999) z ≡ false → false ≡ bounded 2000 z
      go (pos n) h = absurd (true≢false h)
      go (negsuc n) h = let k : 1999 < n = leb-false n 1999 h in sym (le-ltb n 2000 (omega arith))

-- ---- the questions and the call

-- questions 7 and 10, put gate by gate
pub gates_are : (u : Counted) → length u.vel ≡ u.rays * u.gates → gates_asked u.vel u.mask u.counts u.labels ≡ first_no (ask 7 (velocities_in_range u.vel u.mask) ∷ ask 10 (counts_in_range u) ∷ [])
unfolding gates_asked counts_in_range
gates_are u b = ap (λ (j : ℕ). first_no (ask 7 (velocities_in_range u.vel u.mask) ∷ ask 10 (all (count_test u.mask u.counts u.labels) (upto j 0)) ∷ [])) b

module _ (u : Counted) (k : ℕ) where
  -- the code's own question 2, n being its product
  pub length_is : (r own : Bool) (n : ℕ) → r ≡ lengths_fit n u.vel u.mask own → own ≡ (eqb (length u.counts) n && eqb (length u.labels) n && eqb k n) → n ≡ u.rays * u.gates
      → r ≡ lengths_fit (u.rays * u.gates) u.vel u.mask (own_long u k)
  unfolding own_long
  length_is r own n h g e =
      h
      ∙ ap (lengths_fit n u.vel u.mask) g
      ∙ ap (λ (j : ℕ). lengths_fit j u.vel u.mask (eqb (length u.counts) j && eqb (length u.labels) j && eqb k j)) e

  pub record Long : Type 0 where
    pub vel : length u.vel ≡ u.rays * u.gates
    pub mask : length u.mask ≡ u.rays * u.gates
    pub counts : length u.counts ≡ u.rays * u.gates
    pub labels : length u.labels ≡ u.rays * u.gates
    pub written : k ≡ u.rays * u.gates

  pub lengths : lengths_fit (u.rays * u.gates) u.vel u.mask (own_long u k) ≡ true → Long
  unfolding own_long
  lengths h =
      let n = u.rays * u.gates in
      let q = long_are n u.vel u.mask (own_long u k) h in
      let l = three_are (length u.counts) n (length u.labels) n k n q.2 in
      record { vel = q.0; mask = q.1; counts = l.0; labels = l.1; written = l.2 }

  -- no question has the number 0
  pub none_missed : (r : ℕ) → r ≡ answer_of (asked_velocity u k) → r ≡ 0 → asked_velocity u k ≡ none
  unfolding asked_velocity all
  none_missed r e h = zero_none _ refl (sym e ∙ h)

  pub all_long : asked_velocity u k ≡ none → Long
  unfolding asked_velocity
  all_long h = lengths (all_yes _ _ (all_yes _ _ h).1).0

module _ (u : Counted) (out : List Float) where
  pub velocity_refused : (k : ℕ) → asked_velocity u (length out) ≡ some k → record { number = k; unfolded = out } ≡ call_velocity u out
  unfolding call_velocity
  velocity_refused k h = rw (h, call_velocity) refl

  -- the velocities that the loop writes
  abbrev unfolded_gates : ℕ → List Float
  unfolded_gates m = tabulate m (gate_velocity u)

  pub unfolds : (w : List Float) → asked_velocity u (length out) ≡ none → w ≡ unfolded_gates (length out) → record { number = 0; unfolded = w } ≡ call_velocity u out
  unfolding call_velocity velocities
  unfolds w h e = rw (h, call_velocity) (λ i. record { number = 0; unfolded = (e ∙ ap unfolded_gates (all_long u (length out) h).written) i })
