-- Questions 1 to 7: what each yes gives, what a yes to all seven gives, and question 8 after them. Assumes nothing.
use Rattle.std.proofs.Common.{◌≡◌, ℕ, ◌+◌, ◌*◌, ◌≤◌, Bool, true, false, ◌&&◌, T, eqb, leb, List, [], ◌∷◌, length, pos, negsuc, sym, refl, ap, ◌∙◌, mul-le-mul, arith, eqb-true, leb-true}
use mathlib.Core.Option.{Option, none, some}
use lib.Ieee.{Float, fin, le}
use Rattle.memory.specs.Size.{largest, gates_of_largest}
use Rattle.lists.specs.Seq.{all}
use Rattle.arithmetic.specs.Intervals.{valid, nyquist_in_range, velocity_in_range}
use Rattle.arithmetic.specs.Inside.Asked.{Asked}
use Rattle.arithmetic.proofs.RangeLaws.{T_of}
use Rattle.lists.proofs.AllLaws.{and_left, and_right, and_three}
use Rattle.sweep.specs.Sweep.{Sweep, Unfolded, unfolded}
use Rattle.sweep.specs.Questions.{
  Lent,
  Question,
  refused,
  ask,
  first_no,
  gates_in,
  words_for,
  floats_for,
  size_in_range,
  lengths_fit,
  work_suffices,
  options_in_range,
  velocities_in_range,
  limits_few,
  seven,
  eight,
  eight_of,
  nine_of,
  own_limits,
  asked,
  first_missed,
  answered,
  asked9,
  outcome,
}
use Rattle.sweep.specs.declared.questions.Room.{Room}
use Rattle.sweep.specs.Entry.{answer_of}
use Rattle.sweep.proofs.QuestionLaws.{or_else, list_after, first_yes, zero_none, none_all}

-- what a yes to all seven questions gives, whatever an entry's own part of question 2 is
pub record Passed (s : Sweep) (r : Room) : Type 0 where
  pub rays : s.shape.rays ≤ largest.rays
  pub gates : s.shape.gates ≤ largest.gates
  pub vel : length s.vel ≡ s.shape.rays * s.shape.gates
  pub mask : length s.mask ≡ s.shape.rays * s.shape.gates
  pub own : r.own ≡ true
  pub words : 96 * (s.shape.rays * s.shape.gates) + 64 ≤ r.words
  pub floats : 16 * (s.shape.rays * s.shape.gates) + 16 ≤ r.floats
  pub asked : Asked s.nyquist s.splits
  pub velocity_in_range : T (all velocity_in_range (valid s.vel s.mask))

-- ---- an answer that the code negates

pub answer_no : {r q : Bool} → r ≡ q → r ≡ false → q ≡ false
answer_no e h = sym e ∙ h

pub answer_yes : {r q : Bool} → r ≡ q → r ≡ true → q ≡ true
answer_yes e h = sym e ∙ h

-- ---- each question's yes

pub size_rays : (a b : ℕ) → size_in_range a b ≡ true → a ≤ largest.rays
unfolding size_in_range
size_rays a b h = leb-true a largest.rays (and_left (leb a largest.rays) (leb b largest.gates) h)

pub size_gates : (a b : ℕ) → size_in_range a b ≡ true → b ≤ largest.gates
unfolding size_in_range
size_gates a b h = leb-true b largest.gates (and_right (leb a largest.rays) (leb b largest.gates) h)

pub size_product : (a b n : ℕ) → n ≡ a * b → size_in_range a b ≡ true → n ≤ gates_of_largest
size_product a b n e h = let most : a * b ≤ gates_of_largest = mul-le-mul (size_rays a b h) (size_gates a b h) in omega arith

-- question 2's yes
pub long_are : (n : ℕ) (vs : List Float) (ms : List ℕ) (own : Bool) → lengths_fit n vs ms own ≡ true → (length vs ≡ n) × (length ms ≡ n) × (own ≡ true)
unfolding lengths_fit
long_are n vs ms own h = let p = and_three (eqb (length vs) n) (eqb (length ms) n) own h in (eqb-true (length vs) n p.0, eqb-true (length ms) n p.1, p.2)

-- the code's own question 6
pub options_are : (s : Sweep) {r : Bool} → r ≡ (leb 1 s.splits && leb s.splits 9999 && leb s.shape.skip_between_rays 1000 && leb s.shape.skip_along_ray 1000 && leb s.centred 1 && leb s.shape.wrap 1) → r ≡ options_in_range s
unfolding options_in_range
options_are s h = h

module _ (s : Sweep) (r : Room) where
  room_words : work_suffices (gates_in s) r ≡ true → 96 * (s.shape.rays * s.shape.gates) + 64 ≤ r.words
  unfolding work_suffices gates_in words_for floats_for
  room_words h =
      let k = s.shape.rays * s.shape.gates in
      leb-true (96 * k + 64) r.words (and_left (leb (96 * k + 64) r.words) (leb (16 * k + 16) r.floats) h)

  room_floats : work_suffices (gates_in s) r ≡ true → 16 * (s.shape.rays * s.shape.gates) + 16 ≤ r.floats
  unfolding work_suffices gates_in words_for floats_for
  room_floats h =
      let k = s.shape.rays * s.shape.gates in
      leb-true (16 * k + 16) r.floats (and_right (leb (96 * k + 64) r.words) (leb (16 * k + 16) r.floats) h)

  -- the code's own questions 2 and 4, n being its product
  pub length_is : (b : Bool) (n : ℕ) → b ≡ lengths_fit n s.vel s.mask r.own → n ≡ s.shape.rays * s.shape.gates → b ≡ lengths_fit (gates_in s) s.vel s.mask r.own
  unfolding gates_in
  length_is b n h e = h ∙ ap (λ (k : ℕ). lengths_fit k s.vel s.mask r.own) e

  pub room_is : (b : Bool) (n : ℕ) → b ≡ (leb (words_for n) r.words && leb (floats_for n) r.floats) → n ≡ s.shape.rays * s.shape.gates → b ≡ work_suffices (gates_in s) r
  unfolding work_suffices gates_in
  room_is b n h e = h ∙ rw e refl

-- ---- a yes to all seven

-- what question 6's yes says of the splits
splits_are : (s : Sweep) → options_in_range s ≡ true → (1 ≤ s.splits) × (s.splits ≤ 9999)
unfolding options_in_range
splits_are s h =
    let a = leb 1 s.splits in
    let b = leb s.splits 9999 in
    let c = leb s.shape.skip_between_rays 1000 in
    let d = leb s.shape.skip_along_ray 1000 in
    let e = leb s.centred 1 in
    let f = leb s.shape.wrap 1 in
    let q = (and_three (a && b) c d (and_three (a && b && c && d) e f h).0).0 in
    (leb-true 1 s.splits (and_left a b q), leb-true s.splits 9999 (and_right a b q))

-- question 5's yes, with question 6's
nyquist_asked : (s : Sweep) → nyquist_in_range s.nyquist ≡ true → options_in_range s ≡ true → Asked s.nyquist s.splits
unfolding nyquist_in_range
nyquist_asked s h o =
    let low = le (fin false 1 (negsuc 2)) s.nyquist in
    let high = le s.nyquist (fin false 1 (pos 10)) in
    let p = splits_are s o in
    record { low = T_of (and_left low high h); high = T_of (and_right low high h); some = p.0; few = p.1 }

speeds : (vs : List Float) (ms : List ℕ) → velocities_in_range vs ms ≡ true → T (all velocity_in_range (valid vs ms))
unfolding velocities_in_range
speeds vs ms h = T_of h

module _ (s : Sweep) (r : Room) where
  pub passed : first_no (seven s r) ≡ none → Passed s r
  unfolding seven gates_in
  passed h =
      let y = none_all (seven s r) h in
      let long = long_are (s.shape.rays * s.shape.gates) s.vel s.mask r.own y.1.0 in
      let z = y.1.1.1 in
      record {
        rays = size_rays s.shape.rays s.shape.gates y.0;
        gates = size_gates s.shape.rays s.shape.gates y.0;
        vel = long.0;
        mask = long.1;
        own = long.2;
        words = room_words s r z.0;
        floats = room_floats s r z.0;
        asked = nyquist_asked s z.1.0 z.1.1.0;
        velocity_in_range = speeds s.vel s.mask z.1.1.1.0;
      }

  -- no question has the number 0
  pub seven_none : (k : ℕ) → k ≡ answer_of (first_no (seven s r)) → k ≡ 0 → first_no (seven s r) ≡ none
  unfolding seven all
  seven_none k e h = zero_none (seven s r) refl (sym e ∙ h)

  -- where none of the eight gets a no, none of the first seven does
  pub seven_of_eight : first_no (eight s r) ≡ none → first_no (seven s r) ≡ none
  seven_of_eight = first_yes (seven s r) (ask 8 (limits_few s) ∷ [])

-- two slices as long as they are to be
pub two_are : (a n b m : ℕ) → (eqb a n && eqb b m) ≡ true → (a ≡ n) × (b ≡ m)
two_are a n b m h = (eqb-true a n (and_left (eqb a n) (eqb b m) h), eqb-true b m (and_right (eqb a n) (eqb b m) h))

pub three_are : (a n b m c l : ℕ) → (eqb a n && eqb b m && eqb c l) ≡ true → (a ≡ n) × (b ≡ m) × (c ≡ l)
three_are a n b m c l h = let q = two_are a n b m (and_left (eqb a n && eqb b m) (eqb c l) h) in (q.0, q.1, eqb-true c l (and_right (eqb a n && eqb b m) (eqb c l) h))

module _ (s : Sweep) (l : Lent) where
  pub missed_none : answer_of (first_missed s l) ≡ 0 → first_missed s l ≡ none
  unfolding first_missed seven all
  missed_none = zero_none (nine_of s l) refl

  -- the sweep by its own limits, and question 9 put to it
  abbrev own : Unfolded
  own = unfolded s (own_limits s)

  abbrev nine : List Question
  nine = ask 9 own.merges_in_range ∷ []

  -- question 9 after questions 1 to 8
  pub outcome_by_lem : (o : Option ℕ) → asked s l ≡ o → outcome s l ≡ elim o [ none ↦ asked9 (unfolded s (own_limits s)) | some k ↦ refused k ]
  unfolding outcome first_missed asked
  outcome_by_lem o e = ap (λ (q : Option ℕ). answered q own) (list_after (eight_of s l) nine ∙ ap (λ (q : Option ℕ). or_else q (first_no nine)) e) ∙ go o
    where
      go : (o : Option ℕ) → answered (or_else o (first_no nine)) own ≡ elim o [ none ↦ asked9 own | some k ↦ refused k ]
      go none = unfold asked9 in refl
      go (some k) = unfold answered in refl
