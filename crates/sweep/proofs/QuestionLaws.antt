-- Every list of questions: a yes goes on, a no decides, a list after a list, zero is none. Then a product that fits, and one turn of the
-- loops over mask bytes and velocities. Assumes nothing.
use Rattle.std.proofs.Common.{◌≡◌, ◌↔◌, ℕ, zero, suc, ◌+◌, ◌*◌, ◌<◌, ◌≤◌, Bool, true, false, cond, not, ◌&&◌, ◌||◌, eqb, ltb, leb, List, [], ◌∷◌, ◌++◌, length, get_or, drop, sym, refl, ap, ◌∙◌, mul-le-mul, add-one, arith, drop_of_length-le, drop-cons, w64, Fits, ltb-true, leb-true, eq-eqb, ne_eqb, le-leb}
use mathlib.Core.Option.{Option, none, some, none-ne-some}
use lib.Ieee.{Float, nan}
use Rattle.lists.specs.Seq.{all, All}
use Rattle.arithmetic.specs.Intervals.{valid, velocity_in_range}
use Rattle.lists.proofs.AllLaws.{and_left, and_right}
use Rattle.sweep.specs.Questions.{Question, first_no, mask_is_bits, velocities_in_range}
use Rattle.sweep.specs.Entry.{answer_of}

-- ---- every list of questions

-- a yes goes on
pub on : (q : Question) (qs : List Question) → q.yes ≡ true → first_no (q ∷ qs) ≡ first_no qs
unfolding first_no
on q qs h = rw h refl

-- a no decides
pub no : (q : Question) (qs : List Question) → q.yes ≡ false → first_no (q ∷ qs) ≡ some q.number
unfolding first_no
no q qs h = rw h refl

-- the first no of two lists
abbrev pub or_else : Option ℕ → Option ℕ → Option ℕ
or_else none r = r
or_else (some k) r = some k

-- a list after a list
pub list_after : (qs rs : List Question) → first_no (qs ++ rs) ≡ or_else (first_no qs) (first_no rs)
unfolding first_no
list_after [] rs = refl
list_after (q ∷ qs) rs = go q.yes (list_after qs rs)
  where
    go : (b : Bool) → first_no (qs ++ rs) ≡ or_else (first_no qs) (first_no rs)
        → ◌≡◌ {A = Option ℕ} (elim b [ true ↦ first_no (qs ++ rs) | false ↦ some q.number ]) (or_else (elim b [ true ↦ first_no qs | false ↦ some q.number ]) (first_no rs))
    go true ih = ih
    go false ih = refl

module _ (qs rs : List Question) where
  -- a list that gets a yes to each goes on with the next
  pub goes_on : first_no qs ≡ none → first_no (qs ++ rs) ≡ first_no rs
  goes_on h = list_after qs rs ∙ ap (λ (o : Option ℕ). or_else o (first_no rs)) h

  -- where none of two lists gets a no, none of the first does
  pub first_yes : first_no (qs ++ rs) ≡ none → first_no qs ≡ none
  first_yes h = go (first_no qs) (sym (list_after qs rs) ∙ h)
    where
      go : (o : Option ℕ) → or_else o (first_no rs) ≡ none → o ≡ none
      go none q = refl
      go (some k) q = q

  pub rest_yes : first_no (qs ++ rs) ≡ none → first_no rs ≡ none
  rest_yes h = sym (goes_on (first_yes h)) ∙ h

  -- a no of the first list is the first no of both
  pub stops : (k : ℕ) → first_no qs ≡ some k → first_no (qs ++ rs) ≡ some k
  stops k h = list_after qs rs ∙ ap (λ (o : Option ℕ). or_else o (first_no rs)) h

-- the first no has the number of one of the questions: it meets every test that all of their numbers meet
pub no_meets : (t : ℕ → Bool) (qs : List Question) (k : ℕ) → all (λ q. t q.number) qs ≡ true → first_no qs ≡ some k → t k ≡ true
unfolding first_no all
no_meets t [] k a h = absurd (none-ne-some k h)
no_meets t (q ∷ qs) k a h = go q.yes h (no_meets t qs k (and_right (t q.number) (all (λ q. t q.number) qs) a))
  where
    go : (b : Bool) → ◌≡◌ {A = Option ℕ} (elim b [ true ↦ first_no qs | false ↦ some q.number ]) (some k) → (first_no qs ≡ some k → t k ≡ true) → t k ≡ true
    go true e ih = ih e
    go false e ih = sym (ap (λ (o : Option ℕ). t (answer_of o)) e) ∙ and_left (t q.number) (all (λ q. t q.number) qs) a

-- zero is none, where no question has the number 0
pub zero_none : (qs : List Question) → all (λ q. ltb 0 q.number) qs ≡ true → answer_of (first_no qs) ≡ 0 → first_no qs ≡ none
zero_none qs t h = go (first_no qs) refl h
  where
    go : (o : Option ℕ) → first_no qs ≡ o → answer_of o ≡ 0 → first_no qs ≡ none
    go none e z = e
    go (some k) e z = absurd (omega (arith, ltb-true 0 k (no_meets (ltb 0) qs k t e)))

-- where no question gets a no, the first gets a yes, and none of the rest gets a no
pub all_yes : (q : Question) (qs : List Question) → first_no (q ∷ qs) ≡ none → (q.yes ≡ true) × (first_no qs ≡ none)
unfolding first_no
all_yes q qs h = go q.yes h
  where
    go : (b : Bool) → ◌≡◌ {A = Option ℕ} (elim b [ true ↦ first_no qs | false ↦ some q.number ]) none → (b ≡ true) × (first_no qs ≡ none)
    go true h = (refl, h)
    go false h = absurd (none-ne-some q.number (sym h))

-- no no is a yes to each
pub none_all : (qs : List Question) → first_no qs ≡ none → All (λ q. q.yes ≡ true) qs
none_all [] h = tt
none_all (q ∷ qs) h = let t = all_yes q qs h in (t.0, none_all qs t.1)

pub all_none : (qs : List Question) → All (λ q. q.yes ≡ true) qs → first_no qs ≡ none
unfolding first_no
all_none [] t = refl
all_none (q ∷ qs) t = on q qs t.0 ∙ all_none qs t.1

-- ---- the gates of a sweep fit

pub product_fits : (a b : ℕ) → a < 4294967296 → b < 4294967296 → Fits w64 (a * b)
product_fits a b h k = record { fits = under (a * b) (mul-le-mul (below a h) (below b k)) }
  where
    below : (x : ℕ) → x < 4294967296 → x ≤ 4294967295
    below x h = omega arith

    under : (x : ℕ) → x ≤ 4294967295 * 4294967295 → x < 18446744073709551616
    under x h = omega arith

-- ---- tests of every gate

-- two tests that are true together
together : (b c : Bool) → (b ≡ true → c ≡ true) → (c ≡ true → b ≡ true) → b ≡ c
together true c f g = sym (f refl)
together false true f g = g refl
together false false f g = refl

each_bit : (l : List ℕ) → ((k : ℕ) → k < length l → get_or l k 0 ≤ 1) → mask_is_bits l ≡ true
unfolding mask_is_bits all
each_bit [] h = refl
each_bit (m ∷ l) h = rw (le-leb m 1 (h 0 (omega arith))) (each_bit l (λ k i. h (suc k) (omega arith)))

bit_each : (l : List ℕ) → mask_is_bits l ≡ true → (k : ℕ) → k < length l → get_or l k 0 ≤ 1
unfolding mask_is_bits all
bit_each [] h k i = absurd (omega arith)
bit_each (m ∷ l) h zero i = leb-true m 1 (and_left (leb m 1) _ h)
bit_each (m ∷ l) h (suc k) i = bit_each l (and_right (leb m 1) _ h) k (omega arith)

-- question 3 by a test that is true exactly if every byte is at most 1
pub mask_by : (b : Bool) (l : List ℕ) → ((b ≡ true) ↔ ((k : ℕ) → k < length l → get_or l k 0 ≤ 1)) → b ≡ mask_is_bits l
mask_by b l h = together b (mask_is_bits l) (λ e. each_bit l (h.0 e)) (λ e. h.1 (bit_each l e))

-- question 7 of a gate, as the code puts it
abbrev pub speed_test : List Float → List ℕ → ℕ → Bool
speed_test vs ms k = not (eqb (get_or ms k 0) 1) || velocity_in_range (get_or vs k nan)

each_speed : (vs : List Float) (ms : List ℕ) → length ms ≡ length vs → ((k : ℕ) → k < length vs → speed_test vs ms k ≡ true) → velocities_in_range vs ms ≡ true
unfolding velocities_in_range all valid
each_speed [] ms e h = refl
each_speed (v ∷ vs) [] e h = absurd (omega arith)
each_speed (v ∷ vs) (m ∷ ms) e h = go (eqb m 1) (h 0 (omega arith)) (each_speed vs ms (omega arith) (λ k i. h (suc k) (omega arith)))
  where
    go : (b : Bool) → (not b || velocity_in_range v) ≡ true → all velocity_in_range (valid vs ms) ≡ true → all velocity_in_range (cond b (v ∷ valid vs ms) (valid vs ms)) ≡ true
    go true a r = rw a r
    go false a r = r

speed_each : (vs : List Float) (ms : List ℕ) → length ms ≡ length vs → velocities_in_range vs ms ≡ true → (k : ℕ) → k < length vs → speed_test vs ms k ≡ true
unfolding velocities_in_range all valid
speed_each [] ms e h k i = absurd (omega arith)
speed_each (v ∷ vs) [] e h k i = absurd (omega arith)
speed_each (v ∷ vs) (m ∷ ms) e h k i = let b = both (eqb m 1) h in go k i b.0 (speed_each vs ms (omega arith) b.1)
  where
    both : (b : Bool) → all velocity_in_range (cond b (v ∷ valid vs ms) (valid vs ms)) ≡ true → ((not b || velocity_in_range v) ≡ true) × (all velocity_in_range (valid vs ms) ≡ true)
    both true h = (and_left (velocity_in_range v) _ h, and_right (velocity_in_range v) _ h)
    both false h = (refl, h)

    go : (k : ℕ) → k < suc (length vs) → (not (eqb m 1) || velocity_in_range v) ≡ true → ((k : ℕ) → k < length vs → speed_test vs ms k ≡ true) → speed_test (v ∷ vs) (m ∷ ms) k ≡ true
    go zero i h f = h
    go (suc k) i h f = f k (omega arith)

-- question 7 by a test that is true exactly if that of every gate is
pub speeds_by : (b : Bool) (vs : List Float) (ms : List ℕ) → length ms ≡ length vs → ((b ≡ true) ↔ ((k : ℕ) → k < length vs → speed_test vs ms k ≡ true)) → b ≡ velocities_in_range vs ms
speeds_by b vs ms e h = together b (velocities_in_range vs ms) (λ q. each_speed vs ms e (h.0 q)) (λ q. h.1 (speed_each vs ms e q))

-- ---- velocities at valid gates, from gate i on

module _ (vs : List Float) (ms : List ℕ) (i : ℕ) (same : length ms ≡ length vs) where
  pub speed_turn : i < length vs → velocities_in_range (drop i vs) (drop i ms) ≡ cond (eqb (get_or ms i 0) 1) (velocity_in_range (get_or vs i nan) && velocities_in_range (drop (i + 1) vs) (drop (i + 1) ms)) (velocities_in_range (drop (i + 1) vs) (drop (i + 1) ms))
  unfolding velocities_in_range all valid
  speed_turn h =
      let k : i < length ms = omega arith in
      rw (add-one, drop-cons vs i nan, drop-cons ms i 0) (go (eqb (get_or ms i 0) 1))
    where
      go : (b : Bool) → all velocity_in_range (cond b (get_or vs i nan ∷ valid (drop (suc i) vs) (drop (suc i) ms)) (valid (drop (suc i) vs) (drop (suc i) ms)))
          ≡ cond b (velocity_in_range (get_or vs i nan) && all velocity_in_range (valid (drop (suc i) vs) (drop (suc i) ms))) (all velocity_in_range (valid (drop (suc i) vs) (drop (suc i) ms)))
      go true = refl
      go false = refl

  pub speed_masked : i < length vs → (get_or ms i 0 ≡ 1 → ⊥) → velocities_in_range (drop i vs) (drop i ms) ≡ velocities_in_range (drop (i + 1) vs) (drop (i + 1) ms)
  speed_masked h t = speed_turn h ∙ rw (ne_eqb (get_or ms i 0) 1 t) refl

  pub speed_valid : {b : Bool} → i < length vs → get_or ms i 0 ≡ 1 → velocity_in_range (get_or vs i nan) ≡ b → velocities_in_range (drop i vs) (drop i ms) ≡ (b && velocities_in_range (drop (i + 1) vs) (drop (i + 1) ms))
  speed_valid h t f = speed_turn h ∙ rw (eq-eqb (get_or ms i 0) 1 t, f) refl

  pub speed_end : length vs ≤ i → velocities_in_range (drop i vs) (drop i ms) ≡ true
  unfolding velocities_in_range all valid
  speed_end h = rw (drop_of_length-le vs h) refl
