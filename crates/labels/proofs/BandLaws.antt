-- The band of a gate: limits that never fall, and masked gates. Assumes nothing.
use Rattle.std.proofs.Common.{◌≡◌, ℕ, zero, suc, ◌+◌, ◌-◌, ◌<◌, ◌≤◌, true, false, not, eqb, List, length, get_or, sym, ap, ◌∙◌, arith, eq-eqb, ne_eqb}
use lib.Ieee.{Float, nan, lt, le}
use lib.ListN.{length-map, get_or-map}
use Rattle.labels.proofs.OwnLaws.{within_not}
use Rattle.labels.proofs.FloatOrder.{lt_le, of_T}
use Rattle.arithmetic.specs.Inside.Asked.{Rising}
use Rattle.labels.specs.Inside.Bands.{window, Band, marks}

-- below one limit, below every later one
climb : (l : List Float) → Rising l → (v : Float) (a d : ℕ) → a + d < length l → lt v (get_or l a nan) ≡ true → lt v (get_or l (a + d) nan) ≡ true
climb l c v a zero h p = ap (λ (y : ℕ). lt v (get_or l y nan)) (omega arith) ∙ p
climb l c v a (suc d) h p =
    ap (λ (y : ℕ). lt v (get_or l y nan)) (omega arith)
    ∙ lt_le v (get_or l (a + d) nan) (get_or l (suc (a + d)) nan) (climb l c v a d (omega arith) p) (of_T (le (get_or l (a + d) nan) (get_or l (suc (a + d)) nan)) (c (a + d) (omega arith)))

pub climbs : (l : List Float) → Rising l → (v : Float) (a b : ℕ) → a ≤ b → b < length l → lt v (get_or l a nan) ≡ true → lt v (get_or l b nan) ≡ true
climbs l c v a b h k p = ap (λ (y : ℕ). lt v (get_or l y nan)) (omega arith) ∙ climb l c v a (b - a) (omega arith) p

pub masked : (l : List Float) (x : Float) (m : ℕ) → (m ≡ 1 → ⊥) → Band l x m 0
masked l x m h = record { small = λ p. absurd (no p); is = λ j q. within_not (window l j) x m h ∙ sym (ne_eqb 0 (suc j) (λ r. omega arith)) }
  where
    no : 0 < 0 → ⊥
    no q = omega arith

-- ---- marks
pub marks_in : (iv : List ℕ) (i : ℕ) → (get_or iv i 0 ≡ 0 → ⊥) → get_or (marks iv) i false ≡ true
unfolding marks
marks_in iv i n = get_or-map (λ b. not (eqb b 0)) iv i 0 ∙ ap not (ne_eqb (get_or iv i 0) 0 n)

pub marks_out : (iv : List ℕ) (i : ℕ) → get_or iv i 0 ≡ 0 → get_or (marks iv) i false ≡ false
unfolding marks
marks_out iv i e = get_or-map (λ b. not (eqb b 0)) iv i 0 ∙ ap not (eq-eqb (get_or iv i 0) 0 e)

pub length_marks : (iv : List ℕ) → length (marks iv) ≡ length iv
unfolding marks
length_marks iv = length-map iv (λ b. not (eqb b 0))
