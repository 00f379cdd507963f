-- The tables lie apart in the lent words, and a store leaves all other tables as they were. Assumes nothing.
use Rattle.std.proofs.Common.{◌≡◌, ℕ, zero, suc, ◌+◌, ◌<◌, ◌≤◌, Bool, true, false, cond, ◌⊎◌, List, [], ◌∷◌, length, get_or, set, sym, refl, ap, ◌∙◌, inl, inr, ⊎_elim, true≢false, arith, length-set, eqb-true}
use lib.Ieee.{Float}
use borrow.Author.Tests.{eqb-false}
use Rattle.memory.specs.Inside.Layout.{Part, part, InTurn, table_words}
use Rattle.merge.specs.Inside.Table.{Table, table, number, tables, from, long, is}
use Rattle.merge.specs.Inside.Tables.{Tables, store, diff_set}

-- ---- parts in turn
abbrev pick : List Part → ℕ → Part
pick ps k = get_or ps k (part 0 0)

turn_end : (a : ℕ) (ps : List Part) (end : ℕ) → InTurn a ps end → a ≤ end
unfolding InTurn
turn_end a [] end h = h
turn_end a (p ∷ ps) end h = omega (arith, h.0, turn_end (p.from + p.long) ps end h.1)

part_end : (a : ℕ) (ps : List Part) (end : ℕ) → InTurn a ps end → (k : ℕ) → (pick ps k).from + (pick ps k).long ≤ end
unfolding InTurn
part_end a [] end h k = omega arith
part_end a (p ∷ ps) end h zero = turn_end (p.from + p.long) ps end h.1
part_end a (p ∷ ps) end h (suc k) = part_end (p.from + p.long) ps end h.1 k

-- a part that is there begins no earlier than the first
pub part_start : (a : ℕ) (ps : List Part) (end : ℕ) → InTurn a ps end → (k : ℕ) → (a ≤ (pick ps k).from) ⊎ ((pick ps k).long ≡ 0)
unfolding InTurn
part_start a [] end h k = inr refl
part_start a (p ∷ ps) end h zero = inl h.0
part_start a (p ∷ ps) end h (suc k) = ⊎_elim (λ q. inl (omega (arith, h.0, q))) inr (part_start (p.from + p.long) ps end h.1 k)

-- no word lies in two parts
parts_apart : (a : ℕ) (ps : List Part) (end : ℕ) → InTurn a ps end → (i k : ℕ) → (i ≡ k → ⊥) → (x : ℕ)
    → (pick ps i).from ≤ x → x < (pick ps i).from + (pick ps i).long → (pick ps k).from ≤ x → x < (pick ps k).from + (pick ps k).long → ⊥
unfolding InTurn
parts_apart a [] end h i k ne x p q r s = omega arith
parts_apart a (p ∷ ps) end h zero zero ne x b c d e = ne refl
parts_apart a (p ∷ ps) end h zero (suc k) ne x b c d e = ⊎_elim (λ q. omega (arith, q, c, d)) (λ q. omega (arith, q, d, e)) (part_start (p.from + p.long) ps end h.1 k)
parts_apart a (p ∷ ps) end h (suc i) zero ne x b c d e = ⊎_elim (λ q. omega (arith, q, e, b)) (λ q. omega (arith, q, b, c)) (part_start (p.from + p.long) ps end h.1 i)
parts_apart a (p ∷ ps) end h (suc i) (suc k) ne x b c d e = parts_apart (p.from + p.long) ps end h.1 i k (λ q. ne (ap suc q)) x b c d e

-- ---- the tables
pub in_turn : (m n : ℕ) → InTurn 0 (tables m n) (table_words m n)
unfolding InTurn
in_turn m n = (omega arith, (omega arith, (omega arith, (omega arith, (omega arith, (omega arith, (omega arith, (omega arith, (omega arith, (omega arith, (omega arith, (omega arith, (omega arith, omega arith)))))))))))))

pub ends_by : (m n : ℕ) (t : Table) → from t m n + long t m n ≤ table_words m n
ends_by m n t = part_end 0 (tables m n) (table_words m n) (in_turn m n) (number t)

pub apart : (m n : ℕ) (t u : Table) → is t u ≡ false → (x : ℕ) → from t m n ≤ x → x < from t m n + long t m n → from u m n ≤ x → x < from u m n + long u m n → ⊥
apart m n t u e = parts_apart 0 (tables m n) (table_words m n) (in_turn m n) (number t) (number u) (eqb-false (number t) (number u) e)

pub same_table : (t u : Table) → is t u ≡ true → t ≡ u
same_table (table i) (table k) e = ap table (eqb-true i k e)

-- a store keeps the length of every table
pub length_store : (t u : Table) (s : Tables) (j x : ℕ) → length ((store t s j x).at u) ≡ length (s.at u)
unfolding store
length_store t u s j x = go (is t u)
  where
    go : (b : Bool) → length (cond b (set (s.at u) j x) (s.at u)) ≡ length (s.at u)
    go true = length-set (s.at u) j x
    go false = refl

-- ---- tables alike: all but those of which `out` is true
abbrev pub Unless : Bool → Type 0 → Type 0
Unless true A = Unit {0}
Unless false A = A

pub record Alike (out : Table → Bool) (s t : Tables) : Type 0 where
  pub at : (u : Table) → Unless (out u) (s.at u ≡ t.at u)

pub alike_refl : (out : Table → Bool) (s : Tables) → Alike out s s
alike_refl out s = record { at = λ u. go u (out u) }
  where
    go : (u : Table) (b : Bool) → Unless b (s.at u ≡ s.at u)
    go u true = tt
    go u false = refl

pub alike_then : (out : Table → Bool) (r s t : Tables) → Alike out r s → Alike out s t → Alike out r t
alike_then out r s t a b = record { at = λ u. go u (out u) (a.at u) (b.at u) }
  where
    go : (u : Table) (o : Bool) → Unless o (r.at u ≡ s.at u) → Unless o (s.at u ≡ t.at u) → Unless o (r.at u ≡ t.at u)
    go u true p q = tt
    go u false p q = p ∙ q

-- what is alike but for fewer tables is alike but for more
pub alike_less : (out more : Table → Bool) (s t : Tables) → ((u : Table) → out u ≡ true → more u ≡ true) → Alike out s t → Alike more s t
alike_less out more s t h a = record { at = λ u. go u (out u) refl (more u) refl (a.at u) }
  where
    go : (u : Table) (o : Bool) → out u ≡ o → (p : Bool) → more u ≡ p → Unless o (s.at u ≡ t.at u) → Unless p (s.at u ≡ t.at u)
    go u o e true f q = tt
    go u false e false f q = q
    go u true e false f q = absurd (true≢false (sym (h u e) ∙ f))

pub alike_store : (out : Table → Bool) (t : Table) (s : Tables) (j x : ℕ) → out t ≡ true → Alike out (store t s j x) s
unfolding store
alike_store out t s j x h = record { at = λ u. go u (is t u) refl (out u) refl }
  where
    go : (u : Table) (b : Bool) → is t u ≡ b → (o : Bool) → out u ≡ o → Unless o (cond b (set (s.at u) j x) (s.at u) ≡ s.at u)
    go u b e true f = tt
    go u false e false f = refl
    go u true e false f = absurd (true≢false (sym h ∙ ap out (same_table t u e) ∙ f))

pub alike_diff : (out : Table → Bool) (s : Tables) (j : ℕ) (x : Float) → Alike out (diff_set s j x) s
unfolding diff_set
alike_diff out s j x = record { at = (alike_refl out s).at }
