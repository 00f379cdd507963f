-- Reads and stores of the lent words as reads and stores of the tables. Assumes nothing.
use Rattle.std.proofs.Common.{◌≡◌, ℕ, zero, suc, ◌+◌, ◌-◌, ◌*◌, ◌<◌, ◌≤◌, Bool, true, false, cond, List, length, get_or, take, drop, set, sym, refl, ap, ◌∙◌, ⊎_elim, arith, drop-drop, eqb-true}
use Rattle.lists.specs.Inside.Seg.{seg}
use Rattle.lists.proofs.SegLaws.{length-seg, get_or-seg, seg-set_in, seg-set_out}
use Rattle.memory.specs.Inside.Tree.{Weighed}
use Rattle.memory.specs.Inside.Layout.{part, table_words, InTurn}
use Rattle.merge.specs.Inside.Table.{Table, table, number, tables, weight, from, long, is}
use Rattle.merge.specs.Inside.Tables.{view, store, diff_set}
use Rattle.merge.proofs.TableLaws.{in_turn, ends_by, apart, part_start}
use lib.Ieee.{Float}

-- each table has its length
pub view_lengths : (m n : ℕ) (w : List ℕ) (d : List Float) → table_words m n ≤ length w → (t : Table) → length ((view m n w d).at t) ≡ long t m n
unfolding view
view_lengths m n w d h t = length-seg w (from t m n) (long t m n) (omega (arith, ends_by m n t, h))

-- a word of table t
pub read : (t : Table) (m n : ℕ) (w : List ℕ) (d : List Float) (j : ℕ) → j < long t m n → get_or ((view m n w d).at t) j 0 ≡ get_or w (from t m n + j) 0
unfolding view
read t m n w d j h = get_or-seg w (from t m n) (long t m n) j 0 h

pub weight_at_lem : (m n : ℕ) (w : List ℕ) (d : List Float) (j : ℕ) → j < m → get_or ((view m n w d).at weight) j 0 ≡ get_or w j 0
weight_at_lem m n w d j h = read weight m n w d j h ∙ ap (λ (x : ℕ). get_or w x 0) (omega arith)

-- a store into table t
pub write : (t : Table) (m n : ℕ) (w : List ℕ) (d : List Float) (j x : ℕ) → j < long t m n → table_words m n ≤ length w
    → view m n (set w (from t m n + j) x) d ≡ store t (view m n w d) j x
unfolding view store
write t m n w d j x h r = λ i. record { at = λ u. go u (is t u) refl i; diff = d }
  where
    go : (u : Table) (b : Bool) → is t u ≡ b
        → seg (set w (from t m n + j) x) (from u m n) (long u m n) ≡ cond b (set (seg w (from u m n) (long u m n)) j x) (seg w (from u m n) (long u m n))
    go u true e =
        let k : number t ≡ number u = eqb-true (number t) (number u) e in
        let f : from t m n ≡ from u m n = ap (λ (y : ℕ). (get_or (tables m n) y (part 0 0)).from) k in
        let l : long t m n ≡ long u m n = ap (λ (y : ℕ). (get_or (tables m n) y (part 0 0)).long) k in
        ap (λ (y : ℕ). seg (set w (y + j) x) (from u m n) (long u m n)) f
        ∙ seg-set_in w (from u m n) (long u m n) j x (omega (arith, l, h)) (omega (arith, ends_by m n u, r))
    go u false e = seg-set_out w (from t m n + j) x (from u m n) (long u m n) (λ p q. apart m n t u e (from t m n + j) (omega arith) (omega (arith, h)) p q)

pub weight_put : (m n : ℕ) (w : List ℕ) (d : List Float) (j x : ℕ) → j < m → table_words m n ≤ length w → view m n (set w j x) d ≡ store weight (view m n w d) j x
weight_put m n w d j x h r = let z : 0 + j ≡ j = omega arith in ap (λ (y : ℕ). view m n (set w y x) d) (sym z) ∙ write weight m n w d j x h r

pub diff_put : (m n : ℕ) (w : List ℕ) (d : List Float) (j : ℕ) (x : Float) → view m n w (set d j x) ≡ diff_set (view m n w d) j x
unfolding view diff_set
diff_put m n w d j x = refl

-- the tree is in no table
pub view_weighed : (m n : ℕ) (u w : List ℕ) (d : List Float) → Weighed m u w → view m n w d ≡ view m n u d
unfolding view
view_weighed m n u w d h = λ i. record { at = λ t. each t i; diff = d }
  where
    low : seg w 0 m ≡ seg u 0 m
    low = unfold seg in h.weights

    high : (b l : ℕ) → 3 * m ≤ b → seg w b l ≡ seg u b l
    high b l g = unfold seg in
        let z : 3 * m + (b - 3 * m) ≡ b = omega arith in
        let part : (x : List ℕ) → drop b x ≡ drop (b - 3 * m) (drop (3 * m) x) = λ x. ap (λ (y : ℕ). drop y x) (sym z) ∙ sym (drop-drop (b - 3 * m) (3 * m) x) in
        ap (take l) (part w ∙ ap (drop (b - 3 * m)) h.rest ∙ sym (part u))

    none : (b l : ℕ) → l ≡ 0 → seg w b l ≡ seg u b l
    none b l z = unfold seg in ap (λ (y : ℕ). take y (drop b w)) z ∙ sym (ap (λ (y : ℕ). take y (drop b u)) z)

    later : InTurn (3 * m) (drop 1 (tables m n)) (table_words m n)
    later = unfold InTurn in (omega arith, (in_turn m n).1.1)

    each : (t : Table) → seg w (from t m n) (long t m n) ≡ seg u (from t m n) (long t m n)
    each (table zero) = low
    each (table (suc k)) =
        ⊎_elim (high (from (table (suc k)) m n) (long (table (suc k)) m n)) (none (from (table (suc k)) m n) (long (table (suc k)) m n)) (part_start (3 * m) (drop 1 (tables m n)) (table_words m n) later k)
