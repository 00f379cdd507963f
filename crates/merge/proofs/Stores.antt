-- Words that hold the tables s, through one store after another. Assumes nothing.
use Rattle.std.proofs.Common.{◌≡◌, ℕ, zero, suc, ◌+◌, ◌*◌, ◌^◌, ◌<◌, ◌≤◌, false, true≢false, List, [], ◌∷◌, length, get_or, drop, set, sym, refl, ap, ◌∙◌, ⊎_elim, arith, length-set, Fits, w32}
use Rattle.std.specs.List.{swap}
use Rattle.std.proofs.lemmas.Grind.{get_or_default_zero}
use lib.Ieee.{Float}
use Rattle.memory.proofs.TreeLaws.{tree_set}
use Rattle.memory.specs.Inside.Layout.{InTurn, table_words}
use Rattle.merge.specs.Inside.Table.{Table, table, tables, weight, from, long, is}
use Rattle.merge.specs.Inside.Tables.{Tables, view, HoldsTables, store, diff_set}
use Rattle.merge.specs.Inside.Leaves.{LeavesTables}
use Rattle.merge.proofs.TableLaws.{in_turn, ends_by, part_start}
use Rattle.merge.proofs.View.{read, write, diff_put}

pub record Holding (m n : ℕ) (w : List ℕ) (d : List Float) (s : Tables) : Type 0 where
  pub room : HoldsTables m n w d
  pub tables : view m n w d ≡ s

-- the library's swap, within the list
swap_is : (l : List ℕ) (i j : ℕ) → i < length l → j < length l → swap l i j ≡ set (set l i (get_or l j 0)) j (get_or l i 0)
swap_is [] i j p q = absurd (omega arith)
swap_is (x ∷ xs) i j p q = λ y. set (set (x ∷ xs) i (get_or_default_zero (x ∷ xs) j x q y)) j (get_or_default_zero (x ∷ xs) i x p y)

-- every table but the weights lies behind the tree
behind : (m n : ℕ) (t : Table) → is t weight ≡ false → (j : ℕ) → j < long t m n → 3 * m ≤ from t m n
behind m n (table zero) e j lt = absurd (true≢false e)
behind m n (table (suc k)) e j lt = ⊎_elim (λ p. p) (λ z. omega (arith, z)) (part_start (3 * m) (drop 1 (tables m n)) (table_words m n) (unfold InTurn in (omega arith, (in_turn m n).1.1)) k)

pub holding : {m n : ℕ} {w : List ℕ} {d : List Float} → HoldsTables m n w d → Holding m n w d (view m n w d)
holding r = record { room = r; tables = refl }

module _ {m n : ℕ} {w : List ℕ} {d : List Float} {s : Tables} (h : Holding m n w d s) where
  pub leaves : LeavesTables m n w d s
  leaves = record { tables = h.tables; tree = h.room.tree }

  -- a word of table t
  pub word : (t : Table) (j : ℕ) → j < long t m n → get_or w (from t m n + j) 0 ≡ get_or (s.at t) j 0
  word t j lt = sym (read t m n w d j lt) ∙ ap (λ (u : Tables). get_or (u.at t) j 0) h.tables

  -- a store into table t
  pub stored : (t : Table) → is t weight ≡ false → (j x y : ℕ) → j < long t m n → x ≡ y → Holding m n (set w (from t m n + j) x) d (store t s j y)
  stored t o j x y lt e = record {
    room = record {
      words = omega (arith, length-set w (from t m n + j) x, h.room.words);
      diffs = h.room.diffs;
      small = h.room.small;
      tree = tree_set m w (from t m n + j) x (omega (arith, behind m n t o j lt)) h.room.tree;
    };
    tables = write t m n w d j x lt h.room.words ∙ ap (λ (u : Tables). store t u j x) h.tables ∙ ap (store t s j) e;
  }

  -- a store into the differences
  pub stored_diff : (j : ℕ) (x : Float) → Holding m n w (set d j x) (diff_set s j x)
  stored_diff j x = record {
    room = record { words = h.room.words; diffs = omega (arith, length-set d j x, h.room.diffs); small = h.room.small; tree = h.room.tree };
    tables = diff_put m n w d j x ∙ ap (λ (u : Tables). diff_set u j x) h.tables;
  }

  -- a word of table t grows by another of the table
  module _ (t : Table) (o : is t weight ≡ false) (j k : ℕ) (hj : j < long t m n) (hk : k < long t m n) where
    pub sum_fits : get_or (s.at t) j 0 + get_or (s.at t) k 0 < 2 ^ 32 → Fits w32 (get_or w (from t m n + j) 0 + get_or w (from t m n + k) 0)
    sum_fits l = record { fits = omega (arith, l, word t j hj, word t k hk) }

    pub added : Holding m n (set w (from t m n + j) (get_or w (from t m n + j) 0 + get_or w (from t m n + k) 0)) d (store t s j (get_or (s.at t) j 0 + get_or (s.at t) k 0))
    added = stored t o j (get_or w (from t m n + j) 0 + get_or w (from t m n + k) 0) (get_or (s.at t) j 0 + get_or (s.at t) k 0) hj (λ i. word t j hj i + word t k hk i)

-- two words of table t are exchanged
pub swapped : {m n : ℕ} {w : List ℕ} {d : List Float} {s : Tables} → Holding m n w d s → (t : Table) → is t weight ≡ false → (j k : ℕ) → j < long t m n → k < long t m n
    → Holding m n (swap w (from t m n + j) (from t m n + k)) d (store t (store t s j (get_or (s.at t) k 0)) k (get_or (s.at t) j 0))
swapped {m} {n} {w} {d} {s} h t o j k hj hk =
    rw (swap_is w (from t m n + j) (from t m n + k) (omega (arith, ends_by m n t, h.room.words)) (omega (arith, ends_by m n t, h.room.words)))
    (stored (stored h t o j _ _ hj (word h t k hk)) t o k _ _ hk (word h t j hj))
