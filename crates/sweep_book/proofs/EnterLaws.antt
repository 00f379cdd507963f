-- Entries from the log of merges into a book, over plain values. Assumes nothing.
use Prim.Native.Nat.{ℕ, ◌+◌, ◌*◌, ◌≤◌, ◌<◌, ◌^◌}
use native.Mathlib.Omega.{arith}
use mathlib.Core.Path.{◌≡◌, refl, sym, ap, ◌∙◌}
use mathlib.Core.List.{List, [], ◌∷◌, ◌++◌, append-nil}
use lib.IntN.{ℤ, pos}
use lib.ListN.{length, get_or, drop}
use mir.Syntax.{w32}
use mir.Val.{to_z, of_z}
use mir.ValLaws.{to_z_pos, to_z-of_z}
use Rattle.lists.specs.Seq.{each, tabulate, upto}
use Rattle.lists.specs.Inside.Seg.{put}
use Rattle.lists.proofs.SeqLaws.{each_append, tab_length, tab_snoc}
use borrow.Rule.Slice.PartMut.{put_mid}
use Rattle.lists.proofs.SegLaws.{length-put, put_lent, put_mid_lem}
use Rattle.lists.proofs.PartLaws.{put_then}
use Rattle.merge.specs.Inside.Steps.{unbias}
use Rattle.sweep.proofs.SignedLaws.{unbias_fits}
use Rattle.network.specs.Book.{Entry, numbers}
use Rattle.network.specs.Inside.Log.{entry_in}
use Rattle.sweep_book.specs.Book.{over}
use Rattle.sweep_book.specs.Inside.Entering.{numbers_at, Enters, entered_from}

-- ---- one entry

module _ (w : List ℕ) (at : ℕ) (low : (j : ℕ) → j < 6 → get_or w (at + j) 0 < 2 ^ 31) where
  first_low : get_or w at 0 < 2 ^ 31
  first_low = let z : at + 0 ≡ at = omega arith in omega (arith, low 0 (omega arith), ap (λ (i : ℕ). get_or w i 0) z)

  -- the six numbers as the code has them, g being the folds
  pub numbers_done : (gain : get_or w (at + 4) 0 ≤ 2000) (g : ℤ) → g ≡ unbias (get_or w (at + 4) 0)
      → to_z w32 (get_or w at 0) ∷ to_z w32 (get_or w (at + 1) 0) ∷ to_z w32 (get_or w (at + 2) 0) ∷ to_z w32 (get_or w (at + 3) 0) ∷ to_z w32 (of_z w32 g) ∷ to_z w32 (get_or w (at + 5) 0) ∷ [] ≡ numbers_at w at
  unfolding numbers_at
  numbers_done gain g e =
      λ i. to_z_pos w32 (get_or w at 0) first_low i
      ∷ to_z_pos w32 (get_or w (at + 1) 0) (low 1 (omega arith)) i
      ∷ to_z_pos w32 (get_or w (at + 2) 0) (low 2 (omega arith)) i
      ∷ to_z_pos w32 (get_or w (at + 3) 0) (low 3 (omega arith)) i
      ∷ (ap (λ (z : ℤ). to_z w32 (of_z w32 z)) e ∙ to_z-of_z w32 (unbias (get_or w (at + 4) 0)) (unbias_fits (get_or w (at + 4) 0) gain)) i
      ∷ to_z_pos w32 (get_or w (at + 5) 0) (low 5 (omega arith)) i
      ∷ []

-- the six numbers of entry j of a log
numbers_are : (w : List ℕ) (from j : ℕ) → numbers_at w (from + 6 * j) ≡ numbers (entry_in (λ i. get_or w (from + i) 0) j)
unfolding numbers_at numbers entry_in
numbers_are w from j =
    let at : (f : ℕ) → get_or w (from + 6 * j + f) 0 ≡ get_or w (from + (6 * j + f)) 0 = λ f. ap (λ (i : ℕ). get_or w i 0) (same f) in
    λ i. pos (get_or w (from + 6 * j) 0) ∷ pos (at 1 i) ∷ pos (at 2 i) ∷ pos (at 3 i) ∷ unbias (at 4 i) ∷ pos (at 5 i) ∷ []
  where
    same : (f : ℕ) → from + 6 * j + f ≡ from + (6 * j + f)
    same f = omega arith

-- ---- all entries

each_long : (vs : List Entry) → length (each numbers vs) ≡ 6 * length vs
unfolding each numbers
each_long [] = refl
each_long (v ∷ vs) = omega (arith, each_long vs)

one_more : (vs : List Entry) (v : Entry) → each numbers (vs ++ (v ∷ [])) ≡ each numbers vs ++ numbers v
unfolding each
one_more vs v = each_append numbers vs (v ∷ []) ∙ ap (λ (l : List ℤ). each numbers vs ++ l) (append-nil (numbers v))

-- b₀ with the first j entries at its front
pub record Entering (w : List ℕ) (from k : ℕ) (b₀ b : List ℤ) (j : ℕ) : Type 0 where
  pub book : b ≡ put b₀ 0 (each numbers (tabulate j (entry_in (λ i. get_or w (from + i) 0))))
  pub most : j ≤ k

module _ (w : List ℕ) (from k : ℕ) (b₀ : List ℤ) (q : Enters w from k (length b₀)) where
  abbrev at : ℕ → List ℤ
  at j = each numbers (tabulate j (entry_in (λ i. get_or w (from + i) 0)))

  at_long : (j : ℕ) → length (at j) ≡ 6 * j
  at_long j = each_long (tabulate j (entry_in (λ i. get_or w (from + i) 0))) ∙ ap (λ (x : ℕ). 6 * x) (tab_length (entry_in (λ i. get_or w (from + i) 0)) j)

  pub enter_start : Entering w from k b₀ b₀ 0
  enter_start = record { book = unfold tabulate upto each put in refl; most = omega arith }

  module _ (b : List ℤ) (j : ℕ) (I : Entering w from k b₀ b j) where
    pub book_long : length b ≡ length b₀
    book_long = ap length I.book ∙ length-put b₀ 0 (at j)

    module _ (lt : j < k) where
      word : (i : ℕ) → get_or w (from + 6 * j + i) 0 ≡ get_or w (from + (6 * j + i)) 0
      word i = let z : from + 6 * j + i ≡ from + (6 * j + i) = omega arith in ap (λ (x : ℕ). get_or w x 0) z

      pub entry_low : (i : ℕ) → i < 6 → get_or w (from + 6 * j + i) 0 < 2 ^ 31
      entry_low i h = omega (arith, q.low (6 * j + i) (omega arith), word i)

      pub entry_gain : get_or w (from + 6 * j + 4) 0 ≤ 2000
      entry_gain = omega (arith, q.gains j lt, word 4)

      -- ys written over the six numbers from 6j on
      pub enter_turn : (ys : List ℤ) (m : ℕ) → ys ≡ numbers_at w (from + 6 * j) → m ≡ 6 → Entering w from k b₀ (put_mid (6 * j) m b ys) (j + 1)
      enter_turn ys m e f = record {
        book = put_then b₀ b (put_mid (6 * j) m b ys) 0 (6 * j) (at j) (numbers (entry_in (λ i. get_or w (from + i) 0) j)) I.book
            (put_mid_lem b (6 * j) m ys (ap length e ∙ six (from + 6 * j) ∙ sym f) (omega (arith, q.holds, book_long, f)) ∙ ap (put b (6 * j)) (e ∙ numbers_are w from j)) (omega (arith, at_long j))
            ∙ ap (put b₀ 0) (sym (ap (each numbers) (tab_snoc (entry_in (λ i. get_or w (from + i) 0)) j) ∙ one_more (tabulate j (entry_in (λ i. get_or w (from + i) 0))) (entry_in (λ i. get_or w (from + i) 0) j)));
        most = omega arith;
      }
        where
          six : (at : ℕ) → length (numbers_at w at) ≡ 6
          six at = unfold numbers_at in refl

    pub enter_end : k ≤ j → b ≡ entered_from w from k b₀
    unfolding over
    enter_end h =
        let z : j ≡ k = omega (arith, I.most) in
        let y : 0 + length (at k) ≡ length (at k) = omega arith in
        I.book ∙ ap (λ (x : ℕ). put b₀ 0 (at x)) z ∙ sym (put_lent b₀ 0 (at k) (omega (arith, at_long k, q.holds))) ∙ ap (λ (x : ℕ). at k ++ drop x b₀) y
