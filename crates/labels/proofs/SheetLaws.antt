-- Bands, words and counters in one slice: reads and stores. Assumes nothing.
use Rattle.std.proofs.Common.{◌≡◌, ℕ, ◌+◌, ◌-◌, ◌<◌, ◌≤◌, List, length, get_or, drop, set, sym, ap, ◌∙◌, arith, length-drop, get_or-drop, take_all, drop-set-lt}
use lib.Seq.{drop-set-add}
use Rattle.lists.specs.Inside.Seg.{seg, put}
use Rattle.lists.proofs.SegLaws.{length-seg, get_or-seg, seg-set_in, seg-set_out, seg-put_below, seg-put_same, length-put}

module _ (u : List ℕ) (n : ℕ) (fits : n + n ≤ length u) where
  -- ---- reads
  pub words_long : length (seg u n n) ≡ n
  words_long = length-seg u n n fits

  pub counts_long : length (drop (n + n) u) ≡ length u - (n + n)
  counts_long = length-drop (n + n) u

  pub band_at : (g : ℕ) → g < n → get_or (seg u 0 n) g 0 ≡ get_or u g 0
  band_at g h = get_or-seg u 0 n g 0 h ∙ ap (λ (y : ℕ). get_or u y 0) (omega arith)

  pub word_at_lem : (g : ℕ) → g < n → get_or (seg u n n) g 0 ≡ get_or u (n + g) 0
  word_at_lem g h = get_or-seg u n n g 0 h

  pub count_at_lem : (j : ℕ) → get_or (drop (n + n) u) j 0 ≡ get_or u (n + n + j) 0
  count_at_lem j = get_or-drop (n + n) u j 0

  -- ---- stores
  pub store_band : (g x : ℕ) → g < n → (seg (set u g x) 0 n ≡ set (seg u 0 n) g x) × (seg (set u g x) n n ≡ seg u n n) × (drop (n + n) (set u g x) ≡ drop (n + n) u)
  store_band g x h = (
    ap (λ (y : ℕ). seg (set u y x) 0 n) (omega arith) ∙ seg-set_in u 0 n g x h (omega arith),
    seg-set_out u g x n n (λ p q. omega arith),
    drop-set-lt (n + n) u g x (omega arith),
  )

  pub store_count : (j x : ℕ) → (seg (set u (n + n + j) x) 0 n ≡ seg u 0 n) × (seg (set u (n + n + j) x) n n ≡ seg u n n) × (drop (n + n) (set u (n + n + j) x) ≡ set (drop (n + n) u) j x)
  store_count j x = (
    seg-set_out u (n + n + j) x 0 n (λ p q. omega arith),
    seg-set_out u (n + n + j) x n n (λ p q. omega arith),
    drop-set-add (n + n) u j x,
  )

-- ---- the counters become ys
module _ (u : List ℕ) (n : ℕ) (fits : n + n ≤ length u) (ys : List ℕ) (e : length ys ≡ length u - (n + n)) where
  pub put_counts : drop (n + n) (put u (n + n) ys) ≡ ys
  unfolding seg
  put_counts =
      sym (take_all (length ys) (drop (n + n) (put u (n + n) ys)) (omega (arith, length-drop (n + n) (put u (n + n) ys), length-put u (n + n) ys)))
      ∙ seg-put_same u (n + n) ys (omega arith)

  pub put_others : (seg (put u (n + n) ys) 0 n ≡ seg u 0 n) × (seg (put u (n + n) ys) n n ≡ seg u n n)
  put_others = (seg-put_below u (n + n) ys 0 n (omega arith), seg-put_below u (n + n) ys n n (omega arith))
