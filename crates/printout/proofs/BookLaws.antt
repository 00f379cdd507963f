-- The text of a book that the code holds is the text of its entries. Assumes nothing.
use Rattle.std.proofs.Common.{◌≡◌, ℕ, ◌+◌, ◌*◌, ◌/◌, ◌<◌, ◌≤◌, List, [], ◌∷◌, ◌++◌, map, length, get_or, take, drop, ℤ, pos, refl, sym, ap, ◌∙◌, arith, append-nil, add_assoc, add-one, add-zero, length-append, take_all, take-suc, take_at, drop_at}
use lib.ListN.{length-map}
use Rattle.std.specs.Prelude.{nat_abs, fold}
use Rattle.std.specs.Simd.{first_chunks}
use Rattle.lists.specs.Seq.{each, sum}
use Rattle.lists.proofs.SeqLaws.{each_append, each_map}
use Rattle.network.specs.Book.{Entry, numbers}
use Rattle.sweep_book.specs.Book.{over}
use Rattle.printout.specs.Text.{decimal, count_text, line}
use Rattle.printout.specs.Book.{book_text}
use Rattle.printout.specs.Inside.Lines.{line_by}
use Rattle.printout.specs.Inside.Booked.{column, rows_text}

-- ---- sums over the entries

sum_from : {A : Type 0} (f : A → ℕ) (a : ℕ) (xs : List A) → fold (λ (b : ℕ) (x : A). b + f x) a xs ≡ a + sum (map f xs)
unfolding sum
sum_from f a [] = sym (add-zero a)
sum_from f a (x ∷ xs) = sum_from f (a + f x) xs ∙ add_assoc a (f x) (sum (map f xs))

map-map : {A B C : Type 0} (g : A → B) (f : B → C) (l : List A) → map f (map g l) ≡ map (λ x. f (g x)) l
map-map g f [] = refl
map-map g f (x ∷ l) = ap (λ t. f (g x) ∷ t) (map-map g f l)

column_is : (k : ℕ) (vs : List Entry) → column k (map numbers vs) ≡ sum (map (λ v. nat_abs (get_or (numbers v) k (pos 0))) vs)
column_is k vs = sum_from (λ r. nat_abs (get_or r k (pos 0))) 0 (map numbers vs) ∙ omega arith ∙ ap sum (map-map numbers (λ r. nat_abs (get_or r k (pos 0))) vs)

-- ---- the entries of a book

-- the text of the numbers of entries
pub rows_are : (vs : List Entry) → rows_text (map numbers vs) ≡ book_text vs
unfolding rows_text book_text numbers
rows_are vs = λ i. each_map numbers line vs i ++ line (pos (length-map vs numbers i) ∷ pos (column_is 2 vs i) ∷ pos (column_is 5 vs i) ∷ [])

six : (v : Entry) → length (numbers v) ≡ 6
unfolding numbers
six v = refl

long : (vs : List Entry) → length (each numbers vs) ≡ 6 * length vs
unfolding each
long [] = refl
long (v ∷ vs) = length-append (numbers v) (each numbers vs) ∙ omega (arith, six v, long vs)

chunks : (vs : List Entry) → first_chunks 6 (length vs) (each numbers vs) ≡ map numbers vs
unfolding each
chunks [] = refl
chunks (v ∷ vs) = λ i. take_at (numbers v) (each numbers vs) 6 (six v) i ∷ (ap (first_chunks 6 (length vs)) (drop_at (numbers v) (each numbers vs) 6 (six v)) ∙ chunks vs) i

-- six numbers a row are the entries that lie over a book
pub rows_held : (vs : List Entry) (b : List ℤ) (n : ℕ) → n ≡ length vs → first_chunks 6 (length (take (6 * n) (over vs b)) / 6) (take (6 * n) (over vs b)) ≡ map numbers vs
unfolding over
rows_held vs b n e =
    let l : length (each numbers vs) ≡ 6 * n = long vs ∙ ap (λ (k : ℕ). 6 * k) (sym e) in
    let t : take (6 * n) (each numbers vs ++ drop (length (each numbers vs)) b) ≡ each numbers vs = take_at (each numbers vs) (drop (length (each numbers vs)) b) (6 * n) l in
    ap (λ (w : List ℤ). first_chunks 6 (length w / 6) w) t ∙ ap (λ (k : ℕ). first_chunks 6 k (each numbers vs)) (omega (arith, long vs)) ∙ chunks vs

-- ---- the lines of entries

pub no_rows : (w : List ℕ) → w ≡ [] → w ≡ each line []
unfolding each
no_rows w e = e

module _ (rows : List (List ℤ)) (i : ℕ) where
  -- one line more
  pub rows_turn : i < length rows → (w v : List ℕ) → w ≡ each line (take i rows) → v ≡ w ++ line_by count_text (get_or rows i []) → v ≡ each line (take (i + 1) rows)
  unfolding each line_by line
  rows_turn h w v p q =
      q
      ∙ (λ j. p j ++ sym (append-nil (line (get_or rows i []))) j)
      ∙ sym (each_append line (take i rows) (get_or rows i [] ∷ []))
      ∙ ap (each line) (sym (ap (λ (k : ℕ). take k rows) (add-one i) ∙ take-suc rows i [] h))

  -- and the last line
  pub totals_last : length rows ≤ i → (w v : List ℕ) (a g : ℕ) → w ≡ each line (take i rows) → v ≡ w ++ line_by decimal (length rows ∷ a ∷ g ∷ []) → a ≡ column 2 rows → g ≡ column 5 rows → v ≡ rows_text rows
  unfolding rows_text line_by line count_text
  totals_last h w v a g p q s t = q ∙ (λ j. (p ∙ ap (each line) (take_all i rows h)) j ++ line_by decimal (length rows ∷ s j ∷ t j ∷ []))
