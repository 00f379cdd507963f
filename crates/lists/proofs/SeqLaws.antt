-- Laws of the shared lists. Assumes nothing.
use Prim.Native.Nat.{ℕ, zero, suc, ◌+◌, ◌≤◌, ◌<◌}
use native.Mathlib.Omega.{arith}
use native.Mathlib.Numerals.{add-one}
use mathlib.Core.Path.{◌≡◌, refl, sym, ap, ◌∙◌}
use mathlib.Core.Bool.{Bool, true, false, cond, ◌&&◌}
use mathlib.Core.List.{List, [], ◌∷◌, ◌++◌, map, append_assoc, append-nil}
use lib.Dec.{eqb}
use lib.ListN.{length, get_or, set, length-map}
use borrow.Author.Tests.{eqb-true, eqb-false, ne_eqb, eq-eqb}
use Rattle.lists.specs.Seq.{upto, tabulate, keep, each, sum}

-- ---- tests of numbers

pub eqb_refl : (a : ℕ) → eqb a a ≡ true
eqb_refl a = eq-eqb a a refl

-- a test says the same of numbers that are renamed one to one
pub eqb_renamed : (ρ : ℕ → ℕ) → ((a b : ℕ) → ρ a ≡ ρ b → a ≡ b) → (a b : ℕ) → eqb (ρ a) (ρ b) ≡ eqb a b
eqb_renamed ρ inj a b = go (eqb a b) refl
  where
    go : (x : Bool) → eqb a b ≡ x → eqb (ρ a) (ρ b) ≡ x
    go true h = eq-eqb (ρ a) (ρ b) (ap ρ (eqb-true a b h))
    go false h = ne_eqb (ρ a) (ρ b) (λ e. eqb-false a b h (inj a b e))

-- ---- places

pub upto-length : (n k : ℕ) → length (upto n k) ≡ n
unfolding upto
upto-length zero k = refl
upto-length (suc n) k = ap suc (upto-length n (suc k))

pub upto_at : (n k i : ℕ) → i < n → get_or (upto n k) i 0 ≡ k + i
unfolding upto
upto_at zero k i h = absurd (omega arith)
upto_at (suc n) k zero h = omega arith
upto_at (suc n) k (suc i) h = upto_at n (suc k) i (omega arith) ∙ omega arith

pub map-upto_at : {A : Type 0} (f : ℕ → A) (n k i : ℕ) (d : A) → i < n → get_or (map f (upto n k)) i d ≡ f (k + i)
unfolding upto
map-upto_at f zero k i d h = absurd (omega arith)
map-upto_at f (suc n) k zero d h = ap f (omega arith)
map-upto_at f (suc n) k (suc i) d h = map-upto_at f n (suc k) i d (omega arith) ∙ ap f (omega arith)

map-upto_past : {A : Type 0} (f : ℕ → A) (n k i : ℕ) (d : A) → n ≤ i → get_or (map f (upto n k)) i d ≡ d
unfolding upto
map-upto_past f zero k i d h = refl
map-upto_past f (suc n) k zero d h = absurd (omega arith)
map-upto_past f (suc n) k (suc i) d h = map-upto_past f n (suc k) i d (omega arith)

pub map-upto-length : {A : Type 0} (f : ℕ → A) (n k : ℕ) → length (map f (upto n k)) ≡ n
map-upto-length f n k = length-map (upto n k) f ∙ upto-length n k

pub tab_at : {A : Type 0} (f : ℕ → A) (n i : ℕ) (d : A) → i < n → get_or (tabulate n f) i d ≡ f i
unfolding tabulate
tab_at f n i d h = map-upto_at f n 0 i d h ∙ ap f (omega arith)

pub tab_past : {A : Type 0} (f : ℕ → A) (n i : ℕ) (d : A) → n ≤ i → get_or (tabulate n f) i d ≡ d
unfolding tabulate
tab_past f n i d h = map-upto_past f n 0 i d h

pub tab_length : {A : Type 0} (f : ℕ → A) (n : ℕ) → length (tabulate n f) ≡ n
unfolding tabulate
tab_length f n = map-upto-length f n 0

pub map-upto_same : {A : Type 0} (f g : ℕ → A) (n k : ℕ) → ((i : ℕ) → k ≤ i → i < n + k → f i ≡ g i) → map f (upto n k) ≡ map g (upto n k)
unfolding upto
map-upto_same f g zero k h = refl
map-upto_same f g (suc n) k h = rw (h k (omega arith) (omega arith), map-upto_same f g n (suc k) (λ i v w. h i (omega arith) (omega arith))) refl

pub tab_same : {A : Type 0} (f g : ℕ → A) (n : ℕ) → ((i : ℕ) → i < n → f i ≡ g i) → tabulate n f ≡ tabulate n g
unfolding tabulate
tab_same f g n h = map-upto_same f g n 0 (λ i v w. h i (omega arith))

-- an element of a mapped list
pub map_at : {A B : Type 0} (f : A → B) (l : List A) (i : ℕ) (a : A) (b : B) → i < length l → get_or (map f l) i b ≡ f (get_or l i a)
map_at f [] i a b h = absurd (omega arith)
map_at f (x ∷ l) zero a b h = refl
map_at f (x ∷ l) (suc i) a b h = map_at f l i a b (omega arith)

pub map_append : {A B : Type 0} (f : A → B) (l m : List A) → map f (l ++ m) ≡ map f l ++ map f m
map_append f [] m = refl
map_append f (x ∷ xs) m = rw (map_append f xs m) refl

pub upto_snoc : (n k : ℕ) → upto (suc n) k ≡ upto n k ++ ((n + k) ∷ [])
unfolding upto
upto_snoc zero k = ap (λ (i : ℕ). i ∷ []) (omega arith)
upto_snoc (suc n) k = ap (λ (l : List ℕ). k ∷ l) (upto_snoc n (suc k) ∙ ap (λ (i : ℕ). upto n (suc k) ++ (i ∷ [])) (omega arith))

-- one more element
pub tab_snoc : {A : Type 0} (f : ℕ → A) (n : ℕ) → tabulate (n + 1) f ≡ tabulate n f ++ (f n ∷ [])
unfolding tabulate
tab_snoc f n = ap (λ (k : ℕ). map f (upto k 0)) (add-one n) ∙ ap (map f) (upto_snoc n 0) ∙ map_append f (upto n 0) ((n + 0) ∷ []) ∙ ap (λ (k : ℕ). map f (upto n 0) ++ (f k ∷ [])) (omega arith)

-- ---- keeping

pub keep_and : {A : Type 0} (s t : A → Bool) (l : List A) → keep (λ x. s x && t x) l ≡ keep s (keep t l)
unfolding keep
keep_and s t [] = refl
keep_and {A} s t (x ∷ xs) = rw (keep_and s t xs) (go (s x) (t x) refl)
  where
    go : (b c : Bool) → s x ≡ b → cond (b && c) (x ∷ keep s (keep t xs)) (keep s (keep t xs)) ≡ keep s (cond c (x ∷ keep t xs) (keep t xs))
    go true true e = rw e refl
    go true false e = refl
    go false true e = rw e refl
    go false false e = refl

pub keep_none : {A : Type 0} (t : A → Bool) (l : List A) → ((x : A) → t x ≡ false) → keep t l ≡ []
unfolding keep
keep_none t [] h = refl
keep_none t (x ∷ xs) h = rw (h x) (keep_none t xs h)

pub keep_every : {A : Type 0} (t : A → Bool) (l : List A) → ((x : A) → t x ≡ true) → keep t l ≡ l
unfolding keep
keep_every t [] h = refl
keep_every t (x ∷ xs) h = rw (h x, keep_every t xs h) refl

pub keep_most : {A : Type 0} (t : A → Bool) (l : List A) → length (keep t l) ≤ length l
unfolding keep
keep_most t [] = omega arith
keep_most t (x ∷ xs) = go (t x) (keep_most t xs)
  where
    go : (b : Bool) → length (keep t xs) ≤ length xs → length (cond b (x ∷ keep t xs) (keep t xs)) ≤ suc (length xs)
    go true h = omega arith
    go false h = omega arith

pub keep_append : {A : Type 0} (t : A → Bool) (l m : List A) → keep t (l ++ m) ≡ keep t l ++ keep t m
unfolding keep
keep_append t [] m = refl
keep_append t (x ∷ xs) m = rw (keep_append t xs m) (go (t x))
  where
    go : (b : Bool) → cond b (x ∷ keep t xs ++ keep t m) (keep t xs ++ keep t m) ≡ cond b (x ∷ keep t xs) (keep t xs) ++ keep t m
    go true = refl
    go false = refl

pub keep_of_map : {A B : Type 0} (f : A → B) (t : B → Bool) (l : List A) → keep t (map f l) ≡ map f (keep (λ x. t (f x)) l)
unfolding keep
keep_of_map f t [] = refl
keep_of_map f t (x ∷ xs) = rw (keep_of_map f t xs) (go (t (f x)))
  where
    go : (b : Bool) → cond b (f x ∷ map f (keep (λ x. t (f x)) xs)) (map f (keep (λ x. t (f x)) xs)) ≡ map f (cond b (x ∷ keep (λ x. t (f x)) xs) (keep (λ x. t (f x)) xs))
    go true = refl
    go false = refl

pub keep_same : {A : Type 0} (s t : A → Bool) (l : List A) → ((x : A) → s x ≡ t x) → keep s l ≡ keep t l
unfolding keep
keep_same s t [] h = refl
keep_same s t (x ∷ xs) h = rw (h x, keep_same s t xs h) refl

-- ---- each

pub each_append : {A B : Type 0} (f : A → List B) (l m : List A) → each f (l ++ m) ≡ each f l ++ each f m
unfolding each
each_append f [] m = refl
each_append f (x ∷ xs) m = ap (λ (t : List _). f x ++ t) (each_append f xs m) ∙ sym (append_assoc (f x) (each f xs) (each f m))

-- one more number
pub each_snoc : {B : Type 0} (f : ℕ → List B) (k : ℕ) → each f (upto (suc k) 0) ≡ each f (upto k 0) ++ f k
unfolding each
each_snoc f k = ap (each f) (upto_snoc k 0) ∙ each_append f (upto k 0) ((k + 0) ∷ []) ∙ ap (λ (l : List _). each f (upto k 0) ++ l) (append-nil (f (k + 0)) ∙ ap f (omega arith))

pub each_map : {A B C : Type 0} (g : A → B) (f : B → List C) (l : List A) → each f (map g l) ≡ each (λ x. f (g x)) l
unfolding each
each_map g f [] = refl
each_map g f (x ∷ xs) = rw (each_map g f xs) refl

pub map_each : {A B C : Type 0} (h : B → C) (f : A → List B) (l : List A) → map h (each f l) ≡ each (λ x. map h (f x)) l
unfolding each
map_each h f [] = refl
map_each h f (x ∷ xs) = rw (map_append h (f x) (each f xs), map_each h f xs) refl

pub keep_each : {A B : Type 0} (t : B → Bool) (f : A → List B) (l : List A) → keep t (each f l) ≡ each (λ x. keep t (f x)) l
unfolding each keep
keep_each t f [] = refl
keep_each t f (x ∷ xs) = rw (keep_append t (f x) (each f xs), keep_each t f xs) refl

pub each_same : {A B : Type 0} (f g : A → List B) (l : List A) → ((x : A) → f x ≡ g x) → each f l ≡ each g l
unfolding each
each_same f g [] h = refl
each_same f g (x ∷ xs) h = rw (h x, each_same f g xs h) refl

-- what gives nothing can be left out
pub each_keep : {A B : Type 0} (t : A → Bool) (f : A → List B) (l : List A) → ((x : A) → t x ≡ false → f x ≡ []) → each f l ≡ each f (keep t l)
unfolding each keep
each_keep t f [] h = refl
each_keep t f (x ∷ xs) h = go (t x) refl (each_keep t f xs h)
  where
    go : (b : Bool) → t x ≡ b → each f xs ≡ each f (keep t xs) → f x ++ each f xs ≡ each f (cond b (x ∷ keep t xs) (keep t xs))
    go true e ih = rw ih refl
    go false e ih = rw (h x e) ih

-- lists of one length whose elements pass their tests at the same places
pub keep_count : (s t : ℕ → Bool) (l m : List ℕ) → length l ≡ length m → ((i : ℕ) → s (get_or l i 0) ≡ t (get_or m i 0)) → length (keep s l) ≡ length (keep t m)
unfolding keep
keep_count s t [] [] e h = refl
keep_count s t [] (y ∷ m) e h = absurd (omega arith)
keep_count s t (x ∷ l) [] e h = absurd (omega arith)
keep_count s t (x ∷ l) (y ∷ m) e h = rw (h 0) (go (t y) (keep_count s t l m (omega arith) (λ i. h (suc i))))
  where
    go : (b : Bool) → length (keep s l) ≡ length (keep t m) → length (cond b (x ∷ keep s l) (keep s l)) ≡ length (cond b (y ∷ keep t m) (keep t m))
    go true ih = ap suc ih
    go false ih = ih

-- two tests, in either order
pub keep_swap : {A : Type 0} (s t : A → Bool) (l : List A) → keep s (keep t l) ≡ keep t (keep s l)
keep_swap s t l = sym (keep_and s t l) ∙ keep_same (λ x. s x && t x) (λ x. t x && s x) l (λ x. and_comm (s x) (t x)) ∙ keep_and t s l
  where
    and_comm : (a b : Bool) → (a && b) ≡ (b && a)
    and_comm true true = refl
    and_comm true false = refl
    and_comm false true = refl
    and_comm false false = refl

-- ---- sums

pub sum_append : (l m : List ℕ) → sum (l ++ m) ≡ sum l + sum m
unfolding sum
sum_append [] m = omega arith
sum_append (x ∷ l) m = omega (arith, sum_append l m)

pub sum_set : (l : List ℕ) (i v : ℕ) → i < length l → sum (set l i v) + get_or l i 0 ≡ sum l + v
unfolding sum
sum_set [] i v h = absurd (omega arith)
sum_set (x ∷ l) zero v h = omega arith
sum_set (x ∷ l) (suc i) v h = omega (arith, sum_set l i v (omega arith))

pub sum_one : (l : List ℕ) (i : ℕ) → get_or l i 0 ≤ sum l
unfolding sum
sum_one [] i = omega arith
sum_one (x ∷ l) zero = omega arith
sum_one (x ∷ l) (suc i) = omega (arith, sum_one l i)
