-- What holds of each element of a list, what is in one, tests of all elements, and tables at every index. Assumes nothing.
use Prim.Native.Nat.{ℕ, zero, suc, ◌+◌, ◌≤◌, ◌<◌}
use native.Mathlib.Omega.{arith}
use mathlib.Core.Path.{◌≡◌, refl, sym, ap, ◌∙◌}
use mathlib.Core.Bool.{Bool, true, false, cond, not, ◌&&◌, true≢false}
use mathlib.Core.List.{List, [], ◌∷◌, ◌++◌, map}
use mathlib.Core.Logic.{inl, inr, ⊎_elim}
use lib.Dec.{eqb, ltb}
use lib.ListN.{length, get_or}
use borrow.Author.Tests.{eqb-true, eqb-false, ltb-true, ltb-false}
use Rattle.lists.specs.Seq.{All, Member, keep, each, upto, all, tabulate}
use Rattle.lists.proofs.SeqLaws.{tab_at, tab_past}
use Rattle.lists.proofs.SegLaws.{eq_or_ne}

-- both parts of a test that passes
pub and_left : (b c : Bool) → (b && c) ≡ true → b ≡ true
and_left true c h = refl
and_left false c h = h

pub and_right : (b c : Bool) → (b && c) ≡ true → c ≡ true
and_right true c h = h
and_right false c h = absurd (true≢false (sym h))

pub and_three : (a b c : Bool) → (a && b && c) ≡ true → (a ≡ true) × (b ≡ true) × (c ≡ true)
and_three a b c h = let ab = and_left (a && b) c h in (and_left a b ab, and_right a b ab, and_right (a && b) c h)

-- ---- what holds of each

module _ {A : Type 0} where
  pub all_map : {P : A → Type 0} (Q : A → Type 0) (g : A → A) → ((a : A) → P a → Q (g a)) → (l : List A) → All P l → All Q (map g l)
  all_map Q g h [] t = tt
  all_map Q g h (x ∷ xs) t = (h x t.0, all_map Q g h xs t.1)

  pub all_weaker : (P Q : A → Type 0) → ((x : A) → P x → Q x) → (l : List A) → All P l → All Q l
  all_weaker P Q h [] t = tt
  all_weaker P Q h (x ∷ l) t = (h x t.0, all_weaker P Q h l t.1)

  pub all_append : (P : A → Type 0) (l m : List A) → All P l → All P m → All P (l ++ m)
  all_append P [] m t u = u
  all_append P (x ∷ l) m t u = (t.0, all_append P l m t.1 u)

  -- by index
  pub all_index : (P : A → Type 0) (l : List A) (d : A) → All P l → (i : ℕ) → i < length l → P (get_or l i d)
  all_index P [] d t i h = absurd (omega arith)
  all_index P (x ∷ l) d t zero h = t.0
  all_index P (x ∷ l) d t (suc i) h = all_index P l d t.1 i (omega arith)

  pub index_all : (P : A → Type 0) (l : List A) (d : A) → ((i : ℕ) → i < length l → P (get_or l i d)) → All P l
  index_all P [] d h = tt
  index_all P (x ∷ l) d h = (h 0 (omega arith), index_all P l d (λ i p. h (suc i) (omega arith)))

  -- one element or none
  pub all_cond : (P : A → Type 0) (b : Bool) (x : A) → (b ≡ true → P x) → All P (cond b (x ∷ []) [])
  all_cond P true x h = (h refl, tt)
  all_cond P false x h = tt

  pub all_keep : (P : A → Type 0) (f : A → Bool) (l : List A) → All P l → All P (keep f l)
  unfolding keep
  all_keep P f [] t = tt
  all_keep P f (x ∷ xs) t = go (f x) (all_keep P f xs t.1)
    where
      go : (b : Bool) → All P (keep f xs) → All P (cond b (x ∷ keep f xs) (keep f xs))
      go true u = (t.0, u)
      go false u = u

  pub keep_all : (f : A → Bool) (l : List A) → All (λ x. f x ≡ true) l → keep f l ≡ l
  unfolding keep
  keep_all f [] t = refl
  keep_all f (x ∷ xs) t = rw (t.0, keep_all f xs t.1) refl

  -- what holds of those that pass a test and of those that don't holds of all
  pub all_both : (P : A → Type 0) (f : A → Bool) (l : List A) → All P (keep f l) → All P (keep (λ x. not (f x)) l) → All P l
  unfolding keep
  all_both P f [] t u = tt
  all_both P f (x ∷ xs) t u = go (f x) t u (all_both P f xs)
    where
      go : (b : Bool) → All P (cond b (x ∷ keep f xs) (keep f xs)) → All P (cond (not b) (x ∷ keep (λ x. not (f x)) xs) (keep (λ x. not (f x)) xs))
          → (All P (keep f xs) → All P (keep (λ x. not (f x)) xs) → All P xs) → All P (x ∷ xs)
      go true t u ih = (t.0, ih t.1 u)
      go false t u ih = (u.0, ih t u.1)

pub all_each : {A B : Type 0} (P : B → Type 0) (f : A → List B) (l : List A) → ((x : A) → All P (f x)) → All P (each f l)
unfolding each
all_each P f [] h = tt
all_each P f (x ∷ l) h = all_append P (f x) (each f l) (h x) (all_each P f l h)

-- ---- what f gives of the numbers from k on, n of them

pub all_upto : {A : Type 0} (P : A → Type 0) (f : ℕ → A) (k n : ℕ) → ((i : ℕ) → k ≤ i → i < k + n → P (f i)) → All P (map f (upto n k))
unfolding upto
all_upto P f k zero h = tt
all_upto P f k (suc n) h = (h k (omega arith) (omega arith), all_upto P f (suc k) n (λ i a b. h i (omega arith) (omega arith)))

pub mem_upto : {A : Type 0} (f : ℕ → A) (k n i : ℕ) → k ≤ i → i < k + n → Member (f i) (map f (upto n k))
unfolding upto
mem_upto f k zero i p q = absurd (omega arith)
mem_upto f k (suc n) i p q = ⊎_elim (λ e. inl (ap f (sym e))) (λ e. inr (mem_upto f (suc k) n i (omega arith) (omega arith))) (eq_or_ne i k)

pub upto_mem : {A : Type 0} (f : ℕ → A) (k n : ℕ) (a : A) → Member a (map f (upto n k)) → (i : ℕ) × (k ≤ i) × (i < k + n) × (f i ≡ a)
unfolding upto
upto_mem f k zero a h = absurd h
upto_mem f k (suc n) a (inl e) = (k, omega arith, omega arith, e)
upto_mem f k (suc n) a (inr h) = let w : (i : ℕ) × (suc k ≤ i) × (i < suc k + n) × (f i ≡ a) = upto_mem f (suc k) n a h in (w.0, omega (arith, w.1), omega (arith, w.2), w.3)

-- ---- tests of all numbers from k on, n of them

pub all_at : (t : ℕ → Bool) (n k g : ℕ) → k ≤ g → g < n + k → all t (upto n k) ≡ true → t g ≡ true
unfolding all upto
all_at t zero k g a b h = absurd (omega arith)
all_at t (suc n) k g a b h = go (eqb k g) refl (λ w. all_at t n (suc k) g w (omega arith) (and_right (t k) _ h))
  where
    go : (c : Bool) → eqb k g ≡ c → (suc k ≤ g → t g ≡ true) → t g ≡ true
    go true e ih = ap t (sym (eqb-true k g e)) ∙ and_left (t k) _ h
    go false e ih = ih (omega (arith, eqb-false k g e))

pub all_true : (t : ℕ → Bool) (l : List ℕ) → ((g : ℕ) → t g ≡ true) → all t l ≡ true
unfolding all
all_true t [] h = refl
all_true t (x ∷ l) h = rw (h x) (all_true t l h)

pub all_false : (t : ℕ → Bool) (n k g : ℕ) → k ≤ g → g < n + k → t g ≡ false → all t (upto n k) ≡ false
all_false t n k g a b h = go (all t (upto n k)) refl
  where
    go : (c : Bool) → all t (upto n k) ≡ c → c ≡ false
    go true e = absurd (true≢false (sym (all_at t n k g a b e) ∙ h))
    go false e = refl

-- ---- a table whose function gives the default past its end

pub tab_all : {A : Type 0} (f : ℕ → A) (n i : ℕ) (d : A) → (n ≤ i → f i ≡ d) → get_or (tabulate n f) i d ≡ f i
tab_all f n i d h = go (ltb i n) refl
  where
    go : (b : Bool) → ltb i n ≡ b → get_or (tabulate n f) i d ≡ f i
    go true e = tab_at f n i d (ltb-true i n e)
    go false e = tab_past f n i d (ltb-false i n e) ∙ sym (h (ltb-false i n e))
