-- Parts of a list one after another: stores that follow each other, blocks of one length, parts that are read, and parts of an array that are lent.
-- Assumes nothing.
use Prim.Native.Nat.{ℕ, zero, suc, ◌+◌, ◌*◌, ◌≤◌, ◌<◌}
use native.Mathlib.Omega.{arith}
use native.Mathlib.Numerals.{add-one}
use native.Mathlib.Nat.{add-zero}
use mathlib.Core.Path.{◌≡◌, refl, sym, ap, ◌∙◌}
use mathlib.Core.List.{List, [], ◌∷◌, ◌++◌, append-nil, append_assoc}
use lib.ListN.{length, get_or, set, take, drop, length-append, get_or-append, drop_of_length-le}
use lib.Seq.{drop-cons, get_or-append-add, length-take-le, length_front}
use Rattle.lists.specs.Seq.{upto, each}
use Rattle.lists.specs.Inside.Seg.{seg, put}
use Rattle.lists.proofs.SegLaws.{put_lent, seg_add}

-- ---- stores one after another

module _ {A : Type 0} where
  pub put_append : (w : List A) (b : ℕ) (us vs : List A) → put w b (us ++ vs) ≡ put (put w b us) (b + length us) vs
  unfolding put
  put_append w b [] vs = ap (λ (k : ℕ). put w k vs) (sym (add-zero b))
  put_append w b (u ∷ us) vs = put_append (set w b u) (suc b) us vs ∙ ap (λ (k : ℕ). put (put (set w b u) (suc b) us) k vs) (shift b (length us))
    where
      shift : (x y : ℕ) → suc x + y ≡ x + suc y
      shift x y = omega arith

  -- two stores, the second where the first ends
  pub put_then : (w w₁ w₂ : List A) (b c : ℕ) (us vs : List A) → w₁ ≡ put w b us → w₂ ≡ put w₁ c vs → c ≡ b + length us → w₂ ≡ put w b (us ++ vs)
  put_then w w₁ w₂ b c us vs e f g = f ∙ (λ i. put (e i) (g i) vs) ∙ sym (put_append w b us vs)

  pub put_one : (w : List A) (b : ℕ) (v : A) → set w b v ≡ put w b (v ∷ [])
  unfolding put
  put_one w b v = refl

  -- a store of the whole
  pub put_all : (w vs : List A) → length vs ≡ length w → put w 0 vs ≡ vs
  put_all w vs e =
      sym (put_lent w 0 vs (omega arith))
      ∙ ap (λ (l : List A). vs ++ l) (drop_of_length-le w {i = 0 + length vs} (omega arith))
      ∙ append-nil vs

-- ---- blocks of one length

module _ (f : ℕ → List ℕ) (k : ℕ) (same : (i : ℕ) → length (f i) ≡ k) where
  pub each_length : (n a : ℕ) → length (each f (upto n a)) ≡ n * k
  unfolding each upto
  each_length zero a = sym (zero_times k)
    where
      zero_times : (k : ℕ) → 0 * k ≡ 0
      zero_times k = omega arith
  each_length (suc n) a = length-append (f a) (each f (upto n (suc a))) ∙ more (length (f a)) (length (each f (upto n (suc a)))) (n * k) (suc n * k) (same a) (each_length n (suc a)) (times n k)
    where
      times : (n k : ℕ) → suc n * k ≡ k + n * k
      times n k = omega arith

      more : (x y z w : ℕ) → x ≡ k → y ≡ z → w ≡ k + z → x + y ≡ w
      more x y z w a b c = omega arith

  -- element j of block q
  pub each_at : (n a q j : ℕ) → q < n → j < k → get_or (each f (upto n a)) (q * k + j) 0 ≡ get_or (f (a + q)) j 0
  unfolding each upto
  each_at zero a q j h l = absurd (omega arith)
  each_at (suc n) a zero j h l =
      let z : 0 * k + j ≡ j = zero_times k j in
      ap (λ (p : ℕ). get_or (f a ++ each f (upto n (suc a))) p 0) z
      ∙ get_or-append (f a) (each f (upto n (suc a))) 0 j (under (length (f a)) (same a))
      ∙ ap (λ (p : ℕ). get_or (f p) j 0) (sym (add-zero a))
    where
      zero_times : (k j : ℕ) → 0 * k + j ≡ j
      zero_times k j = omega arith

      under : (x : ℕ) → x ≡ k → j < x
      under x e = omega arith
  each_at (suc n) a (suc q) j h l =
      let z : suc q * k + j ≡ length (f a) + (q * k + j) = ap (λ (x : ℕ). x + j) (times q k) ∙ shift k (length (f a)) (q * k) (same a) in
      ap (λ (p : ℕ). get_or (f a ++ each f (upto n (suc a))) p 0) z
      ∙ get_or-append-add (f a) (each f (upto n (suc a))) (q * k + j) 0
      ∙ each_at n (suc a) q j (omega arith) l
      ∙ ap (λ (p : ℕ). get_or (f p) j 0) (onward a q)
    where
      times : (q k : ℕ) → suc q * k ≡ k + q * k
      times q k = omega arith

      onward : (a q : ℕ) → suc a + q ≡ a + suc q
      onward a q = omega arith

      shift : (k x y : ℕ) → x ≡ k → k + y + j ≡ x + (y + j)
      shift k x y e = omega arith

-- one block more
each_next : {B : Type 0} (f : ℕ → List B) (n a : ℕ) → each f (upto (suc n) a) ≡ each f (upto n a) ++ f (a + n)
unfolding each upto
each_next f zero a = append-nil (f a) ∙ ap f (sym (add-zero a))
each_next f (suc n) a =
    ap (λ (l : List _). f a ++ l) (each_next f n (suc a))
    ∙ sym (append_assoc (f a) (each f (upto n (suc a))) (f (suc a + n)))
    ∙ ap (λ (p : ℕ). f a ++ each f (upto n (suc a)) ++ f p) (onward a n)
  where
    onward : (a n : ℕ) → suc a + n ≡ a + suc n
    onward a n = omega arith

pub each_more : {B : Type 0} (f : ℕ → List B) (n a : ℕ) → each f (upto (n + 1) a) ≡ each f (upto n a) ++ f (a + n)
each_more f n a = ap (λ (k : ℕ). each f (upto k a)) (add-one n) ∙ each_next f n a

-- blocks that agree
pub each_agree : {B : Type 0} (f g : ℕ → List B) (n a : ℕ) → ((i : ℕ) → a ≤ i → i < a + n → f i ≡ g i) → each f (upto n a) ≡ each g (upto n a)
unfolding each upto
each_agree f g zero a h = refl
each_agree f g (suc n) a h = (λ j. h a (omega arith) (omega arith) j ++ each_agree f g n (suc a) (λ i p q. h i (omega arith) (omega arith)) j)

-- ---- parts that are read

module _ {A : Type 0} (f : List A) where
  -- a part and the part after it
  pub seg_then : (a b n m k : ℕ) {xs ys : List A} → seg f a n ≡ xs → seg f b m ≡ ys → b ≡ a + n → k ≡ n + m → seg f a k ≡ xs ++ ys
  seg_then a b n m k {xs} {ys} e g h l = ap (λ (z : ℕ). seg f a z) l ∙ seg_add f a n m ∙ (λ i. e i ++ (ap (λ (z : ℕ). seg f z m) (sym h) ∙ g) i)

  -- parts of one length, one after another, are one part
  pub seg_each : (b k n a : ℕ) → each (λ i. seg f (b + i * k) k) (upto n a) ≡ seg f (b + a * k) (n * k)
  unfolding each upto seg
  seg_each b k zero a = sym (nothing (b + a * k) (0 * k) (zero_times k))
    where
      zero_times : (k : ℕ) → 0 * k ≡ 0
      zero_times k = omega arith

      nothing : (p z : ℕ) → z ≡ 0 → take z (drop p f) ≡ []
      nothing p z e = ap (λ (z : ℕ). take z (drop p f)) e
  seg_each b k (suc n) a =
      ap (λ (l : List A). seg f (b + a * k) k ++ l) (seg_each b k n (suc a))
      ∙ ap (λ (p : ℕ). seg f (b + a * k) k ++ seg f p (n * k)) (next b (a * k) (suc a * k) (times a k))
      ∙ sym (seg_add f (b + a * k) k (n * k))
      ∙ ap (λ (p : ℕ). seg f (b + a * k) p) (sym (times n k))
    where
      times : (n k : ℕ) → suc n * k ≡ k + n * k
      times n k = omega arith

      next : (b x y : ℕ) → y ≡ k + x → b + y ≡ b + x + k
      next b x y e = omega arith

  -- a part of one element
  pub seg_one : (a : ℕ) (d : A) → a < length f → seg f a 1 ≡ get_or f a d ∷ []
  unfolding seg
  seg_one a d h = ap (take 1) (drop-cons f a d h)

-- ---- a part of an array that is lent, and lent again after a call has written it

module _ {A : Type 0} (n m : ℕ) (l : List A) (long : m ≡ length l) (within : n ≤ m) where
  -- as it is first lent
  pub part : n ≡ length (take n l)
  part = sym (length-take-le n l (omega arith))

  -- and after the call, which left e in its place
  module _ (e : List A) (kept : length e ≡ length (take n l)) where
    pub back_within : n ≤ length (e ++ drop n l)
    back_within = omega (arith, length_front l e n kept)

    pub back_part : n ≡ length (take n (e ++ drop n l))
    back_part = sym (length-take-le n (e ++ drop n l) back_within)
