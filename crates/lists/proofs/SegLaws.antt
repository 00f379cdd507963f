-- The laws of `seg` and `put`. Assumes nothing.
use mathlib.Core.Path.{◌≡◌, refl, sym, ap, ◌∙◌}
use mathlib.Core.Logic.{◌⊎◌, inl, inr, ⊎_elim, by_cases}
use mathlib.Core.List.{List, [], ◌∷◌, ◌++◌, append_assoc}
use Prim.Native.Nat.{ℕ, zero, suc, ◌+◌, ◌-◌, ◌≤◌, ◌<◌}
use native.Mathlib.Nat.{not-suc-le-zero, le_of_suc-le-suc, add-zero}
use native.Mathlib.Numerals.{add-one}
use native.Mathlib.Omega.{arith}
use native.Mathlib.Decide.{dec_lt, ℕ_discrete}
use lib.ListN.{length, get_or, take, drop, set, replicate, length-set, length-drop, length-replicate, replicate-append-replicate, get_or-replicate}
use lib.Seq.{get_or-set_same, get_or-set_other, get_or-take, get_or-drop, length-take-le, ext_get_or, sets, sets-eq, take-suc, set-set, set_comm, drop-drop, take-add, take_all, drop-set-lt}
use borrow.Rule.Slice.PartMut.{put_mid}
use Rattle.lists.specs.Inside.Seg.{seg, put, Disjoint}
use Rattle.lists.specs.Seq.{tabulate, sum}
use Rattle.lists.proofs.SeqLaws.{tab_at, tab_length, sum_append}

pub lt_or_le : (m n : ℕ) → (m < n) ⊎ (n ≤ m)
lt_or_le m n = by_cases (dec_lt m n) inl (λ k. inr (omega arith))

pub eq_or_ne : (m n : ℕ) → (m ≡ n) ⊎ (m ≡ n → ⊥)
eq_or_ne m n = by_cases (ℕ_discrete m n) inl inr

module _ {A : Type 0} where
  -- ---- lengths
  pub length-put : (w : List A) (b : ℕ) (vs : List A) → length (put w b vs) ≡ length w
  unfolding put
  length-put w b [] = refl
  length-put w b (v ∷ vs) = length-put (set w b v) (suc b) vs ∙ length-set w b v

  pub length-seg : (w : List A) (b n : ℕ) → b + n ≤ length w → length (seg w b n) ≡ n
  unfolding seg
  length-seg w b n h = length-take-le n (drop b w) (omega (arith, length-drop b w))

  -- ---- reads
  pub get_or-put_below : (w : List A) (b : ℕ) (vs : List A) (j : ℕ) (d : A) → j < b → get_or (put w b vs) j d ≡ get_or w j d
  unfolding put
  get_or-put_below w b [] j d h = refl
  get_or-put_below w b (v ∷ vs) j d h =
      get_or-put_below (set w b v) (suc b) vs j d (omega arith) ∙ get_or-set_other w b j v d (λ e. omega arith)

  pub get_or-put_above : (w : List A) (b : ℕ) (vs : List A) (j : ℕ) (d : A) → b + length vs ≤ j → get_or (put w b vs) j d ≡ get_or w j d
  unfolding put
  get_or-put_above w b [] j d h = refl
  get_or-put_above w b (v ∷ vs) j d h =
      get_or-put_above (set w b v) (suc b) vs j d (omega arith) ∙ get_or-set_other w b j v d (λ e. omega arith)

  pub get_or-put_in : (w : List A) (b : ℕ) (vs : List A) (i : ℕ) (d : A) → i < length vs → b + i < length w → get_or (put w b vs) (b + i) d ≡ get_or vs i d
  unfolding put
  get_or-put_in w b [] i d h k = absurd (not-suc-le-zero h)
  get_or-put_in w b (v ∷ vs) zero d h k =
      rw add-zero (get_or-put_below (set w b v) (suc b) vs b d (omega arith) ∙ get_or-set_same w b v d (omega arith))
  get_or-put_in w b (v ∷ vs) (suc i) d h k =
      ap (λ (j : ℕ). get_or (put (set w b v) (suc b) vs) j d) (omega arith)
      ∙ get_or-put_in (set w b v) (suc b) vs i d (le_of_suc-le-suc h) (omega (arith, length-set w b v))

  pub get_or-seg : (w : List A) (b n i : ℕ) (d : A) → i < n → get_or (seg w b n) i d ≡ get_or w (b + i) d
  unfolding seg
  get_or-seg w b n i d h = get_or-take n (drop b w) i d h ∙ get_or-drop b w i d

  -- ---- one more store
  pub put_snoc : (w : List A) (b : ℕ) (vs : List A) (x : A) → set (put w b vs) (b + length vs) x ≡ put w b (vs ++ (x ∷ []))
  unfolding put
  put_snoc w b [] x = ap (λ (j : ℕ). set w j x) (add-zero b)
  put_snoc w b (v ∷ vs) x =
      ap (λ (j : ℕ). set (put (set w b v) (suc b) vs) j x) (omega arith) ∙ put_snoc (set w b v) (suc b) vs x

  -- ---- stores into a segment that was put, and beside it
  pub set-put_below : (w : List A) (b : ℕ) (vs : List A) (j : ℕ) (x : A) → j < b → set (put w b vs) j x ≡ put (set w j x) b vs
  unfolding put
  set-put_below w b [] j x h = refl
  set-put_below w b (v ∷ vs) j x h =
      set-put_below (set w b v) (suc b) vs j x (omega arith) ∙ ap (λ (l : List A). put l (suc b) vs) (set_comm w b j v x (λ e. omega arith))

  pub set-put_above : (w : List A) (b : ℕ) (vs : List A) (j : ℕ) (x : A) → b + length vs ≤ j → set (put w b vs) j x ≡ put (set w j x) b vs
  unfolding put
  set-put_above w b [] j x h = refl
  set-put_above w b (v ∷ vs) j x h =
      set-put_above (set w b v) (suc b) vs j x (omega arith) ∙ ap (λ (l : List A). put l (suc b) vs) (set_comm w b j v x (λ e. omega arith))

  pub set-put : (w : List A) (b : ℕ) (vs : List A) (i : ℕ) (x : A) → i < length vs → set (put w b vs) (b + i) x ≡ put w b (set vs i x)
  unfolding put
  set-put w b [] i x h = absurd (not-suc-le-zero h)
  set-put w b (v ∷ vs) zero x h =
      ap (λ (j : ℕ). set (put (set w b v) (suc b) vs) j x) (add-zero b)
      ∙ set-put_below (set w b v) (suc b) vs b x (omega arith)
      ∙ ap (λ (l : List A). put l (suc b) vs) (set-set w b v x)
  set-put w b (v ∷ vs) (suc i) x h =
      ap (λ (j : ℕ). set (put (set w b v) (suc b) vs) j x) (omega arith) ∙ set-put (set w b v) (suc b) vs i x (le_of_suc-le-suc h)

  -- ---- segments of a list with a segment put
  seg_ext : (u w : List A) (b n : ℕ) → length u ≡ length w → ((j : ℕ) (d : A) → b ≤ j → j < b + n → get_or u j d ≡ get_or w j d) → seg u b n ≡ seg w b n
  unfolding seg
  seg_ext u w b zero e h = refl
  seg_ext [] [] b (suc n) e h = refl
  seg_ext [] (y ∷ w) b (suc n) e h = absurd (omega arith)
  seg_ext (x ∷ u) [] b (suc n) e h = absurd (omega arith)
  seg_ext (x ∷ u) (y ∷ w) zero (suc n) e h =
      ap (λ (a : A). a ∷ take n u) (h zero x (omega arith) (omega arith))
      ∙ ap (λ (l : List A). y ∷ l) (seg_ext u w zero n (omega arith) (λ j d p q. h (suc j) d (omega arith) (omega arith)))
  seg_ext (x ∷ u) (y ∷ w) (suc b) (suc n) e h = seg_ext u w b (suc n) (omega arith) (λ j d p q. h (suc j) d (omega arith) (omega arith))

  pub seg-put_below : (w : List A) (b : ℕ) (vs : List A) (c n : ℕ) → c + n ≤ b → seg (put w b vs) c n ≡ seg w c n
  seg-put_below w b vs c n h = seg_ext (put w b vs) w c n (length-put w b vs) (λ j d p q. get_or-put_below w b vs j d (omega arith))

  pub seg-put_above : (w : List A) (b : ℕ) (vs : List A) (c n : ℕ) → b + length vs ≤ c → seg (put w b vs) c n ≡ seg w c n
  seg-put_above w b vs c n h = seg_ext (put w b vs) w c n (length-put w b vs) (λ j d p q. get_or-put_above w b vs j d (omega arith))

  pub drop-put_above : (w : List A) (b : ℕ) (vs : List A) (c : ℕ) → b + length vs ≤ c → drop c (put w b vs) ≡ drop c w
  unfolding put
  drop-put_above w b [] c h = refl
  drop-put_above w b (v ∷ vs) c h = drop-put_above (set w b v) (suc b) vs c (omega arith) ∙ drop-set-lt c w b v (omega arith)

  -- ---- equality of whole lists, by index (the default is any element)
  pub ext_any : (u w : List A) → length u ≡ length w → ((j : ℕ) (d : A) → j < length u → get_or u j d ≡ get_or w j d) → u ≡ w
  ext_any [] [] e h = refl
  ext_any [] (y ∷ w) e h = absurd (omega arith)
  ext_any (x ∷ u) [] e h = absurd (omega arith)
  ext_any (x ∷ u) (y ∷ w) e h = ext_get_or x (x ∷ u) (y ∷ w) e (λ j p. h j x p)

  pub seg-put_same : (w : List A) (b : ℕ) (vs : List A) → b + length vs ≤ length w → seg (put w b vs) b (length vs) ≡ vs
  seg-put_same w b vs h =
      let k : length (seg (put w b vs) b (length vs)) ≡ length vs = length-seg (put w b vs) b (length vs) (omega (arith, length-put w b vs)) in
      ext_any (seg (put w b vs) b (length vs)) vs k
      (λ j d p. get_or-seg (put w b vs) b (length vs) j d (omega arith) ∙ get_or-put_in w b vs j d (omega arith) (omega arith))

  -- a segment put back where it was
  pub put-seg : (w : List A) (b n : ℕ) → b + n ≤ length w → put w b (seg w b n) ≡ w
  put-seg w b n h =
      ext_any (put w b (seg w b n)) w (length-put w b (seg w b n)) (λ j d p. at j d (omega (arith, length-put w b (seg w b n))))
    where
      l : length (seg w b n) ≡ n
      l = length-seg w b n h

      at : (j : ℕ) (d : A) → j < length w → get_or (put w b (seg w b n)) j d ≡ get_or w j d
      at j d p = ⊎_elim (λ q. get_or-put_below w b (seg w b n) j d q)
          (λ q. ⊎_elim
          (λ r.
          let e : j ≡ b + (j - b) = omega arith in
          ap (λ (i : ℕ). get_or (put w b (seg w b n)) i d) e
          ∙ get_or-put_in w b (seg w b n) (j - b) d (omega (arith, l)) (omega arith)
          ∙ get_or-seg w b n (j - b) d (omega arith)
          ∙ ap (λ (i : ℕ). get_or w i d) (sym e))
          (λ r. get_or-put_above w b (seg w b n) j d (omega (arith, l)))
          (lt_or_le j (b + n)))
          (lt_or_le j b)

  -- ---- fills
  pub put_nil : (w : List A) (b : ℕ) → put w b [] ≡ w
  unfolding put
  put_nil w b = refl

  sets_put : (l : List A) (i : ℕ) (us : List A) → sets l i us ≡ put l i us
  unfolding put
  sets_put l i [] = refl
  sets_put l i (u ∷ us) = sets_put (set l i u) (suc i) us

  -- what a callee that was lent `&mut w[b..e]` leaves, as a `put`
  pub put_lent : (w : List A) (b : ℕ) (vs : List A) → b + length vs ≤ length w → take b w ++ vs ++ drop (b + length vs) w ≡ put w b vs
  put_lent w b vs h = sym (sets-eq vs w b h) ∙ sets_put w b vs

  -- the same, as the borrow checker states it where the part has come back
  pub put_mid_lem : (w : List A) (b k : ℕ) (vs : List A) → length vs ≡ k → b + k ≤ length w → put_mid b k w vs ≡ put w b vs
  put_mid_lem w b k vs e h =
      sym (append_assoc (take b w) vs (drop k (drop b w)))
      ∙ ap (λ (t : List A). take b w ++ vs ++ t) (drop-drop k b w ∙ ap (λ (n : ℕ). drop (b + n) w) (sym e))
      ∙ put_lent w b vs (omega arith)

  -- ---- outside, with no need to say on which side
  pub get_or-put_out : (w : List A) (b : ℕ) (vs : List A) (j : ℕ) (d : A) → (b ≤ j → j < b + length vs → ⊥) → get_or (put w b vs) j d ≡ get_or w j d
  get_or-put_out w b vs j d h =
      ⊎_elim (λ p. get_or-put_below w b vs j d p)
      (λ p. ⊎_elim (λ q. absurd (h p q)) (λ q. get_or-put_above w b vs j d q) (lt_or_le j (b + length vs)))
      (lt_or_le j b)

  pub set-put_out : (w : List A) (b : ℕ) (vs : List A) (j : ℕ) (x : A) → (b ≤ j → j < b + length vs → ⊥) → set (put w b vs) j x ≡ put (set w j x) b vs
  set-put_out w b vs j x h =
      ⊎_elim (λ p. set-put_below w b vs j x p)
      (λ p. ⊎_elim (λ q. absurd (h p q)) (λ q. set-put_above w b vs j x q) (lt_or_le j (b + length vs)))
      (lt_or_le j b)

  pub seg-put_out : (w : List A) (b : ℕ) (vs : List A) (c n : ℕ) → Disjoint c n b (length vs) → seg (put w b vs) c n ≡ seg w c n
  seg-put_out w b vs c n h = seg_ext (put w b vs) w c n (length-put w b vs) (λ j d p q. get_or-put_out w b vs j d (λ r s. h j p q r s))

  -- ---- segments after one store
  pub seg-set_out : (w : List A) (j : ℕ) (x : A) (b n : ℕ) → (b ≤ j → j < b + n → ⊥) → seg (set w j x) b n ≡ seg w b n
  seg-set_out w j x b n h = seg_ext (set w j x) w b n (length-set w j x) (λ i d p q. get_or-set_other w j i x d (λ e. h (omega arith) (omega arith)))

  pub seg_snoc : (w : List A) (b n : ℕ) (d : A) → b + n < length w → seg w b (n + 1) ≡ seg w b n ++ (get_or w (b + n) d ∷ [])
  unfolding seg
  seg_snoc w b n d h =
      ap (λ (k : ℕ). take k (drop b w)) (add-one n)
      ∙ take-suc (drop b w) n d (omega (arith, length-drop b w))
      ∙ ap (λ (y : A). take n (drop b w) ++ (y ∷ [])) (get_or-drop b w n d)

  pub seg-set_snoc : (w : List A) (b n : ℕ) (x : A) → b + n < length w → seg (set w (b + n) x) b (n + 1) ≡ seg w b n ++ (x ∷ [])
  seg-set_snoc w b n x h =
      seg_snoc (set w (b + n) x) b n x (omega (arith, length-set w (b + n) x))
      ∙ ap (λ (s : List A). s ++ (get_or (set w (b + n) x) (b + n) x ∷ [])) (seg-set_out w (b + n) x b n (λ p q. omega arith))
      ∙ ap (λ (y : A). seg w b n ++ (y ∷ [])) (get_or-set_same w (b + n) x x h)

  pub seg_add : (w : List A) (b n m : ℕ) → seg w b (n + m) ≡ seg w b n ++ seg w (b + n) m
  unfolding seg
  seg_add w b n m = take-add n m (drop b w) ∙ ap (λ (t : List A). take n (drop b w) ++ take m t) (drop-drop n b w)

  pub seg_all : (w : List A) (n : ℕ) → length w ≡ n → seg w 0 n ≡ w
  unfolding seg
  seg_all w n e = take_all n w (omega arith)

-- ---- tables of a function
-- a list is the table of what it holds
pub is_tab : (l : List ℕ) (f : ℕ → ℕ) (n : ℕ) → length l ≡ n → ((i : ℕ) → i < n → get_or l i 0 ≡ f i) → l ≡ tabulate n f
is_tab l f n e h =
    ext_get_or 0 l (tabulate n f) (e ∙ sym (tab_length f n)) (λ i p. h i (omega arith) ∙ sym (tab_at f n i 0 (omega arith)))

pub zeros : (k : ℕ) → replicate {A = ℕ} k 0 ≡ tabulate k (λ _. 0)
zeros k = is_tab (replicate {A = ℕ} k 0) (λ _. 0) k (length-replicate k 0) (λ i p. get_or-replicate k i 0 0 p)

-- one store into a table gives the table of a function that differs there alone
pub set_tab : (f g : ℕ → ℕ) (n i x : ℕ) → i < n → g i ≡ x → ((j : ℕ) → (j ≡ i → ⊥) → g j ≡ f j) → set (tabulate n f) i x ≡ tabulate n g
set_tab f g n i x h e o =
    is_tab (set (tabulate n f) i x) g n (length-set (tabulate n f) i x ∙ tab_length f n)
    (λ j p. ⊎_elim
    (λ q. ap (λ (y : ℕ). get_or (set (tabulate n f) i x) y 0) q ∙ get_or-set_same (tabulate n f) i x 0 (omega (arith, tab_length f n)) ∙ sym e ∙ ap g (sym q))
    (λ q. get_or-set_other (tabulate n f) i j x 0 q ∙ tab_at f n j 0 p ∙ sym (o j q))
    (eq_or_ne j i))

-- a read of a part that lies apart from what was put
pub get_or-put_apart : {A : Type 0} (w : List A) (b : ℕ) (vs : List A) (n a m i : ℕ) (d : A) → length vs ≡ n → Disjoint a m b n → i < m → get_or (put w b vs) (a + i) d ≡ get_or w (a + i) d
get_or-put_apart w b vs n a m i d e h l = get_or-put_out w b vs (a + i) d (λ p q. h (a + i) (omega arith) (omega arith) p (omega arith))

-- what is put twice at one place is the last
pub put-put : {A : Type 0} (w : List A) (b : ℕ) (us vs : List A) → length us ≡ length vs → put (put w b us) b vs ≡ put w b vs
unfolding put
put-put w b [] [] e = refl
put-put w b [] (v ∷ vs) e = absurd (omega arith)
put-put w b (u ∷ us) [] e = absurd (omega arith)
put-put {A} w b (u ∷ us) (v ∷ vs) e =
    ap (λ (l : List A). put l (suc b) vs) (set-put_below (set w b u) (suc b) us b v (omega arith) ∙ ap (λ (l : List A). put l (suc b) us) (set-set w b u v))
    ∙ put-put (set w b v) (suc b) us vs (omega arith)

-- a store into a segment is a store of the segment
pub seg-set_in : {A : Type 0} (w : List A) (b n i : ℕ) (x : A) → i < n → b + n ≤ length w → seg (set w (b + i) x) b n ≡ set (seg w b n) i x
seg-set_in {A} w b n i x h k =
    let l : length (seg w b n) ≡ n = length-seg w b n k in
    let m : length (seg (set w (b + i) x) b n) ≡ n = length-seg (set w (b + i) x) b n (omega (arith, length-set w (b + i) x)) in
    ext_any (seg (set w (b + i) x) b n) (set (seg w b n) i x) (m ∙ sym (length-set (seg w b n) i x ∙ l))
    (λ j d p.
    get_or-seg (set w (b + i) x) b n j d (omega arith)
    ∙ ⊎_elim
    (λ e. ap (λ (y : ℕ). get_or (set w (b + i) x) (b + y) d) e ∙ get_or-set_same w (b + i) x d (omega arith) ∙ sym (ap (λ (y : ℕ). get_or (set (seg w b n) i x) y d) e ∙ get_or-set_same (seg w b n) i x d (omega arith)))
    (λ e. get_or-set_other w (b + i) (b + j) x d (λ q. e (omega arith)) ∙ sym (get_or-seg w b n j d (omega arith)) ∙ sym (get_or-set_other (seg w b n) i j x d e))
    (eq_or_ne j i))

-- a part of a part
pub seg_part : {A : Type 0} (w : List A) (a k b n : ℕ) → b + n ≤ k → a + k ≤ length w → seg (seg w a k) b n ≡ seg w (a + b) n
seg_part w a k b n h l =
    let lk : length (seg w a k) ≡ k = length-seg w a k l in
    ext_any (seg (seg w a k) b n) (seg w (a + b) n) (length-seg (seg w a k) b n (omega arith) ∙ sym (length-seg w (a + b) n (omega arith)))
    (λ j d p.
    let q : j < n = omega (arith, length-seg (seg w a k) b n (omega arith)) in
    get_or-seg (seg w a k) b n j d q ∙ get_or-seg w a k (b + j) d (omega arith) ∙ ap (λ (i : ℕ). get_or w i d) (omega arith) ∙ sym (get_or-seg w (a + b) n j d q))

-- ---- a part that was lent and has come back: the part is what the callee left, and all else is as it was
module _ {A : Type 0} (w : List A) (a k : ℕ) (ys : List A) (e : length ys ≡ k) (h : a + k ≤ length w) where
  pub lent_seg : seg (put_mid a k w ys) a k ≡ ys
  lent_seg = ap (λ (x : List A). seg x a k) (put_mid_lem w a k ys e h) ∙ ap (seg (put w a ys) a) (sym e) ∙ seg-put_same w a ys (omega arith)

  pub lent_else : (j : ℕ) (d : A) → (a ≤ j → j < a + k → ⊥) → get_or (put_mid a k w ys) j d ≡ get_or w j d
  lent_else j d o = ap (λ (x : List A). get_or x j d) (put_mid_lem w a k ys e h) ∙ get_or-put_out w a ys j d (λ p q. o p (omega arith))

-- ---- sums of a segment

pub sum_more : (w : List ℕ) (b n : ℕ) → b + n < length w → sum (seg w b (n + 1)) ≡ sum (seg w b n) + get_or w (b + n) 0
unfolding sum
sum_more w b n h = ap sum (seg_snoc w b n 0 h) ∙ sum_append (seg w b n) (get_or w (b + n) 0 ∷ []) ∙ omega arith

pub sum_le : (w : List ℕ) (b n m : ℕ) → n ≤ m → sum (seg w b n) ≤ sum (seg w b m)
sum_le w b n m h = let z : n + (m - n) ≡ m = omega arith in omega (arith, sym (ap (λ (k : ℕ). sum (seg w b k)) z), ap sum (seg_add w b n (m - n)), sum_append (seg w b n) (seg w (b + n) (m - n)))

-- the sums of what f grows by are f
pub sums_are : (w : List ℕ) (b k : ℕ) (f : ℕ → ℕ) → b + k ≤ length w → f 0 ≡ 0 → ((n : ℕ) → n < k → f (suc n) ≡ f n + get_or w (b + n) 0) → (n : ℕ) → n ≤ k → sum (seg w b n) ≡ f n
sums_are w b k f h z s zero p = (unfold seg sum in sym z)
sums_are w b k f h z s (suc n) p = ap (λ (j : ℕ). sum (seg w b j)) (sym (add-one n)) ∙ omega (arith, sum_more w b n (omega arith), sums_are w b k f h z s n (omega arith), s n p)
