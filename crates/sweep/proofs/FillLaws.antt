-- A slice, or a part of it, filled place by place, and one of a single word. Assumes nothing.
use Rattle.std.proofs.Common.{◌≡◌, ℕ, ◌+◌, ◌-◌, ◌≤◌, List, [], ◌∷◌, ◌++◌, length, get_or, drop, set, replicate, sym, refl, ap, ◌∙◌, ⊎_elim, append-nil, arith, length-append, length-drop, get_or-drop, get_or-append-add}
use lib.ListN.{length-replicate, get_or-replicate, get_or-append}
use lib.Seq.{drop-length}
use Rattle.lists.specs.Seq.{upto, tabulate}
use Rattle.lists.proofs.SeqLaws.{tab_at, tab_length, tab_snoc}
use Rattle.lists.specs.Inside.Seg.{put}
use Rattle.lists.proofs.SegLaws.{lt_or_le, length-put, get_or-put_in, get_or-put_above, put_snoc, put_nil, ext_any}

module _ {A : Type 0} where
  -- what is put at the front
  put_front : (w vs : List A) → length vs ≤ length w → put w 0 vs ≡ vs ++ drop (length vs) w
  put_front w vs h =
      ext_any (put w 0 vs) (vs ++ drop (length vs) w)
      (length-put w 0 vs ∙ sym (length-append vs (drop (length vs) w) ∙ ap (λ (x : ℕ). length vs + x) (length-drop (length vs) w) ∙ omega arith))
      (λ j d p. ⊎_elim
      (λ l. ap (λ (i : ℕ). get_or (put w 0 vs) i d) {x = j} {y = 0 + j} (omega arith) ∙ get_or-put_in w 0 vs j d l (omega (arith, length-put w 0 vs)) ∙ sym (get_or-append vs (drop (length vs) w) d j l))
      (λ l.
      get_or-put_above w 0 vs j d (omega arith)
      ∙ ap (λ (i : ℕ). get_or w i d) {x = j} {y = length vs + (j - length vs)} (omega arith)
      ∙ sym (get_or-drop (length vs) w (j - length vs) d)
      ∙ sym (get_or-append-add vs (drop (length vs) w) (j - length vs) d)
      ∙ ap (λ (i : ℕ). get_or (vs ++ drop (length vs) w) i d) {x = length vs + (j - length vs)} {y = j} (omega arith))
      (lt_or_le j (length vs)))

  module _ (f : ℕ → A) (w₀ : List A) where
    -- a part of it, from b on
    pub part_begin : (b : ℕ) → w₀ ≡ put w₀ b (tabulate 0 f)
    unfolding tabulate upto
    part_begin b = sym (put_nil w₀ b)

    pub part_on : (b : ℕ) (w : List A) (i : ℕ) (x : A) → w ≡ put w₀ b (tabulate i f) → x ≡ f i → set w (b + i) x ≡ put w₀ b (tabulate (i + 1) f)
    part_on b w i x e h =
        ap (λ (l : List A). set l (b + i) x) e
        ∙ ap (λ (y : A). set (put w₀ b (tabulate i f)) (b + i) y) h
        ∙ ap (λ (j : ℕ). set (put w₀ b (tabulate i f)) (b + j) (f i)) (sym (tab_length f i))
        ∙ put_snoc w₀ b (tabulate i f) (f i)
        ∙ ap (put w₀ b) (sym (tab_snoc f i))

    -- from the front
    pub fill_begin : w₀ ≡ put w₀ 0 (tabulate 0 f)
    fill_begin = part_begin 0

    pub fill_on : (w : List A) (i : ℕ) (x : A) → w ≡ put w₀ 0 (tabulate i f) → x ≡ f i → set w i x ≡ put w₀ 0 (tabulate (i + 1) f)
    fill_on w i x e h = ap (λ (j : ℕ). set w j x) {x = i} {y = 0 + i} (omega arith) ∙ part_on 0 w i x e h

    pub fill_front : (w : List A) (i n : ℕ) → w ≡ put w₀ 0 (tabulate i f) → i ≡ n → n ≤ length w₀ → w ≡ tabulate n f ++ drop n w₀
    fill_front w i n e h l =
        e ∙ ap (λ (j : ℕ). put w₀ 0 (tabulate j f)) h
        ∙ put_front w₀ (tabulate n f) (omega (arith, tab_length f n))
        ∙ ap (λ (j : ℕ). tabulate n f ++ drop j w₀) (tab_length f n)

    pub fill_all : (w : List A) (i n : ℕ) → w ≡ put w₀ 0 (tabulate i f) → i ≡ n → length w₀ ≡ n → w ≡ tabulate n f
    fill_all w i n e h l = fill_front w i n e h (omega arith) ∙ ap (λ (x : List A). tabulate n f ++ x) (ap (λ (j : ℕ). drop j w₀) (sym l) ∙ drop-length w₀) ∙ append-nil (tabulate n f)

  zeros : (z : A) (m : ℕ) → tabulate m (λ _. z) ≡ replicate m z
  zeros z m = ext_any (tabulate m (λ _. z)) (replicate m z) (tab_length (λ _. z) m ∙ sym (length-replicate m z)) (λ j d p. tab_at (λ _. z) m j d (omega (arith, tab_length (λ _. z) m)) ∙ sym (get_or-replicate m j z d (omega (arith, tab_length (λ _. z) m))))

  pub zero_end : (z : A) (w₀ w : List A) (i : ℕ) → w ≡ put w₀ 0 (tabulate i (λ _. z)) → i ≡ length w₀ → w ≡ replicate (length w₀) z
  zero_end z w₀ w i e h = fill_all (λ _. z) w₀ w i (length w₀) e h refl ∙ zeros z (length w₀)

  -- all of a slice in one value
  pub put_all : (w : List A) (z : A) (n : ℕ) → n ≡ length w → put w 0 (replicate n z) ≡ replicate (length w) z
  put_all w z n e = ap (λ (k : ℕ). put w 0 (replicate k z)) e ∙ ap (put w 0) (sym (zeros z (length w))) ∙ fill_all (λ _. z) w (put w 0 (tabulate (length w) (λ _. z))) (length w) (length w) refl refl refl ∙ zeros z (length w)

-- one word set
pub one_set : (l : List ℕ) (k : ℕ) → length l ≡ 1 → set l 0 k ≡ k ∷ []
one_set [] k e = absurd (omega arith)
one_set (x ∷ []) k e = refl
one_set (x ∷ y ∷ l) k e = absurd (omega arith)
