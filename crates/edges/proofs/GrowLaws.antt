-- Parts that grow by one, side by side. Assumes nothing.
use Rattle.std.proofs.Common.{◌≡◌, ℕ, ◌+◌, ◌<◌, List, [], ◌∷◌, ◌++◌, length, set, sym, ap, ◌∙◌, arith}
use Rattle.lists.specs.Inside.Seg.{put}
use Rattle.lists.proofs.SegLaws.{put_snoc, set-put_below}

module _ {A : Type 0} where
  pub snoc_at : (w : List A) (b : ℕ) (vs : List A) (k : ℕ) (x : A) → length vs ≡ k → set (put w b vs) (b + k) x ≡ put w b (vs ++ (x ∷ []))
  snoc_at w b vs k x e = ap (λ (j : ℕ). set (put w b vs) (b + j) x) (sym e) ∙ put_snoc w b vs x

  pub two : (w : List A) (a b k : ℕ) (X Y : List A) (x y : A) → length X ≡ k → length Y ≡ k → a + k < b
      → set (set (put (put w a X) b Y) (a + k) x) (b + k) y ≡ put (put w a (X ++ (x ∷ []))) b (Y ++ (y ∷ []))
  two w a b k X Y x y l_x l_y h =
      ap (λ (l : List A). set l (b + k) y) (set-put_below (put w a X) b Y (a + k) x h)
      ∙ ap (λ (l : List A). set (put l b Y) (b + k) y) (snoc_at w a X k x l_x)
      ∙ snoc_at (put w a (X ++ (x ∷ []))) b Y k y l_y

  pub four : (w : List A) (a b c d k : ℕ) (X Y Z U : List A) (x y z u : A) → length X ≡ k → length Y ≡ k → length Z ≡ k → length U ≡ k → a + k < b → b + k < c → c + k < d
      → set (set (set (set (put (put (put (put w a X) b Y) c Z) d U) (a + k) x) (b + k) y) (c + k) z) (d + k) u
      ≡ put (put (put (put w a (X ++ (x ∷ []))) b (Y ++ (y ∷ []))) c (Z ++ (z ∷ []))) d (U ++ (u ∷ []))
  four w a b c d k X Y Z U x y z u l_x l_y l_z l_u h g f =
      let P : List A = put (put w a X) b Y in
      ap (λ (l : List A). set (set (set l (b + k) y) (c + k) z) (d + k) u) (below P (a + k) x (omega arith))
      ∙ ap (λ (l : List A). set (set l (c + k) z) (d + k) u) (below (set P (a + k) x) (b + k) y (omega arith))
      ∙ ap (λ (l : List A). set (set (put (put l c Z) d U) (c + k) z) (d + k) u) (two w a b k X Y x y l_x l_y h)
      ∙ two (put (put w a (X ++ (x ∷ []))) b (Y ++ (y ∷ []))) c d k Z U z u l_z l_u f
    where
      -- a store below the two last parts
      below : (P : List A) (i : ℕ) (v : A) → i < c → set (put (put P c Z) d U) i v ≡ put (put (set P i v) c Z) d U
      below P i v l = set-put_below (put P c Z) d U i v (omega arith) ∙ ap (λ (q : List A). put q d U) (set-put_below P c Z i v l)
