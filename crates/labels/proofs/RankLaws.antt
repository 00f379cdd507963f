-- Ranks among the first gates, gate by gate. Assumes nothing.
use Rattle.std.proofs.Common.{◌≡◌, ℕ, zero, suc, ◌+◌, ◌-◌, ◌<◌, ◌≤◌, Bool, true, false, cond, ◌&&◌, eqb, leb, List, [], ◌∷◌, length, get_or, refl, ap, ◌∙◌, ⊎_elim, not-suc-le-zero, arith, eq-eqb, ne_eqb, le-leb, leb-false, leb-true}
use borrow.Author.Tests.{lt-leb}
use Rattle.lists.specs.Seq.{upto, keep}
use Rattle.labels.specs.Label.{rank, firsts}
use Rattle.lists.proofs.SegLaws.{eq_or_ne}

unfoldable pub bit : Bool → ℕ
bit true = 1
bit false = 0

rank_nil : (r : ℕ) → rank [] r ≡ 0
unfolding rank keep
rank_nil r = refl

pub rank_cons : (f r : ℕ) (fs : List ℕ) → rank (f ∷ fs) r ≡ bit (leb f r) + rank fs r
unfolding keep rank bit
rank_cons f r fs = go (leb f r)
  where
    go : (b : Bool) → length {A = ℕ} (cond b (f ∷ keep (λ g. leb g r) fs) (keep (λ g. leb g r) fs)) ≡ bit b + length (keep (λ g. leb g r) fs)
    go true = omega arith
    go false = omega arith

module _ (p : ℕ → Bool) where
  -- one more candidate
  more : (m s r : ℕ) → rank (keep p (upto (suc m) s)) r ≡ bit (p s && leb s r) + rank (keep p (upto m (suc s))) r
  unfolding keep upto bit
  more m s r = go (p s) refl
    where
      go : (b : Bool) → p s ≡ b → rank (cond b (s ∷ keep p (upto m (suc s))) (keep p (upto m (suc s)))) r ≡ bit (b && leb s r) + rank (keep p (upto m (suc s))) r
      go true e = rank_cons s r (keep p (upto m (suc s)))
      go false e = omega arith

  none : (s r : ℕ) → rank (keep p (upto 0 s)) r ≡ 0
  unfolding keep upto
  none s r = rank_nil r

  both : (s r : ℕ) → r < s → bit (p s && leb s r) ≡ 0
  unfolding bit
  both s r h = ap (λ (t : Bool). bit (p s && t)) (lt-leb s r h) ∙ go (p s)
    where
      go : (b : Bool) → bit (b && false) ≡ 0
      go true = refl
      go false = refl

  one : (s r : ℕ) → s ≤ r → bit (p s && leb s r) ≡ bit (p s)
  unfolding bit
  one s r h = ap (λ (t : Bool). bit (p s && t)) (le-leb s r h) ∙ go (p s)
    where
      go : (b : Bool) → bit (b && true) ≡ bit b
      go true = refl
      go false = refl

  rank_low : (m s r : ℕ) → r < s → rank (keep p (upto m s)) r ≡ 0
  rank_low zero s r h = none s r
  rank_low (suc m) s r h = omega (arith, more m s r, both s r h, rank_low m (suc s) r (omega arith))

  rank_step : (m s g : ℕ) → s ≤ suc g → suc g < s + m → rank (keep p (upto m s)) (suc g) ≡ rank (keep p (upto m s)) g + bit (p (suc g))
  rank_step zero s g h l = absurd (bad h l)
    where
      bad : s ≤ suc g → suc g < s + 0 → ⊥
      bad x y = omega arith
  rank_step (suc m) s g h l = ⊎_elim
      (λ e. omega (arith, more m s (suc g), more m s g, one s (suc g) (omega arith), both s g (omega arith), rank_low m (suc s) (suc g) (omega arith), rank_low m (suc s) g (omega arith), ap (λ (t : ℕ). bit (p t)) e))
      (λ n. omega (arith, more m s (suc g), more m s g, one s (suc g) h, one s g (less n), rank_step m (suc s) g (omega (arith, less n)) (omega arith)))
      (eq_or_ne s (suc g))
    where
      less : (s ≡ suc g → ⊥) → s ≤ g
      less n = omega arith

  rank_all : (m s r : ℕ) → s + m ≤ suc r → rank (keep p (upto m s)) r ≡ length (keep p (upto m s))
  unfolding keep upto bit
  rank_all zero s r h = rank_nil r
  rank_all (suc m) s r h = go (p s) (rank_all m (suc s) r (omega arith))
    where
      go : (b : Bool) → rank (keep p (upto m (suc s))) r ≡ length (keep p (upto m (suc s))) → rank (cond b (s ∷ keep p (upto m (suc s))) (keep p (upto m (suc s)))) r ≡ length {A = ℕ} (cond b (s ∷ keep p (upto m (suc s))) (keep p (upto m (suc s))))
      go true e = omega (arith, rank_cons s r (keep p (upto m (suc s))), ap bit (le-leb s r (omega arith)))
      go false e = e

pub rank_zero : (rs : List ℕ) → rank (firsts rs) 0 ≡ 0
unfolding firsts
rank_zero rs = rank_low (λ r. eqb (get_or rs (r - 1) 0) r) (length rs) 1 0 (omega arith)

pub rank_hit : (rs : List ℕ) (g : ℕ) → g < length rs → get_or rs g 0 ≡ suc g → rank (firsts rs) (suc g) ≡ rank (firsts rs) g + 1
unfolding firsts bit
rank_hit rs g h e =
    rank_step (λ r. eqb (get_or rs (r - 1) 0) r) (length rs) 1 g (omega arith) (omega arith)
    ∙ ap (λ (t : Bool). rank (firsts rs) g + bit t) (eq-eqb (get_or rs (suc g - 1) 0) (suc g) (ap (λ (y : ℕ). get_or rs y 0) (omega arith) ∙ e))

pub rank_miss : (rs : List ℕ) (g : ℕ) → g < length rs → (get_or rs g 0 ≡ suc g → ⊥) → rank (firsts rs) (suc g) ≡ rank (firsts rs) g
unfolding firsts bit
rank_miss rs g h n =
    rank_step (λ r. eqb (get_or rs (r - 1) 0) r) (length rs) 1 g (omega arith) (omega arith)
    ∙ ap (λ (t : Bool). rank (firsts rs) g + bit t) (ne_eqb (get_or rs (suc g - 1) 0) (suc g) (λ q. n (ap (λ (y : ℕ). get_or rs y 0) (omega arith) ∙ q)))
    ∙ omega arith

pub rank_end : (rs : List ℕ) → rank (firsts rs) (length rs) ≡ length (firsts rs)
unfolding firsts
rank_end rs = rank_all (λ r. eqb (get_or rs (r - 1) 0) r) (length rs) 1 (length rs) (omega arith)

bit_le : (b : Bool) → bit b ≤ 1
unfolding bit
bit_le true = omega arith
bit_le false = omega arith

pub rank_le : (fs : List ℕ) (r : ℕ) → rank fs r ≤ length fs
rank_le [] r = omega (arith, rank_nil r)
rank_le (f ∷ fs) r = omega (arith, rank_cons f r fs, bit_le (leb f r), rank_le fs r)

pub test_mono : (f r s : ℕ) → r ≤ s → bit (leb f r) ≤ bit (leb f s)
unfolding bit
test_mono f r s h = go (leb f r) (leb f s) refl refl
  where
    go : (b c : Bool) → leb f r ≡ b → leb f s ≡ c → bit b ≤ bit c
    go true true e k = omega arith
    go true false e k = absurd (bad (leb-true f r e) (leb-false f s k))
      where
        bad : f ≤ r → s < f → ⊥
        bad x y = omega arith
    go false c e k = omega arith

pub rank_mono : (fs : List ℕ) (r s : ℕ) → r ≤ s → rank fs r ≤ rank fs s
unfolding rank keep
rank_mono [] r s h = omega (arith, rank_nil r, rank_nil s)
rank_mono (f ∷ fs) r s h = omega (arith, rank_cons f r fs, rank_cons f s fs, test_mono f r s h, rank_mono fs r s h)

-- a list that holds 1 + r has more elements up to 1 + r than up to r
pub rank_more : (l : List ℕ) (i r : ℕ) → i < length l → get_or l i 0 ≡ suc r → rank l r < rank l (suc r)
unfolding bit
rank_more [] i r h e = absurd (not-suc-le-zero h)
rank_more (x ∷ l) zero r h e =
    omega (arith, rank_cons x r l, rank_cons x (suc r) l, rank_mono l r (suc r) (omega arith), ap bit (lt-leb x r (omega arith)), ap bit (le-leb x (suc r) (omega arith)))
rank_more (x ∷ l) (suc i) r h e = omega (arith, rank_cons x r l, rank_cons x (suc r) l, test_mono x r (suc r) (omega arith), rank_more l i r (omega arith) e)
