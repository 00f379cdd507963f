-- The network's lookup of an edge by its ends, where the edges are given one by one. Assumes nothing.
use mathlib.Core.Path.{◌≡◌, refl, sym, ap, ◌∙◌}
use mathlib.Core.Logic.{⊎_elim}
use mathlib.Core.Bool.{Bool, true, false, ◌&&◌, cond, true≢false}
use mathlib.Core.List.{map}
use mathlib.Core.Option.{none, some}
use Prim.Native.Nat.{ℕ, zero, suc, ◌+◌, ◌≤◌, ◌<◌}
use native.Mathlib.Omega.{arith}
use Rattle.network.specs.Network.{Edge, find}
use Rattle.merge.proofs.SoundSet.{eq_or_ne}
use lib.Dec.{eqb}
use borrow.Author.Tests.{eqb-true}
use Rattle.lists.proofs.SeqLaws.{eqb_refl}
use Rattle.lists.specs.Seq.{upto}

-- ---- the live edge from x to c
abbrev pub hits : ℕ → ℕ → Edge → Bool
hits x c e = e.live && eqb x e.first && eqb c e.second

pub hit : (x c : ℕ) (e : Edge) → e.live ≡ true → e.first ≡ x → e.second ≡ c → hits x c e ≡ true
hit x c e l f g = rw (l, f, g, eqb_refl x, eqb_refl c) refl

pub record Hit (x c : ℕ) (e : Edge) : Type 0 where
  pub live : e.live ≡ true
  pub first : e.first ≡ x
  pub second : e.second ≡ c

pub hit_is : (x c : ℕ) (e : Edge) → hits x c e ≡ true → Hit x c e
hit_is x c e h = go e.live refl (eqb x e.first) refl (eqb c e.second) refl h
  where
    go : (p : Bool) → e.live ≡ p → (q : Bool) → eqb x e.first ≡ q → (r : Bool) → eqb c e.second ≡ r → (p && q && r) ≡ true → Hit x c e
    go true pe true qe true re t = record { live = pe; first = sym (eqb-true x e.first qe); second = sym (eqb-true c e.second re) }
    go true pe true qe false re t = absurd (true≢false (sym t))
    go true pe false qe r re t = absurd (true≢false (sym t))
    go false pe q qe r re t = absurd (true≢false (sym t))

-- the first that hits is the one, where there is only one
pub find_one : (f : ℕ → Edge) (x c k n i : ℕ) → k ≤ i → i < k + n → hits x c (f i) ≡ true → ((j : ℕ) → k ≤ j → j < k + n → hits x c (f j) ≡ true → j ≡ i) → find (map f (upto n k)) x c ≡ some (f i).link
unfolding find upto
find_one f x c k zero i p q h u = absurd (omega arith)
find_one f x c k (suc n) i p q h u = go (hits x c (f k)) refl (find_one f x c (suc k) n i)
  where
    go : (t : Bool) → hits x c (f k) ≡ t → (suc k ≤ i → i < suc k + n → hits x c (f i) ≡ true → ((j : ℕ) → suc k ≤ j → j < suc k + n → hits x c (f j) ≡ true → j ≡ i) → find (map f (upto n (suc k))) x c ≡ some (f i).link)
        → cond t (some (f k).link) (find (map f (upto n (suc k))) x c) ≡ some (f i).link
    go true e ih = ap (λ (y : ℕ). some (f y).link) (u k (omega arith) (omega arith) e)
    go false e ih = ⊎_elim (λ r. absurd (true≢false (sym h ∙ ap (λ (y : ℕ). hits x c (f y)) r ∙ e))) (λ r. ih (omega arith) (omega arith) h (λ j a b t. u j (omega arith) (omega arith) t)) (eq_or_ne i k)

pub find_no : (f : ℕ → Edge) (x c k n : ℕ) → ((j : ℕ) → k ≤ j → j < k + n → hits x c (f j) ≡ true → ⊥) → find (map f (upto n k)) x c ≡ none
unfolding find upto
find_no f x c k zero h = refl
find_no f x c k (suc n) h = go (hits x c (f k)) refl (find_no f x c (suc k) n (λ j a b. h j (omega arith) (omega arith)))
  where
    go : (t : Bool) → hits x c (f k) ≡ t → find (map f (upto n (suc k))) x c ≡ none → cond t (some (f k).link) (find (map f (upto n (suc k))) x c) ≡ none
    go true e ih = absurd (h k (omega arith) (omega arith) e)
    go false e ih = ih

-- map that (upto alike hit)
pub find_like : (f g : ℕ → Edge) (x c k n : ℕ) → ((j : ℕ) → k ≤ j → j < k + n → (hits x c (f j) ≡ hits x c (g j)) × (hits x c (g j) ≡ true → (f j).link ≡ (g j).link)) → find (map f (upto n k)) x c ≡ find (map g (upto n k)) x c
unfolding find upto
find_like f g x c k zero h = refl
find_like f g x c k (suc n) h = let w = h k (omega arith) (omega arith) in go (hits x c (g k)) refl w.0 w.1 (find_like f g x c (suc k) n (λ j a b. h j (omega arith) (omega arith)))
  where
    go : (t : Bool) → hits x c (g k) ≡ t → hits x c (f k) ≡ hits x c (g k) → (hits x c (g k) ≡ true → (f k).link ≡ (g k).link) → find (map f (upto n (suc k))) x c ≡ find (map g (upto n (suc k))) x c
        → cond (hits x c (f k)) (some (f k).link) (find (map f (upto n (suc k))) x c) ≡ cond t (some (g k).link) (find (map g (upto n (suc k))) x c)
    go true e p q ih = rw (p ∙ e) (ap some (q e))
    go false e p q ih = rw (p ∙ e) ih
