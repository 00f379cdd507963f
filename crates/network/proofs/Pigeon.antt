-- No more distinct numbers below n than n. Assumes nothing.
use mathlib.Core.Path.{◌≡◌, refl, sym, ap, ◌∙◌, subst}
use mathlib.Core.Logic.{◌⊎◌, inl, inr, ⊎_elim}
use mathlib.Core.Bool.{Bool, true, false}
use mathlib.Core.List.{List}
use Prim.Native.Nat.{ℕ, zero, suc, ◌+◌, ◌-◌, ◌≤◌, ◌<◌}
use native.Mathlib.Omega.{arith}
use lib.Dec.{ltb, eqb}
use borrow.Author.Tests.{lt-ltb, le-ltb, eqb-true, eqb-false}
use Rattle.merge.specs.Inside.Chain.{cur, Chains}
use Rattle.merge.proofs.Bias.{lt_or_le}

pigeon : (n k : ℕ) (f : ℕ → ℕ) → ((i : ℕ) → i < k → f i < n) → ((i j : ℕ) → i < k → j < k → f i ≡ f j → i ≡ j) → k ≤ n
pigeon zero k f below inj = ⊎_elim (λ h. omega arith) (λ h. absurd (omega (arith, below 0 (omega arith)))) (lt_or_le k 1)
pigeon (suc n) zero f below inj = omega arith
pigeon (suc n) (suc k) f below inj = omega (arith, pigeon n k (λ i. g (eqb (f i) n) i) (λ i h. at i h (eqb (f i) n) refl) (λ i j hi hj e. one i j hi hj (eqb (f i) n) refl (eqb (f j) n) refl e))
  where
    g : Bool → ℕ → ℕ
    g true i = f k
    g false i = f i

    at : (i : ℕ) → i < k → (t : Bool) → eqb (f i) n ≡ t → g t i < n
    at i h true e =
        let q : f i ≡ n = eqb-true (f i) n e in
        ⊎_elim (λ p. p) (λ p. absurd (omega (arith, inj i k (omega arith) (omega arith) (omega (arith, below k (omega arith)))))) (lt_or_le (f k) n)
    at i h false e = ⊎_elim (λ p. p) (λ p. absurd (eqb-false (f i) n e (omega (arith, below i (omega arith))))) (lt_or_le (f i) n)

    one : (i j : ℕ) → i < k → j < k → (t : Bool) → eqb (f i) n ≡ t → (u : Bool) → eqb (f j) n ≡ u → g t i ≡ g u j → i ≡ j
    one i j hi hj true te true ue e = inj i j (omega arith) (omega arith) (eqb-true (f i) n te ∙ sym (eqb-true (f j) n ue))
    one i j hi hj true te false ue e = absurd (omega (arith, inj k j (omega arith) (omega arith) e))
    one i j hi hj false te true ue e = absurd (omega (arith, inj i k (omega arith) (omega arith) e))
    one i j hi hj false te false ue e = inj i j (omega arith) (omega arith) e

-- two circles have no more slots than there are
pub two_circles : (N : List ℕ) (size : ℕ) (own pos len : ℕ → ℕ) → Chains N size own pos len → (b c : ℕ) → b < size → c < size → own b ≡ b → own c ≡ c → (b ≡ c → ⊥) → len b + len c ≤ size
two_circles N size own pos len C b c hb hc ob oc ne = pigeon size (len b + len c) (λ i. g (ltb i (len b)) i) (λ i h. at i h (lt_or_le i (len b))) (λ i j hi hj e. one i j hi hj (lt_or_le i (len b)) (lt_or_le j (len b)) e)
  where
    g : Bool → ℕ → ℕ
    g true i = cur N b i
    g false i = cur N c (i - len b)

    low : (i : ℕ) → i < len b → g (ltb i (len b)) i ≡ cur N b i
    low i h = ap (λ (t : Bool). g t i) (lt-ltb i (len b) h)

    high : (i : ℕ) → len b ≤ i → g (ltb i (len b)) i ≡ cur N c (i - len b)
    high i h = ap (λ (t : Bool). g t i) (le-ltb i (len b) h)

    at : (i : ℕ) → i < len b + len c → (i < len b) ⊎ (len b ≤ i) → g (ltb i (len b)) i < size
    at i h (inl p) = subst (λ (x : ℕ). x < size) (sym (low i p)) (C.inside b i hb ob p)
    at i h (inr p) = subst (λ (x : ℕ). x < size) (sym (high i p)) (C.inside c (i - len b) hc oc (omega arith))

    one : (i j : ℕ) → i < len b + len c → j < len b + len c → (i < len b) ⊎ (len b ≤ i) → (j < len b) ⊎ (len b ≤ j) → g (ltb i (len b)) i ≡ g (ltb j (len b)) j → i ≡ j
    one i j hi hj (inl p) (inl q) e = sym (C.placed b i hb ob p) ∙ ap pos (sym (low i p) ∙ e ∙ low j q) ∙ C.placed b j hb ob q
    one i j hi hj (inl p) (inr q) e = absurd (ne (sym (C.owned b i hb ob p) ∙ ap own (sym (low i p) ∙ e ∙ high j q) ∙ C.owned c (j - len b) hc oc (omega arith)))
    one i j hi hj (inr p) (inl q) e = absurd (ne (sym (C.owned b j hb ob q) ∙ ap own (sym (low j q) ∙ sym e ∙ high i p) ∙ C.owned c (i - len b) hc oc (omega arith)))
    one i j hi hj (inr p) (inr q) e =
        let t : i - len b ≡ j - len b = sym (C.placed c (i - len b) hc oc (omega arith)) ∙ ap pos (sym (high i p) ∙ e ∙ high j q) ∙ C.placed c (j - len b) hc oc (omega arith) in
        omega arith
