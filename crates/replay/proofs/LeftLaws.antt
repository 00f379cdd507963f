-- What the proofs of what a call left cite: a test of every place of a memory. Assumes nothing.
use Rattle.std.proofs.Common.{◌≡◌, ◌↔◌, ℕ, zero, suc, ◌+◌, ◌<◌, ◌≤◌, Bool, true, false, List, length, get_or, sym, refl, ap, ◌∙◌, arith}
use Rattle.std.proofs.lemmas.List.{get_or_default}
use Rattle.lists.specs.Seq.{upto, all}
use Rattle.lists.proofs.AllLaws.{all_at}

-- two tests that are true together
together : (b c : Bool) → (b ≡ true → c ≡ true) → (c ≡ true → b ≡ true) → b ≡ c
together true c f g = sym (f refl)
together false true f g = g refl
together false false f g = refl

-- a test of the n places from k on
pub all_from : (t : ℕ → Bool) (n k : ℕ) → ((i : ℕ) → k ≤ i → i < n + k → t i ≡ true) → all t (upto n k) ≡ true
unfolding all upto
all_from t zero k h = refl
all_from t (suc n) k h = rw (h k (omega arith) (omega arith)) (all_from t n (suc k) (λ i a b. h i (omega arith) (omega arith)))

-- a test of every place, by one that is true exactly if that of each place is
pub all_by : (t : ℕ → Bool) (n : ℕ) (b : Bool) → ((b ≡ true) ↔ ((i : ℕ) → i < n → t i ≡ true)) → b ≡ all t (upto n 0)
all_by t n b h = together b (all t (upto n 0)) (λ e. all_from t n 0 (λ i a c. h.0 e i (omega arith))) (λ e. h.1 (λ i c. all_at t n 0 i (omega arith) (omega arith) e))

-- the same of the elements of a list, read with any default
pub due_by : {A : Type 0} (same : A → A → Bool) (xs : List A) (p d : A) (due : ℕ → A) (b : Bool)
    → ((b ≡ true) ↔ ((i : ℕ) → i < length xs → same (get_or xs i p) (due i) ≡ true)) → b ≡ all (λ g. same (get_or xs g d) (due g)) (upto (length xs) 0)
due_by same xs p d due b h =
    all_by (λ g. same (get_or xs g d) (due g)) (length xs) b (
      λ e i l. ap (λ x. same x (due i)) (get_or_default xs i d p l) ∙ h.0 e i l,
      λ f. h.1 (λ i l. ap (λ x. same x (due i)) (get_or_default xs i p d l) ∙ f i l),
    )
