-- Each store keeps the tables sound. Assumes nothing.
use Rattle.std.proofs.Common.{◌≡◌, ℕ, ◌+◌, ◌*◌, ◌^◌, ◌<◌, ◌≤◌, Bool, true, false, cond, ◌||◌, T, ◌⊎◌, List, length, get_or, set, sym, refl, ap, ◌∙◌, subst, inl, inr, ⊎_elim, arith, length-set, get_or-set_other, get_or-set_same}
use mathlib.Core.Logic.{by_cases}
use mathlib.Core.Option.{none, some}
use native.Mathlib.Decide.{ℕ_discrete}
use lib.Ieee.{nan, binary32, fits, Float}
use Rattle.merge.specs.Inside.Table.{Table, weight, first, second, bridged, enext, rnext, count, long, is}
use Rattle.lists.specs.Seq.{sum}
use Rattle.merge.specs.Inside.Tables.{Tables, Sound, limit, Below, store, diff_set}
use Rattle.merge.proofs.TableLaws.{same_table, length_store}

pub eq_or_ne : (m n : ℕ) → (m ≡ n) ⊎ (m ≡ n → ⊥)
eq_or_ne m n = by_cases (ℕ_discrete m n) inl inr

-- what holds of each element holds of each after a store
each_set : {A : Type 0} (P : A → Type 0) (l : List A) (k i : ℕ) (x d : A) → k ≤ length l → P x → ((j : ℕ) → j < k → P (get_or l j d)) → (j : ℕ) → j < k → P (get_or (set l i x) j d)
each_set {A} P l k i x d h px all j lt = ⊎_elim
    (λ e. subst P (sym (ap (λ (y : ℕ). get_or (set l i x) y d) e ∙ get_or-set_same l i x d (omega arith))) px)
    (λ e. subst P (sym (get_or-set_other l i j x d e)) (all j lt))
    (eq_or_ne j i)

-- lengths and ranges of all tables
pub record Ranges (m n : ℕ) (s : Tables) : Type 0 where
  pub lengths : (t : Table) → length (s.at t) ≡ long t m n
  pub within : (t : Table) (j : ℕ) → j < long t m n → Below (limit t m n) (get_or (s.at t) j 0)

-- the ranges table by table
pub within_all : (m n : ℕ) (s : Tables) → ((j : ℕ) → j < m → get_or (s.at first) j 0 < n) → ((j : ℕ) → j < m → get_or (s.at second) j 0 < n)
    → ((j : ℕ) → j < 2 * m + n → get_or (s.at enext) j 0 < 2 * m + n) → ((j : ℕ) → j < n → get_or (s.at rnext) j 0 < n) → ((j : ℕ) → j < n → get_or (s.at count) j 0 < 2001)
    → (t : Table) (j : ℕ) → j < long t m n → Below (limit t m n) (get_or (s.at t) j 0)
within_all m n s a b c d e t = go (is first t) refl (is second t) refl (is rnext t) refl (is enext t) refl (is count t) refl
  where
    All : Table → ℕ → Type 0
    All u k = (j : ℕ) → j < long u m n → get_or (s.at u) j 0 < k

    go : (p : Bool) → is first t ≡ p → (q : Bool) → is second t ≡ q → (r : Bool) → is rnext t ≡ r → (x : Bool) → is enext t ≡ x → (y : Bool) → is count t ≡ y
        → (j : ℕ) → j < long t m n → Below (cond (p || q || r) (some n) (cond x (some (2 * m + n)) (cond y (some 2001) none))) (get_or (s.at t) j 0)
    go true f q g r h x i y k = subst (λ (u : Table). All u n) (same_table first t f) a
    go false f true g r h x i y k = subst (λ (u : Table). All u n) (same_table second t g) b
    go false f false g true h x i y k = subst (λ (u : Table). All u n) (same_table rnext t h) d
    go false f false g false h true i y k = subst (λ (u : Table). All u (2 * m + n)) (same_table enext t i) c
    go false f false g false h false i true k = subst (λ (u : Table). All u 2001) (same_table count t k) e
    go false f false g false h false i false k = λ j l. tt

pub ranges_of : (m n : ℕ) (s : Tables) → Sound m n s → Ranges m n s
ranges_of m n s h = record { lengths = h.lengths; within = h.within }

pub ranges_store : (t : Table) (m n : ℕ) (s : Tables) → Ranges m n s → (j x : ℕ) → Below (limit t m n) x → Ranges m n (store t s j x)
unfolding store
ranges_store t m n s h j x p = record { lengths = λ u. length_store t u s j x ∙ h.lengths u; within = λ u. within_of u (is t u) refl }
  where
    within_of : (u : Table) (b : Bool) → is t u ≡ b → (i : ℕ) → i < long u m n → Below (limit u m n) (get_or (cond b (set (s.at u) j x) (s.at u)) i 0)
    within_of u true e = each_set (Below (limit u m n)) (s.at u) (long u m n) j x 0 (omega (arith, h.lengths u)) (subst (λ (y : Table). Below (limit y m n) x) (same_table t u e) p) (h.within u)
    within_of u false e = h.within u

stored : (t : Table) (m n : ℕ) (s : Tables) → Sound m n s → (j x : ℕ) → Below (limit t m n) x → sum ((store t s j x).at weight) < 2 ^ 31 → sum ((store t s j x).at bridged) < 2 ^ 31 → Sound m n (store t s j x)
stored t m n s h j x p l b =
    let r : Ranges m n (store t s j x) = ranges_store t m n s (ranges_of m n s h) j x p in
    record { lengths = r.lengths; l_diff = unfold store in h.l_diff; within = r.within; single = unfold store in h.single; light = l; spanned = b }

-- a store into any table but the weights and the bridged pairs
pub sound_store : (t : Table) (m n : ℕ) (s : Tables) → Sound m n s → (j x : ℕ) → is t weight ≡ false → is t bridged ≡ false → Below (limit t m n) x → Sound m n (store t s j x)
sound_store t m n s h j x e g p = stored t m n s h j x p (unfold store in rw e h.light) (unfold store in rw g h.spanned)

pub sound_weight : (m n : ℕ) (s : Tables) → Sound m n s → (j x : ℕ) → sum (set (s.at weight) j x) < 2 ^ 31 → Sound m n (store weight s j x)
sound_weight m n s h j x q = stored weight m n s h j x tt (unfold store in q) (unfold store in h.spanned)

pub sound_diff : (m n : ℕ) (s : Tables) → Sound m n s → (j : ℕ) (x : Float) → T (fits binary32 x) → Sound m n (diff_set s j x)
unfolding diff_set
sound_diff m n s h j x q = record {
  lengths = h.lengths;
  l_diff = omega (arith, length-set s.diff j x, h.l_diff);
  within = h.within;
  single = each_set (λ (y : Float). T (fits binary32 y)) s.diff m j x nan h.l_diff q h.single;
  light = h.light;
  spanned = h.spanned;
}
