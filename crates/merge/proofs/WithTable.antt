-- One table put for another: a store into it, and what stays sound. Assumes nothing.
use Rattle.std.proofs.Common.{◌≡◌, ℕ, ◌<◌, Bool, true, false, cond, List, length, get_or, set, sym, refl, ap, ◌∙◌, subst}
use mathlib.Core.Option.{Option, none}
use Rattle.merge.specs.Inside.Table.{Table, weight, bridged, long, is}
use Rattle.merge.specs.Inside.Tables.{Tables, Sound, limit, Below, store, with_table}
use Rattle.merge.proofs.TableLaws.{same_table}

module _ (t : Table) where
  -- its own table
  pub with_own : (s : Tables) → with_table t (s.at t) s ≡ s
  with_own s = λ i. record { at = λ u. go u (is t u) refl i; diff = s.diff }
    where
      go : (u : Table) (b : Bool) → is t u ≡ b → cond b (s.at t) (s.at u) ≡ s.at u
      go u true e = ap s.at (same_table t u e)
      go u false e = refl

  -- a word stored in it
  pub store_with : (l : List ℕ) (s : Tables) (j x : ℕ) → store t (with_table t l s) j x ≡ with_table t (set l j x) s
  unfolding store
  store_with l s j x = λ i. record { at = λ u. go u (is t u) i; diff = s.diff }
    where
      go : (u : Table) (b : Bool) → cond b (set (cond b l (s.at u)) j x) (cond b l (s.at u)) ≡ cond b (set l j x) (s.at u)
      go u true = refl
      go u false = refl

  -- words of any value leave the tables sound, where the table has no limit
  pub sound_with : (m n : ℕ) (l : List ℕ) (s : Tables) → is t weight ≡ false → is t bridged ≡ false → limit t m n ≡ none → length l ≡ long t m n → Sound m n s → Sound m n (with_table t l s)
  sound_with m n l s nw nb free e h = record {
    lengths = λ u. long_of u (is t u) refl;
    l_diff = h.l_diff;
    within = λ u. within_of u (is t u) refl;
    single = h.single;
    light = rw nw h.light;
    spanned = rw nb h.spanned;
  }
    where
      long_of : (u : Table) (b : Bool) → is t u ≡ b → length (cond b l (s.at u)) ≡ long u m n
      long_of u true q = e ∙ ap (λ (y : Table). long y m n) (same_table t u q)
      long_of u false q = h.lengths u

      within_of : (u : Table) (b : Bool) → is t u ≡ b → (j : ℕ) → j < long u m n → Below (limit u m n) (get_or (cond b l (s.at u)) j 0)
      within_of u true q j lt = subst (λ (y : Table). Below (limit y m n) (get_or l j 0)) (same_table t u q) (subst (λ (o : Option ℕ). Below o (get_or l j 0)) (sym free) tt)
      within_of u false q j lt = h.within u j lt
