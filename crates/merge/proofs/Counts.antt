-- The walk along the moved node's regions: each count gains once, or question 9 says no. Assumes nothing.
use Rattle.std.proofs.Common.{◌≡◌, ℕ, zero, suc, ◌+◌, ◌-◌, ◌<◌, Bool, true, false, cond, ◌&&◌, leb, List, length, get_or, sym, refl, ap, ◌∙◌, subst, true≢false, arith, length-set, get_or-set_other, get_or-set_same, leb-true}
use mathlib.Core.Option.{Option, none, some}
use Rattle.merge.specs.Inside.Tables.{Tables, Sound, store}
use Rattle.merge.specs.Inside.Table.{is, rnext, count}
use Rattle.merge.specs.Inside.Steps.{count_in_range, walk_raise}
use Rattle.merge.specs.Inside.Chain.{cur}
use Rattle.merge.proofs.SoundSet.{sound_store}
use Rattle.merge.proofs.TableLaws.{Alike, alike_refl, alike_then, alike_store}

-- all tables but the counts are alike, and the differences
pub record CountsDiffer (s t : Tables) : Type 0 where
  pub tables : Alike (is count) s t
  pub diff : s.diff ≡ t.diff

pub counted_refl : (s : Tables) → CountsDiffer s s
counted_refl s = record { tables = alike_refl (is count) s; diff = refl }

pub counted_store : (s t : Tables) (j x : ℕ) → CountsDiffer s (store count t j x) → CountsDiffer s t
counted_store s t j x h = record { tables = alike_then (is count) _ _ _ h.tables (alike_store (is count) count t j x refl); diff = unfold store in h.diff }

pub record Gained (g : ℕ) (N : List ℕ) (x k n : ℕ) (s t : Tables) : Type 0 where
  pub else : CountsDiffer t s
  pub sound : (m : ℕ) → Sound m n s → Sound m n t
  pub yes : (i : ℕ) → i < k → count_in_range (get_or (s.at count) (cur N x i) 0 + g) ≡ true
  pub here : (i : ℕ) → i < k → get_or (t.at count) (cur N x i) 0 ≡ get_or (s.at count) (cur N x i) 0 + g - 1000
  pub there : (r : ℕ) → ((i : ℕ) → i < k → r ≡ cur N x i → ⊥) → get_or (t.at count) r 0 ≡ get_or (s.at count) r 0

-- what a walk of k regions from x on gives
unfoldable pub Gives : ℕ → List ℕ → ℕ → ℕ → ℕ → Tables → Option Tables → Type 0
Gives g N x k n s none = (i : ℕ) × (i < k) × (count_in_range (get_or (s.at count) (cur N x i) 0 + g) ≡ false)
Gives g N x k n s (some t) = Gained g N x k n s t

pub accepted_most : (t : ℕ) → count_in_range t ≡ true → t - 1000 < 2001
unfolding count_in_range
accepted_most t h = go (leb 1000 t) (leb t 3000) refl h
  where
    go : (x y : Bool) → leb t 3000 ≡ y → (x && y) ≡ true → t - 1000 < 2001
    go true true e r = omega (arith, leb-true t 3000 e)
    go true false e r = absurd (true≢false (sym r))
    go false y e r = absurd (true≢false (sym r))

pub raise : (g : ℕ) (N : List ℕ) (n k x : ℕ) (s : Tables) → length (s.at count) ≡ n → s.at rnext ≡ N → ((i : ℕ) → i < k → cur N x i < n) → ((i j : ℕ) → i < k → j < k → cur N x i ≡ cur N x j → i ≡ j) → Gives g N x k n s (walk_raise k g s x)
unfolding walk_raise Gives
raise g N n zero x s l e inside inj = record {
  else = counted_refl s;
  sound = λ m h. h;
  yes = λ i p. absurd (omega arith);
  here = λ i p. absurd (omega arith);
  there = λ r h. refl;
}
raise g N n (suc k) x s l e inside inj =
    go (count_in_range (get_or (s.at count) x 0 + g)) refl
    (raise g N n k (get_or N x 0) (store count s x (get_or (s.at count) x 0 + g - 1000)) (unfold store in length-set (s.at count) x (get_or (s.at count) x 0 + g - 1000) ∙ l) (unfold store in e) (unfold cur in λ i p. inside (suc i) (omega arith)) (unfold cur in λ i j p q r. let t : suc i ≡ suc j = inj (suc i) (suc j) (omega arith) (omega arith) r in omega arith))
  where
    v : ℕ
    v = get_or (s.at count) x 0 + g - 1000

    s₁ : Tables
    s₁ = store count s x v

    x_in : x < n
    x_in = unfold cur in inside 0 (omega arith)

    other : (i : ℕ) → i < k → cur N (get_or N x 0) i ≡ x → ⊥
    other i p r = let t : ◌≡◌ {A = ℕ} (suc i) 0 = inj (suc i) 0 (omega arith) (omega arith) (unfold cur in r) in omega arith

    other' : (r : ℕ) → (r ≡ x → ⊥) → get_or (s₁.at count) r 0 ≡ get_or (s.at count) r 0
    other' r h = unfold store in get_or-set_other (s.at count) x r v 0 h

    same_here : get_or (s₁.at count) x 0 ≡ v
    same_here = unfold store in get_or-set_same (s.at count) x v 0 (omega (arith, x_in))

    nx : get_or (s.at rnext) x 0 ≡ get_or N x 0
    nx = ap (λ (z : List ℕ). get_or z x 0) e

    back : (o : Option Tables) → count_in_range (get_or (s.at count) x 0 + g) ≡ true → Gives g N (get_or N x 0) k n s₁ o → Gives g N x (suc k) n s o
    back none a w = unfold Gives cur in (suc w.0, omega (arith, w.1), sym (ap (λ (z : ℕ). count_in_range (z + g)) (other' _ (other w.0 w.1))) ∙ w.2)
    back (some t) a w = unfold Gives in record {
      else = counted_store t s x v w.else;
      sound = λ m h. w.sound m (sound_store count m n s h x v refl refl (accepted_most (get_or (s.at count) x 0 + g) a));
      yes = yes_of;
      here = here_of;
      there = λ r h. w.there r (λ i p q. h (suc i) (omega arith) (unfold cur in q)) ∙ other' r (λ q. h 0 (omega arith) (unfold cur in q));
    }
      where
        yes_of : (i : ℕ) → i < suc k → count_in_range (get_or (s.at count) (cur N x i) 0 + g) ≡ true
        yes_of zero p = unfold cur in a
        yes_of (suc i) p = unfold cur in sym (ap (λ (z : ℕ). count_in_range (z + g)) (other' _ (other i (omega arith)))) ∙ w.yes i (omega arith)

        here_of : (i : ℕ) → i < suc k → get_or (t.at count) (cur N x i) 0 ≡ get_or (s.at count) (cur N x i) 0 + g - 1000
        here_of zero p = unfold cur in w.there x (λ i q r. other i q (sym r)) ∙ same_here
        here_of (suc i) p = unfold cur in w.here i (omega arith) ∙ ap (λ (z : ℕ). z + g - 1000) (other' _ (other i (omega arith)))

    go : (b : Bool) → count_in_range (get_or (s.at count) x 0 + g) ≡ b → Gives g N (get_or N x 0) k n s₁ (walk_raise k g s₁ (get_or N x 0)) → Gives g N x (suc k) n s (cond b (walk_raise k g s₁ (get_or (s.at rnext) x 0)) none)
    go true a w = subst (λ (y : ℕ). Gives g N x (suc k) n s (walk_raise k g s₁ y)) (sym nx) (back (walk_raise k g s₁ (get_or N x 0)) a w)
    go false a w = unfold Gives cur in (0, omega arith, a)
