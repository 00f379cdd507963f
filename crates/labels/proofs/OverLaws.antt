-- Labels put over others, and areas after areas. Assumes nothing.
use Rattle.std.proofs.Common.{◌≡◌, ℕ, zero, suc, ◌+◌, ◌<◌, ◌≤◌, ◌⊎◌, List, length, get_or, set, sym, refl, ap, ◌∙◌, ⊎_elim, arith, length-set}
use Rattle.labels.proofs.ForestLaws.{read_set}
use Rattle.lists.proofs.SeqLaws.{tab_at, tab_length}
use Rattle.labels.specs.Label.{Found}
use Rattle.labels.specs.Regions.{over, added}

pub over_old : (k old new : ℕ) → new ≡ 0 → over k old new ≡ old
unfolding over
over_old k old zero e = refl
over_old k old (suc l) e = absurd (bad e)
  where
    bad : suc l ≡ 0 → ⊥
    bad q = omega arith

pub over_new : (k old new : ℕ) → 0 < new → over k old new ≡ new + k
unfolding over
over_new k old zero h = absurd (bad h)
  where
    bad : 0 < 0 → ⊥
    bad q = omega arith
over_new k old (suc l) h = refl

-- labels after other areas are added, gate by gate
pub added_at : (f a : Found) (i : ℕ) → i < length f.labels → get_or (added f a).labels i 0 ≡ over f.number (get_or f.labels i 0) (get_or a.labels i 0)
unfolding added
added_at f a i h = tab_at (λ g. over f.number (get_or f.labels g 0) (get_or a.labels g 0)) (length f.labels) i 0 h

pub added_long : (f a : Found) → length (added f a).labels ≡ length f.labels
unfolding added
added_long f a = tab_length (λ g. over f.number (get_or f.labels g 0) (get_or a.labels g 0)) (length f.labels)

pub added_number : (f a : Found) → (added f a).number ≡ f.number + a.number
unfolding added
added_number f a = refl

-- ---- labels of the second n words put over the first n, as far as gate g
pub record Putting (u v : List ℕ) (n from g : ℕ) : Type 0 where
  pub long : length v ≡ length u
  pub done : (i : ℕ) → i < g → get_or v i 0 ≡ over from (get_or u i 0) (get_or u (n + i) 0)
  pub rest : (i : ℕ) → g ≤ i → get_or v i 0 ≡ get_or u i 0

pub put_step : (u v : List ℕ) (n from g : ℕ) → Putting u v n from g → g < length u → (x : ℕ) → x ≡ over from (get_or v g 0) (get_or v (n + g) 0) → Putting u (set v g x) n from (g + 1)
put_step u v n from g P h x e =
    record {
      long = length-set v g x ∙ P.long;
      done = λ i q. ⊎_elim (λ s. s.1 ∙ here ∙ ap (λ (y : ℕ). over from (get_or u y 0) (get_or u (n + y) 0)) (sym s.0)) (λ s. s.1 ∙ P.done i (less i q s.0)) (at i);
      rest = λ i q. ⊎_elim (λ s. absurd (past i q s.0)) (λ s. s.1 ∙ P.rest i (omega arith)) (at i);
    }
  where
    at : (i : ℕ) → ((i ≡ g) × (get_or (set v g x) i 0 ≡ x)) ⊎ ((i ≡ g → ⊥) × (get_or (set v g x) i 0 ≡ get_or v i 0))
    at i = read_set v g x i (omega (arith, P.long))

    here : x ≡ over from (get_or u g 0) (get_or u (n + g) 0)
    here = e ∙ ap (λ (y : ℕ). over from y (get_or v (n + g) 0)) (P.rest g (omega arith)) ∙ ap (over from (get_or u g 0)) (P.rest (n + g) (omega arith))

    less : (i : ℕ) → i < g + 1 → (i ≡ g → ⊥) → i < g
    less i q n = omega arith

    past : (i : ℕ) → g + 1 ≤ i → i ≡ g → ⊥
    past i q n = omega arith
