-- A look, step by step, and whether it is bridged. Assumes nothing.
use Rattle.std.proofs.Common.{◌≡◌, ℕ, zero, suc, ◌+◌, ◌<◌, true, false, ltb, List, get_or, sym, refl, ap, ◌∙◌, arith, lt-ltb}
use mathlib.Core.Option.{Option, none, some}
use Rattle.edges.specs.Edges.{Shape, Direction, next, look, sees, bridges, skip}

module _ (s : Shape) (d : Direction) (L : List ℕ) where
  pub none_on : (q h : ℕ) → next s d h ≡ none → look s d L (suc q) h ≡ none
  unfolding look
  none_on q h e = rw (e, look) refl

  pub seen_on : (q h j : ℕ) → next s d h ≡ some j → (get_or L j 0 ≡ 0 → ⊥) → look s d L (suc q) h ≡ some j
  unfolding look
  seen_on q h j e n = rw (e, look) (go (get_or L j 0) n)
    where
      go : (x : ℕ) → (x ≡ 0 → ⊥) → ◌≡◌ {A = Option ℕ} (elim x [ zero ↦ look s d L q j | suc l ↦ some j ]) (some j)
      go zero n = absurd (n refl)
      go (suc x) n = refl

  pub skip_on : (q h j : ℕ) → next s d h ≡ some j → get_or L j 0 ≡ 0 → look s d L (suc q) h ≡ look s d L q j
  unfolding look
  skip_on q h j e z = rw (e, z, look) refl

  pub last_on : (h j : ℕ) → next s d h ≡ some j → get_or L j 0 ≡ 0 → look s d L 1 h ≡ none
  unfolding look
  last_on h j e z = skip_on 0 h j e z

  pub begins : (m g : ℕ) → m ≡ skip s d → sees s L d g ≡ look s d L (suc m) g
  unfolding sees
  begins m g e = ap (λ (x : ℕ). look s d L (suc x) g) (sym e)

  -- ---- whether it is bridged

  pub near_on : (g j : ℕ) → next s d g ≡ some j → (get_or L j 0 ≡ 0 → ⊥) → bridges s L d g ≡ false
  unfolding bridges
  near_on g j e n = rw (seen_on 0 g j e n, bridges) refl

  gap_on : (g j : ℕ) → next s d g ≡ some j → get_or L j 0 ≡ 0 → bridges s L d g ≡ true
  unfolding bridges
  gap_on g j e z = rw (last_on g j e z, bridges) refl

  -- so many steps over label 0 lead from gate g to gate h
  pub record Stepped (g skipped h : ℕ) : Type 0 where
    pub at : skipped ≡ 0 → h ≡ g
    pub over : 0 < skipped → bridges s L d g ≡ true

  pub not_stepped : (g : ℕ) → Stepped g 0 g
  not_stepped g = record { at = λ e. refl; over = λ h. absurd (omega arith) }

  pub stepped_on : (g k h j : ℕ) → Stepped g k h → next s d h ≡ some j → get_or L j 0 ≡ 0 → Stepped g (k + 1) j
  stepped_on g zero h j S e z = record { at = λ q. absurd (omega arith); over = λ q. gap_on g j (ap (next s d) (sym (S.at refl)) ∙ e) z }
  stepped_on g (suc k) h j S e z = record { at = λ q. absurd (omega arith); over = λ q. S.over (omega arith) }

  pub stepped_end : (g k h j : ℕ) → Stepped g k h → next s d h ≡ some j → (get_or L j 0 ≡ 0 → ⊥) → ltb 0 k ≡ bridges s L d g
  stepped_end g zero h j S e n = sym (near_on g j (ap (next s d) (sym (S.at refl)) ∙ e) n)
  stepped_end g (suc k) h j S e n = lt-ltb 0 (suc k) (omega arith) ∙ sym (S.over (omega arith))
