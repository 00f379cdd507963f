-- The base's edge to a neighbour: what is found joins the two, and what joins them is found. Assumes nothing.
use Rattle.std.proofs.Common.{◌≡◌, ℕ, zero, suc, ◌+◌, ◌-◌, ◌*◌, ◌/◌, ◌<◌, Bool, true, false, cond, Some, None, eqb, ltb, ◌⊎◌, get_or, sym, refl, ◌∙◌, subst, inl, inr, true≢false, arith, ltb-true, lt-ltb, eq-eqb, ne_eqb, eqb-true}
use borrow.Author.Tests.{eqb-false}
use Rattle.merge.specs.Inside.Tables.{Tables}
use Rattle.merge.specs.Inside.Table.{weight, first, second, enext, elen}
use Rattle.merge.specs.Inside.Steps.{joins_at, seek, seek_all, mate}
use Rattle.merge.specs.Inside.Chain.{cur}

-- edge q is live and its ends are b and c
pub record Mate (m b : ℕ) (s : Tables) (c q : ℕ) : Type 0 where
  pub q_in : q < m
  pub live : get_or (s.at weight) q 0 ≡ 0 → ⊥
  pub ends : ((get_or (s.at first) q 0 ≡ b) × (get_or (s.at second) q 0 ≡ c)) ⊎ ((get_or (s.at first) q 0 ≡ c) × (get_or (s.at second) q 0 ≡ b))

module _ (m b c : ℕ) (s : Tables) where
  joins_is : (q : ℕ) → joins_at m b c s q ≡ true → Mate m b s c q
  unfolding joins_at
  joins_is q = go (ltb q m) refl (eqb (get_or (s.at weight) q 0) 0) refl (eqb (get_or (s.at first) q 0) b) refl (eqb (get_or (s.at first) q 0) c) refl
    where
      go : (t : Bool) → ltb q m ≡ t → (x : Bool) → eqb (get_or (s.at weight) q 0) 0 ≡ x → (y : Bool) → eqb (get_or (s.at first) q 0) b ≡ y → (z : Bool) → eqb (get_or (s.at first) q 0) c ≡ z
          → cond t (cond x false (cond y (eqb (get_or (s.at second) q 0) c) (cond z (eqb (get_or (s.at second) q 0) b) false))) false ≡ true → Mate m b s c q
      go false te x xe y ye z ze h = absurd (true≢false (sym h))
      go true te true xe y ye z ze h = absurd (true≢false (sym h))
      go true te false xe true ye z ze h = record {
        q_in = ltb-true q m te;
        live = eqb-false (get_or (s.at weight) q 0) 0 xe;
        ends = inl (eqb-true (get_or (s.at first) q 0) b ye, eqb-true (get_or (s.at second) q 0) c h);
      }
      go true te false xe false ye true ze h = record {
        q_in = ltb-true q m te;
        live = eqb-false (get_or (s.at weight) q 0) 0 xe;
        ends = inr (eqb-true (get_or (s.at first) q 0) c ze, eqb-true (get_or (s.at second) q 0) b h);
      }
      go true te false xe false ye false ze h = absurd (true≢false (sym h))

  joins_of : (q : ℕ) → Mate m b s c q → (b ≡ c → ⊥) → joins_at m b c s q ≡ true
  unfolding joins_at
  joins_of q t ne = go t.ends
    where
      alive : eqb (get_or (s.at weight) q 0) 0 ≡ false
      alive = ne_eqb (get_or (s.at weight) q 0) 0 t.live

      go : ((get_or (s.at first) q 0 ≡ b) × (get_or (s.at second) q 0 ≡ c)) ⊎ ((get_or (s.at first) q 0 ≡ c) × (get_or (s.at second) q 0 ≡ b))
          → cond (ltb q m) (cond (eqb (get_or (s.at weight) q 0) 0) false (cond (eqb (get_or (s.at first) q 0) b) (eqb (get_or (s.at second) q 0) c) (cond (eqb (get_or (s.at first) q 0) c) (eqb (get_or (s.at second) q 0) b) false))) false ≡ true
      go (inl e) = rw (lt-ltb q m t.q_in, alive, eq-eqb (get_or (s.at first) q 0) b e.0) (eq-eqb (get_or (s.at second) q 0) c e.1)
      go (inr e) = rw (lt-ltb q m t.q_in, alive, ne_eqb (get_or (s.at first) q 0) b (λ w. ne (sym w ∙ e.0)), eq-eqb (get_or (s.at first) q 0) c e.0) (eq-eqb (get_or (s.at second) q 0) b e.1)

  seek_is : (k x q : ℕ) → seek k m b c s x ≡ Some q → Mate m b s c q
  unfolding seek
  seek_is zero x q h = cc
  seek_is (suc k) x q h = go (joins_at m b c s (x / 2)) refl (seek_is k (get_or (s.at enext) x 0) q) h
    where
      go : (t : Bool) → joins_at m b c s (x / 2) ≡ t → (seek k m b c s (get_or (s.at enext) x 0) ≡ Some q → Mate m b s c q)
          → cond t (Some (x / 2)) (seek k m b c s (get_or (s.at enext) x 0)) ≡ Some q → Mate m b s c q
      go true e ih h = let z : x / 2 ≡ q = cc in subst (Mate m b s c) z (joins_is (x / 2) e)
      go false e ih h = ih h

  -- what some slot has is not missed
  seek_finds : (k x i : ℕ) → i < k → joins_at m b c s (cur (s.at enext) x i / 2) ≡ true → seek k m b c s x ≡ None → ⊥
  unfolding seek cur
  seek_finds zero x i p h = absurd (omega arith)
  seek_finds (suc k) x i p h = go (joins_at m b c s (x / 2)) refl i p h (seek_finds k (get_or (s.at enext) x 0))
    where
      go : (t : Bool) → joins_at m b c s (x / 2) ≡ t → (i : ℕ) → i < suc k → joins_at m b c s (cur (s.at enext) x i / 2) ≡ true
          → ((j : ℕ) → j < k → joins_at m b c s (cur (s.at enext) (get_or (s.at enext) x 0) j / 2) ≡ true → seek k m b c s (get_or (s.at enext) x 0) ≡ None → ⊥)
          → cond t (Some (x / 2)) (seek k m b c s (get_or (s.at enext) x 0)) ≡ None → ⊥
      go true e i p h ih n = cc
      go false e zero p h ih n = absurd (true≢false (sym h ∙ e))
      go false e (suc j) p h ih n = ih j (omega arith) h n

  pub mate_is : (q : ℕ) → mate m b s c ≡ Some q → Mate m b s c q
  unfolding mate seek_all
  mate_is q = go (ltb (get_or (s.at elen) b 0) (get_or (s.at elen) c 0))
    where
      go : (t : Bool) → cond t (seek (get_or (s.at elen) b 0 - 1) m b c s (get_or (s.at enext) (2 * m + b) 0)) (seek (get_or (s.at elen) c 0 - 1) m b c s (get_or (s.at enext) (2 * m + c) 0)) ≡ Some q → Mate m b s c q
      go true h = seek_is (get_or (s.at elen) b 0 - 1) (get_or (s.at enext) (2 * m + b) 0) q h
      go false h = seek_is (get_or (s.at elen) c 0 - 1) (get_or (s.at enext) (2 * m + c) 0) q h

  -- edge j has a slot in node h's chain
  abbrev pub Reached : ℕ → ℕ → Type 0
  Reached h j = (i : ℕ) × (i < get_or (s.at elen) h 0 - 1) × (cur (s.at enext) (get_or (s.at enext) (2 * m + h) 0) i / 2 ≡ j)

  pub mate_finds : (j : ℕ) → Mate m b s c j → (b ≡ c → ⊥) → Reached b j → Reached c j → mate m b s c ≡ None → ⊥
  unfolding mate seek_all
  mate_finds j t ne p q = go (ltb (get_or (s.at elen) b 0) (get_or (s.at elen) c 0))
    where
      found : (h : ℕ) → Reached h j → seek (get_or (s.at elen) h 0 - 1) m b c s (get_or (s.at enext) (2 * m + h) 0) ≡ None → ⊥
      found h r = seek_finds (get_or (s.at elen) h 0 - 1) (get_or (s.at enext) (2 * m + h) 0) r.0 r.1 (rw r.2 (joins_of j t ne))

      go : (t : Bool) → cond t (seek (get_or (s.at elen) b 0 - 1) m b c s (get_or (s.at enext) (2 * m + b) 0)) (seek (get_or (s.at elen) c 0 - 1) m b c s (get_or (s.at enext) (2 * m + c) 0)) ≡ None → ⊥
      go true = found b p
      go false = found c q
