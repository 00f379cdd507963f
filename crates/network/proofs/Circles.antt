-- Two circles become one when their leaders' links are exchanged. Assumes nothing.
use mathlib.Core.Path.{◌≡◌, refl, sym, ap, ◌∙◌, subst}
use mathlib.Core.Logic.{⊎_elim}
use mathlib.Core.List.{List}
use Prim.Native.Nat.{ℕ, zero, suc, ◌+◌, ◌-◌, ◌≤◌, ◌<◌}
use native.Mathlib.Omega.{arith}
use lib.ListN.{get_or}
use Rattle.merge.specs.Inside.Chain.{cur, Chains, own_joined, pos_joined, len_joined}
use Rattle.merge.proofs.Bias.{lt_or_le}
use Rattle.merge.proofs.SoundSet.{eq_or_ne}
use Rattle.network.proofs.Moved.{same_no, same_yes}
use Rattle.lists.proofs.SeqLaws.{eqb_refl}

pub cur_suc : (N : List ℕ) (x i : ℕ) → cur N x (suc i) ≡ get_or N (cur N x i) 0
unfolding cur
cur_suc N x zero = refl
cur_suc N x (suc i) = cur_suc N (get_or N x 0) i

cur_add : (N : List ℕ) (x i j : ℕ) → cur N x (i + j) ≡ cur N (cur N x i) j
unfolding cur
cur_add N x zero j = let z : zero + j ≡ j = omega arith in ap (cur N x) z
cur_add N x (suc i) j = let z : suc i + j ≡ suc (i + j) = omega arith in ap (cur N x) z ∙ cur_add N (get_or N x 0) i j

module _ (N : List ℕ) (size : ℕ) (own pos len : ℕ → ℕ) (C : Chains N size own pos len) where
  -- a leader's place is 0
  pub lead : (h : ℕ) → h < size → own h ≡ h → pos h ≡ 0
  unfolding cur
  lead h lt e = C.placed h 0 lt e (omega (arith, C.here h lt, ap len e))

  -- only the leader has place 0
  pub later : (s : ℕ) → s < size → (s ≡ own s → ⊥) → 1 ≤ pos s
  unfolding cur
  later s lt n = ⊎_elim (λ p. let z : pos s ≡ 0 = omega arith in absurd (n (sym (C.at s lt) ∙ ap (cur N (own s)) z))) (λ p. p) (lt_or_le (pos s) 1)

  module _ (N' : List ℕ) (b c : ℕ) (hb : b < size) (hc : c < size) (ob : own b ≡ b) (oc : own c ≡ c)
      (else : (s : ℕ) → (s ≡ b → ⊥) → (s ≡ c → ⊥) → get_or N' s 0 ≡ get_or N s 0) where
    -- along a third circle
    run_else : (h : ℕ) → h < size → own h ≡ h → (h ≡ b → ⊥) → (h ≡ c → ⊥) → (i : ℕ) → i ≤ len h → cur N' h i ≡ cur N h i
    unfolding cur
    run_else h lt o nb nc zero p = refl
    run_else h lt o nb nc (suc i) p =
        let y : ℕ = cur N h i in
        let oy : own y ≡ h = C.owned h i lt o (omega arith) in
        cur_suc N' h i ∙ ap (λ (z : ℕ). get_or N' z 0) (run_else h lt o nb nc i (omega arith))
        ∙ else y (λ e. nb (sym oy ∙ ap own e ∙ ob)) (λ e. nc (sym oy ∙ ap own e ∙ oc)) ∙ sym (cur_suc N h i)

    -- from x along y's circle, where x's link is y's
    module _ (x y o : ℕ) (hy : y < size) (oy : own y ≡ y) (oo : own o ≡ o) (ne : y ≡ o → ⊥) (both : (s : ℕ) → (s ≡ y → ⊥) → (s ≡ o → ⊥) → get_or N' s 0 ≡ get_or N s 0) (link : get_or N' x 0 ≡ get_or N y 0) where
      run_over : (i : ℕ) → suc i ≤ len y → cur N' x (suc i) ≡ cur N y (suc i)
      unfolding cur
      run_over zero p = link
      run_over (suc i) p =
          let z : ℕ = cur N y (suc i) in
          let pz : pos z ≡ suc i = C.placed y (suc i) hy oy p in
          cur_suc N' x (suc i) ∙ ap (λ (t : ℕ). get_or N' t 0) (run_over i (omega arith))
          ∙ both z (λ e. omega (arith, ap pos e, lead y hy oy)) (λ e. ne (sym (C.owned y (suc i) hy oy p) ∙ ap own e ∙ oo)) ∙ sym (cur_suc N y (suc i))

module _ (N : List ℕ) (size : ℕ) (own pos len : ℕ → ℕ) (C : Chains N size own pos len) (N' : List ℕ) (b c : ℕ) (hb : b < size) (hc : c < size) (ob : own b ≡ b) (oc : own c ≡ c) (ne : b ≡ c → ⊥)
    (else : (s : ℕ) → (s ≡ b → ⊥) → (s ≡ c → ⊥) → get_or N' s 0 ≡ get_or N s 0) (at_b : get_or N' b 0 ≡ get_or N c 0) (at_c : get_or N' c 0 ≡ get_or N b 0) where
  own' : ℕ → ℕ
  own' = own_joined own b c

  pos' : ℕ → ℕ
  pos' = pos_joined own pos len b c

  len' : ℕ → ℕ
  len' = len_joined len b c

  some_b : 1 ≤ len b
  some_b = omega (arith, C.here b hb, ap len ob)

  some_c : 1 ≤ len c
  some_c = omega (arith, C.here c hc, ap len oc)

  over_c : (i : ℕ) → 1 ≤ i → i ≤ len c → cur N' b i ≡ cur N c i
  over_c i p q = let z : i ≡ suc (i - 1) = omega arith in
      subst (λ (k : ℕ). cur N' b k ≡ cur N c k) (sym z) (run_over N size own pos len C N' b c hb hc ob oc else b c b hc oc ob (λ w. ne (sym w)) (λ s p q. else s q p) at_b (i - 1) (omega arith))

  over_b : (i : ℕ) → 1 ≤ i → i ≤ len b → cur N' c i ≡ cur N b i
  over_b i p q = let z : i ≡ suc (i - 1) = omega arith in
      subst (λ (k : ℕ). cur N' c k ≡ cur N b k) (sym z) (run_over N size own pos len C N' b c hb hc ob oc else c b c hb ob oc ne else at_c (i - 1) (omega arith))

  -- half way round stands c
  half : cur N' b (len c) ≡ c
  half = over_c (len c) some_c (omega arith) ∙ C.close c hc oc

  second : (j : ℕ) → 1 ≤ j → j ≤ len b → cur N' b (j + len c) ≡ cur N b j
  second j p q = let z : j + len c ≡ len c + j = omega arith in ap (cur N' b) z ∙ cur_add N' b (len c) j ∙ ap (λ (x : ℕ). cur N' x j) half ∙ over_b j p q

  -- the new owners and places, by cases
  own_c : (s : ℕ) → own s ≡ c → own' s ≡ b
  unfolding own' own_joined
  own_c s e = rw (same_yes c (own s) (sym e)) refl

  own_else : (s : ℕ) → (own s ≡ c → ⊥) → own' s ≡ own s
  unfolding own' own_joined
  own_else s n = rw (same_no c (own s) (λ e. n (sym e))) refl

  pos_lead_c : pos' c ≡ len c
  unfolding pos' pos_joined
  pos_lead_c = rw (oc, eqb_refl c) refl

  pos_c : (s : ℕ) → own s ≡ c → (s ≡ c → ⊥) → pos' s ≡ pos s
  unfolding pos' pos_joined
  pos_c s e n = rw (same_yes c (own s) (sym e), same_no c s (λ w. n (sym w))) refl

  pos_lead_b : pos' b ≡ 0
  unfolding pos' pos_joined
  pos_lead_b = rw (ob, same_no c b (λ w. ne (sym w)), eqb_refl b) refl

  pos_b : (s : ℕ) → own s ≡ b → (s ≡ b → ⊥) → pos' s ≡ pos s + len c
  unfolding pos' pos_joined
  pos_b s e n = rw (same_no c (own s) (λ w. ne (sym e ∙ sym w)), same_yes b (own s) (sym e), same_no b s (λ w. n (sym w))) refl

  pos_else : (s : ℕ) → (own s ≡ c → ⊥) → (own s ≡ b → ⊥) → pos' s ≡ pos s
  unfolding pos' pos_joined
  pos_else s n k = rw (same_no c (own s) (λ w. n (sym w)), same_no b (own s) (λ w. k (sym w))) refl

  len_b : len' b ≡ len b + len c
  unfolding len' len_joined
  len_b = rw (eqb_refl b) refl

  len_else : (h : ℕ) → (h ≡ b → ⊥) → len' h ≡ len h
  unfolding len' len_joined
  len_else h n = rw (same_no b h (λ w. n (sym w))) refl

  -- a leader afterwards was one before, and is not c
  record Leader (h : ℕ) : Type 0 where
    was : own h ≡ h
    other : h ≡ c → ⊥

  leader : (h : ℕ) → own' h ≡ h → Leader h
  leader h e = ⊎_elim
      (λ w. let q : h ≡ b = sym e ∙ own_c h w in absurd (ne (sym ob ∙ ap own (sym q) ∙ w)))
      (λ w. let q : own h ≡ h = sym (own_else h w) ∙ e in record { was = q; other = λ r. w (q ∙ r) })
      (eq_or_ne (own h) c)

  -- the slots of the new circle
  record Slot (i z : ℕ) : Type 0 where
    s_in : z < size
    s_own : own' z ≡ b
    s_pos : pos' z ≡ i

  slot : (i : ℕ) → i < len b + len c → Slot i (cur N' b i)
  unfolding cur
  slot i lt = ⊎_elim start (λ p. ⊎_elim (early p) (λ q. ⊎_elim middle (late q) (eq_or_ne i (len c))) (lt_or_le i (len c))) (lt_or_le i 1)
    where
      start : i < 1 → Slot i (cur N' b i)
      start p = let z : i ≡ 0 = omega arith in subst (λ (k : ℕ). Slot k (cur N' b k)) (sym z) (record { s_in = hb; s_own = own_else b (λ w. ne (sym ob ∙ w)) ∙ ob; s_pos = pos_lead_b })

      early : 1 ≤ i → i < len c → Slot i (cur N' b i)
      early p q =
          let pz : pos (cur N c i) ≡ i = C.placed c i hc oc q in
          let oz : own (cur N c i) ≡ c = C.owned c i hc oc q in
          subst (Slot i) (sym (over_c i p (omega arith))) (record { s_in = C.inside c i hc oc q; s_own = own_c _ oz; s_pos = pos_c _ oz (λ w. omega (arith, ap pos w, lead N size own pos len C c hc oc)) ∙ pz })

      middle : i ≡ len c → Slot i (cur N' b i)
      middle e = subst (λ (k : ℕ). Slot k (cur N' b k)) (sym e) (subst (Slot (len c)) (sym half) (record { s_in = hc; s_own = own_c c oc; s_pos = pos_lead_c }))

      late : len c ≤ i → (i ≡ len c → ⊥) → Slot i (cur N' b i)
      late q n =
          let j : ℕ = i - len c in
          let z : i ≡ j + len c = omega arith in
          let pz : pos (cur N b j) ≡ j = C.placed b j hb ob (omega arith) in
          let oz : own (cur N b j) ≡ b = C.owned b j hb ob (omega arith) in
          subst (Slot i) (sym (ap (cur N' b) z ∙ second j (omega arith) (omega arith)))
          (record { s_in = C.inside b j hb ob (omega arith); s_own = own_else _ (λ w. ne (sym oz ∙ w)) ∙ oz; s_pos = pos_b _ oz (λ w. omega (arith, ap pos w, lead N size own pos len C b hb ob)) ∙ omega arith })

  pub joined : Chains N' size (own_joined own b c) (pos_joined own pos len b c) (len_joined len b c)
  unfolding own' pos' len'
  joined = record {
    head = λ s lt. ⊎_elim (λ e. subst (λ (x : ℕ). x < size) (sym (own_c s e)) hb) (λ e. subst (λ (x : ℕ). x < size) (sym (own_else s e)) (C.head s lt)) (eq_or_ne (own s) c);
    top = λ s lt. ⊎_elim
        (λ e. ap (own_joined own b c) (own_c s e) ∙ own_else b (λ w. ne (sym ob ∙ w)) ∙ ob ∙ sym (own_c s e))
        (λ e. ap (own_joined own b c) (own_else s e) ∙ own_else (own s) (λ w. e (sym (C.top s lt) ∙ w)) ∙ C.top s lt ∙ sym (own_else s e))
        (eq_or_ne (own s) c);
    here = λ s lt. ⊎_elim (here_c s lt) (λ e. ⊎_elim (here_b s lt) (here_else s lt e) (eq_or_ne (own s) b)) (eq_or_ne (own s) c);
    at = λ s lt. ⊎_elim (at_of_c s lt) (λ e. ⊎_elim (at_of_b s lt) (at_of_else s lt e) (eq_or_ne (own s) b)) (eq_or_ne (own s) c);
    inside = λ h i lt e p. ⊎_elim (λ w. subst (λ (x : ℕ). cur N' x i < size) (sym w) (slot i (omega (arith, len_b, ap (len_joined len b c) w))).s_in) (λ w. subst (λ (x : ℕ). x < size) (sym (walks h lt e w i (omega (arith, len_else h w)))) (C.inside h i lt (leader h e).was (omega (arith, len_else h w)))) (eq_or_ne h b);
    owned = λ h i lt e p. ⊎_elim (λ w. subst (λ (x : ℕ). own_joined own b c (cur N' x i) ≡ x) (sym w) (slot i (omega (arith, len_b, ap (len_joined len b c) w))).s_own)
        (λ w. let o : own (cur N h i) ≡ h = C.owned h i lt (leader h e).was (omega (arith, len_else h w)) in
        ap (own_joined own b c) (walks h lt e w i (omega (arith, len_else h w))) ∙ own_else (cur N h i) (λ r. (leader h e).other (sym o ∙ r)) ∙ o)
        (eq_or_ne h b);
    placed = λ h i lt e p. ⊎_elim (λ w. subst (λ (x : ℕ). pos_joined own pos len b c (cur N' x i) ≡ i) (sym w) (slot i (omega (arith, len_b, ap (len_joined len b c) w))).s_pos)
        (λ w. let o : own (cur N h i) ≡ h = C.owned h i lt (leader h e).was (omega (arith, len_else h w)) in
        ap (pos_joined own pos len b c) (walks h lt e w i (omega (arith, len_else h w))) ∙ pos_else (cur N h i) (λ r. (leader h e).other (sym o ∙ r)) (λ r. w (sym o ∙ r)) ∙ C.placed h i lt (leader h e).was (omega (arith, len_else h w)))
        (eq_or_ne h b);
    close = λ h lt e. ⊎_elim
        (λ w. subst (λ (x : ℕ). cur N' x (len_joined len b c x) ≡ x) (sym w) (ap (cur N' b) len_b ∙ second (len b) some_b (omega arith) ∙ C.close b hb ob))
        (λ w. ap (cur N' h) (len_else h w) ∙ walks h lt e w (len h) (omega arith) ∙ C.close h lt (leader h e).was)
        (eq_or_ne h b);
  }
    where
      walks : (h : ℕ) → h < size → own_joined own b c h ≡ h → (h ≡ b → ⊥) → (i : ℕ) → i ≤ len h → cur N' h i ≡ cur N h i
      walks h lt e w = run_else N size own pos len C N' b c hb hc ob oc else h lt (leader h e).was w (leader h e).other

      here_c : (s : ℕ) → s < size → own s ≡ c → pos_joined own pos len b c s < len_joined len b c (own_joined own b c s)
      here_c s lt e = ⊎_elim
          (λ w. omega (arith, ap (pos_joined own pos len b c) w, pos_lead_c, ap (len_joined len b c) (own_c s e), len_b, some_b))
          (λ w. omega (arith, pos_c s e w, ap (len_joined len b c) (own_c s e), len_b, C.here s lt, ap len e))
          (eq_or_ne s c)

      here_b : (s : ℕ) → s < size → own s ≡ b → pos_joined own pos len b c s < len_joined len b c (own_joined own b c s)
      here_b s lt e =
          let o : own_joined own b c s ≡ b = own_else s (λ w. ne (sym e ∙ w)) ∙ e in
          ⊎_elim
          (λ w. omega (arith, ap (pos_joined own pos len b c) w, pos_lead_b, ap (len_joined len b c) o, len_b, some_b))
          (λ w. omega (arith, pos_b s e w, ap (len_joined len b c) o, len_b, C.here s lt, ap len e))
          (eq_or_ne s b)

      here_else : (s : ℕ) → s < size → (own s ≡ c → ⊥) → (own s ≡ b → ⊥) → pos_joined own pos len b c s < len_joined len b c (own_joined own b c s)
      here_else s lt n k = omega (arith, pos_else s n k, ap (len_joined len b c) (own_else s n), len_else (own s) k, C.here s lt)

      at_of_c : (s : ℕ) → s < size → own s ≡ c → cur N' (own_joined own b c s) (pos_joined own pos len b c s) ≡ s
      at_of_c s lt e = ⊎_elim
          (λ w. ap (λ (x : ℕ). cur N' x (pos_joined own pos len b c s)) (own_c s e) ∙ ap (cur N' b) (ap (pos_joined own pos len b c) w ∙ pos_lead_c) ∙ half ∙ sym w)
          (λ w. ap (λ (x : ℕ). cur N' x (pos_joined own pos len b c s)) (own_c s e) ∙ ap (cur N' b) (pos_c s e w)
          ∙ over_c (pos s) (later N size own pos len C s lt (λ r. w (r ∙ e))) (omega (arith, C.here s lt, ap len e)) ∙ ap (λ (x : ℕ). cur N x (pos s)) (sym e) ∙ C.at s lt)
          (eq_or_ne s c)

      at_of_b : (s : ℕ) → s < size → own s ≡ b → cur N' (own_joined own b c s) (pos_joined own pos len b c s) ≡ s
      at_of_b s lt e =
          let o : own_joined own b c s ≡ b = own_else s (λ w. ne (sym e ∙ w)) ∙ e in
          ⊎_elim
          (λ w. ap (λ (x : ℕ). cur N' x (pos_joined own pos len b c s)) o ∙ ap (cur N' b) (ap (pos_joined own pos len b c) w ∙ pos_lead_b) ∙ (unfold cur in sym w))
          (λ w. ap (λ (x : ℕ). cur N' x (pos_joined own pos len b c s)) o ∙ ap (cur N' b) (pos_b s e w)
          ∙ second (pos s) (later N size own pos len C s lt (λ r. w (r ∙ e))) (omega (arith, C.here s lt, ap len e)) ∙ ap (λ (x : ℕ). cur N x (pos s)) (sym e) ∙ C.at s lt)
          (eq_or_ne s b)

      at_of_else : (s : ℕ) → s < size → (own s ≡ c → ⊥) → (own s ≡ b → ⊥) → cur N' (own_joined own b c s) (pos_joined own pos len b c s) ≡ s
      at_of_else s lt n k =
          ap (λ (x : ℕ). cur N' x (pos_joined own pos len b c s)) (own_else s n) ∙ ap (cur N' (own s)) (pos_else s n k)
          ∙ run_else N size own pos len C N' b c hb hc ob oc else (own s) (C.head s lt) (C.top s lt) k n (pos s) (omega (arith, C.here s lt)) ∙ C.at s lt
