-- One gate labelled, in the slice. Assumes nothing.
use Rattle.std.proofs.Common.{◌≡◌, ℕ, ◌+◌, ◌-◌, ◌^◌, ◌<◌, ◌≤◌, List, length, get_or, drop, set, sym, ap, ◌∙◌, subst, arith, length-set}
use Rattle.lists.specs.Inside.Seg.{seg}
use Rattle.labels.specs.Inside.Forest.{Forest}
use Rattle.labels.specs.Inside.Bands.{marks}
use Rattle.labels.specs.Inside.Numbering.{Numbering, Ahead, NumbersGates}
use Rattle.labels.proofs.CountLaws.{number_out, number_first, number_under, ahead_band, ahead_some, ahead_fits, ahead_less, number_fits}
use Rattle.labels.proofs.SheetLaws.{words_long, counts_long, band_at, word_at_lem, count_at_lem, store_band, store_count}

module _ (u : List ℕ) (n : ℕ) (fits : n + n ≤ length u) (g : ℕ) (here : g < n) where
  zero_word : get_or u (n + g) 0 ≡ 0 → get_or (seg u n n) g 0 ≡ 0
  zero_word z = word_at_lem u n fits g here ∙ z

  some_word : (get_or u (n + g) 0 ≡ 0 → ⊥) → get_or (seg u n n) g 0 ≡ 0 → ⊥
  some_word a z = a (sym (word_at_lem u n fits g here) ∙ z)

  own_word : get_or u (n + g) 0 - 1 ≡ g → get_or (seg u n n) g 0 - 1 ≡ g
  own_word b = ap (λ (y : ℕ). y - 1) (word_at_lem u n fits g here) ∙ b

  other_word : (get_or u (n + g) 0 - 1 ≡ g → ⊥) → get_or (seg u n n) g 0 - 1 ≡ g → ⊥
  other_word b z = b (ap (λ (y : ℕ). y - 1) (sym (word_at_lem u n fits g here)) ∙ z)

-- ---- a gate is labelled
module _ (u : List ℕ) (n : ℕ) (fits : n + n ≤ length u) (g : ℕ) (A : Ahead (seg u n n) (seg u 0 n) (drop (n + n) u) g) where
  pub ahead_here : g < n
  ahead_here = omega (arith, A.here, words_long u n fits)

  pub next_some : (get_or u (n + g) 0 ≡ 0 → ⊥) → 1 ≤ get_or u g 0
  next_some a = omega (arith, ahead_some (seg u n n) (seg u 0 n) (drop (n + n) u) g A (some_word u n fits g ahead_here a), band_at u n fits g ahead_here)

  pub next_in : (get_or u (n + g) 0 ≡ 0 → ⊥) → n + n + (get_or u g 0 - 1) < length u
  next_in a = omega (arith, next_some a, ahead_band (seg u n n) (seg u 0 n) (drop (n + n) u) g A, band_at u n fits g ahead_here, counts_long u n fits)

  pub next_fits : (get_or u (n + g) 0 ≡ 0 → ⊥) → get_or u (n + n + (get_or u g 0 - 1)) 0 + 1 < 2 ^ 32
  next_fits a =
      let e : get_or (drop (n + n) u) (get_or (seg u 0 n) g 0 - 1) 0 ≡ get_or u (n + n + (get_or u g 0 - 1)) 0 = ap (λ (y : ℕ). get_or (drop (n + n) u) (y - 1) 0) (band_at u n fits g ahead_here) ∙ count_at_lem u n fits (get_or u g 0 - 1) in
      omega (arith, ahead_fits (seg u n n) (seg u 0 n) (drop (n + n) u) g A (some_word u n fits g ahead_here a))

  pub next_less : (get_or u (n + g) 0 ≡ 0 → ⊥) → (get_or u (n + g) 0 - 1 ≡ g → ⊥) → get_or u (n + g) 0 - 1 < g
  next_less a b = subst (λ (y : ℕ). y - 1 < g) (word_at_lem u n fits g ahead_here) (ahead_less (seg u n n) (seg u 0 n) (drop (n + n) u) g A (some_word u n fits g ahead_here a) (other_word u n fits g ahead_here b))

  module _ (iv₀ rs c₀ : List ℕ) (F : Forest (marks iv₀) (seg u n n) rs) (N : Numbering iv₀ rs c₀ (seg u 0 n) (drop (n + n) u) g) where
    pub none_labelled : get_or u (n + g) 0 ≡ 0 → Numbering iv₀ rs c₀ (seg u 0 n) (drop (n + n) u) (g + 1)
    none_labelled z = number_out iv₀ (seg u n n) rs F g A.here c₀ (seg u 0 n) (drop (n + n) u) N (zero_word u n fits g ahead_here z)

    pub later_labelled : (get_or u (n + g) 0 ≡ 0 → ⊥) → (get_or u (n + g) 0 - 1 ≡ g → ⊥) → Numbering iv₀ rs c₀ (seg (set u g (get_or u (get_or u (n + g) 0 - 1) 0)) 0 n) (drop (n + n) (set u g (get_or u (get_or u (n + g) 0 - 1) 0))) (g + 1)
    later_labelled a b =
        let p : ℕ = get_or u (n + g) 0 - 1 in
        let lp : p < n = omega (arith, next_less a b, ahead_here) in
        let s = store_band u n fits g (get_or u p 0) ahead_here in
        let e : get_or (seg u 0 n) (get_or (seg u n n) g 0 - 1) 0 ≡ get_or u p 0 = ap (λ (y : ℕ). get_or (seg u 0 n) (y - 1) 0) (word_at_lem u n fits g ahead_here) ∙ band_at u n fits p lp in
        rw (s.0, s.2, ← e)
        (number_under iv₀ (seg u n n) rs F g A.here c₀ (seg u 0 n) (drop (n + n) u) N (some_word u n fits g ahead_here a) (other_word u n fits g ahead_here b))

    pub first_labelled : (get_or u (n + g) 0 ≡ 0 → ⊥) → get_or u (n + g) 0 - 1 ≡ g
        → Numbering iv₀ rs c₀ (seg (set (set u (n + n + (get_or u g 0 - 1)) (get_or u (n + n + (get_or u g 0 - 1)) 0 + 1)) g (get_or u (n + n + (get_or u g 0 - 1)) 0 + 1)) 0 n)
        (drop (n + n) (set (set u (n + n + (get_or u g 0 - 1)) (get_or u (n + n + (get_or u g 0 - 1)) 0 + 1)) g (get_or u (n + n + (get_or u g 0 - 1)) 0 + 1))) (g + 1)
    first_labelled a b =
        let x : ℕ = get_or u (n + n + (get_or u g 0 - 1)) 0 + 1 in
        let v : List ℕ = set u (n + n + (get_or u g 0 - 1)) x in
        let s = store_count u n fits (get_or u g 0 - 1) x in
        let r = store_band v n (omega (arith, length-set u (n + n + (get_or u g 0 - 1)) x)) g x ahead_here in
        let k : get_or (seg u 0 n) g 0 ≡ get_or u g 0 = band_at u n fits g ahead_here in
        let e : get_or (drop (n + n) u) (get_or (seg u 0 n) g 0 - 1) 0 + 1 ≡ x = ap (λ (y : ℕ). get_or (drop (n + n) u) (y - 1) 0 + 1) k ∙ ap (λ (y : ℕ). y + 1) (count_at_lem u n fits (get_or u g 0 - 1)) in
        let N₂ = number_first iv₀ (seg u n n) rs F g A.here c₀ (seg u 0 n) (drop (n + n) u) N (some_word u n fits g ahead_here a) (own_word u n fits g ahead_here b) (omega (arith, ahead_band (seg u n n) (seg u 0 n) (drop (n + n) u) g A, N.rest g (omega arith))) in
        let l : set (seg u 0 n) g (get_or (drop (n + n) u) (get_or (seg u 0 n) g 0 - 1) 0 + 1) ≡ seg (set v g x) 0 n = ap (set (seg u 0 n) g) e ∙ ap (λ (y : List ℕ). set y g x) (sym s.0) ∙ sym r.0 in
        let d : set (drop (n + n) u) (get_or (seg u 0 n) g 0 - 1) (get_or (drop (n + n) u) (get_or (seg u 0 n) g 0 - 1) 0 + 1) ≡ drop (n + n) (set v g x) = ap (set (drop (n + n) u) (get_or (seg u 0 n) g 0 - 1)) e ∙ ap (λ (y : ℕ). set (drop (n + n) u) (y - 1) x) k ∙ sym s.2 ∙ sym r.2 in
        subst (λ (y : List ℕ). Numbering iv₀ rs c₀ (seg (set v g x) 0 n) y (g + 1)) d (subst (λ (y : List ℕ). Numbering iv₀ rs c₀ y (set (drop (n + n) u) (get_or (seg u 0 n) g 0 - 1) (get_or (drop (n + n) u) (get_or (seg u 0 n) g 0 - 1) 0 + 1)) (g + 1)) l N₂)

  -- the words stay
  pub later_words : (x : ℕ) → seg (set u g x) n n ≡ seg u n n
  later_words x = (store_band u n fits g x ahead_here).1

  pub first_words : (x : ℕ) → seg (set (set u (n + n + (get_or u g 0 - 1)) x) g x) n n ≡ seg u n n
  first_words x = (store_band (set u (n + n + (get_or u g 0 - 1)) x) n (omega (arith, length-set u (n + n + (get_or u g 0 - 1)) x)) g x ahead_here).1 ∙ (store_count u n fits (get_or u g 0 - 1) x).1

-- ---- gates labelled in u, as far as v
module _ (u v : List ℕ) (n : ℕ) (fits : n + n ≤ length u) (long : length v ≡ length u) (words : seg v n n ≡ seg u n n) where
  pub label_asks : (R : NumbersGates (seg u n n) (seg u 0 n) (drop (n + n) u)) (g : ℕ) → g < n → Numbering (seg u 0 n) R.rs (drop (n + n) u) (seg v 0 n) (drop (n + n) v) g → Ahead (seg v n n) (seg v 0 n) (drop (n + n) v) g
  label_asks R g h N =
      let lw : length (seg u n n) ≡ n = words_long u n fits in
      let e : length (drop (n + n) v) ≡ length (drop (n + n) u) = N.long_c in
      rw words
      (record {
        iv = seg u 0 n;
        rs = R.rs;
        c₀ = drop (n + n) u;
        forest = R.forest;
        numbering = N;
        here = omega arith;
        small = R.small;
        band = omega (arith, R.band g);
        fits = λ j q. omega (arith, number_fits (seg u 0 n) R.rs (drop (n + n) u) (seg v 0 n) (drop (n + n) v) g N j q, R.fits j (omega arith));
      })
