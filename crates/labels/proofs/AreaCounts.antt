-- The areas of each band counted: a gate more, and two areas made one. Assumes nothing.
use Rattle.std.proofs.Common.{◌≡◌, ℕ, zero, suc, ◌+◌, ◌-◌, ◌<◌, ◌≤◌, min, max, List, [], ◌∷◌, ◌++◌, length, get_or, set, sym, refl, ap, ◌∙◌, ⊎_elim, not-suc-le-zero, arith, length-append, length-set}
use lib.ListN.{get_or-append}
use lib.Seq.{get_or-append_seam}
use Rattle.lists.proofs.SegLaws.{eq_or_ne}
use Rattle.labels.specs.Label.{Neighbours, firsts, rank, join}
use Rattle.labels.specs.Inside.Bands.{part}
use Rattle.labels.specs.Inside.Numbering.{Counted}
use Rattle.labels.proofs.RankLaws.{rank_zero, rank_hit, rank_miss, rank_end}
use Rattle.labels.proofs.ForestLaws.{read_set, join_cases}
use Rattle.labels.proofs.JointLaws.{part_in, part_out, length_part}

-- firsts at the same gates: the same number of them
rank_same : (rs qs : List ℕ) (g : ℕ) → g ≤ length rs → g ≤ length qs → ((i : ℕ) → i < g → get_or rs i 0 ≡ suc i → get_or qs i 0 ≡ suc i) → ((i : ℕ) → i < g → get_or qs i 0 ≡ suc i → get_or rs i 0 ≡ suc i) → rank (firsts rs) g ≡ rank (firsts qs) g
rank_same rs qs zero h k to from = rank_zero rs ∙ sym (rank_zero qs)
rank_same rs qs (suc g) h k to from =
    let before : rank (firsts rs) g ≡ rank (firsts qs) g = rank_same rs qs g (omega arith) (omega arith) (λ i l. to i (omega arith)) (λ i l. from i (omega arith)) in
    ⊎_elim
    (λ e. omega (arith, before, rank_hit rs g h e, rank_hit qs g k (to g (omega arith) e)))
    (λ n. omega (arith, before, rank_miss rs g h n, rank_miss qs g k (λ e. n (from g (omega arith) e))))
    (eq_or_ne (get_or rs g 0) (suc g))

-- the same but for gate m, which is a first in rs alone
rank_one_more : (rs qs : List ℕ) (m g : ℕ) → m < g → g ≤ length rs → g ≤ length qs → get_or rs m 0 ≡ suc m → (get_or qs m 0 ≡ suc m → ⊥)
    → ((i : ℕ) → (i ≡ m → ⊥) → get_or rs i 0 ≡ suc i → get_or qs i 0 ≡ suc i) → ((i : ℕ) → (i ≡ m → ⊥) → get_or qs i 0 ≡ suc i → get_or rs i 0 ≡ suc i) → rank (firsts rs) g ≡ rank (firsts qs) g + 1
rank_one_more rs qs m zero b h k one none to from = absurd (not-suc-le-zero b)
rank_one_more rs qs m (suc g) b h k one none to from = ⊎_elim here (λ n. later n (rank_one_more rs qs m g (omega arith) (omega arith) (omega arith) one none to from)) (eq_or_ne g m)
  where
    here : g ≡ m → rank (firsts rs) (suc g) ≡ rank (firsts qs) (suc g) + 1
    here e =
        let before : rank (firsts rs) g ≡ rank (firsts qs) g = rank_same rs qs g (omega arith) (omega arith) (λ i l. to i (λ f. omega arith)) (λ i l. from i (λ f. omega arith)) in
        omega (arith, before, rank_hit rs g h (ap (λ (y : ℕ). get_or rs y 0) e ∙ one ∙ ap suc (sym e)), rank_miss qs g k (λ f. none (ap (λ (y : ℕ). get_or qs y 0) (sym e) ∙ f ∙ ap suc e)))

    later : (g ≡ m → ⊥) → rank (firsts rs) g ≡ rank (firsts qs) g + 1 → rank (firsts rs) (suc g) ≡ rank (firsts qs) (suc g) + 1
    later n before = ⊎_elim
        (λ e. omega (arith, rank_hit rs g h e, rank_hit qs g k (to g n e)))
        (λ f. omega (arith, rank_miss rs g h f, rank_miss qs g k (λ e. f (from g n e))))
        (eq_or_ne (get_or rs g 0) (suc g))

-- no more firsts than gates
rank_few : (rs : List ℕ) (g : ℕ) → g ≤ length rs → rank (firsts rs) g ≤ g
rank_few rs zero h = omega (arith, rank_zero rs)
rank_few rs (suc g) h =
    let before : rank (firsts rs) g ≤ g = rank_few rs g (omega arith) in
    ⊎_elim (λ e. omega (arith, before, rank_hit rs g h e)) (λ n. omega (arith, before, rank_miss rs g h n)) (eq_or_ne (get_or rs g 0) (suc g))

-- the firsts of a band, up to its last gate
all_firsts : (iv R : List ℕ) (j : ℕ) → rank (firsts (part iv R j)) (length iv) ≡ length (firsts (part iv R j))
all_firsts iv R j = ap (rank (firsts (part iv R j))) (sym (length_part iv R j)) ∙ rank_end (part iv R j)

-- a first of a band is a gate of that band and its own root
first_of : (iv R : List ℕ) (j i : ℕ) → get_or (part iv R j) i 0 ≡ suc i → (get_or iv i 0 ≡ suc j) × (get_or R i 0 ≡ suc i)
first_of iv R j i e = ⊎_elim (λ b. (b, sym (part_in iv R j i b) ∙ e)) (λ n. absurd (bad (part_out iv R j i n))) (eq_or_ne (get_or iv i 0) (suc j))
  where
    bad : get_or (part iv R j) i 0 ≡ 0 → ⊥
    bad z = omega arith

-- ---- one gate more, of band b and with root y
module _ (iv R : List ℕ) (long : length R ≡ length iv) (b y j : ℕ) where
  -- its band
  end_band : get_or (iv ++ b ∷ []) (length iv) 0 ≡ b
  end_band = get_or-append_seam iv b [] 0

  -- its root
  end_root : get_or (R ++ y ∷ []) (length iv) 0 ≡ y
  end_root = ap (λ (k : ℕ). get_or (R ++ y ∷ []) k 0) (sym long) ∙ get_or-append_seam R y [] 0

  -- the gates before are as they were
  part_before : (i : ℕ) → i < length iv → get_or (part (iv ++ b ∷ []) (R ++ y ∷ []) j) i 0 ≡ get_or (part iv R j) i 0
  part_before i h =
      let band : get_or (iv ++ b ∷ []) i 0 ≡ get_or iv i 0 = get_or-append iv (b ∷ []) 0 i h in
      ⊎_elim
      (λ e. part_in (iv ++ b ∷ []) (R ++ y ∷ []) j i (band ∙ e) ∙ get_or-append R (y ∷ []) 0 i (omega arith) ∙ sym (part_in iv R j i e))
      (λ n. part_out (iv ++ b ∷ []) (R ++ y ∷ []) j i (λ e. n (sym band ∙ e)) ∙ sym (part_out iv R j i n))
      (eq_or_ne (get_or iv i 0) (suc j))

  -- the bands are one more
  end_long : length (iv ++ b ∷ []) ≡ suc (length iv)
  end_long = length-append iv (b ∷ []) ∙ omega arith

  -- so are the roots of band j
  in_end : length iv < length (part (iv ++ b ∷ []) (R ++ y ∷ []) j)
  in_end = omega (arith, end_long, length_part (iv ++ b ∷ []) (R ++ y ∷ []) j)

  -- the firsts before it are as they were
  firsts_before : rank (firsts (part (iv ++ b ∷ []) (R ++ y ∷ []) j)) (length iv) ≡ length (firsts (part iv R j))
  firsts_before =
      rank_same (part (iv ++ b ∷ []) (R ++ y ∷ []) j) (part iv R j) (length iv) (omega (arith, in_end)) (omega (arith, length_part iv R j)) (λ i h e. sym (part_before i h) ∙ e) (λ i h e. part_before i h ∙ e)
      ∙ all_firsts iv R j

  -- and with it they are all
  firsts_end : rank (firsts (part (iv ++ b ∷ []) (R ++ y ∷ []) j)) (suc (length iv)) ≡ length (firsts (part (iv ++ b ∷ []) (R ++ y ∷ []) j))
  firsts_end = ap (rank (firsts (part (iv ++ b ∷ []) (R ++ y ∷ []) j))) (sym end_long) ∙ all_firsts (iv ++ b ∷ []) (R ++ y ∷ []) j

  -- it is no first of band j
  end_miss : (b ≡ suc j → y ≡ suc (length iv) → ⊥) → length (firsts (part (iv ++ b ∷ []) (R ++ y ∷ []) j)) ≡ length (firsts (part iv R j))
  end_miss n =
      sym firsts_end ∙ rank_miss (part (iv ++ b ∷ []) (R ++ y ∷ []) j) (length iv) in_end (λ e.
      let f = first_of (iv ++ b ∷ []) (R ++ y ∷ []) j (length iv) e in
      n (sym end_band ∙ f.0) (sym end_root ∙ f.1)) ∙ firsts_before

  -- it is one
  end_hit : b ≡ suc j → y ≡ suc (length iv) → length (firsts (part (iv ++ b ∷ []) (R ++ y ∷ []) j)) ≡ length (firsts (part iv R j)) + 1
  end_hit e f =
      sym firsts_end
      ∙ rank_hit (part (iv ++ b ∷ []) (R ++ y ∷ []) j) (length iv) in_end (part_in (iv ++ b ∷ []) (R ++ y ∷ []) j (length iv) (end_band ∙ e) ∙ end_root ∙ f)
      ∙ ap (λ (k : ℕ). k + 1) firsts_before

module _ (iv R c : List ℕ) (long : length R ≡ length iv) (C : Counted iv R c) where
  -- one gate more that begins no area
  pub counted_none : (b y : ℕ) → (y ≡ suc (length iv) → ⊥) → Counted (iv ++ b ∷ []) (R ++ y ∷ []) c
  counted_none b y n j h = C j h ∙ sym (end_miss iv R long b y j (λ e. n))

  -- one gate more that begins an area of its band
  pub counted_first : (b : ℕ) → 0 < b → b - 1 < length c → Counted (iv ++ b ∷ []) (R ++ suc (length iv) ∷ []) (set c (b - 1) (get_or c (b - 1) 0 + 1))
  counted_first b p l j h = ⊎_elim
      (λ k. k.1 ∙ ap (λ (x : ℕ). get_or c x 0 + 1) (sym k.0) ∙ ap (λ (x : ℕ). x + 1) (C j (old j h)) ∙ sym (end_hit iv R long b (suc (length iv)) j (omega (arith, k.0)) refl))
      (λ k. k.1 ∙ C j (old j h) ∙ sym (end_miss iv R long b (suc (length iv)) j (λ e f. k.0 (omega arith))))
      (read_set c (b - 1) (get_or c (b - 1) 0 + 1) j l)
    where
      old : (j : ℕ) → j < length (set c (b - 1) (get_or c (b - 1) 0 + 1)) → j < length c
      old j h = omega (arith, length-set c (b - 1) (get_or c (b - 1) 0 + 1))

  -- no more areas than gates
  pub counted_few : (j : ℕ) → j < length c → get_or c j 0 ≤ length iv
  counted_few j h = omega (arith, C j h, all_firsts iv R j, rank_few (part iv R j) (length iv) (omega (arith, length_part iv R j)))

  -- two areas of one band made one
  module _ (l : Neighbours) (lo hi j : ℕ) (greater : max (get_or R l.a 0) (get_or R l.b 0) ≡ suc hi) (lesser : min (get_or R l.a 0) (get_or R l.b 0) ≡ suc lo) (two : lo < hi) (inside : hi < length iv)
      (self : get_or R hi 0 ≡ suc hi) (self_lo : get_or R lo 0 ≡ suc lo) (band : get_or iv hi 0 ≡ suc j) (here : j < length c) where
    -- gate hi is a first no more
    lost : get_or (join R l) hi 0 ≡ suc hi → ⊥
    lost e = ⊎_elim (λ h. bad h.1) (λ h. h.0 self) (join_cases R l lo hi hi greater lesser)
      where
        bad : get_or (join R l) hi 0 ≡ suc lo → ⊥
        bad f = omega arith

    -- the others stay firsts
    kept : (i : ℕ) → (i ≡ hi → ⊥) → get_or R i 0 ≡ suc i → get_or (join R l) i 0 ≡ suc i
    kept i n e = ⊎_elim (λ h. absurd (n (omega (arith, h.0)))) (λ h. h.1 ∙ e) (join_cases R l lo hi i greater lesser)

    -- and there are no new ones
    back : (i : ℕ) → get_or (join R l) i 0 ≡ suc i → get_or R i 0 ≡ suc i
    back i e = ⊎_elim (λ h. absurd (bad (omega (arith, h.1)) h.0)) (λ h. sym h.1 ∙ e) (join_cases R l lo hi i greater lesser)
      where
        bad : i ≡ lo → get_or R i 0 ≡ suc hi → ⊥
        bad f g = omega (arith, ap (λ (y : ℕ). get_or R y 0) f)

    -- in each band the others stay firsts
    part_kept : (k i : ℕ) → (i ≡ hi → ⊥) → get_or (part iv R k) i 0 ≡ suc i → get_or (part iv (join R l) k) i 0 ≡ suc i
    part_kept k i n e =
        let f = first_of iv R k i e in
        part_in iv (join R l) k i f.0 ∙ kept i n f.1

    -- and there are no new ones
    part_back : (k i : ℕ) → get_or (part iv (join R l) k) i 0 ≡ suc i → get_or (part iv R k) i 0 ≡ suc i
    part_back k i e =
        let f = first_of iv (join R l) k i e in
        part_in iv R k i f.0 ∙ back i f.1

    -- a band's roots are as many as the gates
    in_part : (Q : List ℕ) (k : ℕ) → length iv ≤ length (part iv Q k)
    in_part Q k = omega (arith, length_part iv Q k)

    -- their band has one area less
    one_less : length (firsts (part iv R j)) ≡ length (firsts (part iv (join R l) j)) + 1
    one_less =
        sym (all_firsts iv R j)
        ∙ rank_one_more (part iv R j) (part iv (join R l) j) hi (length iv) inside (in_part R j) (in_part (join R l) j) (part_in iv R j hi band ∙ self)
        (λ e. lost (first_of iv (join R l) j hi e).1) (part_kept j) (λ i n. part_back j i)
        ∙ ap (λ (k : ℕ). k + 1) (all_firsts iv (join R l) j)

    -- another band as many as before
    as_many : (k : ℕ) → (k ≡ j → ⊥) → length (firsts (part iv R k)) ≡ length (firsts (part iv (join R l) k))
    as_many k n =
        sym (all_firsts iv R k)
        ∙ rank_same (part iv R k) (part iv (join R l) k) (length iv) (in_part R k) (in_part (join R l) k)
        (λ i h e. part_kept k i (λ f. n (omega (arith, band, (first_of iv R k i e).0, ap (λ (y : ℕ). get_or iv y 0) f))) e) (λ i h. part_back k i)
        ∙ all_firsts iv (join R l) k

    -- there is one to take away, and the counts after the join
    pub counted_joined : (0 < get_or c j 0) × Counted iv (join R l) (set c j (get_or c j 0 - 1))
    counted_joined = (
      omega (arith, C j here, one_less),
      λ k h. ⊎_elim
          (λ e. e.1 ∙ omega (arith, C j here, one_less) ∙ ap (λ (y : ℕ). length (firsts (part iv (join R l) y))) (sym e.0))
          (λ n. n.1 ∙ C k (omega (arith, length-set c j (get_or c j 0 - 1))) ∙ as_many k n.0)
          (read_set c j (get_or c j 0 - 1) k here),
    )
