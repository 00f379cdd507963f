-- The regions in closed form: a gate's label is how many regions the bands below its own have, and the rank of its root in its band; and gates of one label are joined within their band. Assumes nothing.
use Rattle.std.proofs.Common.{◌≡◌, ℕ, suc, ◌+◌, ◌-◌, ◌<◌, ◌≤◌, Bool, cond, eqb, ◌⊎◌, List, length, get_or, sym, ap, ◌∙◌, subst, inl, inr, arith, eq-eqb, ne_eqb}
use lib.Ieee.{Float}
use Rattle.lists.specs.Seq.{upto, tabulate}
use Rattle.labels.specs.Label.{own, firsts, rank}
use Rattle.labels.specs.Regions.{regions}
use Rattle.lists.proofs.SeqLaws.{tab_at}
use Rattle.labels.proofs.RankLaws.{rank_le}
use Rattle.labels.proofs.Connected.{In, Joined, joined_one_root, joined_trans, joined_sym, Rooted, rooted_all, rooted_own, rank_strict, keep_in, upto_in, in_length}
use Rattle.labels.specs.Inside.Bands.{Bands, marks, part, joint, later_in}
use Rattle.labels.specs.Inside.Numbering.{final, sizes}
use Rattle.labels.proofs.JointLaws.{joint_own, joint_some, part_in}
use Rattle.labels.proofs.FoldLaws.{labels_are, sizes_below}
use Rattle.labels.proofs.ForestLaws.{some_pred, decide}

-- each root is the first gate of its area
module _ (gates : ℕ) (iv : List ℕ) where
  pub rooted : Rooted (later_in gates iv 0) (joint gates iv)
  unfolding joint
  rooted = rooted_all (later_in gates iv 0) (later_in gates iv 0) (own (marks iv)) (λ l m. m) (rooted_own (later_in gates iv 0) (marks iv))

  pub root_self : (i r : ℕ) → get_or (joint gates iv) i 0 ≡ suc r → get_or (joint gates iv) r 0 ≡ suc r
  unfolding joint
  root_self i r e = sym (joined_one_root (later_in gates iv 0) (own (marks iv)) i r (rooted i r e).0) ∙ e

  one_root : (i h r : ℕ) → get_or (joint gates iv) i 0 ≡ suc r → get_or (joint gates iv) h 0 ≡ suc r → Joined (later_in gates iv 0) i h
  one_root i h r e f = joined_trans (later_in gates iv 0) i r h (rooted i r e).0 (joined_sym (later_in gates iv 0) h r (rooted h r f).0)

  root_in : (i r j : ℕ) → get_or (joint gates iv) i 0 ≡ suc r → get_or iv i 0 ≡ suc j → In (suc r) (firsts (part iv (joint gates iv) j))
  unfolding firsts
  root_in i r j e b =
      let R : List ℕ = joint gates iv in
      let P : List ℕ = part iv R j in
      let at : get_or P r 0 ≡ suc r = part_in iv R j r (joint_own gates iv i r e ∙ b) ∙ root_self i r e in
      let k : suc r - 1 ≡ r = omega arith in
      keep_in (λ q. eqb (get_or P (q - 1) 0) q) (suc r) (upto (length P) 1) (eq-eqb (get_or P (suc r - 1) 0) (suc r) (ap (λ (y : ℕ). get_or P y 0) k ∙ at)) (upto_in (length P) 1 (suc r) (omega arith) (omega (arith, in_length P r r at)))

  -- two gates of one band whose roots have one rank are joined
  same_rank : (i h r s j : ℕ) → get_or (joint gates iv) i 0 ≡ suc r → get_or (joint gates iv) h 0 ≡ suc s → get_or iv i 0 ≡ suc j → get_or iv h 0 ≡ suc j
      → rank (firsts (part iv (joint gates iv) j)) (suc r) ≡ rank (firsts (part iv (joint gates iv) j)) (suc s) → Joined (later_in gates iv 0) i h
  same_rank i h r s j e f b d q = one_root i h r e (f ∙ ap suc (sym (equal (decide r s))))
    where
      fs : List ℕ
      fs = firsts (part iv (joint gates iv) j)

      equal : ((r < s) ⊎ (s < r)) ⊎ (r ≡ s) → r ≡ s
      equal (inr k) = k
      equal (inl (inl k)) = omega (arith, q, rank_strict fs (suc r) (suc s) (omega arith) (root_in h s j f d))
      equal (inl (inr k)) = omega (arith, q, rank_strict fs (suc s) (suc r) (omega arith) (root_in i r j e b))

-- ---- the labels in closed form
module _ (gates : ℕ) (vel : List Float) (mask : List ℕ) (limits : List Float) (iv : List ℕ) (B : Bands limits vel mask iv) where
  has_rank : (i : ℕ) → i < length mask → (get_or iv i 0 ≡ 0 → ⊥) → 0 < rank (firsts (part iv (joint gates iv) (get_or iv i 0 - 1))) (get_or (joint gates iv) i 0)
  has_rank i l n =
      let (r, e) = some_pred (get_or (joint gates iv) i 0) (joint_some gates iv i n) in
      let fs : List ℕ = firsts (part iv (joint gates iv) (get_or iv i 0 - 1)) in
      subst (λ (y : ℕ). 0 < rank fs y) (sym e) (omega (arith, rank_strict fs 0 (suc r) (omega arith) (root_in gates iv i r (get_or iv i 0 - 1) e (omega arith))))

  starts : List ℕ
  starts = tabulate (length limits - 1) (sizes iv (joint gates iv))

  starts_at : (j : ℕ) → suc j < length limits → get_or starts j 0 ≡ sizes iv (joint gates iv) j
  unfolding starts
  starts_at j h = tab_at (sizes iv (joint gates iv)) (length limits - 1) j 0 (omega arith)

  -- a gate in no interval has label 0
  pub label_none : (i : ℕ) → i < length mask → get_or iv i 0 ≡ 0 → get_or (regions gates vel mask limits).labels i 0 ≡ 0
  unfolding final
  label_none i l z =
      labels_are gates vel mask limits iv B starts starts_at has_rank i l
      ∙ ap (λ (t : Bool). cond t 0 (get_or starts (get_or iv i 0 - 1) 0 + rank (firsts (part iv (joint gates iv) (get_or iv i 0 - 1))) (get_or (joint gates iv) i 0))) (eq-eqb (get_or iv i 0) 0 z)

  -- a gate of interval j
  pub label_some : (i j : ℕ) → i < length mask → get_or iv i 0 ≡ suc j → get_or (regions gates vel mask limits).labels i 0 ≡ sizes iv (joint gates iv) j + rank (firsts (part iv (joint gates iv) j)) (get_or (joint gates iv) i 0)
  unfolding final
  label_some i j l b =
      let k : get_or iv i 0 - 1 ≡ j = omega arith in
      labels_are gates vel mask limits iv B starts starts_at has_rank i l
      ∙ ap (λ (t : Bool). cond t 0 (get_or starts (get_or iv i 0 - 1) 0 + rank (firsts (part iv (joint gates iv) (get_or iv i 0 - 1))) (get_or (joint gates iv) i 0))) (ne_eqb (get_or iv i 0) 0 (λ z. omega arith))
      ∙ ap (λ (y : ℕ). get_or starts y 0 + rank (firsts (part iv (joint gates iv) y)) (get_or (joint gates iv) i 0)) k
      ∙ ap (λ (y : ℕ). y + rank (firsts (part iv (joint gates iv) j)) (get_or (joint gates iv) i 0)) (starts_at j (omega (arith, (B.at i l).small (omega arith))))

  pub label_pos : (i j : ℕ) → i < length mask → get_or iv i 0 ≡ suc j → 0 < get_or (regions gates vel mask limits).labels i 0
  label_pos i j l b =
      let k : get_or iv i 0 - 1 ≡ j = omega arith in
      omega (arith, label_some i j l b, subst (λ (t : ℕ). 0 < rank (firsts (part iv (joint gates iv) t)) (get_or (joint gates iv) i 0)) k (has_rank i l (λ z. omega arith)))

  -- ---- gates of one label, not 0, are joined within one interval
  pub same_label_joined : (i h j k : ℕ) → i < length mask → h < length mask → get_or iv i 0 ≡ suc j → get_or iv h 0 ≡ suc k
      → get_or (regions gates vel mask limits).labels i 0 ≡ get_or (regions gates vel mask limits).labels h 0 → (j ≡ k) × Joined (later_in gates iv 0) i h
  same_label_joined i h j k l m b d q =
      let (r, e) = some_pred (get_or (joint gates iv) i 0) (joint_some gates iv i (λ z. omega arith)) in
      let (s, f) = some_pred (get_or (joint gates iv) h 0) (joint_some gates iv h (λ z. omega arith)) in
      let x : ℕ = rank (firsts (part iv (joint gates iv) j)) (get_or (joint gates iv) i 0) in
      let y : ℕ = rank (firsts (part iv (joint gates iv) k)) (get_or (joint gates iv) h 0) in
      let x_pos : 0 < x = subst (λ (t : ℕ). 0 < rank (firsts (part iv (joint gates iv) t)) (get_or (joint gates iv) i 0)) (omega arith) (has_rank i l (λ z. omega arith)) in
      let y_pos : 0 < y = subst (λ (t : ℕ). 0 < rank (firsts (part iv (joint gates iv) t)) (get_or (joint gates iv) h 0)) (omega arith) (has_rank h m (λ z. omega arith)) in
      let x_le : x ≤ length (firsts (part iv (joint gates iv) j)) = rank_le (firsts (part iv (joint gates iv) j)) (get_or (joint gates iv) i 0) in
      let y_le : y ≤ length (firsts (part iv (joint gates iv) k)) = rank_le (firsts (part iv (joint gates iv) k)) (get_or (joint gates iv) h 0) in
      let sum : sizes iv (joint gates iv) j + x ≡ sizes iv (joint gates iv) k + y = sym (label_some i j l b) ∙ q ∙ label_some h k m d in
      let jk : j ≡ k = bands_equal j k x y sum x_pos y_pos x_le y_le (decide j k) in
      let xy : rank (firsts (part iv (joint gates iv) j)) (suc r) ≡ rank (firsts (part iv (joint gates iv) j)) (suc s) =
      ap (rank (firsts (part iv (joint gates iv) j))) (sym e)
      ∙ omega (arith, ap (sizes iv (joint gates iv)) jk)
      ∙ ap (λ (t : ℕ). rank (firsts (part iv (joint gates iv) t)) (get_or (joint gates iv) h 0)) (sym jk)
      ∙ ap (rank (firsts (part iv (joint gates iv) j))) f in
      (jk, same_rank gates iv i h r s j e f b (d ∙ ap suc (sym jk)) xy)
    where
      bands_equal : (j k x y : ℕ) → sizes iv (joint gates iv) j + x ≡ sizes iv (joint gates iv) k + y → 0 < x → 0 < y → x ≤ length (firsts (part iv (joint gates iv) j)) → y ≤ length (firsts (part iv (joint gates iv) k)) → ((j < k) ⊎ (k < j)) ⊎ (j ≡ k) → j ≡ k
      bands_equal j k x y s p p₂ a b (inr e) = e
      bands_equal j k x y s p p₂ a b (inl (inl c)) = omega (arith, sizes_below iv (joint gates iv) j k c)
      bands_equal j k x y s p p₂ a b (inl (inr c)) = omega (arith, sizes_below iv (joint gates iv) k j c)

  -- and gates that links of the bands join have one label
  pub joined_same_label : (i h j k : ℕ) → i < length mask → h < length mask → get_or iv i 0 ≡ suc j → get_or iv h 0 ≡ suc k → Joined (later_in gates iv 0) i h
      → get_or (regions gates vel mask limits).labels i 0 ≡ get_or (regions gates vel mask limits).labels h 0
  unfolding joint
  joined_same_label i h j k l m b d p =
      let (r, e) = some_pred (get_or (joint gates iv) i 0) (joint_some gates iv i (λ z. omega arith)) in
      let o : get_or (joint gates iv) i 0 ≡ get_or (joint gates iv) h 0 = joined_one_root (later_in gates iv 0) (own (marks iv)) i h p in
      let same_band : get_or iv i 0 ≡ get_or iv h 0 = sym (joint_own gates iv i r e) ∙ joint_own gates iv h r (sym o ∙ e) in
      let jk : j ≡ k = omega arith in
      label_some i j l b
      ∙ ap (λ (t : ℕ). sizes iv (joint gates iv) j + rank (firsts (part iv (joint gates iv) j)) t) o
      ∙ ap (λ (t : ℕ). sizes iv (joint gates iv) t + rank (firsts (part iv (joint gates iv) t)) (get_or (joint gates iv) h 0)) jk
      ∙ sym (label_some h k m d)
