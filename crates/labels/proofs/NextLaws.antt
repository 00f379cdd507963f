-- The joint roots of bands with one gate more, by the gates that it touches. Assumes nothing.
use Rattle.std.proofs.Common.{◌≡◌, ℕ, zero, suc, ◌-◌, ◌<◌, ◌≤◌, min, max, Bool, true, false, cond, not, eqb, List, [], ◌∷◌, ◌++◌, map, length, get_or, sym, refl, ap, ◌∙◌, ⊎_elim, arith, length-append, ext_get_or, eq-eqb, ne_eqb, eqb-true}
use native.Mathlib.Nat.{min_comm, max_comm}
use mathlib.Core.Path.{fun_ext}
use mathlib.Core.List.{foldl, foldl-append}
use lib.ListN.{length-map, get_or-append, get_or-eq_default}
use lib.Seq.{get_or-append_seam, get_or_at}
use Rattle.lists.specs.Seq.{upto, tabulate, each}
use Rattle.lists.proofs.SeqLaws.{map_append, map_at, tab_snoc, tab_same, each_snoc}
use Rattle.labels.specs.Label.{Neighbours, own, join, swap}
use Rattle.labels.specs.Inside.Bands.{marks, above_in, before_in, links_in, later_in, joint}
use Rattle.lists.proofs.SegLaws.{lt_or_le}
use Rattle.labels.proofs.ForestLaws.{in_length, join_at, length_join, swap_zero}
use Rattle.labels.proofs.OwnLaws.{length_own, own_in, own_out}
use Rattle.labels.proofs.BandLaws.{length_marks}
use Rattle.labels.proofs.Connected.{In, here, there, swap_ends, joined_one_root, along, stay}
use Rattle.labels.proofs.RegionFacts.{long_joins}
use Rattle.labels.proofs.JointLaws.{links_none}
use Rattle.labels.proofs.Ways.{Beside, linked, touching}

-- ---- roots made one, and those that stay
-- roots up to n stay up to n
swap_low : (x y r n : ℕ) → x ≤ n → y ≤ n → r ≤ n → swap x y r ≤ n
unfolding swap
swap_low x y r n p q s = go (eqb r (max x y))
  where
    go : (b : Bool) → cond b (min x y) r ≤ n
    go true = omega arith
    go false = s

-- a root above both stays
swap_far : (x y r n : ℕ) → x ≤ n → y ≤ n → n < r → swap x y r ≡ r
unfolding swap
swap_far x y r n p q s = go (eqb r (max x y)) refl
  where
    go : (b : Bool) → eqb r (max x y) ≡ b → cond b (min x y) r ≡ r
    go true e = absurd (bad (eqb-true r (max x y) e))
      where
        bad : r ≡ max x y → ⊥
        bad f = omega arith
    go false e = refl

-- the greater root becomes the lesser
swap_top : (x y : ℕ) → x < y → swap x y y ≡ x
unfolding swap
swap_top x y h = ap (λ (t : Bool). cond t (min x y) y) (eq-eqb y (max x y) (omega arith)) ∙ omega arith

-- a root that is not the greater stays
swap_below : (x y r : ℕ) → x < y → r < y → swap x y r ≡ r
unfolding swap
swap_below x y r h l = ap (λ (t : Bool). cond t (min x y) r) (ne_eqb r (max x y) (λ e. omega arith))

-- either of the two may stand first
swap_comm : (x y r : ℕ) → swap x y r ≡ swap y x r
unfolding swap
swap_comm x y r = ap (λ (m : ℕ). cond (eqb r m) (min x y) r) (max_comm x y) ∙ ap (λ (m : ℕ). cond (eqb r (max y x)) m r) (min_comm x y)

-- one root with itself: all stay
swap_one : (x r : ℕ) → swap x x r ≡ r
unfolding swap
swap_one x r = go (eqb r (max x x)) refl
  where
    go : (b : Bool) → eqb r (max x x) ≡ b → cond b (min x x) r ≡ r
    go true e = omega (arith, eqb-true r (max x x) e)
    go false e = refl

-- a map that leaves every element
map_stays : (f : ℕ → ℕ) (l : List ℕ) → ((i : ℕ) → f (get_or l i 0) ≡ get_or l i 0) → map f l ≡ l
map_stays f l h = ext_get_or 0 (map f l) l (length-map l f) (λ i p. map_at f l i 0 0 (omega (arith, length-map l f)) ∙ h i)

-- gates of one area joined again
pub join_same : (R : List ℕ) (l : Neighbours) → get_or R l.a 0 ≡ get_or R l.b 0 → join R l ≡ R
unfolding join
join_same R l e = map_stays (swap (get_or R l.a 0) (get_or R l.b 0)) R (λ i. ap (λ (y : ℕ). swap y (get_or R l.b 0) (get_or R i 0)) e ∙ swap_one (get_or R l.b 0) (get_or R i 0))

-- ---- a root after the others
-- a join of gates before it, which leaves it
join_end : (R : List ℕ) (x : ℕ) (l : Neighbours) → l.a < length R → l.b < length R → swap (get_or R l.a 0) (get_or R l.b 0) x ≡ x → join (R ++ x ∷ []) l ≡ join R l ++ x ∷ []
unfolding join
join_end R x l p q e =
    ap (λ (y : ℕ). map (swap y (get_or (R ++ x ∷ []) l.b 0)) (R ++ x ∷ [])) (get_or-append R (x ∷ []) 0 l.a p)
    ∙ ap (λ (y : ℕ). map (swap (get_or R l.a 0) y) (R ++ x ∷ [])) (get_or-append R (x ∷ []) 0 l.b q)
    ∙ map_append (swap (get_or R l.a 0) (get_or R l.b 0)) R (x ∷ [])
    ∙ ap (λ (y : ℕ). map (swap (get_or R l.a 0) (get_or R l.b 0)) R ++ y ∷ []) e

-- no root above n comes by a join
low_join : (R : List ℕ) (l : Neighbours) (n : ℕ) → ((i : ℕ) → get_or R i 0 ≤ n) → (i : ℕ) → get_or (join R l) i 0 ≤ n
low_join R l n h i = omega (arith, join_at R l i, swap_low (get_or R l.a 0) (get_or R l.b 0) (get_or R i 0) n (h l.a) (h l.b) (h i))

-- nor by many
low_joins : (ls : List Neighbours) (R : List ℕ) (n : ℕ) → ((i : ℕ) → get_or R i 0 ≤ n) → (i : ℕ) → get_or (foldl join R ls) i 0 ≤ n
low_joins [] R n h = h
low_joins (l ∷ ls) R n h = low_joins ls (join R l) n (low_join R l n h)

-- joins of gates before it leave it
joins_end : (ls : List Neighbours) (R : List ℕ) (x n : ℕ) → ((l : Neighbours) → In l ls → (l.a < n) × (l.b < n)) → length R ≡ n → ((i : ℕ) → get_or R i 0 ≤ n) → ((y z : ℕ) → y ≤ n → z ≤ n → swap y z x ≡ x)
    → foldl join (R ++ x ∷ []) ls ≡ foldl join R ls ++ x ∷ []
joins_end [] R x n h e low new = refl
joins_end (l ∷ ls) R x n h e low new =
    ap (λ (y : List ℕ). foldl join y ls) (join_end R x l (omega (arith, (h l here).0)) (omega (arith, (h l here).1)) (new (get_or R l.a 0) (get_or R l.b 0) (low l.a) (low l.b)))
    ∙ joins_end ls (join R l) x n (λ k m. h k (there m)) (length_join R l ∙ e) (low_join R l n low) new

-- ---- every gate alone, with one more
-- its mark
pub marks_end : (iv : List ℕ) (b : ℕ) → marks (iv ++ b ∷ []) ≡ marks iv ++ not (eqb b 0) ∷ []
unfolding marks
marks_end iv b = map_append (λ (y : ℕ). not (eqb y 0)) iv (b ∷ [])

-- its own root
own_end : (inside : List Bool) (t : Bool) → own (inside ++ t ∷ []) ≡ own inside ++ cond t (suc (length inside)) 0 ∷ []
unfolding own
own_end inside t =
    let f : ℕ → ℕ = λ g. cond (get_or (inside ++ t ∷ []) g false) (suc g) 0 in
    let n : ℕ = length inside in
    ap (λ (k : ℕ). tabulate k f) (length-append inside (t ∷ []))
    ∙ tab_snoc f n
    ∙ ap (λ (l : List ℕ). l ++ f n ∷ []) (tab_same f (λ g. cond (get_or inside g false) (suc g) 0) n (λ i h. ap (λ (u : Bool). cond u (suc i) 0) (get_or-append inside (t ∷ []) false i h)))
    ∙ ap (λ (u : Bool). tabulate n (λ g. cond (get_or inside g false) (suc g) 0) ++ cond u (suc n) 0 ∷ []) (get_or-append_seam inside t [] false)

-- no gate's own root is above the number of gates
own_low : (inside : List Bool) (i : ℕ) → get_or (own inside) i 0 ≤ length inside
own_low inside i = go (get_or inside i false) refl
  where
    go : (t : Bool) → get_or inside i false ≡ t → get_or (own inside) i 0 ≤ length inside
    go true e = omega (arith, own_in inside i e, in_length inside i e)
    go false e = omega (arith, own_out inside i e)

-- ---- links, with one more gate
module _ (gates : ℕ) (iv : List ℕ) (b : ℕ) where
  -- the links of the gates before stay
  links_before : (i : ℕ) → i < length iv → links_in gates (iv ++ b ∷ []) i ≡ links_in gates iv i
  unfolding links_in above_in before_in
  links_before i h = rw (get_or-append iv (b ∷ []) 0 i h, get_or-append iv (b ∷ []) 0 (i - gates) (omega arith), get_or-append iv (b ∷ []) 0 (i - 1) (omega arith)) refl

  each_before : (k : ℕ) → k ≤ length iv → each (links_in gates (iv ++ b ∷ [])) (upto k 0) ≡ each (links_in gates iv) (upto k 0)
  unfolding each upto
  each_before zero h = refl
  each_before (suc k) h =
      each_snoc (links_in gates (iv ++ b ∷ [])) k
      ∙ ap (λ (l : List Neighbours). l ++ links_in gates (iv ++ b ∷ []) k) (each_before k (omega arith))
      ∙ ap (λ (l : List Neighbours). each (links_in gates iv) (upto k 0) ++ l) (links_before k (omega arith))
      ∙ sym (each_snoc (links_in gates iv) k)

  -- and its own come last
  later_end : later_in gates (iv ++ b ∷ []) 0 ≡ later_in gates iv 0 ++ links_in gates (iv ++ b ∷ []) (length iv)
  unfolding later_in
  later_end =
      let n : ℕ = length iv in
      let e : length (iv ++ b ∷ []) - 0 ≡ suc n = omega (arith, length-append iv (b ∷ [])) in
      let f : n - 0 ≡ n = omega arith in
      ap (λ (k : ℕ). each (links_in gates (iv ++ b ∷ [])) (upto k 0)) e
      ∙ each_snoc (links_in gates (iv ++ b ∷ [])) n
      ∙ ap (λ (l : List Neighbours). l ++ links_in gates (iv ++ b ∷ []) n) (each_before n (omega arith))
      ∙ ap (λ (k : ℕ). each (links_in gates iv) (upto k 0) ++ links_in gates (iv ++ b ∷ []) n) (sym f)

-- ---- joint roots
module _ (gates : ℕ) (iv : List ℕ) where
  -- one root a gate
  pub joint_long : length (joint gates iv) ≡ length iv
  unfolding joint
  joint_long = long_joins (later_in gates iv 0) (own (marks iv)) ∙ length_own (marks iv) ∙ length_marks iv

  -- no root is above the number of gates
  pub joint_low : (i : ℕ) → get_or (joint gates iv) i 0 ≤ length iv
  unfolding joint
  joint_low = low_joins (later_in gates iv 0) (own (marks iv)) (length iv) (λ i. omega (arith, own_low (marks iv) i, length_marks iv))

  -- gates of one band that touch have one root
  pub same_root : (i j : ℕ) → j < length iv → Beside gates i j → (get_or iv j 0 ≡ 0 → ⊥) → get_or iv i 0 ≡ get_or iv j 0 → get_or (joint gates iv) i 0 ≡ get_or (joint gates iv) j 0
  unfolding joint
  same_root i j h s n e = joined_one_root (later_in gates iv 0) (own (marks iv)) i j (along (record { a = i; b = j }) (linked gates iv i j h s n e) (stay j))

  -- a link joins gates of the sweep
  ends_in : (l : Neighbours) → In l (later_in gates iv 0) → (l.a < length iv) × (l.b < length iv)
  ends_in l m =
      let t = touching gates iv l m in
      let h : l.b < length iv = ⊎_elim (λ (p : l.b < length iv). p) (λ p. absurd (t.some (get_or-eq_default iv 0 p))) (lt_or_le l.b (length iv)) in
      (⊎_elim (λ p. omega (arith, p.1)) (λ p. omega (arith, p.1)) t.beside, h)

module _ (gates : ℕ) (iv : List ℕ) (b : ℕ) where
  -- the gate's root while it is alone
  abbrev new : ℕ
  new = cond (not (eqb b 0)) (suc (length iv)) 0

  -- joins of gates before leave it
  new_stays : (y z : ℕ) → y ≤ length iv → z ≤ length iv → swap y z new ≡ new
  new_stays y z p q = go (not (eqb b 0))
    where
      go : (t : Bool) → swap y z (cond t (suc (length iv)) 0) ≡ cond t (suc (length iv)) 0
      go true = swap_far y z (suc (length iv)) (length iv) p q (omega arith)
      go false = swap_zero y z

  -- it comes after the others alone, and is joined by its links
  joint_end : joint gates (iv ++ b ∷ []) ≡ foldl join (joint gates iv ++ new ∷ []) (links_in gates (iv ++ b ∷ []) (length iv))
  unfolding joint
  joint_end =
      let n : ℕ = length iv in
      let alone : List ℕ = own (marks iv) in
      ap (λ (l : List Neighbours). foldl join (own (marks (iv ++ b ∷ []))) l) (later_end gates iv b)
      ∙ ap (λ (l : List Bool). foldl join (own l) (later_in gates iv 0 ++ links_in gates (iv ++ b ∷ []) n)) (marks_end iv b)
      ∙ ap (λ (l : List ℕ). foldl join l (later_in gates iv 0 ++ links_in gates (iv ++ b ∷ []) n)) (own_end (marks iv) (not (eqb b 0)) ∙ ap (λ (k : ℕ). alone ++ cond (not (eqb b 0)) (suc k) 0 ∷ []) (length_marks iv))
      ∙ foldl-append join (alone ++ new ∷ []) (later_in gates iv 0) (links_in gates (iv ++ b ∷ []) n)
      ∙ ap (λ (l : List ℕ). foldl join l (links_in gates (iv ++ b ∷ []) n)) (joins_end (later_in gates iv 0) alone new n (ends_in gates iv) (length_own (marks iv) ∙ length_marks iv) (λ i. omega (arith, own_low (marks iv) i, length_marks iv)) new_stays)

  new_some : 0 < b → new ≡ suc (length iv)
  new_some h = ap (λ (t : Bool). cond (not t) (suc (length iv)) 0) (ne_eqb b 0 (λ e. omega arith))

  -- the new root under that of gate p
  join_new : (R : List ℕ) (p : ℕ) → length R ≡ length iv → p < length iv → ((i : ℕ) → get_or R i 0 ≤ length iv) → join (R ++ suc (length iv) ∷ []) (record { a = p; b = length iv }) ≡ R ++ get_or R p 0 ∷ []
  unfolding join
  join_new R p e h low =
      let n : ℕ = length iv in
      ap (λ (y : ℕ). map (swap y (get_or (R ++ suc n ∷ []) n 0)) (R ++ suc n ∷ [])) (get_or-append R (suc n ∷ []) 0 p (omega arith))
      ∙ ap (λ (y : ℕ). map (swap (get_or R p 0) y) (R ++ suc n ∷ [])) (get_or_at R (suc n) [] 0 n e)
      ∙ map_append (swap (get_or R p 0) (suc n)) R (suc n ∷ [])
      ∙ ap (λ (l : List ℕ). l ++ swap (get_or R p 0) (suc n) (suc n) ∷ []) (map_stays (swap (get_or R p 0) (suc n)) R (λ i. swap_below (get_or R p 0) (suc n) (get_or R i 0) (omega (arith, low p)) (omega (arith, low i))))
      ∙ ap (λ (y : ℕ). R ++ y ∷ []) (swap_top (get_or R p 0) (suc n) (omega (arith, low p)))

  -- after gate h gate p
  join_both : (R : List ℕ) (h p : ℕ) → length R ≡ length iv → p < length iv → join (R ++ get_or R h 0 ∷ []) (record { a = p; b = length iv }) ≡ join R (record { a = h; b = p }) ++ get_or (join R (record { a = h; b = p })) p 0 ∷ []
  unfolding join
  join_both R h p e m =
      let n : ℕ = length iv in
      let x : ℕ = get_or R h 0 in
      let y : ℕ = get_or R p 0 in
      ap (λ (z : ℕ). map (swap z (get_or (R ++ x ∷ []) n 0)) (R ++ x ∷ [])) (get_or-append R (x ∷ []) 0 p (omega arith))
      ∙ ap (λ (z : ℕ). map (swap y z) (R ++ x ∷ [])) (get_or_at R x [] 0 n e)
      ∙ ap (λ (f : ℕ → ℕ). map f (R ++ x ∷ [])) (fun_ext (λ r. swap_comm y x r))
      ∙ map_append (swap x y) R (x ∷ [])
      ∙ ap (λ (z : ℕ). map (swap x y) R ++ z ∷ []) (swap_ends x y ∙ sym (join_at R (record { a = h; b = p }) p))

  -- a gate that touches none of its band
  pub joint_first : 0 < b → links_in gates (iv ++ b ∷ []) (length iv) ≡ [] → joint gates (iv ++ b ∷ []) ≡ joint gates iv ++ suc (length iv) ∷ []
  joint_first s e = joint_end ∙ ap (foldl join (joint gates iv ++ new ∷ [])) e ∙ ap (λ (y : ℕ). joint gates iv ++ y ∷ []) (new_some s)

  -- one that touches gate p alone
  pub joint_one : 0 < b → (p : ℕ) → p < length iv → links_in gates (iv ++ b ∷ []) (length iv) ≡ record { a = p; b = length iv } ∷ [] → joint gates (iv ++ b ∷ []) ≡ joint gates iv ++ get_or (joint gates iv) p 0 ∷ []
  joint_one s p h e =
      joint_end
      ∙ ap (foldl join (joint gates iv ++ new ∷ [])) e
      ∙ ap (λ (y : ℕ). join (joint gates iv ++ y ∷ []) (record { a = p; b = length iv })) (new_some s)
      ∙ join_new (joint gates iv) p (joint_long gates iv) h (joint_low gates iv)

  -- one that touches gates h and p: these are joined, and it with them
  pub joint_two : 0 < b → (h p : ℕ) → h < length iv → p < length iv → links_in gates (iv ++ b ∷ []) (length iv) ≡ record { a = h; b = length iv } ∷ record { a = p; b = length iv } ∷ []
      → joint gates (iv ++ b ∷ []) ≡ join (joint gates iv) (record { a = h; b = p }) ++ get_or (join (joint gates iv) (record { a = h; b = p })) p 0 ∷ []
  joint_two s h p l m e =
      joint_end
      ∙ ap (foldl join (joint gates iv ++ new ∷ [])) e
      ∙ ap (λ (y : ℕ). join (join (joint gates iv ++ y ∷ []) (record { a = h; b = length iv })) (record { a = p; b = length iv })) (new_some s)
      ∙ ap (λ (l : List ℕ). join l (record { a = p; b = length iv })) (join_new (joint gates iv) h (joint_long gates iv) l (joint_low gates iv))
      ∙ join_both (joint gates iv) h p (joint_long gates iv) m

-- one outside
pub joint_out : (gates : ℕ) (iv : List ℕ) → joint gates (iv ++ 0 ∷ []) ≡ joint gates iv ++ 0 ∷ []
joint_out gates iv = joint_end gates iv 0 ∙ ap (foldl join (joint gates iv ++ 0 ∷ [])) (links_none gates (iv ++ 0 ∷ []) (length iv) (get_or-append_seam iv 0 [] 0))
