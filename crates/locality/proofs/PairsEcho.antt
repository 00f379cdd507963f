-- Looks and pairs of a sweep and of its echo alone. Assumes nothing.
use Prim.Native.Nat.{ℕ, zero, suc, ◌-◌, ◌%◌, ◌<◌}
use native.Mathlib.Omega.{arith}
use mathlib.Core.Path.{◌≡◌, refl, sym, ap, ◌∙◌}
use mathlib.Core.Bool.{Bool, true, false, cond, not, and_self}
use mathlib.Core.List.{List, [], ◌∷◌, map}
use mathlib.Core.Option.{Option, none, some}
use lib.Dec.{leb, eqb}
use lib.ListN.{length, get_or}
use lib.Ieee.{Float, nan}
use borrow.Author.Tests.{eqb-true, eqb-false, ne_eqb}
use Rattle.lists.specs.Seq.{upto, keep, each, All}
use Rattle.lists.proofs.SeqLaws.{eqb_renamed, keep_each, each_same, map_each}
use Rattle.labels.specs.Label.{Found}
use Rattle.locality.proofs.Spot.{shift, flag, shift_inj}
use Rattle.locality.proofs.RootsEcho.{at}
use Rattle.locality.proofs.LabelEcho.{Parts}
use Rattle.lists.proofs.AllLaws.{all_each}
use Rattle.edges.specs.Edges.{next, skip, look, sees, bridges, pair_to, pairs_at, pairs}
use Rattle.edges.specs.declared.edges.Pair.{Pair}
use Rattle.edges.proofs.Bridged.{look_on}
use Rattle.edges.specs.declared.edges.Shape.{Shape}
use Rattle.edges.specs.declared.edges.Direction.{Direction}
use Rattle.edges.specs.declared.edges.Direction.TheVariants.{Left, Right, Top, Bottom}
use Rattle.locality.proofs.EdgesEcho.{ApartIn, look_labelled, ren_p, pair_in}

-- a labelled gate one step away is seen
sees_next : (s : Shape) (labels : List ℕ) (d : Direction) (g h : ℕ) → next s d g ≡ some h → 0 < at labels h → sees s labels d g ≡ some h
unfolding sees look
sees_next s labels d g h e p = ap reach e ∙ go (at labels h) p
  where
    reach : Option ℕ → Option ℕ
    reach o = elim o [ none ↦ none | some h ↦ elim (at labels h) [ zero ↦ look s d labels (skip s d) h | suc l ↦ some h ] ]

    go : (z : ℕ) → 0 < z → ◌≡◌ {A = Option ℕ} (elim z [ zero ↦ look s d labels (skip s d) h | suc l ↦ some h ]) (some h)
    go zero w = absurd (omega arith)
    go (suc z) w = refl

-- Neighbouring labelled gates see each other, so they lie on one side
pub left_near : (E : ℕ → Bool) (s : Shape) (labels : List ℕ) → ApartIn E s labels → (g : ℕ) → leb s.gates g ≡ true → 0 < at labels (g - s.gates) → 0 < at labels g → E (g - s.gates) ≡ E g
left_near E s labels A g h a b = sym (A Left g (g - s.gates) b (sees_next s labels Left g (g - s.gates) (unfold next in (rw h refl)) a))

pub top_near : (E : ℕ → Bool) (s : Shape) (labels : List ℕ) → ApartIn E s labels → (g : ℕ) → not (eqb (g % s.gates) 0) ≡ true → 0 < at labels (g - 1) → 0 < at labels g → E (g - 1) ≡ E g
top_near E s labels A g h a b = sym (A Top g (g - 1) b (sees_next s labels Top g (g - 1) (unfold next in (rw h refl)) a))

module _ (E : ℕ → Bool) (s : Shape) (bs : List Bool) (f f' : Found) (P : Parts E bs f f') (A : ApartIn E s f.labels) where
  abbrev L : List ℕ
  L = f.labels

  abbrev L' : List ℕ
  L' = f'.labels

  shift_zero : (l : ℕ) → shift bs l ≡ 0 → l ≡ 0
  unfolding shift
  shift_zero zero h = refl
  shift_zero (suc l) h = absurd (omega arith)

  zero_part : (g : ℕ) → at L g ≡ 0 → at L' g ≡ 0
  zero_part g h = go (E g) refl
    where
      go : (e : Bool) → E g ≡ e → at L' g ≡ 0
      go true e = shift_zero (at L' g) (sym (P.within g e) ∙ h)
      go false e = P.outside g e

  suc_part : (g : ℕ) → E g ≡ true → 0 < at L g → 0 < at L' g
  unfolding shift
  suc_part g e h = go (at L' g) refl
    where
      go : (z : ℕ) → at L' g ≡ z → 0 < z
      go zero w = let v : at L g ≡ 0 = P.within g e ∙ ap (shift bs) w in omega arith
      go (suc z) w = omega arith

  -- a look that ends in the echo, if it ends, ends at the same gate
  look_part : (d : Direction) (k g : ℕ) → ((h : ℕ) → look s d L k g ≡ some h → E h ≡ true) → look s d L' k g ≡ look s d L k g
  unfolding look
  look_part d zero g H = refl
  look_part d (suc k) g H = go (next s d g) H (look_part d k)
    where
      reach : (h z z' : ℕ) → at L h ≡ z → at L' h ≡ z' → ((i : ℕ) → ◌≡◌ {A = Option ℕ} (elim z [ zero ↦ look s d L k h | suc l ↦ some h ]) (some i) → E i ≡ true)
          → (((i : ℕ) → look s d L k h ≡ some i → E i ≡ true) → look s d L' k h ≡ look s d L k h)
          → ◌≡◌ {A = Option ℕ} (elim z' [ zero ↦ look s d L' k h | suc l ↦ some h ]) (elim z [ zero ↦ look s d L k h | suc l ↦ some h ])
      reach h zero zero w v H ih = ih H
      reach h zero (suc z') w v H ih = absurd (omega (arith, zero_part h w))
      reach h (suc z) zero w v H ih = absurd (omega (arith, suc_part h (H h refl) (omega arith)))
      reach h (suc z) (suc z') w v H ih = refl

      go : (o : Option ℕ) → ((h : ℕ) → ◌≡◌ {A = Option ℕ} (elim o [ none ↦ none | some h ↦ elim (at L h) [ zero ↦ look s d L k h | suc l ↦ some h ] ]) (some h) → E h ≡ true)
          → ((g : ℕ) → ((h : ℕ) → look s d L k g ≡ some h → E h ≡ true) → look s d L' k g ≡ look s d L k g)
          → ◌≡◌ {A = Option ℕ} (elim o [ none ↦ none | some h ↦ elim (at L' h) [ zero ↦ look s d L' k h | suc l ↦ some h ] ]) (elim o [ none ↦ none | some h ↦ elim (at L h) [ zero ↦ look s d L k h | suc l ↦ some h ] ])
      go none H ih = refl
      go (some h) H ih = reach h (at L h) (at L' h) refl refl H (ih h)

  sees_part : (d : Direction) (g : ℕ) → E g ≡ true → 0 < at L g → sees s L' d g ≡ sees s L d g
  unfolding sees
  sees_part d g e p = look_part d (suc (skip s d)) g (λ h w. sym (A d g h p w) ∙ e)

  bridges_part : (d : Direction) (g : ℕ) → E g ≡ true → 0 < at L g → bridges s L' d g ≡ bridges s L d g
  unfolding bridges
  bridges_part d g e p = ap (λ (o : Option ℕ). elim o [ none ↦ true | some h ↦ false ]) (look_part d 1 g (λ h w. sym (A d g h p (unfold sees in look_on s d L g (skip s d) h w)) ∙ e))

  sees_labelled : (d : Direction) (g h : ℕ) → sees s L d g ≡ some h → 0 < at L h
  unfolding sees
  sees_labelled d g h w = look_labelled s d L (suc (skip s d)) g h w

  -- a label's flag is its gates' side
  pub flag_side : (g : ℕ) → 0 < at L g → flag bs (at L g) ≡ E g
  unfolding flag
  flag_side g h = go (at L g) refl h
    where
      go : (z : ℕ) → at L g ≡ z → 0 < z → flag bs z ≡ E g
      go zero w q = absurd (omega arith)
      go (suc l) w q = (P.sides g l w).1

  module _ (vel vel' : List Float) (same_vel : (g : ℕ) → E g ≡ true → 0 < at L g → get_or vel' g nan ≡ get_or vel g nan) where
    -- one look, from a labelled gate
    pair_part : (d : Direction) (g : ℕ) (b : Bool) → 0 < at L g → (o : Option ℕ) → sees s L d g ≡ o
        → keep (pair_in (flag bs)) (pair_to L vel g b o) ≡ cond (E g) (map (ren_p (shift bs)) (pair_to L' vel' g b o)) []
    unfolding pair_to keep
    pair_part d g b p none w = nothing (E g)
      where
        nothing : (e : Bool) → [] ≡ cond e (map (ren_p (shift bs)) []) []
        nothing true = refl
        nothing false = refl
    pair_part d g b p (some h) w = go (E g) refl
      where
        q : 0 < at L h
        q = sees_labelled d g h w

        side : E g ≡ E h
        side = A d g h p w

        pair : Pair
        pair = record { one = at L g; two = at L h; vel1 = get_or vel g nan; vel2 = get_or vel h nan; bridged = b }

        passes : pair_in (flag bs) pair ≡ E g
        passes = unfold pair_in in rw (flag_side g p, flag_side h q, ← side) (and_self (E g))

        out : (c : Bool) → E g ≡ false → keep (pair_in (flag bs)) (cond c [] (pair ∷ [])) ≡ []
        out true e = refl
        out false e = rw (passes, e) refl

        into : (c : Bool) → E g ≡ true → keep (pair_in (flag bs)) (cond c [] (pair ∷ [])) ≡ cond c [] (pair ∷ [])
        into true e = refl
        into false e = rw (passes, e) refl

        renamed : (c : Bool) → E g ≡ true → cond c [] (pair ∷ []) ≡ map (ren_p (shift bs)) (cond c [] (record { one = at L' g; two = at L' h; vel1 = get_or vel' g nan; vel2 = get_or vel' h nan; bridged = b } ∷ []))
        renamed true e = refl
        renamed false e = unfold ren_p in rw (same_vel g e p, same_vel h (sym side ∙ e) q, P.within g e, P.within h (sym side ∙ e)) refl

        go : (e : Bool) → E g ≡ e → keep (pair_in (flag bs)) (cond (eqb (at L g) (at L h)) [] (pair ∷ []))
            ≡ cond e (map (ren_p (shift bs)) (cond (eqb (at L' g) (at L' h)) [] (record { one = at L' g; two = at L' h; vel1 = get_or vel' g nan; vel2 = get_or vel' h nan; bridged = b } ∷ []))) []
        go true e =
            let t : eqb (at L g) (at L h) ≡ eqb (at L' g) (at L' h) = rw (P.within g e, P.within h (sym side ∙ e)) (eqb_renamed (shift bs) (shift_inj bs) (at L' g) (at L' h)) in
            into (eqb (at L g) (at L h)) e ∙ (rw t (renamed (eqb (at L' g) (at L' h)) e))
        go false e = out (eqb (at L g) (at L h)) e

    gate_part : (g : ℕ) → keep (pair_in (flag bs)) (pairs_at s L vel g) ≡ map (ren_p (shift bs)) (pairs_at s L' vel' g)
    unfolding pairs_at keep
    gate_part g = go (eqb (at L g) 0) refl
      where
        dirs : List Direction
        dirs = Left ∷ Right ∷ Top ∷ Bottom ∷ []

        seen : (labels : List ℕ) → List Float → Direction → List Pair
        seen labels v d = pair_to labels v g (bridges s labels d g) (sees s labels d g)

        empty : at L' g ≡ 0 → [] ≡ map (ren_p (shift bs)) (cond (eqb (at L' g) 0) [] (each (seen L' vel') dirs))
        empty h = rw h refl

        in_e : (e : Bool) → E g ≡ e → 0 < at L g → keep (pair_in (flag bs)) (each (seen L vel) dirs) ≡ map (ren_p (shift bs)) (cond (eqb (at L' g) 0) [] (each (seen L' vel') dirs))
        in_e true e p =
            keep_each (pair_in (flag bs)) (seen L vel) dirs
            ∙ each_same (λ d. keep (pair_in (flag bs)) (seen L vel d)) (λ d. map (ren_p (shift bs)) (seen L' vel' d)) dirs (λ d. pair_part d g (bridges s L d g) p (sees s L d g) refl ∙ (rw (e, ← (sees_part d g e p), ← (bridges_part d g e p)) refl))
            ∙ sym (map_each (ren_p (shift bs)) (seen L' vel') dirs)
            ∙ (let q : eqb (at L' g) 0 ≡ false = ne_eqb (at L' g) 0 (λ w. positive (suc_part g e p) w) in rw q refl)
          where
            positive : {x : ℕ} → 0 < x → x ≡ 0 → ⊥
            positive h w = omega arith
        in_e false e p =
            keep_each (pair_in (flag bs)) (seen L vel) dirs
            ∙ each_same (λ d. keep (pair_in (flag bs)) (seen L vel d)) (λ d. []) dirs (λ d. pair_part d g (bridges s L d g) p (sees s L d g) refl ∙ (rw e refl))
            ∙ (unfold each in empty (P.outside g e))

        go : (b : Bool) → eqb (at L g) 0 ≡ b → keep (pair_in (flag bs)) (cond b [] (each (seen L vel) dirs)) ≡ map (ren_p (shift bs)) (cond (eqb (at L' g) 0) [] (each (seen L' vel') dirs))
        go true e = empty (zero_part g (eqb-true (at L g) 0 e))
        go false e = in_e (E g) refl (positive (eqb-false (at L g) 0 e))
          where
            positive : (at L g ≡ 0 → ⊥) → 0 < at L g
            positive h = omega arith

    -- the echo's pairs are the sweep's, in order
    pub pairs_part : keep (pair_in (flag bs)) (pairs s L vel) ≡ map (ren_p (shift bs)) (pairs s L' vel')
    unfolding pairs
    pairs_part =
        keep_each (pair_in (flag bs)) (pairs_at s L vel) (upto (length L) 0)
        ∙ each_same _ _ (upto (length L) 0) gate_part
        ∙ sym (map_each (ren_p (shift bs)) (pairs_at s L' vel') (upto (length L) 0))
        ∙ ap (λ (n : ℕ). map (ren_p (shift bs)) (each (pairs_at s L' vel') (upto n 0))) (sym P.size)

-- What holds of the labels of a gate and one that it sees holds of all pairs
pub pairs_all : (R : ℕ → ℕ → Type 0) (s : Shape) (labels : List ℕ) (vel : List Float) → ((d : Direction) (g h : ℕ) → 0 < at labels g → 0 < at labels h → sees s labels d g ≡ some h → R (at labels g) (at labels h))
    → All (λ x. R x.one x.two) (pairs s labels vel)
unfolding pairs pairs_at
pairs_all R s labels vel H = all_each Good (pairs_at s labels vel) (upto (length labels) 0) gate
  where
    Good : Pair → Type 0
    Good x = R x.one x.two

    one : (d : Direction) (g : ℕ) (b : Bool) → 0 < at labels g → (o : Option ℕ) → sees s labels d g ≡ o → All Good (pair_to labels vel g b o)
    one d g b q none w = unfold pair_to in tt
    one d g b q (some h) w = unfold pair_to in (go (eqb (at labels g) (at labels h)))
      where
        r : 0 < at labels h
        r = unfold sees in look_labelled s d labels (suc (skip s d)) g h w

        go : (c : Bool) → All Good (cond c [] (record { one = at labels g; two = at labels h; vel1 = get_or vel g nan; vel2 = get_or vel h nan; bridged = b } ∷ []))
        go true = tt
        go false = (H d g h q r w, tt)

    gate : (g : ℕ) → All Good (pairs_at s labels vel g)
    gate g = go (eqb (at labels g) 0) refl
      where
        positive : (at labels g ≡ 0 → ⊥) → 0 < at labels g
        positive h = omega arith

        go : (b : Bool) → eqb (at labels g) 0 ≡ b → All Good (cond b [] (each (λ d. pair_to labels vel g (bridges s labels d g) (sees s labels d g)) (Left ∷ Right ∷ Top ∷ Bottom ∷ [])))
        go true e = tt
        go false e = all_each Good (λ d. pair_to labels vel g (bridges s labels d g) (sees s labels d g)) (Left ∷ Right ∷ Top ∷ Bottom ∷ []) (λ d. one d g (bridges s labels d g) (positive (eqb-false (at labels g) 0 e)) (sees s labels d g) refl)

-- What a test says of a gate's label, where it is the gate's side, it says of both labels of a pair
pub pairs_sides : (E : ℕ → Bool) (s : Shape) (labels : List ℕ) (vel : List Float) (p : ℕ → Bool) → ApartIn E s labels → ((g : ℕ) → 0 < at labels g → p (at labels g) ≡ E g)
    → All (λ x. p x.one ≡ p x.two) (pairs s labels vel)
pairs_sides E s labels vel p A side = pairs_all (λ a b. p a ≡ p b) s labels vel (λ d g h q r w. side g q ∙ A d g h q w ∙ sym (side h r))
