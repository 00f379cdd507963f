-- Ways from gate to neighbouring gate within one interval, and the bands of any gates. Assumes nothing.
use Rattle.std.proofs.Common.{◌≡◌, ℕ, zero, suc, ◌+◌, ◌-◌, ◌%◌, ◌<◌, ◌≤◌, Bool, true, false, cond, not, ◌&&◌, T, eqb, leb, ◌⊎◌, List, [], ◌∷◌, ◌++◌, length, get_or, sym, refl, ap, ◌∙◌, subst, inl, inr, ⊎_elim, arith, eq-eqb, ne_eqb, eqb-true, leb-true}
use lib.Ieee.{Float, nan, lt, le}
use lib.ListN.{get_or-eq_default}
use Rattle.arithmetic.specs.Inside.Asked.{Rising}
use Rattle.lists.specs.Seq.{upto, tabulate, each}
use Rattle.lists.proofs.SeqLaws.{tab_at, tab_length}
use Rattle.lists.proofs.SegLaws.{eq_or_ne, lt_or_le}
use Rattle.labels.specs.Label.{Neighbours}
use Rattle.labels.specs.Regions.{within}
use Rattle.labels.specs.Inside.Bands.{window, Band, Bands, above_in, before_in, links_in, later_in}
use Rattle.std.proofs.lemmas.Bool.{and_parts, false_from_ne_true}
use Rattle.std.proofs.lemmas.Float.{le_right, le_trans, lt_of_not-le, T_from_true, T_from_false}
use Rattle.std.proofs.lemmas.List.{get_or_default}
use Rattle.labels.proofs.FloatOrder.{lt_not_le, of_T}
use Rattle.labels.proofs.OwnLaws.{within_from, within_to, within_is, within_low, within_high}
use Rattle.labels.proofs.BandLaws.{climbs}
use Rattle.labels.proofs.JointLaws.{above_one, before_one}
use Rattle.labels.proofs.Connected.{In, here, there, Joined, stay, along, back, upto_in}

-- gate a is the neighbour of the later gate b: on the ray before, or before it on its own ray
abbrev pub Beside : ℕ → ℕ → ℕ → Type 0
Beside gates a b = ((gates ≤ b) × (a ≡ b - gates)) ⊎ ((b % gates ≡ 0 → ⊥) × (a ≡ b - 1))

-- from gate to neighbouring gate, either way, all in a set of gates
pub data Way (gates : ℕ) (P : ℕ → Type 0) : ℕ → ℕ → Type 0 where
  rest : (g : ℕ) → P g → Way gates P g g
  later : {a b c : ℕ} → P a → Beside gates a b → Way gates P b c → Way gates P a c
  earlier : {a b c : ℕ} → P a → Beside gates b a → Way gates P b c → Way gates P a c

-- gate g lies in interval j
abbrev pub Lies : List Float → List ℕ → List Float → ℕ → ℕ → Type 0
Lies vel mask limits j g = within (window limits j) (get_or vel g nan) (get_or mask g 0) ≡ true

-- ---- the bands of any gates
-- the band among the first k intervals
seek : List Float → Float → ℕ → ℕ → ℕ
seek limits x m zero = 0
seek limits x m (suc k) = cond (within (window limits k) x m) (suc k) (seek limits x m k)

-- a velocity lies in one interval only
pub one_interval : (limits : List Float) → Rising limits → (x : Float) (m j k : ℕ) → j < k → suc k < length limits → within (window limits j) x m ≡ true → within (window limits k) x m ≡ true → ⊥
unfolding window
one_interval limits R x m j k h l p q = lt_not_le x (get_or limits k nan) (climbs limits R x (suc j) k h (omega arith) (within_to (window limits j) x m p)) (within_from (window limits k) x m q)

-- so one that holds it gives the band
pub tried : (limits : List Float) → Rising limits → (x : Float) (m last : ℕ) → 0 < last → last < length limits → within (record { lower = get_or limits (last - 1) nan; upper = get_or limits last nan }) x m ≡ true → Band limits x m last
unfolding window
tried limits R x m last s l w =
    record {
      small = λ p. l;
      is = λ j h. ⊎_elim
          (λ e. ap (λ (y : ℕ). within (window limits y) x m) e ∙ held ∙ sym (eq-eqb last (suc j) (omega arith)))
          (λ n. false_from_ne_true (within (window limits j) x m) (λ t. ⊎_elim (λ b. one_interval limits R x m j (last - 1) b (omega arith) t held) (λ b. one_interval limits R x m (last - 1) j (above j b n) h held t) (lt_or_le j (last - 1))) ∙ sym (ne_eqb last (suc j) (λ e. n (omega arith))))
          (eq_or_ne j (last - 1));
    }
  where
    held : within (window limits (last - 1)) x m ≡ true
    held =
        let k : suc (last - 1) ≡ last = omega arith in
        ap (λ (y : ℕ). within (record { lower = get_or limits (last - 1) nan; upper = get_or limits y nan }) x m) k ∙ w

    above : (j : ℕ) → last - 1 ≤ j → (j ≡ last - 1 → ⊥) → last - 1 < j
    above j b n = omega arith

-- ---- the limits up to x, and those above it, with r of the first kind
module _ (limits : List Float) (R : Rising limits) (x : Float) (m : ℕ) where
  -- a limit up to x has all before it up to x
  up_to : (i d : ℕ) → i + d < length limits → le (get_or limits (i + d) nan) x ≡ true → le (get_or limits i nan) x ≡ true
  up_to i zero h p = ap (λ (y : ℕ). le (get_or limits y nan) x) (omega arith) ∙ p
  up_to i (suc d) h p =
      let q : le (get_or limits (suc (i + d)) nan) x ≡ true = ap (λ (y : ℕ). le (get_or limits y nan) x) (omega arith) ∙ p in
      up_to i d (omega arith) (of_T (le (get_or limits (i + d) nan) x) (le_trans (get_or limits (i + d) nan) (get_or limits (suc (i + d)) nan) x (R (i + d) (omega arith)) (T_from_true (le (get_or limits (suc (i + d)) nan) x) q)))

  pub parted : (i j : ℕ) (d : Float) → i ≤ j → j < length limits → le (get_or limits j d) x ≡ true → le (get_or limits i d) x ≡ true
  parted i j d h k p =
      ap (λ (y : Float). le y x) (get_or_default limits i d nan (omega arith))
      ∙ up_to i (j - i) (omega arith) (ap (λ (y : ℕ). le (get_or limits y nan) x) (omega arith) ∙ ap (λ (y : Float). le y x) (get_or_default limits j nan d k) ∙ p)

  module _ (r : ℕ) (low : (k : ℕ) (d : Float) → 0 ≤ k → k < r → le (get_or limits k d) x ≡ true) (high : (k : ℕ) (d : Float) → r ≤ k → k < length limits → le (get_or limits k d) x ≡ false) where
    none : ((j : ℕ) → suc j < length limits → within (window limits j) x m ≡ false) → Band limits x m 0
    none o = record { small = λ p. absurd (no p); is = λ j h. o j h ∙ sym (ne_eqb 0 (suc j) (λ e. omega arith)) }
      where
        no : 0 < 0 → ⊥
        no q = omega arith

    pub all_up_to : r ≡ length limits → Band limits x m 0
    unfolding window
    all_up_to e = none (λ j h. within_high (window limits j) x m (false_from_ne_true (lt x (get_or limits (suc j) nan)) (λ t. lt_not_le x (get_or limits (suc j) nan) t (low (suc j) nan (omega arith) (omega arith)))))

    pub between : m ≡ 1 → r < length limits → Band limits x m r
    unfolding window
    between v h = ⊎_elim (λ s. tried limits R x m r s h (held s)) (λ s. ap_none (omega arith) (none (λ j k. within_low (window limits j) x m (high j nan (omega arith) (omega arith))))) (lt_or_le 0 r)
      where
        ap_none : r ≡ 0 → Band limits x m 0 → Band limits x m r
        ap_none e = subst (Band limits x m) (sym e)

        held : 0 < r → within (record { lower = get_or limits (r - 1) nan; upper = get_or limits r nan }) x m ≡ true
        held s =
            let a : le (get_or limits (r - 1) nan) x ≡ true = low (r - 1) nan (omega arith) (omega arith) in
            let z : suc (r - 1) ≡ r = omega arith in
            let b : T (le (get_or limits (r - 1) nan) (get_or limits r nan)) = subst (λ (y : ℕ). T (le (get_or limits (r - 1) nan) (get_or limits y nan))) z (R (r - 1) (omega arith)) in
            within_is (record { lower = get_or limits (r - 1) nan; upper = get_or limits r nan }) x m v a
            ∙ of_T (lt x (get_or limits r nan)) (lt_of_not-le (get_or limits r nan) x (le_right (get_or limits (r - 1) nan) (get_or limits r nan) b) (le_right (get_or limits (r - 1) nan) x (T_from_true (le (get_or limits (r - 1) nan) x) a))
            (T_from_false (le (get_or limits r nan) x) (high r nan (omega arith) h)))

module _ (limits : List Float) (R : Rising limits) (x : Float) (m : ℕ) where
  sought : (k : ℕ) → k ≤ length limits - 1 → (seek limits x m k ≤ k) × ((j : ℕ) → j < k → within (window limits j) x m ≡ eqb (seek limits x m k) (suc j))
  unfolding seek
  sought zero h = (omega arith, λ j q. absurd (no j q))
    where
      no : (j : ℕ) → j < 0 → ⊥
      no j q = omega arith
  sought (suc k) h = go (within (window limits k) x m) refl (sought k (omega arith))
    where
      less : (j : ℕ) → j < suc k → (j ≡ k → ⊥) → j < k
      less j q n = omega arith

      go : (b : Bool) → within (window limits k) x m ≡ b → (seek limits x m k ≤ k) × ((j : ℕ) → j < k → within (window limits j) x m ≡ eqb (seek limits x m k) (suc j))
          → (cond b (suc k) (seek limits x m k) ≤ suc k) × ((j : ℕ) → j < suc k → within (window limits j) x m ≡ eqb (cond b (suc k) (seek limits x m k)) (suc j))
      go true e ih = (
        omega arith,
        λ j q. ⊎_elim
            (λ s. ap (λ (y : ℕ). within (window limits y) x m) s ∙ e ∙ sym (eq-eqb (suc k) (suc j) (ap suc (sym s))))
            (λ s. false_from_ne_true (within (window limits j) x m) (λ t. one_interval limits R x m j k (less j q s) (omega arith) t e) ∙ sym (ne_eqb (suc k) (suc j) (λ t. s (omega arith))))
            (eq_or_ne j k),
      )
      go false e ih = (
        omega (arith, ih.0),
        λ j q. ⊎_elim
            (λ s. ap (λ (y : ℕ). within (window limits y) x m) s ∙ e ∙ sym (ne_eqb (seek limits x m k) (suc j) (λ t. absurd (past s t ih.0))))
            (λ s. ih.1 j (less j q s))
            (eq_or_ne j k),
      )
        where
          past : {j : ℕ} → j ≡ k → seek limits x m k ≡ suc j → seek limits x m k ≤ k → ⊥
          past s t u = omega arith

  seek_band : Band limits x m (seek limits x m (length limits - 1))
  seek_band =
      let s = sought (length limits - 1) (omega arith) in
      record { small = λ p. omega (arith, s.0); is = λ j h. s.1 j (omega arith) }

-- the bands of gates
bands : List Float → List ℕ → List Float → List ℕ
bands vel mask limits = tabulate (length mask) (λ g. seek limits (get_or vel g nan) (get_or mask g 0) (length limits - 1))

bands_are : (vel : List Float) (mask : List ℕ) (limits : List Float) → Rising limits → Bands limits vel mask (bands vel mask limits)
unfolding bands
bands_are vel mask limits R =
    let f : ℕ → ℕ = λ g. seek limits (get_or vel g nan) (get_or mask g 0) (length limits - 1) in
    record {
      long = tab_length f (length mask);
      at = λ i h. subst (Band limits (get_or vel i nan) (get_or mask i 0)) (sym (tab_at f (length mask) i 0 h)) (seek_band limits R (get_or vel i nan) (get_or mask i 0));
    }

-- there are bands
pub record Banded (vel : List Float) (mask : List ℕ) (limits : List Float) : Type 0 where
  pub iv : List ℕ
  pub are : Bands limits vel mask iv

pub banded : (vel : List Float) (mask : List ℕ) (limits : List Float) → Rising limits → Banded vel mask limits
banded vel mask limits R = record { iv = bands vel mask limits; are = bands_are vel mask limits R }

-- ---- the links within bands are neighbours of one band
no_in : {A : Type 0} {x : A} (l : List A) → In x l → l ≡ [] → ⊥
no_in l (here {x = x} {xs = xs}) e = let o : ◌≡◌ {A = ℕ} 0 1 = cc in omega arith
no_in l (there {y = y} {xs = xs} p) e = let o : ◌≡◌ {A = ℕ} 0 1 = cc in omega arith

in_append : {A : Type 0} {x : A} (l m : List A) → In x (l ++ m) → In x l ⊎ In x m
in_append [] m p = inr p
in_append (y ∷ l) m here = inl here
in_append (y ∷ l) m (there p) = ⊎_elim (λ q. inl (there q)) inr (in_append l m p)

in_left : {A : Type 0} {x : A} (l m : List A) → In x l → In x (l ++ m)
in_left l m (here {xs = xs}) = here
in_left l m (there {xs = xs} p) = there (in_left xs m p)

in_right : {A : Type 0} {x : A} (l m : List A) → In x m → In x (l ++ m)
in_right [] m p = p
in_right (y ∷ l) m p = there (in_right l m p)

in_each : {A B : Type 0} (f : A → List B) (y : B) (l : List A) → In y (each f l) → (x : A) × In y (f x)
unfolding each
in_each f y [] p = absurd (no_in [] p refl)
in_each f y (x ∷ l) p = ⊎_elim (λ q. (x, q)) (λ q. in_each f y l q) (in_append (f x) (each f l) p)

each_in : {A B : Type 0} (f : A → List B) (x : A) (y : B) (l : List A) → In x l → In y (f x) → In y (each f l)
unfolding each
each_in f x y l (here {xs = xs}) q = in_left (f x) (each f xs) q
each_in f x y l (there {y = z} {xs = xs} p) q = in_right (f z) (each f xs) (each_in f x y xs p q)

in_one : (t : Bool) (l k : Neighbours) → In l (cond t (k ∷ []) []) → (t ≡ true) × (l ≡ k)
in_one true l k here = (refl, refl)
in_one true l k (there p) = absurd (no_in [] p refl)
in_one false l k p = absurd (no_in [] p refl)

-- what a link within bands is
pub record Touching (gates : ℕ) (iv : List ℕ) (l : Neighbours) : Type 0 where
  pub beside : Beside gates l.a l.b
  pub some : get_or iv l.b 0 ≡ 0 → ⊥
  pub same : get_or iv l.a 0 ≡ get_or iv l.b 0

nonzero : (b : ℕ) → not (eqb b 0) ≡ true → b ≡ 0 → ⊥
nonzero b e z = no (sym e ∙ ap not (eq-eqb b 0 z))
  where
    no : ◌≡◌ {A = Bool} true false → ⊥
    no w = let o : ◌≡◌ {A = ℕ} 0 1 = cc in omega arith

module _ (gates : ℕ) (iv : List ℕ) where
  of_above : (g : ℕ) (l : Neighbours) → In l (above_in gates iv g) → Touching gates iv l
  unfolding above_in
  of_above g l p =
      let q = in_one (not (eqb (get_or iv g 0) 0) && leb gates g && eqb (get_or iv (g - gates) 0) (get_or iv g 0)) l (record { a = g - gates; b = g }) p in
      let t = and_parts (not (eqb (get_or iv g 0) 0) && leb gates g) (eqb (get_or iv (g - gates) 0) (get_or iv g 0)) q.0 in
      let s = and_parts (not (eqb (get_or iv g 0) 0)) (leb gates g) t.0 in
      subst (Touching gates iv) (sym q.1) (record { beside = inl (leb-true gates g s.1, refl); some = nonzero (get_or iv g 0) s.0; same = eqb-true (get_or iv (g - gates) 0) (get_or iv g 0) t.1 })

  of_before : (g : ℕ) (l : Neighbours) → In l (before_in gates iv g) → Touching gates iv l
  unfolding before_in
  of_before g l p =
      let q = in_one (not (eqb (get_or iv g 0) 0) && not (eqb (g % gates) 0) && eqb (get_or iv (g - 1) 0) (get_or iv g 0)) l (record { a = g - 1; b = g }) p in
      let t = and_parts (not (eqb (get_or iv g 0) 0) && not (eqb (g % gates) 0)) (eqb (get_or iv (g - 1) 0) (get_or iv g 0)) q.0 in
      let s = and_parts (not (eqb (get_or iv g 0) 0)) (not (eqb (g % gates) 0)) t.0 in
      subst (Touching gates iv) (sym q.1) (record { beside = inr (nonzero (g % gates) s.1, refl); some = nonzero (get_or iv g 0) s.0; same = eqb-true (get_or iv (g - 1) 0) (get_or iv g 0) t.1 })

  pub touching : (l : Neighbours) → In l (later_in gates iv 0) → Touching gates iv l
  unfolding later_in links_in
  touching l p =
      let q = in_each (links_in gates iv) l (upto (length iv - 0) 0) p in
      ⊎_elim (of_above q.0 l) (of_before q.0 l) (in_append (above_in gates iv q.0) (before_in gates iv q.0) q.1)

  -- and neighbours of one band are linked
  pub linked : (a b : ℕ) → b < length iv → Beside gates a b → (get_or iv b 0 ≡ 0 → ⊥) → get_or iv a 0 ≡ get_or iv b 0 → In (record { a = a; b = b }) (later_in gates iv 0)
  unfolding later_in links_in
  linked a b h s n e =
      let k : Neighbours = record { a = a; b = b } in
      let same : (c : ℕ) → a ≡ c → get_or iv c 0 ≡ get_or iv b 0 = λ c p. ap (λ (y : ℕ). get_or iv y 0) (sym p) ∙ e in
      let only : (c : ℕ) → a ≡ c → In k (record { a = c; b = b } ∷ []) = λ c p. subst (λ (y : ℕ). In k (record { a = y; b = b } ∷ [])) p here in
      each_in (links_in gates iv) b k (upto (length iv - 0) 0) (upto_in (length iv - 0) 0 b (omega arith) (omega arith))
      (⊎_elim
      (λ p. in_left (above_in gates iv b) (before_in gates iv b) (subst (λ (ls : List Neighbours). In k ls) (sym (above_one gates iv b n p.0 (same (b - gates) p.1))) (only (b - gates) p.1)))
      (λ p. in_right (above_in gates iv b) (before_in gates iv b) (subst (λ (ls : List Neighbours). In k ls) (sym (before_one gates iv b n p.0 (same (b - 1) p.1))) (only (b - 1) p.1)))
      s)

-- ---- in sweeps
module _ (gates : ℕ) (vel : List Float) (mask : List ℕ) (limits : List Float) (iv : List ℕ) (B : Bands limits vel mask iv) where
  pub in_sweep : (i j : ℕ) → get_or iv i 0 ≡ suc j → i < length mask
  in_sweep i j e = ⊎_elim (λ h. h) (λ h. absurd (none (get_or-eq_default iv 0 (omega (arith, B.long))))) (lt_or_le i (length mask))
    where
      none : get_or iv i 0 ≡ 0 → ⊥
      none z = omega arith

  -- a gate lies in the interval of its band, and in no other
  pub band_lies : (i j : ℕ) → get_or iv i 0 ≡ suc j → (suc j < length limits) × Lies vel mask limits j i
  band_lies i j e =
      let h : suc j < length limits = subst (λ (y : ℕ). y < length limits) e ((B.at i (in_sweep i j e)).small (omega arith)) in
      (h, (B.at i (in_sweep i j e)).is j h ∙ eq-eqb (get_or iv i 0) (suc j) e)

  pub lies_band : (i j : ℕ) → i < length mask → suc j < length limits → Lies vel mask limits j i → get_or iv i 0 ≡ suc j
  lies_band i j h l p = eqb-true (get_or iv i 0) (suc j) (sym ((B.at i h).is j l) ∙ p)

  pub joined_way : (j i h : ℕ) → Joined (later_in gates iv 0) i h → get_or iv i 0 ≡ suc j → Way gates (Lies vel mask limits j) i h
  joined_way j i h (stay g) e = rest g (band_lies g j e).1
  joined_way j i h (along l m p) e =
      let t = touching gates iv l m in
      later (band_lies l.a j e).1 t.beside (joined_way j l.b h p (sym t.same ∙ e))
  joined_way j i h (back l m p) e =
      let t = touching gates iv l m in
      earlier (band_lies l.b j e).1 t.beside (joined_way j l.a h p (t.same ∙ e))

  pub beside_joined : (a b j : ℕ) → get_or iv a 0 ≡ suc j → get_or iv b 0 ≡ suc j → Beside gates a b → Joined (later_in gates iv 0) a b
  beside_joined a b j e f s = along (record { a = a; b = b }) (linked gates iv a b (omega (arith, in_sweep b j f, B.long)) s (λ z. omega arith) (e ∙ sym f)) (stay b)
