-- The least and the greatest over the ranges of two lists are those of both lists together, where all velocities are in range, hence finite. Assumes nothing.
use Rattle.std.proofs.Common.{◌≡◌, ℕ, ◌+◌, ◌*◌, ◌<◌, ◌≤◌, Bool, true, false, cond, T, ltb, List, [], ◌∷◌, ◌++◌, sym, refl, ap, ◌∙◌, append-nil, mul-le-mul_right, lt_of_mul-lt-mul_right, mul-lt-mul_of_pos_right, le_of_mul-le-mul_right, arith, ltb-false, ltb-true, le-ltb, lt-ltb}
use lib.Ieee.{Float, nan, inf, fin, up, down, below, lt, le}
use lib.Ieee.Fits.{down_pos, and_l, and_r}
use Rattle.lists.specs.Seq.{all}
use Rattle.arithmetic.specs.Intervals.{velocity_in_range, lesser, greater, least, greatest, both, range, over_both}
use Rattle.arithmetic.proofs.Signed.{plus, minus}
use Rattle.arithmetic.proofs.Plans.{cond_fair, range_fair}

-- ---- the order of two fractions with signs as one test of two numbers
same : (x y z w : ℕ) → x ≡ z → y ≡ w → ltb x y ≡ ltb z w
same x y z w p q = λ i. ltb (p i) (q i)

below_is : (s t : Bool) (a b k l : ℕ) → below s (a * k) t (b * l) ≡ ltb (plus s a * k + minus t b * l) (plus t b * l + minus s a * k)
below_is false false a b k l = same (a * k) (b * l) (a * k + 0 * l) (b * l + 0 * k) (omega arith) (omega arith)
below_is false true a b k l = sym (le-ltb (a * k + b * l) (0 * l + 0 * k) (omega arith))
below_is true false a b k l = same 0 (a * k + b * l) (0 * k + 0 * l) (b * l + a * k) (omega arith) (omega arith)
below_is true true a b k l = same (b * l) (a * k) (0 * k + b * l) (0 * l + a * k) (omega arith) (omega arith)

-- of (p - n) / f, (q - m) / g and (r - o) / h: where the first against the second and the second against the third have one answer, so has the first against the third
over_middle : (p n f q m g r o h : ℕ) (b : Bool) → 0 < f → 0 < g → 0 < h → ltb (p * g + m * f) (q * f + n * g) ≡ b → ltb (q * h + o * g) (r * g + m * h) ≡ b → ltb (p * h + o * f) (r * f + n * h) ≡ b
over_middle p n f q m g r o h true F G H e d =
    let x : (p * g + m * f) * h < (q * f + n * g) * h = mul-lt-mul_of_pos_right (ltb-true (p * g + m * f) (q * f + n * g) e) H in
    let y : (q * h + o * g) * f < (r * g + m * h) * f = mul-lt-mul_of_pos_right (ltb-true (q * h + o * g) (r * g + m * h) d) F in
    let z : (p * h + o * f) * g < (r * f + n * h) * g = omega arith in
    lt-ltb (p * h + o * f) (r * f + n * h) (lt_of_mul-lt-mul_right g z)
over_middle p n f q m g r o h false F G H e d =
    let x : (q * f + n * g) * h ≤ (p * g + m * f) * h = mul-le-mul_right h (ltb-false (p * g + m * f) (q * f + n * g) e) in
    let y : (r * g + m * h) * f ≤ (q * h + o * g) * f = mul-le-mul_right f (ltb-false (q * h + o * g) (r * g + m * h) d) in
    let z : (r * f + n * h) * g ≤ (p * h + o * f) * g = omega arith in
    le-ltb (p * h + o * f) (r * f + n * h) (le_of_mul-le-mul_right z G)

across : (s t u : Bool) (a f b g c h : ℕ) (x : Bool) → 0 < f → 0 < g → 0 < h → below s (a * g) t (b * f) ≡ x → below t (b * h) u (c * g) ≡ x → below s (a * h) u (c * f) ≡ x
across s t u a f b g c h x F G H p q =
    below_is s u a c h f
    ∙ over_middle (plus s a) (minus s a) f (plus t b) (minus t b) g (plus u c) (minus u c) h x F G H (sym (below_is s t a b g f) ∙ p) (sym (below_is t u b c h g) ∙ q)

-- a velocity in range is finite
abbrev Finite : Float → Type 0
Finite nan = ⊥
Finite (inf s) = ⊥
Finite (fin s m e) = Unit {0}

finite : (x : Float) → T (velocity_in_range x) → Finite x
unfolding velocity_in_range le
finite nan h = h
finite (inf true) h = h
finite (inf false) h = h
finite (fin s m e) h = tt

-- the same of velocities in range, for a test r
abbrev Through : (Float → Float → Bool) → Type 0
Through r = (x y z : Float) → T (velocity_in_range x) → T (velocity_in_range y) → T (velocity_in_range z) → (b : Bool) → r x y ≡ b → r y z ≡ b → r x z ≡ b

through : Through lt
unfolding lt
through x y z h k l = go x y z (finite x h) (finite y k) (finite z l)
  where
    go : (x y z : Float) → Finite x → Finite y → Finite z → (b : Bool) → lt x y ≡ b → lt y z ≡ b → lt x z ≡ b
    go nan y z h k l = absurd h
    go (inf s) y z h k l = absurd h
    go (fin s m e) nan z h k l = absurd k
    go (fin s m e) (inf t) z h k l = absurd k
    go (fin s m e) (fin t n d) nan h k l = absurd l
    go (fin s m e) (fin t n d) (inf u) h k l = absurd l
    go (fin s m e) (fin t n d) (fin u o c) h k l = λ b. across s t u (m * up e) (down e) (n * up d) (down d) (o * up c) (down c) b (down_pos e) (down_pos d) (down_pos c)

-- ---- a fold that keeps the first of the least by r: it may start anew at any element, and the two results are then compared
module _ (r : Float → Float → Bool) (middle : Through r) (f : Float → List Float → Float) (none : (x : Float) → f x [] ≡ x) (one : (x v : Float) (l : List Float) → f x (v ∷ l) ≡ f (cond (r v x) v x) l) where
  grouped : (y c d : Float) → T (velocity_in_range y) → T (velocity_in_range c) → T (velocity_in_range d) → cond (r d (cond (r c y) c y)) d (cond (r c y) c y) ≡ cond (r (cond (r d c) d c) y) (cond (r d c) d c) y
  grouped y c d hy hc hd = go (r c y) (r d c) refl refl
    where
      go : (p q : Bool) → r c y ≡ p → r d c ≡ q → cond (r d (cond p c y)) d (cond p c y) ≡ cond (r (cond q d c) y) (cond q d c) y
      go true true e g = ap (λ (b : Bool). cond b d c) g ∙ sym (ap (λ (b : Bool). cond b d y) (middle d c y hd hc hy true g e))
      go true false e g = ap (λ (b : Bool). cond b d c) g ∙ sym (ap (λ (b : Bool). cond b c y) e)
      go false true e g = refl
      go false false e g = ap (λ (b : Bool). cond b d y) (middle d c y hd hc hy false g e) ∙ sym (ap (λ (b : Bool). cond b c y) e)

  from : (y c : Float) (l : List Float) → T (velocity_in_range y) → T (velocity_in_range c) → T (all velocity_in_range l) → f (cond (r c y) c y) l ≡ cond (r (f c l) y) (f c l) y
  unfolding all
  from y c [] hy hc h = none (cond (r c y) c y) ∙ sym (ap (λ (z : Float). cond (r z y) z y) (none c))
  from y c (d ∷ l) hy hc h =
      let hd = and_l (velocity_in_range d) (all velocity_in_range l) h in
      one (cond (r c y) c y) d l
      ∙ ap (λ (z : Float). f z l) (grouped y c d hy hc hd)
      ∙ from y (cond (r d c) d c) l hy (cond_fair (r d c) d c hd hc) (and_r (velocity_in_range d) (all velocity_in_range l) h)
      ∙ sym (ap (λ (z : Float). cond (r z y) z y) (one c d l))

  after : (x : Float) (l m : List Float) → f x (l ++ m) ≡ f (f x l) m
  after x [] m = sym (ap (λ (z : Float). f z m) (none x))
  after x (v ∷ l) m = one x v (l ++ m) ∙ after (cond (r v x) v x) l m ∙ sym (ap (λ (z : Float). f z m) (one x v l))

  joined : (x c : Float) (l m : List Float) → T (velocity_in_range (f x l)) → T (velocity_in_range c) → T (all velocity_in_range m) → cond (r (f c m) (f x l)) (f c m) (f x l) ≡ f x (l ++ (c ∷ m))
  joined x c l m hx hc h = sym (after x l (c ∷ m) ∙ one (f x l) c m ∙ from (f x l) c m hx hc h)

-- ---- the least, the greatest and the range
least_both : (x c : Float) (l m : List Float) → T (velocity_in_range (least x l)) → T (velocity_in_range c) → T (all velocity_in_range m) → lesser (least c m) (least x l) ≡ least x (l ++ (c ∷ m))
unfolding least lesser
least_both = joined lt through least (λ x. refl) (λ x v l. refl)

greatest_both : (x c : Float) (l m : List Float) → T (velocity_in_range (greatest x l)) → T (velocity_in_range c) → T (all velocity_in_range m) → greater (greatest x l) (greatest c m) ≡ greatest x (l ++ (c ∷ m))
unfolding greatest greater
greatest_both = joined (λ x y. lt y x) (λ x y z h k l b p q. through z y x l k h b q p) greatest (λ x. refl) (λ x v l. refl)

pub range_of_both : (a b : List Float) → T (all velocity_in_range a) → T (all velocity_in_range b) → over_both (range a) (range b) ≡ range (a ++ b)
unfolding range over_both all
range_of_both [] b h k = refl
range_of_both (x ∷ a) [] h k = ap range (sym (append-nil (x ∷ a)))
range_of_both (x ∷ a) (c ∷ b) h k =
    let f = range_fair (x ∷ a) h in
    let hc = and_l (velocity_in_range c) (all velocity_in_range b) k in
    let hb = and_r (velocity_in_range c) (all velocity_in_range b) k in
    λ i. both (least_both x c a b f.0 hc hb i) (greatest_both x c a b f.1 hc hb i)
