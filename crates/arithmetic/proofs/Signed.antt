-- Floats of either sign as differences p - n over a common denominator c: their order, and each operation as one rounding. Rounding keeps the order, whatever the
-- signs. Assumes nothing.
use Rattle.std.proofs.Common.{◌≡◌, ℕ, zero, suc, ◌+◌, ◌-◌, ◌*◌, ◌^◌, ◌<◌, ◌≤◌, Bool, true, false, cond, not, ◌&&◌, ◌||◌, T, eqb, ltb, sym, refl, ap, ◌∙◌, subst, true≢false, mul-le-mul_right, zero-lt-suc, mul_comm, lt_of_mul-lt-mul_right, mul-lt-mul_of_pos_right, mul-pos, zero-mul, le_of_mul-le-mul_right, arith, le→leb, eqb→eq, ltb→lt, lt→ltb, leb→le, nltb→le}
use mathlib.Core.Bool.{beq}
use native.Mathlib.Nat.{mul-sub}
use lib.Dec.{not_T}
use lib.Ieee.{Float, nan, inf, fin, Format, prec, emax, low, up, down, odd, units, round, neg, sum, add, sub, mul, div, below, level, le, unlike}
use lib.Ieee.Bits.{cond_no}
use lib.Ieee.Fits.{down_pos, and_l, and_r}
use lib.Ieee.Exact.{HasValue}
use lib.Ieee.Back.{round_whole}
use lib.Ieee.Order.{round_mono, drop}
use lib.Ieee.Nearest.{closest}
use lib.Ieee.Positive.{first_pos}
use lib.Ieee.Scale.{round_same}
use Rattle.arithmetic.proofs.RangeLaws.{le-leb, eqb_sym}
use Rattle.arithmetic.proofs.RoundLaws.{neg_round, round_unit}

-- ---- ±a is plus s a - minus s a
abbrev pub plus : Bool → ℕ → ℕ
plus false a = a
plus true a = 0

abbrev pub minus : Bool → ℕ → ℕ
minus false a = 0
minus true a = a

plus_scale : (s : Bool) (x k y l : ℕ) → x * k ≡ y * l → plus s x * k ≡ plus s y * l
plus_scale false x k y l e = e
plus_scale true x k y l e = zero-mul k ∙ sym (zero-mul l)

minus_scale : (s : Bool) (x k y l : ℕ) → x * k ≡ y * l → minus s x * k ≡ minus s y * l
minus_scale true x k y l e = e
minus_scale false x k y l e = zero-mul k ∙ sym (zero-mul l)

plus_not : (s : Bool) (a : ℕ) → plus (not s) a ≡ minus s a
plus_not true a = refl
plus_not false a = refl

minus_not : (s : Bool) (a : ℕ) → minus (not s) a ≡ plus s a
minus_not true a = refl
minus_not false a = refl

-- A / G and a / c are the same fraction, and so are B / G and b / c: their order is the same
carry : (s t : Bool) (A B a b c G : ℕ) → 0 < c → A * c ≡ a * G → B * c ≡ b * G → plus s a + minus t b ≤ plus t b + minus s a → plus s A + minus t B ≤ plus t B + minus s A
carry s t A B a b c G C e g h =
    le_of_mul-le-mul_right (lines (plus s A) (minus t B) (plus t B) (minus s A) (plus s a) (minus t b) (plus t b) (minus s a)
    (plus_scale s A c a G e) (minus_scale t B c b G g) (plus_scale t B c b G g) (minus_scale s A c a G e) h) C
  where
    lines : (x y z w x' y' z' w' : ℕ) → x * c ≡ x' * G → y * c ≡ y' * G → z * c ≡ z' * G → w * c ≡ w' * G → x' + y' ≤ z' + w' → (x + y) * c ≤ (z + w) * c
    lines x y z w x' y' z' w' p q r u h = omega (arith, mul-le-mul_right G h)

-- ---- the order of floats
or_l : (a b : Bool) → T a → T (a || b)
or_l true b t = tt
or_l false b t = absurd t

both : (A B : ℕ) → A + B ≤ 0 → T (eqb A B && eqb A 0)
both A B h =
    let a : A ≡ 0 = omega arith in
    let b : B ≡ 0 = omega arith in
    subst (λ (x : ℕ). T (eqb x B && eqb x 0)) (sym a) (subst (λ (x : ℕ). T (eqb 0 x && eqb 0 0)) (sym b) tt)

to_leq : (s t : Bool) (A B : ℕ) → plus s A + minus t B ≤ plus t B + minus s A → T (below s A t B || level s A t B)
to_leq false false A B h = subst T (sym (le-leb A B)) (le→leb A B (omega arith))
to_leq true true A B h = subst (λ (b : Bool). T (ltb B A || (b && true))) (eqb_sym B A) (subst T (sym (le-leb B A)) (le→leb B A (omega arith)))
to_leq false true A B h = both A B (omega arith)
to_leq true false zero zero h = tt
to_leq true false (suc A) B h = or_l (ltb 0 (suc A + B)) (eqb (suc A) B && eqb (suc A) 0) (lt→ltb 0 (suc A + B) (omega arith))
to_leq true false zero (suc B) h = or_l (ltb 0 (zero + suc B)) (eqb zero (suc B) && eqb zero 0) (lt→ltb 0 (zero + suc B) (omega arith))

from_leq : (s t : Bool) (A B : ℕ) → T (below s A t B || level s A t B) → plus s A + minus t B ≤ plus t B + minus s A
from_leq false false A B h = let l : A ≤ B = leb→le A B (subst T (le-leb A B) h) in omega arith
from_leq true true A B h = let l : B ≤ A = leb→le B A (subst T (le-leb B A) (subst (λ (b : Bool). T (ltb B A || (b && true))) (eqb_sym A B) h)) in omega arith
from_leq false true A B h =
    let a : A ≡ 0 = eqb→eq A 0 (and_r (eqb A B) (eqb A 0) h) in
    let b : A ≡ B = eqb→eq A B (and_l (eqb A B) (eqb A 0) h) in
    omega arith
from_leq true false A B h = omega arith

pub le_values : (x y : Float) (s t : Bool) (a b c : ℕ) → 0 < c → HasValue x s a c → HasValue y t b c → plus s a + minus t b ≤ plus t b + minus s a → T (le x y)
unfolding le
le_values nan y s t a b c C v w h = absurd v
le_values (inf u) y s t a b c C v w h = absurd v
le_values (fin u m e) nan s t a b c C v w h = absurd w
le_values (fin u m e) (inf o) s t a b c C v w h = absurd w
le_values (fin u m e) (fin o n d) s t a b c C v w h =
    to_leq u o (m * up e * down d) (n * up d * down e)
    (carry u o (m * up e * down d) (n * up d * down e) a b c (down e * down d) C
    (over (m * up e) (down d) (down e) a c v.1) (over' (n * up d) (down d) (down e) b c w.1)
    (subst (λ (z : Bool). plus z a + minus o b ≤ plus o b + minus z a) (sym v.0) (subst (λ (z : Bool). plus s a + minus z b ≤ plus z b + minus s a) (sym w.0) h)))
  where
    over : (M D E a c : ℕ) → M * c ≡ a * E → M * D * c ≡ a * (E * D)
    over M D E a c p = omega (arith, ap (λ (z : ℕ). z * D) p)

    over' : (N D E b c : ℕ) → N * c ≡ b * D → N * E * c ≡ b * (E * D)
    over' N D E b c p = omega (arith, ap (λ (z : ℕ). z * E) p)

pub values_le : (x y : Float) (s t : Bool) (a b c : ℕ) → 0 < c → HasValue x s a c → HasValue y t b c → T (le x y) → plus s a + minus t b ≤ plus t b + minus s a
unfolding le
values_le nan y s t a b c C v w h = absurd v
values_le (inf u) y s t a b c C v w h = absurd v
values_le (fin u m e) nan s t a b c C v w h = absurd w
values_le (fin u m e) (inf o) s t a b c C v w h = absurd w
values_le (fin u m e) (fin o n d) s t a b c C v w h =
    subst (λ (z : Bool). plus z a + minus t b ≤ plus t b + minus z a) v.0 (subst (λ (z : Bool). plus u a + minus z b ≤ plus z b + minus u a) w.0
    (carry u o a b (m * up e * down d) (n * up d * down e) (down e * down d) c (mul-pos (down_pos e) (down_pos d))
    (sym (over (m * up e) (down d) (down e) a c v.1)) (sym (over' (n * up d) (down d) (down e) b c w.1))
    (from_leq u o (m * up e * down d) (n * up d * down e) h)))
  where
    over : (M D E a c : ℕ) → M * c ≡ a * E → M * D * c ≡ a * (E * D)
    over M D E a c p = omega (arith, ap (λ (z : ℕ). z * D) p)

    over' : (N D E b c : ℕ) → N * c ≡ b * D → N * E * c ≡ b * (E * D)
    over' N D E b c p = omega (arith, ap (λ (z : ℕ). z * E) p)

-- ---- rounding keeps the order
-- what has the sign s, an infinity included
abbrev signed : Bool → Float → Bool
signed s nan = false
signed s (inf t) = beq s t
signed s (fin t m e) = beq s t

beq_refl : (s : Bool) → T (beq s s)
beq_refl true = tt
beq_refl false = tt

odd_signed : (d : ℕ) (s : Bool) (q k l : ℕ) → T (signed s (odd d s q k l))
unfolding odd
odd_signed d s zero k l = beq_refl s
odd_signed d s (suc q) k l = beq_refl s

units_signed : (f : Format) (s : Bool) (q k : ℕ) → T (signed s (units f s q k))
unfolding units
units_signed f s q k = go (ltb (q * 2 ^ k) (2 ^ (low f + suc (emax f))))
  where
    go : (b : Bool) → T (signed s (cond b (odd (suc (prec f)) s q k (low f)) (inf s)))
    go true = odd_signed (suc (prec f)) s q k (low f)
    go false = beq_refl s

round_signed : (f : Format) (s : Bool) (a c : ℕ) → T (signed s (round f s a c))
round_signed f s a c =
    let k = drop (prec f) (a * 2 ^ low f) c in
    subst (λ (z : Float). T (signed s z)) (sym (round_unit f s a c k refl)) (units_signed f s (closest (a * 2 ^ low f) (c * 2 ^ k)) k)

le_opposite : (x y : Float) → T (signed true x) → T (signed false y) → T (le x y)
unfolding le
le_opposite nan y p q = absurd p
le_opposite (inf false) y p q = absurd p
le_opposite (fin false m e) y p q = absurd p
le_opposite (inf true) nan p q = absurd q
le_opposite (inf true) (inf true) p q = absurd q
le_opposite (inf true) (inf false) p q = tt
le_opposite (inf true) (fin t n d) p q = tt
le_opposite (fin true m e) nan p q = absurd q
le_opposite (fin true m e) (inf true) p q = absurd q
le_opposite (fin true m e) (inf false) p q = tt
le_opposite (fin true m e) (fin true n d) p q = absurd q
le_opposite (fin true m e) (fin false n d) p q = to_leq true false (m * up e * down d) (n * up d * down e) (omega arith)

le_neg : (x y : Float) → T (le x y) → T (le (neg y) (neg x))
unfolding le neg
le_neg nan y h = absurd h
le_neg (inf s) nan h = absurd h
le_neg (inf true) (inf true) h = tt
le_neg (inf true) (inf false) h = tt
le_neg (inf false) (inf true) h = absurd h
le_neg (inf false) (inf false) h = tt
le_neg (inf true) (fin t n d) h = tt
le_neg (inf false) (fin t n d) h = absurd h
le_neg (fin s m e) nan h = absurd h
le_neg (fin s m e) (inf false) h = tt
le_neg (fin s m e) (inf true) h = absurd h
le_neg (fin s m e) (fin t n d) h =
    let A = m * up e * down d in
    let B = n * up d * down e in
    to_leq (not t) (not s) B A (turn s t A B (from_leq s t A B h))
  where
    turn : (s t : Bool) (A B : ℕ) → plus s A + minus t B ≤ plus t B + minus s A → plus (not t) B + minus (not s) A ≤ plus (not s) A + minus (not t) B
    turn true true A B h = omega arith
    turn true false A B h = omega arith
    turn false true A B h = omega arith
    turn false false A B h = omega arith

pub round_le : (f : Format) (s t : Bool) (a b c : ℕ) → 0 < c → plus s a + minus t b ≤ plus t b + minus s a → T (le (round f s a c) (round f t b c))
round_le f false false a b c C h = let l : a ≤ b = omega arith in round_mono f a c b c C C (mul-le-mul_right c l)
round_le f true true a b c C h =
    let l : b ≤ a = omega arith in
    subst (λ (x : Float). T (le x (round f true b c))) (neg_round f false a c) (subst (λ (x : Float). T (le (neg (round f false a c)) x)) (neg_round f false b c)
    (le_neg (round f false b c) (round f false a c) (round_mono f b c a c C C (mul-le-mul_right c l))))
round_le f true false a b c C h = le_opposite (round f true a c) (round f false b c) (round_signed f true a c) (round_signed f false b c)
round_le f false true a b c C h =
    let ea : a ≡ 0 = omega arith in
    let eb : b ≡ 0 = omega arith in
    let p : round f false a c ≡ round f false 0 1 = ap (λ (z : ℕ). round f false z c) ea ∙ round_same f false 0 c 0 1 C (zero-lt-suc 0) (none c) in
    let q : round f true b c ≡ round f true 0 1 = ap (λ (z : ℕ). round f true z c) eb ∙ round_same f true 0 c 0 1 C (zero-lt-suc 0) (none c) in
    subst (λ (x : Float). T (le x (round f true b c))) (sym p) (subst (λ (x : Float). T (le (round f false 0 1) x)) (sym q)
    (le_values (round f false 0 1) (round f true 0 1) false true 0 0 1 (zero-lt-suc 0) (round_whole f false 0 (nothing (2 ^ prec f))) (round_whole f true 0 (nothing (2 ^ prec f))) (omega arith)))
  where
    none : (c : ℕ) → 0 * 1 ≡ 0 * c
    none c = zero-mul 1 ∙ sym (zero-mul c)

    nothing : (z : ℕ) → 0 ≤ z
    nothing z = omega arith

-- ---- x is (p - n) / c
pub record Is (x : Float) (c p n : ℕ) : Type 0 where
  pub sign : Bool
  pub size : ℕ
  pub has : HasValue x sign size c
  pub pair : p + minus sign size ≡ n + plus sign size

-- x is (p - n) / c, rounded
pub record Rounds (f : Format) (x : Float) (c p n : ℕ) : Type 0 where
  pub sign : Bool
  pub size : ℕ
  pub is : x ≡ round f sign size c
  pub pair : p + minus sign size ≡ n + plus sign size

order : (s t : Bool) (a b p n q m : ℕ) → p + minus s a ≡ n + plus s a → q + minus t b ≡ m + plus t b → p + m ≤ q + n → plus s a + minus t b ≤ plus t b + minus s a
order s t a b p n q m e g h = go (plus s a) (minus s a) (plus t b) (minus t b) e g
  where
    go : (x y z w : ℕ) → p + y ≡ n + x → q + w ≡ m + z → x + w ≤ z + y
    go x y z w e g = omega (arith, h)

module _ {x y : Float} {c p n q m : ℕ} (C : 0 < c) where
  pub rounds_le : {f : Format} → Rounds f x c p n → Rounds f y c q m → p + m ≤ q + n → T (le x y)
  rounds_le {f} i j h =
      subst (λ (z : Float). T (le z y)) (sym i.is) (subst (λ (z : Float). T (le (round f i.sign i.size c) z)) (sym j.is)
      (round_le f i.sign j.sign i.size j.size c C (order i.sign j.sign i.size j.size p n q m i.pair j.pair h)))

-- ---- the operations, as one rounding
ltb_same : (A B a b c G : ℕ) → 0 < c → 0 < G → A * c ≡ a * G → B * c ≡ b * G → ltb A B ≡ ltb a b
ltb_same A B a b c G C P e g =
    iff (ltb A B) (ltb a b) (λ (t : T (ltb A B)). lt→ltb a b (lt_of_mul-lt-mul_right G (there c G A B a b e g (mul-lt-mul_of_pos_right (ltb→lt A B t) C))))
    (λ (t : T (ltb a b)). lt→ltb A B (lt_of_mul-lt-mul_right c (there G c a b A B (sym e) (sym g) (mul-lt-mul_of_pos_right (ltb→lt a b t) P))))
  where
    there : (k l A B a b : ℕ) → A * k ≡ a * l → B * k ≡ b * l → A * k < B * k → a * l < b * l
    there A B a b e g h = omega arith

    iff : (a b : Bool) → (T a → T b) → (T b → T a) → a ≡ b
    iff true true f g = refl
    iff true false f g = absurd (f tt)
    iff false true f g = absurd (g tt)
    iff false false f g = refl

sum_same : (f : Format) (s t : Bool) (A B a b c G : ℕ) → 0 < c → 0 < G → A * c ≡ a * G → B * c ≡ b * G → sum f s A t B G ≡ sum f s a t b c
unfolding sum
sum_same f s t A B a b c G C P e g =
    let e1 : round f s (A + B) G ≡ round f s (a + b) c = round_same f s (A + B) G (a + b) c P C (omega (arith, e, g)) in
    let e2 : round f t (B - A) G ≡ round f t (b - a) c = round_same f t (B - A) G (b - a) c P C (less B A b a g e) in
    let e3 : (u : Bool) → round f u (A - B) G ≡ round f u (a - b) c = λ u. round_same f u (A - B) G (a - b) c P C (less A B a b e g) in
    (λ i. cond (beq s t) (e1 i) (cond (ltb_same A B a b c G C P e g i) (e2 i) (round f (s && ltb B A) (A - B) G)))
    ∙ ap (λ (z : Float). cond (beq s t) (round f s (a + b) c) (cond (ltb a b) (round f t (b - a) c) z)) (ap (λ (u : Bool). round f (s && u) (A - B) G) (ltb_same B A b a c G C P g e) ∙ e3 (s && ltb b a))
  where
    sub_mul : (x y k : ℕ) → (x - y) * k ≡ x * k - y * k
    sub_mul x y k = mul_comm (x - y) k ∙ mul-sub k x y ∙ ap (λ (z : ℕ). z - k * y) (mul_comm k x) ∙ ap (λ (z : ℕ). x * k - z) (mul_comm k y)

    less : (X Y x y : ℕ) → X * c ≡ x * G → Y * c ≡ y * G → (X - Y) * c ≡ (x - y) * G
    less X Y x y p q = sub_mul X Y c ∙ ap (λ (z : ℕ). z - Y * c) p ∙ ap (λ (z : ℕ). x * G - z) q ∙ sym (sub_mul x y G)

sum_rounds : (f : Format) (s t : Bool) (a b c : ℕ) → (u : Bool) × (g : ℕ) × (sum f s a t b c ≡ round f u g c) × (plus u g + (minus s a + minus t b) ≡ minus u g + (plus s a + plus t b))
unfolding sum
sum_rounds f false false a b c = (false, a + b, refl, omega arith)
sum_rounds f true true a b c = (true, a + b, refl, omega arith)
sum_rounds f false true a b c = go (ltb a b) (ltb→lt a b) (nltb→le a b)
  where
    go : (o : Bool) → (T o → a < b) → (T (not o) → b ≤ a)
        → (u : Bool) × (g : ℕ) × (cond o (round f true (b - a) c) (round f false (a - b) c) ≡ round f u g c) × (plus u g + (0 + b) ≡ minus u g + (a + 0))
    go true h k = (true, b - a, refl, let l : a < b = h tt in omega arith)
    go false h k = (false, a - b, refl, let l : b ≤ a = k tt in omega arith)
sum_rounds f true false a b c = go (ltb a b) (ltb b a) (ltb→lt a b) (nltb→le a b) (ltb→lt b a) (nltb→le b a)
  where
    go : (o v : Bool) → (T o → a < b) → (T (not o) → b ≤ a) → (T v → b < a) → (T (not v) → a ≤ b)
        → (u : Bool) × (g : ℕ) × (cond o (round f false (b - a) c) (round f v (a - b) c) ≡ round f u g c) × (plus u g + (a + 0) ≡ minus u g + (0 + b))
    go true v h k h' k' = (false, b - a, refl, let l : a < b = h tt in omega arith)
    go false true h k h' k' = (true, a - b, refl, let l : b < a = h' tt in omega arith)
    go false false h k h' k' = (false, a - b, refl, let l : b ≤ a = k tt in let l' : a ≤ b = k' tt in omega arith)

add_sum : (f : Format) (x y : Float) (s t : Bool) (a b c : ℕ) → 0 < c → HasValue x s a c → HasValue y t b c → add f x y ≡ sum f s a t b c
unfolding add
add_sum f nan y s t a b c C v w = absurd v
add_sum f (inf u) y s t a b c C v w = absurd v
add_sum f (fin u m e) nan s t a b c C v w = absurd w
add_sum f (fin u m e) (inf o) s t a b c C v w = absurd w
add_sum f (fin u m e) (fin o n d) s t a b c C v w =
    (λ i. sum f (v.0 i) (m * up e * down d) (w.0 i) (n * up d * down e) (down e * down d))
    ∙ sum_same f s t (m * up e * down d) (n * up d * down e) a b c (down e * down d) C (mul-pos (down_pos e) (down_pos d)) (over (m * up e) (down d) (down e) a c v.1) (over' (n * up d) (down d) (down e) b c w.1)
  where
    over : (M D E a c : ℕ) → M * c ≡ a * E → M * D * c ≡ a * (E * D)
    over M D E a c p = omega (arith, ap (λ (z : ℕ). z * D) p)

    over' : (N D E b c : ℕ) → N * c ≡ b * D → N * E * c ≡ b * (E * D)
    over' N D E b c p = omega (arith, ap (λ (z : ℕ). z * E) p)

module _ (f : Format) {x y : Float} {c p n q m : ℕ} (C : 0 < c) where
  pub add_rounds : Is x c p n → Is y c q m → Rounds f (add f x y) c (p + q) (n + m)
  add_rounds i j =
      let r = sum_rounds f i.sign j.sign i.size j.size c in
      record {
        sign = r.0;
        size = r.1;
        is = add_sum f x y i.sign j.sign i.size j.size c C i.has j.has ∙ r.2;
        pair = lines (plus i.sign i.size) (minus i.sign i.size) (plus j.sign j.size) (minus j.sign j.size) (plus r.0 r.1) (minus r.0 r.1) i.pair j.pair r.3;
      }
    where
      lines : (a b a' b' g h : ℕ) → p + b ≡ n + a → q + b' ≡ m + a' → g + (b + b') ≡ h + (a + a') → p + q + h ≡ n + m + g
      lines a b a' b' g h e e' k = omega arith

pub neg_has : (x : Float) (s : Bool) (a c : ℕ) → HasValue x s a c → HasValue (neg x) (not s) a c
unfolding neg
neg_has nan s a c v = v
neg_has (inf t) s a c v = v
neg_has (fin t m e) s a c v = (ap not v.0, v.1)

pub neg_is : {x : Float} {c p n : ℕ} → Is x c p n → Is (neg x) c n p
neg_is {x} {c} {p} {n} i = record {
  sign = not i.sign;
  size = i.size;
  has = neg_has x i.sign i.size c i.has;
  pair = ap (λ (z : ℕ). n + z) (minus_not i.sign i.size) ∙ sym i.pair ∙ ap (λ (z : ℕ). p + z) (sym (plus_not i.sign i.size));
}

pub sub_rounds : (f : Format) {x y : Float} {c p n q m : ℕ} → 0 < c → Is x c p n → Is y c q m → Rounds f (sub f x y) c (p + m) (n + q)
unfolding sub
sub_rounds f C i j = add_rounds f C i (neg_is j)

pub mul_values : (f : Format) (x y : Float) (s : Bool) (a c b d : ℕ) → 0 < c → 0 < d → HasValue x s a c → HasValue y false b d → mul f x y ≡ round f s (a * b) (c * d)
unfolding mul
mul_values f nan y s a c b d C D v w = absurd v
mul_values f (inf u) y s a c b d C D v w = absurd v
mul_values f (fin u m e) nan s a c b d C D v w = absurd w
mul_values f (fin u m e) (inf o) s a c b d C D v w = absurd w
mul_values f (fin u m e) (fin true n g) s a c b d C D v w = absurd (true≢false w.0)
mul_values f (fin u m e) (fin false n g) s a c b d C D v w =
    ap (λ (z : Bool). round f z (m * up e * (n * up g)) (down e * down g)) (alike u ∙ v.0)
    ∙ round_same f s (m * up e * (n * up g)) (down e * down g) (a * b) (c * d) (mul-pos (down_pos e) (down_pos g)) (mul-pos C D) (times (m * up e) (n * up g) (down e) (down g) v.1 w.1)
  where
    alike : (u : Bool) → unlike u false ≡ u
    alike true = refl
    alike false = refl

    times : (M N E G : ℕ) → M * c ≡ a * E → N * d ≡ b * G → M * N * (c * d) ≡ a * b * (E * G)
    times M N E G p q = omega (arith, ap (λ (z : ℕ). z * (N * d)) p, ap (λ (z : ℕ). a * E * z) q)

pub div_values : (f : Format) (x y : Float) (s : Bool) (a c b d : ℕ) → 0 < c → 0 < d → 0 < b → HasValue x s a c → HasValue y false b d → div f x y ≡ round f s (a * d) (c * b)
unfolding div
div_values f nan y s a c b d C D B v w = absurd v
div_values f (inf u) y s a c b d C D B v w = absurd v
div_values f (fin u m e) nan s a c b d C D B v w = absurd w
div_values f (fin u m e) (inf o) s a c b d C D B v w = absurd w
div_values f (fin u m e) (fin true n g) s a c b d C D B v w = absurd (true≢false w.0)
div_values f (fin u m e) (fin false n g) s a c b d C D B v w =
    let N+ : 0 < n * up g = first_pos (n * up g) d (subst (λ (z : ℕ). 0 < z) (sym w.1) (mul-pos B (down_pos g))) in
    let n+ : 0 < n = first_pos n (up g) N+ in
    cond_no (eqb n 0) _ _ (not_T (eqb n 0) (λ (t : T (eqb n 0)). not_zero n n+ (eqb→eq n 0 t)))
    ∙ ap (λ (z : Bool). round f z (m * up e * down g) (n * up g * down e)) (alike u ∙ v.0)
    ∙ round_same f s (m * up e * down g) (n * up g * down e) (a * d) (c * b) (mul-pos N+ (down_pos e)) (mul-pos C B) (times (m * up e) (n * up g) (down e) (down g) v.1 w.1)
  where
    not_zero : (n : ℕ) → 0 < n → n ≡ 0 → ⊥
    not_zero n h e = omega arith

    alike : (u : Bool) → unlike u false ≡ u
    alike true = refl
    alike false = refl

    times : (M N E G : ℕ) → M * c ≡ a * E → N * d ≡ b * G → M * G * (c * b) ≡ a * d * (N * E)
    times M N E G p q = omega (arith, ap (λ (z : ℕ). z * (b * G)) p, ap (λ (z : ℕ). a * E * z) q)
