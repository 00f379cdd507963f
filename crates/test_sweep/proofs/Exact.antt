-- A test sweep's velocities are whole multiples of 1/128 from −16 to 2,047/128, so questions 3 and 7 get a yes. Assumes nothing.
use Rattle.std.proofs.Common.{◌≡◌, ℕ, zero, suc, ◌+◌, ◌*◌, ◌^◌, ◌<◌, ◌≤◌, Bool, true, false, cond, ◌&&◌, eqb, leb, List, [], ◌∷◌, map, ℤ, pos, negsuc, ◌-ℤ◌, sym, refl, ap, ◌∙◌, subst, le_refl, lt_of_le_of_lt, mul_assoc, mul-le-mul, arith, ltb→lt, lt-ltb}
use lib.Signed.{mag}
use lib.Ieee.{Float, nan, inf, fin, binary32, up, down, unlike, round, div, of_int, le, lt, eq}
use lib.Ieee.Fits.{down_pos}
use lib.Ieee.Exact.{HasValue, round_exact}
use lib.Ieee.Scale.{round_same}
use lib.Ieee.Back.{round_whole}
use Rattle.lists.specs.Seq.{upto, all, tabulate}
use Rattle.lists.proofs.SeqLaws.{tab_at}
use Rattle.lists.proofs.AllLaws.{and_left, and_right}
use Rattle.arithmetic.specs.Intervals.{valid, velocity_in_range}
use Rattle.sweep.specs.Questions.{mask_is_bits, velocities_in_range}
use Rattle.test_sweep.specs.Generator.{state_after, is_masked, twelve_bits, velocity_of, gate_of, gate_at, velocities, mask_bytes}
use Rattle.test_sweep.specs.Theorems.{Is128th, VelocitiesExact, ThreeAndSeven}
use Rattle.test_sweep.proofs.StateLaws.{bits_few, minus_small}

-- a whole number of at most 2,048 over 128 is a value of binary32
over_128 : (s : Bool) (n : ℕ) → n ≤ 2048 → HasValue (round binary32 s n 128) s n 128
over_128 s n h =
    round_exact binary32 s n 128 n 142 (omega arith) (omega arith)
    (lt_of_le_of_lt (mul-le-mul h (le_refl (2 ^ 142))) (ltb→lt (2048 * 2 ^ 142) (2 ^ 277) tt))
    (sym (mul_assoc n (2 ^ 142) 128))

-- dividing a float that is a whole number by 128
div_128 : (x : Float) (s : Bool) (n : ℕ) → HasValue x s n 1 → div binary32 x (of_int binary32 (pos 128)) ≡ round binary32 s n 128
unfolding div of_int
div_128 nan s n v = absurd v
div_128 (inf t) s n v = absurd v
div_128 (fin t m e) s n v =
    ap (λ (b : Bool). round binary32 (unlike b false) (m * up e * 1) (128 * down e)) v.0
    ∙ ap (λ (b : Bool). round binary32 b (m * up e * 1) (128 * down e)) (like s)
    ∙ round_same binary32 s (m * up e * 1) (128 * down e) n 128 (go (down e) (down_pos e)) (omega arith) (ap (λ (x : ℕ). x * 128) v.1 ∙ on n (down e))
  where
    like : (b : Bool) → unlike b false ≡ b
    like false = refl
    like true = refl

    go : (d : ℕ) → 0 < d → 0 < 128 * d
    go d h = omega arith

    on : (n d : ℕ) → n * d * 128 ≡ n * (128 * d)
    on n d = omega arith

-- n / 128 is below 16,384: a / d is n / 128
few : (n a d : ℕ) → n ≤ 2048 → 0 < d → a * 128 ≡ n * d → a * 1 < 16384 * d
few n a d h p e = let q : n * d ≤ 2048 * d = mul-le-mul h (le_refl d) in omega (arith, q)

-- ± n / 128 lies between −16,384 and 16,384
in_range_lem : (x : Float) (s : Bool) (n : ℕ) → n ≤ 2048 → HasValue x s n 128 → velocity_in_range x ≡ true
unfolding velocity_in_range le lt eq
in_range_lem nan s n h v = absurd v
in_range_lem (inf t) s n h v = absurd v
in_range_lem (fin false m e) s n h v = rw (lt-ltb 0 (16384 * down e + m * up e * 1) (omega (arith, down_pos e)), lt-ltb (m * up e * 1) (16384 * down e) (few n (m * up e) (down e) h (down_pos e) v.1)) refl
in_range_lem (fin true m e) s n h v = rw (lt-ltb (m * up e * 1) (16384 * down e) (few n (m * up e) (down e) h (down_pos e) v.1), lt-ltb 0 (m * up e * 1 + 16384 * down e) (omega (arith, down_pos e))) refl

-- ---- the velocity of k

-- z / 128, z being −2,048 to 2,047
exact_at : (z : ℤ) → mag z ≤ 2047 → Is128th (div binary32 (of_int binary32 z) (of_int binary32 (pos 128))) z
unfolding of_int
exact_at (pos n) h = subst (λ (x : Float). HasValue x false n 128) (sym (div_128 (round binary32 false n 1) false n (round_whole binary32 false n (omega arith)))) (over_128 false n (omega arith))
exact_at (negsuc n) h = subst (λ (x : Float). HasValue x true (suc n) 128) (sym (div_128 (round binary32 true (suc n) 1) true (suc n) (round_whole binary32 true (suc n) (omega arith)))) (over_128 true (suc n) (omega arith))

-- k is twelve bits
velocity_exact : (k : ℕ) → k < 4096 → Is128th (velocity_of k) (pos k -ℤ pos 2048)
unfolding velocity_of
velocity_exact k h = exact_at (pos k -ℤ pos 2048) (minus_small k h)

velocity_in_range_lem : (k : ℕ) → k < 4096 → velocity_in_range (velocity_of k) ≡ true
velocity_in_range_lem k h = go (pos k -ℤ pos 2048) (minus_small k h) (velocity_exact k h)
  where
    go : (z : ℤ) → mag z ≤ 2047 → Is128th (velocity_of k) z → velocity_in_range (velocity_of k) ≡ true
    go (pos n) m v = in_range_lem (velocity_of k) false n (omega arith) v
    go (negsuc n) m v = in_range_lem (velocity_of k) true (suc n) (omega arith) v

pub velocities_exact : VelocitiesExact
unfolding velocities gate_at gate_of
velocities_exact n state g h =
    let k = twelve_bits (state_after (suc g) state) in
    let few = bits_few (state_after (suc g) state) in
    record { few = few; exact = subst (λ (x : Float). Is128th x (pos k -ℤ pos 2048)) (sym (tab_at (λ g. (gate_at state g).velocity) n g nan h)) (velocity_exact k few) }

-- ---- questions 3 and 7

all_made : {A : Type 0} (t : A → Bool) (f : ℕ → A) → ((g : ℕ) → t (f g) ≡ true) → (n k : ℕ) → all t (map f (upto n k)) ≡ true
unfolding all upto
all_made t f h zero k = refl
all_made t f h (suc n) k = ap (λ (b : Bool). b && all t (map f (upto n (suc k)))) (h k) ∙ all_made t f h n (suc k)

-- what all velocities pass, all valid ones pass
all_valid : (vs : List Float) (ms : List ℕ) → all velocity_in_range vs ≡ true → all velocity_in_range (valid vs ms) ≡ true
unfolding all valid
all_valid [] ms h = refl
all_valid (v ∷ vs) [] h = refl
all_valid (v ∷ vs) (m ∷ ms) h = go (eqb m 1) (and_left (velocity_in_range v) (all velocity_in_range vs) h) (all_valid vs ms (and_right (velocity_in_range v) (all velocity_in_range vs) h))
  where
    go : (b : Bool) → velocity_in_range v ≡ true → all velocity_in_range (valid vs ms) ≡ true → all velocity_in_range (cond b (v ∷ valid vs ms) (valid vs ms)) ≡ true
    go true p q = ap (λ (c : Bool). c && all velocity_in_range (valid vs ms)) p ∙ q
    go false p q = q

mask_bit : (b : Bool) → leb (cond b 0 1) 1 ≡ true
mask_bit true = refl
mask_bit false = refl

pub never_missed : ThreeAndSeven
unfolding mask_is_bits velocities_in_range velocities mask_bytes tabulate gate_at gate_of
never_missed n state = record {
  three = all_made (λ (m : ℕ). leb m 1) (λ g. (gate_at state g).valid) (λ g. mask_bit (is_masked (state_after (suc g) state))) n 0;
  seven = all_valid (velocities n state) (mask_bytes n state) (all_made velocity_in_range (λ g. (gate_at state g).velocity) (λ g. velocity_in_range_lem (twelve_bits (state_after (suc g) state)) (bits_few (state_after (suc g) state))) n 0);
}
