-- std's rounding of an f64 to an f32 is `narrowed`, which is infinite from 2 ^ 128 on; and floats that are no NaN. Assumes nothing.
use Rattle.std.proofs.Common.{◌≡◌, ℕ, ◌*◌, ◌^◌, ◌≤◌, Bool, true, false, not, T, leb, pos, refl, sym, ap, ◌∙◌, subst, le_trans, le_of_eq, mul-one, lit<, leb→le}
use lib.Ieee.{Float, nan, inf, fin, binary32, up, down, round, lt, eq, le, is_nan}
use lib.Ieee.Exact.{HasValue}
use lib.Ieee.Fits.{down_pos}
use lib.Ieee.Order.{round_mono}
use lib.Ieee.Positive.{above}
use Rattle.std.specs.Float.{round_to_format}
use Rattle.arithmetic.specs.Rounding.{narrowed}
use Rattle.arithmetic.proofs.RangeLaws.{le-leb, T_of}

pub narrowed_is : (x : Float) → round_to_format binary32 x ≡ narrowed x
unfolding round_to_format narrowed
narrowed_is nan = refl
narrowed_is (inf s) = refl
narrowed_is (fin s m e) = refl

-- a float that has a value is no NaN
pub no_nan : (x : Float) (s : Bool) (a c : ℕ) → HasValue x s a c → T (not (is_nan x))
unfolding is_nan
no_nan nan s a c v = absurd v
no_nan (inf t) s a c v = tt
no_nan (fin t m e) s a c v = tt

-- ---- from 2 ^ 128 on
abbrev pub top32 : Float
top32 = fin false 1 (pos 128)

round_top : round binary32 false (2 ^ 128) 1 ≡ inf false
unfolding round
round_top = refl

over_inf : (y : Float) → T (le (inf false) y) → y ≡ inf false
unfolding le lt eq
over_inf nan t = absurd t
over_inf (inf true) t = absurd t
over_inf (inf false) t = refl
over_inf (fin s m e) t = absurd t

-- a float that is at least 2 ^ 128 is narrowed to infinity
pub too_large : (x : Float) → T (above x) → le top32 x ≡ true → narrowed x ≡ inf false
unfolding narrowed le lt eq
too_large nan p h = absurd p
too_large (inf true) p h = absurd p
too_large (inf false) p h = refl
too_large (fin true m e) p h = absurd p
too_large (fin false m e) p h =
    let same = le-leb (2 ^ 128 * down e) (m * up e * 1) ∙ ap (λ (z : ℕ). leb (2 ^ 128 * down e) z) (mul-one (m * up e)) in
    let big : 2 ^ 128 * down e ≤ m * up e = leb→le (2 ^ 128 * down e) (m * up e) (T_of (sym same ∙ h)) in
    over_inf (round binary32 false (m * up e) (down e))
    (subst (λ (z : Float). T (le z (round binary32 false (m * up e) (down e)))) round_top
    (round_mono binary32 (2 ^ 128) 1 (m * up e) (down e) (lit< tt) (down_pos e) (le_trans big (le_of_eq (sym (mul-one (m * up e)))))))
