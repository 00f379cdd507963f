-- The order of floats by tests that are met: a value below u, and u not above w, is below w. Assumes nothing.
use Rattle.std.proofs.Common.{◌≡◌, Bool, true, false, T, refl}
use Rattle.std.proofs.lemmas.Float.{lt_irrefl, lt_of_lt_of_le, T_from_true}
use lib.Ieee.{Float, lt, le}

-- a test that is met
pub of_T : (b : Bool) → T b → b ≡ true
of_T true t = refl
of_T false t = absurd t

pub lt_le : (v u w : Float) → lt v u ≡ true → le u w ≡ true → lt v w ≡ true
lt_le v u w p q = of_T (lt v w) (lt_of_lt_of_le v u w (T_from_true (lt v u) p) (T_from_true (le u w) q))

pub lt_not_le : (v u : Float) → lt v u ≡ true → le u v ≡ true → ⊥
lt_not_le v u p q = lt_irrefl v (lt_of_lt_of_le v u v (T_from_true (lt v u) p) (T_from_true (le u v) q))
