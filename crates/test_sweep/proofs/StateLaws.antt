-- The state after a gate, its twelve bits, and k − 2,048 as an i32. Assumes nothing.
use Rattle.std.proofs.Common.{◌≡◌, ℕ, suc, ◌+◌, ◌-◌, ◌<◌, ◌≤◌, Bool, true, false, cond, not, T, ltb, ℤ, pos, negsuc, ◌-ℤ◌, sym, refl, ap, ◌∙◌, subst, mod-lt, arith, nltb→le, w32, SFits, to_z, of_z, lt-ltb, le-leb}
use lib.Signed.{mag}
use lib.Ieee.{binary32, in_float}
use mir.ValLaws.{to_z_pos, to_z-of_z}
use Rattle.arithmetic.proofs.RangeLaws.{T_of}
use Rattle.test_sweep.specs.Generator.{next_state, state_after, twelve_bits}

-- the state one gate on
pub after_none : (state : ℕ) → state ≡ state_after 0 state
unfolding state_after
after_none state = refl

pub after_one : (state g here new : ℕ) → here ≡ state_after g state → new ≡ next_state here → new ≡ state_after (suc g) state
unfolding state_after
after_one state g here new e h = h ∙ ap next_state e

pub after_next : (state g new : ℕ) → new ≡ state_after (suc g) state → new ≡ state_after (g + 1) state
after_next state g new e = e ∙ ap (λ (j : ℕ). state_after j state) {x = suc g} {y = g + 1} (omega arith)

pub bits_few : (state : ℕ) → twelve_bits state < 4096
unfolding twelve_bits
bits_few state = mod-lt _ (omega arith)

-- ---- k − 2,048 in i32 and f32

module _ (k : ℕ) (h : k < 4096) where
  same : to_z w32 k -ℤ pos 2048 ≡ pos k -ℤ pos 2048
  same = ap (λ (z : ℤ). z -ℤ pos 2048) (to_z_pos w32 k (omega arith))

  -- it is −2,048 to 2,047
  pub minus_small : mag (pos k -ℤ pos 2048) ≤ 2047
  minus_small = go (ltb k 2048) (nltb→le k 2048)
    where
      go : (t : Bool) → (T (not t) → 2048 ≤ k) → mag (cond t (negsuc (2048 - suc k)) (pos (k - 2048))) ≤ 2047
      go true e = omega arith
      go false e = omega (arith, e tt)

  pub minus_fits : SFits w32 (to_z w32 k -ℤ pos 2048)
  minus_fits = subst (SFits w32) (sym same) (record { sfits = omega (arith, minus_small) })

  pub minus_is : to_z w32 (of_z w32 (to_z w32 k -ℤ pos 2048)) ≡ pos k -ℤ pos 2048
  minus_is = to_z-of_z w32 (to_z w32 k -ℤ pos 2048) minus_fits ∙ same

  in_float_lem : (z : ℤ) → mag z ≤ 2047 → T (in_float binary32 z)
  unfolding in_float
  in_float_lem (pos n) e = T_of (le-leb n 16777216 (omega arith))
  in_float_lem (negsuc n) e = T_of (lt-ltb n 16777216 (omega arith))

  pub minus_in : T (in_float binary32 (to_z w32 (of_z w32 (to_z w32 k -ℤ pos 2048))))
  minus_in = subst (λ (z : ℤ). T (in_float binary32 z)) (sym minus_is) (in_float_lem (pos k -ℤ pos 2048) minus_small)
