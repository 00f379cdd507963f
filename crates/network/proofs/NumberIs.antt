-- The number of a merge as a word. Assumes nothing.
use mathlib.Core.Path.{◌≡◌, refl, sym, ap, ◌∙◌, subst}
use mathlib.Core.Logic.{⊎_elim}
use mathlib.Core.Bool.{Bool, true, false, cond}
use Prim.Native.Nat.{ℕ, zero, suc, ◌-◌, ◌≤◌, ◌<◌}
use native.Mathlib.Omega.{arith}
use lib.IntN.{ℤ, pos, negsuc, nat_abs, sub_ℕ, ◌+ℤ◌, neg_ℤ}
use mir.Syntax.{w32}
use mir.Val.{SFits, to_z, of_z}
use mir.ValLaws.{to_z-of_z}
use borrow.Author.Tests.{leb-true, ltb-true, lt-ltb, le-ltb, le-leb, lt-leb}
use Rattle.std.proofs.Common.{Some, None, Ok, Err}
use Rattle.merge.specs.declared.merge.MergeRefused.{MergeRefused}
use Rattle.std.specs.Prelude as Std
use Rattle.network.specs.Inside.Settle.{refused, number_by}
use Rattle.merge.specs.Inside.Steps.{unbias}
use Rattle.merge.proofs.Bias.{lt_or_le, unbias_up, unbias_down}
use Rattle.network.specs.Network.{whole, bounded}

abbrev back : ℤ → ℤ
back z = to_z w32 (of_z w32 z)

bounded_in : (k : ℤ) → nat_abs k ≤ 1000 → bounded 1000 k ≡ true
unfolding bounded
bounded_in (pos a) h = le-leb a 1000 h
bounded_in (negsuc a) h = lt-ltb a 1000 (omega arith)

bounded_out : (k : ℤ) → 1000 < nat_abs k → bounded 1000 k ≡ false
unfolding bounded
bounded_out (pos a) h = lt-leb a 1000 h
bounded_out (negsuc a) h = le-ltb a 1000 (omega arith)

sum_fits : (k : ℤ) → nat_abs k ≤ 1000 → SFits w32 (k +ℤ pos 1000)
sum_fits (pos a) h = record { sfits = omega arith }
sum_fits (negsuc a) h =
    let e : sub_ℕ 1000 (suc a) ≡ pos (1000 - suc a) = rw (le-ltb 1000 (suc a) (omega arith)) refl in
    subst (SFits w32) (sym e) (record { sfits = omega arith })

-- the rounded number k, as the machine has it, by its size
pub too_large : (k : ℤ) → SFits w32 k → 1000 < nat_abs (back k) → number_by (whole (Some k)) ≡ refused
unfolding whole number_by
too_large k f h = rw (bounded_out k (omega (arith, ap nat_abs (to_z-of_z w32 k f)))) refl

pub sum_is : (k : ℤ) → SFits w32 k → nat_abs (back k) ≤ 1000 → number_by (whole (Some k)) ≡ Ok (nat_abs (back (back k +ℤ pos 1000)))
unfolding whole number_by
sum_is k f h =
    let small : nat_abs k ≤ 1000 = omega (arith, ap nat_abs (to_z-of_z w32 k f)) in
    rw (bounded_in k small) (ap (λ (z : ℤ). Ok (nat_abs z)) (sym (ap (λ (z : ℤ). back (z +ℤ pos 1000)) (to_z-of_z w32 k f) ∙ to_z-of_z w32 (k +ℤ pos 1000) (sum_fits k small))))

pub outside : (w : Std.Option ℤ) → w ≡ None → refused ≡ number_by (whole w)
unfolding whole number_by bounded
outside w g = sym (ap (λ (x : Std.Option ℤ). number_by (whole x)) g)

-- ---- what the word means
pub record Numbered (z : ℤ) (g : ℕ) : Type 0 where
  pub most : g ≤ 2000
  pub means : unbias g ≡ z
  pub bound : bounded 1000 z ≡ true

passed : (z : ℤ) (g : ℕ) (b : Bool) → b ≡ bounded 1000 z → Ok g ≡ cond b (Ok (nat_abs (z +ℤ pos 1000))) refused → (bounded 1000 z ≡ true) × (g ≡ nat_abs (z +ℤ pos 1000))
passed z g true t e = (sym t, cc)
passed z g false t e = absurd cc

number_of : (z : ℤ) (g : ℕ) → bounded 1000 z ≡ true → g ≡ nat_abs (z +ℤ pos 1000) → Numbered z g
unfolding bounded
number_of (pos a) g b e =
    let h : a ≤ 1000 = leb-true a 1000 b in
    record { most = omega arith; means = unbias_up g (omega arith) ∙ ap pos (omega arith); bound = le-leb a 1000 h }
number_of (negsuc a) g b e =
    let h : a < 1000 = ltb-true a 1000 b in
    let q : g ≡ 1000 - suc a = simp (le-ltb 1000 (suc a) (omega arith)) at e in
    record { most = omega arith; means = unbias_down g (omega arith) ∙ ap negsuc (omega arith); bound = lt-ltb a 1000 h }

pub number_in : (z : ℤ) (g : ℕ) → Ok g ≡ number_by z → Numbered z g
unfolding number_by
number_in z g e = let p = passed z g (bounded 1000 z) refl e in number_of z g p.0 p.1

pub number_out : (z : ℤ) (x : MergeRefused) → Err x ≡ number_by z → bounded 1000 z ≡ false
unfolding number_by
number_out z x e = go (bounded 1000 z) refl e
  where
    go : (b : Bool) → b ≡ bounded 1000 z → Err x ≡ cond b (Ok (nat_abs (z +ℤ pos 1000))) refused → bounded 1000 z ≡ false
    go true t e = absurd cc
    go false t e = sym t

-- the word of the opposite number
pub opposite : (g : ℕ) → g ≤ 2000 → unbias (2000 - g) ≡ neg_ℤ (unbias g)
opposite g h = ⊎_elim
    (λ p. unbias_up (2000 - g) (omega arith) ∙ ap pos (omega arith) ∙ sym (ap neg_ℤ (unbias_down g p)))
    (λ p. rw (unbias_up g p) (go (g - 1000) refl p))
    (lt_or_le g 1000)
  where
    go : (t : ℕ) → g - 1000 ≡ t → 1000 ≤ g → unbias (2000 - g) ≡ neg_ℤ (pos t)
    go zero e p = unbias_up (2000 - g) (omega arith) ∙ ap pos (omega arith)
    go (suc t) e p = unbias_down (2000 - g) (omega arith) ∙ ap negsuc (omega arith)
