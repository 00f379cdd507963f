-- The small numbers of the ring of eight places. Assumes nothing.
use Prim.Native.Nat.{ℕ, ◌+◌, ◌-◌, ◌≤◌, ◌<◌}
use native.Mathlib.Omega.{arith}
use mathlib.Core.Path.{◌≡◌, refl}
use mathlib.Core.Logic.{⊎_elim}
use borrow.Author.Tests.{eq-eqb, ne_eqb, le-leb, lt-leb}
use Rattle.lists.proofs.SegLaws.{eq_or_ne, lt_or_le}
use Rattle.window.specs.Window.{after, more, oldest}

pub after_last : (p : ℕ) → p ≡ 7 → after p ≡ 0
unfolding after
after_last p e = rw (eq-eqb p 7 e) refl

pub after_other : (p : ℕ) → (p ≡ 7 → ⊥) → after p ≡ p + 1
unfolding after
after_other p e = rw (ne_eqb p 7 e) refl

pub after_below : (p : ℕ) → p < 8 → after p < 8
after_below p h = ⊎_elim (λ e. omega (arith, after_last p e)) (λ e. omega (arith, after_other p e)) (eq_or_ne p 7)

pub more_last : (h : ℕ) → h ≡ 8 → more h ≡ 8
unfolding more
more_last h e = rw (eq-eqb h 8 e) refl

pub more_other : (h : ℕ) → (h ≡ 8 → ⊥) → more h ≡ h + 1
unfolding more
more_other h e = rw (ne_eqb h 8 e) refl

pub more_few : (h : ℕ) → h ≤ 8 → more h ≤ 8
more_few h k = ⊎_elim (λ e. omega (arith, more_last h e)) (λ e. omega (arith, more_other h e)) (eq_or_ne h 8)

pub oldest_low : (p h : ℕ) → h ≤ p → oldest p h ≡ p - h
unfolding oldest
oldest_low p h e = rw (le-leb h p e) refl

pub oldest_high : (p h : ℕ) → p < h → oldest p h ≡ p + 8 - h
unfolding oldest
oldest_high p h e = rw (lt-leb h p e) refl

pub oldest_below : (p h : ℕ) → p < 8 → h ≤ 8 → oldest p h < 8
oldest_below p h a b = ⊎_elim (λ e. omega (arith, oldest_high p h e)) (λ e. omega (arith, oldest_low p h e)) (lt_or_le p h)
