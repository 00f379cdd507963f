-- A step of a look stays in the sweep, and none leaves a ray at its end. Assumes nothing.
use Rattle.std.proofs.Common.{◌≡◌, ℕ, zero, suc, ◌+◌, ◌-◌, ◌*◌, ◌%◌, ◌<◌, Bool, true, false, cond, not, eqb, ltb, leb, refl, ap, ◌∙◌, mod-lt, suc-mul, mul-zero, zero-mul, arith, ltb-true, eq-eqb, leb-false}
use native.Mathlib.Nat.{mul-mod_left}
use mathlib.Core.Option.{none, some, none-ne-some, some-injective}
use borrow.Author.Tests.{eqb-false}
use Rattle.edges.specs.Edges.{Shape, Direction, Left, Right, Top, Bottom, next}

-- a sweep that holds a gate has a ray, and rays of gates
record Holds (r k g : ℕ) : Type 0 where
  ray : 0 < r
  gate : 0 < k
  last : r * k ≡ (r - 1) * k + k

holds : (r k g : ℕ) → g < r * k → Holds r k g
holds zero k g h = absurd (omega (arith, zero-mul k))
holds (suc r) zero g h = absurd (omega (arith, mul-zero (suc r)))
holds (suc r) (suc k) g h = record { ray = omega arith; gate = omega arith; last = suc-mul r (suc k) ∙ ap (λ (x : ℕ). x * suc k + suc k) (omega arith) }

module _ (s : Shape) (g : ℕ) where
  -- no step leads on from a ray's last gate
  pub bottom_none : suc g % s.gates ≡ 0 → next s Bottom g ≡ none
  unfolding next
  bottom_none h = rw (eq-eqb (suc g % s.gates) 0 h)

  -- the gate reached is in the sweep
  pub next_in : (d : Direction) (h : ℕ) → g < s.rays * s.gates → next s d g ≡ some h → h < s.rays * s.gates
  unfolding next
  next_in Left h i = go (leb s.gates g) refl (eqb s.wrap 1)
    where
      go : (b : Bool) → leb s.gates g ≡ b → (c : Bool) → cond b (some (g - s.gates)) (cond c (some (g + (s.rays - 1) * s.gates)) none) ≡ some h → h < s.rays * s.gates
      go true t c e = omega (arith, some-injective (g - s.gates) h e)
      go false t true e = omega (arith, some-injective (g + (s.rays - 1) * s.gates) h e, (holds s.rays s.gates g i).last, leb-false s.gates g t)
      go false t false e = absurd (none-ne-some h e)
  next_in Right h i = go (ltb (g + s.gates) (s.rays * s.gates)) refl (eqb s.wrap 1)
    where
      go : (b : Bool) → ltb (g + s.gates) (s.rays * s.gates) ≡ b → (c : Bool) → cond b (some (g + s.gates)) (cond c (some (g % s.gates)) none) ≡ some h → h < s.rays * s.gates
      go true t c e = omega (arith, some-injective (g + s.gates) h e, ltb-true (g + s.gates) (s.rays * s.gates) t)
      go false t true e = omega (arith, some-injective (g % s.gates) h e, (holds s.rays s.gates g i).last, mod-lt g (holds s.rays s.gates g i).gate)
      go false t false e = absurd (none-ne-some h e)
  next_in Top h i = go (eqb (g % s.gates) 0)
    where
      go : (b : Bool) → cond (not b) (some (g - 1)) none ≡ some h → h < s.rays * s.gates
      go true e = absurd (none-ne-some h e)
      go false e = omega (arith, some-injective (g - 1) h e)
  next_in Bottom h i = go (eqb (suc g % s.gates) 0) refl
    where
      full : suc g ≡ s.rays * s.gates → suc g % s.gates ≡ 0
      full e = ap (λ (x : ℕ). x % s.gates) e ∙ mul-mod_left s.rays s.gates

      go : (b : Bool) → eqb (suc g % s.gates) 0 ≡ b → cond (not b) (some (suc g)) none ≡ some h → h < s.rays * s.gates
      go true t e = absurd (none-ne-some h e)
      go false t e =
          let n : suc g ≡ s.rays * s.gates → ⊥ = λ x. eqb-false (suc g % s.gates) 0 t (full x) in
          omega (arith, some-injective (suc g) h e, n)
