-- Whether an echo is apart from the rest, as a test that computes. Assumes nothing.
use Prim.Native.Nat.{ℕ, ◌<◌}
use native.Mathlib.Omega.{arith}
use mathlib.Core.Path.{◌≡◌, refl, sym}
use mathlib.Core.Bool.{Bool, true, false, ◌||◌, beq}
use mathlib.Core.List.{List, [], ◌∷◌}
use mathlib.Core.Option.{Option, none, some}
use lib.ListN.{length}
use lib.Ieee.{Float}
use lib.Dec.{eqb}
use borrow.Author.Tests.{ne_eqb}
use Rattle.lists.specs.Seq.{upto, all}
use Rattle.locality.proofs.RootsEcho.{at, at_less}
use Rattle.lists.proofs.AllLaws.{and_left, and_right, all_at}
use Rattle.edges.specs.Edges.{sees}
use Rattle.edges.specs.declared.edges.Shape.{Shape}
use Rattle.edges.specs.declared.edges.Direction.{Direction}
use Rattle.edges.specs.declared.edges.Direction.TheVariants.{Left, Right, Top, Bottom}
use Rattle.sweep.specs.Sweep.{Sweep, regions_of}
use Rattle.locality.specs.Demand3.{Apart}

-- whether what a gate on side e sees, if anything, is on that side
unfoldable pub on_side : (ℕ → Bool) → Bool → Option ℕ → Bool
on_side E e none = true
on_side E e (some h) = beq e (E h)

-- the same of all four looks from a gate, if it is labelled
unfoldable pub gate_apart : (ℕ → Bool) → Shape → List ℕ → ℕ → Bool
gate_apart E s labels g = eqb (at labels g) 0 || all (λ d. on_side E (E g) (sees s labels d g)) (Left ∷ Right ∷ Top ∷ Bottom ∷ [])

unfoldable pub apart : (ℕ → Bool) → Sweep → List Float → Bool
apart E s limits = all (gate_apart E s.shape (regions_of s limits).labels) (upto (length (regions_of s limits).labels) 0)

beq_eq : (a b : Bool) → beq a b ≡ true → a ≡ b
beq_eq true true h = refl
beq_eq true false h = sym h
beq_eq false true h = h
beq_eq false false h = refl

four : (t : Direction → Bool) → all t (Left ∷ Right ∷ Top ∷ Bottom ∷ []) ≡ true → (d : Direction) → t d ≡ true
unfolding all
four t h Left = and_left (t Left) _ h
four t h Right = and_left (t Right) _ (and_right (t Left) _ h)
four t h Top = and_left (t Top) _ (and_right (t Right) _ (and_right (t Left) _ h))
four t h Bottom = and_left (t Bottom) _ (and_right (t Top) _ (and_right (t Right) _ (and_right (t Left) _ h)))

pub apart_holds : (E : ℕ → Bool) (s : Sweep) (limits : List Float) → apart E s limits ≡ true → Apart E s limits
unfolding apart gate_apart on_side
apart_holds E s limits h g h' seen =
    let d : Direction = seen.direction in
    let p : 0 < at (regions_of s limits).labels g = seen.labelled in
    let w : sees s.shape (regions_of s limits).labels d g ≡ some h' = seen.seen in
    let labels : List ℕ = (regions_of s limits).labels in
    let t : gate_apart E s.shape labels g ≡ true = all_at (gate_apart E s.shape labels) (length labels) 0 g (omega arith) (omega (arith, at_less labels g p)) h in
    let n : eqb (at labels g) 0 ≡ false = ne_eqb (at labels g) 0 (λ q. positive q p) in
    let u : (false || all (λ d. on_side E (E g) (sees s.shape labels d g)) (Left ∷ Right ∷ Top ∷ Bottom ∷ [])) ≡ true = rw n at t in
    let v : on_side E (E g) (sees s.shape labels d g) ≡ true = four (λ d. on_side E (E g) (sees s.shape labels d g)) u d in
    beq_eq (E g) (E h') (rw w at v)
  where
    positive : {x : ℕ} → x ≡ 0 → 0 < x → ⊥
    positive e f = omega arith
