-- The code's values as the definition's.
use Rattle.std.specs.Prelude.{◌≡◌, ℕ, ◌*◌, ◌^◌, ◌<◌, Bool, List, length, Option, Some, None}
use Rattle.std.proofs.Math.Option as Math
use Rattle.edges.specs.declared.edges.Sight.{Sight}
use Rattle.edges.specs.declared.edges.Shape.{Shape}

-- a step's answer
abbrev pub answer : Option ℕ → Math.Option ℕ
answer (Some g) = Math.some g
answer None = Math.none

-- a look's answer: the gate seen, in one step or over a gap
abbrev pub sighted : Bool → Math.Option ℕ → Option Sight
sighted b Math.none = None
sighted b (Math.some h) = Some (record { gate = h; bridged = b })

-- gate g is in the sweep, and the sweep not too large
pub record Inside (f : Shape) (g : ℕ) : Type 0 where
  pub inside : g < f.rays * f.gates
  pub small : f.rays * f.gates < 2 ^ 32

-- the same with the labels of all gates
pub record Looks (f : Shape) (labels : List ℕ) (g : ℕ) : Type 0 where
  pub whole : length labels ≡ f.rays * f.gates
  pub inside : g < f.rays * f.gates
  pub small : f.rays * f.gates < 2 ^ 32
