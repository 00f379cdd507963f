-- The size of a sweep, and the two limits of question 1. Every bound on gates in contracts and laws follows from `largest`.
use Rattle.std.specs.Prelude.{ℕ, ◌*◌}

-- rays, and gates per ray
pub record Size : Type 0 where
  pub rays : ℕ
  pub gates : ℕ

-- the largest sweep that question 1 lets through
abbrev pub largest : Size
largest = record { rays = 720; gates = 1200 }

-- all of its gates
abbrev pub gates_of_largest : ℕ
gates_of_largest = largest.rays * largest.gates
