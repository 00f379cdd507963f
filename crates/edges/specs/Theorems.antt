-- What is known of bridged pairs. `proofs/Bridged` proves each. Statements only.
use Rattle.std.specs.Prelude.{◌≡◌, ℕ, ◌+◌, ◌≤◌, not, List, length, Float}
use Rattle.lists.specs.Seq.{keep, All}
use Rattle.edges.specs.Edges.{Shape, Pair, first_is, second_is, pairs, records}
use Rattle.edges.specs.declared.edges.Shape.{Shape}

-- `bridged_few`: no record has more bridged pairs than pairs
abbrev pub BridgedFew : Type 0
BridgedFew = (n : ℕ) (ps : List Pair) → All (λ r. r.bridged ≤ r.count) (records n ps)

-- looks of one step: both skips 0
unfoldable pub one_step : Shape → Shape
one_step s = record { rays = s.rays; gates = s.gates; skip_between_rays = 0; skip_along_ray = 0; wrap = s.wrap }

-- `near_pairs`: the pairs that are not bridged are those of looks of one step, in the same order
abbrev pub NearPairs : Type 0
NearPairs = (s : Shape) (labels : List ℕ) (vel : List Float) → keep (λ p. not p.bridged) (pairs s labels vel) ≡ pairs (one_step s) labels vel

-- the pairs of first label a and second label b
abbrev pub between : ℕ → ℕ → List Pair → List Pair
between a b ps = keep (first_is a) (keep (second_is b) ps)

-- `bridged_rest`: a record's bridged pairs are its pairs less those of the same labels that looks of one step find
abbrev pub BridgedRest : Type 0
BridgedRest =
    (n : ℕ) (s : Shape) (labels : List ℕ) (vel : List Float)
    → All (λ r. r.count ≡ r.bridged + length (between r.one r.two (pairs (one_step s) labels vel))) (records n (pairs s labels vel))
