-- The pairs sorted by second label and then first, and runs of equal labels gathered.
use Rattle.std.specs.Prelude.{ℕ, Bool, cond, ◌&&◌, List, [], ◌∷◌, ◌==◌}
use Rattle.lists.specs.Seq.{upto, keep, each}
use Rattle.edges.specs.Edges.{Pair, begun, plus, first_is, second_is}
use Rattle.edges.specs.declared.edges.EdgeRecord.{EdgeRecord}

-- for second label ascending, for first label ascending, the pairs of these labels in their order; labels below k
unfoldable pub ordered : ℕ → List Pair → List Pair
ordered k ps = each (λ b. each (λ a. keep (first_is a) (keep (second_is b) ps)) (upto k 0)) (upto k 0)

-- whether a pair has the labels of a record
unfoldable pub alike : EdgeRecord → Pair → Bool
alike r p = r.one == p.one && r.two == p.two

-- the runs of equal labels, with a record begun
unfoldable pub runs_from : EdgeRecord → List Pair → List EdgeRecord
runs_from r [] = r ∷ []
runs_from r (p ∷ ps) = cond (alike r p) (runs_from (plus r p) ps) (r ∷ runs_from (begun p) ps)

unfoldable pub runs : List Pair → List EdgeRecord
runs [] = []
runs (p ∷ ps) = runs_from (begun p) ps
