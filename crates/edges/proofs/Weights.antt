-- The weights of all edges sum to the number of the pairs, and their bridged pairs to no more. Assumes nothing.
use Rattle.std.proofs.Common.{◌≡◌, ℕ, suc, ◌+◌, ◌≤◌, Bool, true, false, cond, List, [], ◌∷◌, map, length, refl, ◌∙◌, arith}
use Rattle.lists.specs.Seq.{sum}
use Rattle.edges.specs.Edges.{Pair, plus_one_if, begun, plus}
use Rattle.edges.specs.Inside.Order.{alike, runs_from, runs}
use Rattle.edges.specs.declared.edges.EdgeRecord.{EdgeRecord}

abbrev weigh : List EdgeRecord → ℕ
weigh rs = sum (map (λ r. r.count) rs)

from : (r : EdgeRecord) (l : List Pair) → weigh (runs_from r l) ≡ r.count + length l
unfolding runs_from plus begun sum
from r [] = refl
from r (p ∷ ps) = go (alike r p) (from (plus r p) ps) (from (begun p) ps)
  where
    go : (b : Bool) → weigh (runs_from (plus r p) ps) ≡ suc r.count + length ps → weigh (runs_from (begun p) ps) ≡ 1 + length ps → weigh (cond b (runs_from (plus r p) ps) (r ∷ runs_from (begun p) ps)) ≡ r.count + suc (length ps)
    go true x y = omega (arith, x)
    go false x y = omega (arith, y)

pub weights : (l : List Pair) → sum (map (λ r. r.count) (runs l)) ≡ length l
unfolding runs begun sum
weights [] = refl
weights (p ∷ ps) = from (begun p) ps ∙ omega arith

-- ---- bridged pairs

abbrev spanned : List EdgeRecord → ℕ
spanned rs = sum (map (λ r. r.bridged) rs)

plus_most : (b : Bool) (n : ℕ) → plus_one_if b n ≤ suc n
unfolding plus_one_if
plus_most true n = omega arith
plus_most false n = omega arith

span_from : (r : EdgeRecord) (l : List Pair) → spanned (runs_from r l) ≤ r.bridged + length l
unfolding runs_from plus begun sum
span_from r [] = omega arith
span_from r (p ∷ ps) = go (alike r p) (span_from (plus r p) ps) (span_from (begun p) ps)
  where
    go : (b : Bool) → spanned (runs_from (plus r p) ps) ≤ plus_one_if p.bridged r.bridged + length ps → spanned (runs_from (begun p) ps) ≤ plus_one_if p.bridged 0 + length ps
        → spanned (cond b (runs_from (plus r p) ps) (r ∷ runs_from (begun p) ps)) ≤ r.bridged + suc (length ps)
    go true x y = omega (arith, x, plus_most p.bridged r.bridged)
    go false x y = omega (arith, y, plus_most p.bridged 0)

pub spans : (l : List Pair) → sum (map (λ r. r.bridged) (runs l)) ≤ length l
unfolding runs begun sum
spans [] = omega arith
spans (p ∷ ps) = omega (arith, span_from (begun p) ps, plus_most p.bridged 0)

-- a record has no more bridged pairs than pairs
pub one_spans : (p : Pair) → (begun p).bridged ≤ (begun p).count
unfolding begun
one_spans p = plus_most p.bridged 0

pub more_spans : (r : EdgeRecord) (p : Pair) → r.bridged ≤ r.count → (plus r p).bridged ≤ (plus r p).count
unfolding plus
more_spans r p h = omega (arith, plus_most p.bridged r.bridged)
