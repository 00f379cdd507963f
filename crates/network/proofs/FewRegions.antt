-- Below two regions, or without pairs, there is no edge: no merges, every count 0, and no mark. Assumes nothing.
use Prim.Native.Nat.{ℕ, zero, suc, ◌<◌}
use native.Mathlib.Omega.{arith}
use mathlib.Core.Path.{◌≡◌, refl, sym, ap, ◌∙◌}
use mathlib.Core.Bool.{Bool, true, false, not, ◌&&◌, cond}
use mathlib.Core.List.{List, [], ◌∷◌, ◌++◌, map}
use lib.Dec.{eqb}
use lib.IntN.{pos}
use lib.Ieee.{Float}
use borrow.Author.Tests.{le-ltb, eqb-true}
use Rattle.lists.specs.Seq.{upto, keep, each, all, All}
use Rattle.edges.specs.Edges.{pairs, gathered, first_is, second_is, records_of, records, greater_first, used}
use Rattle.edges.specs.declared.edges.Pair.{Pair}
use Rattle.edges.specs.declared.edges.Shape.{Shape}
use Rattle.edges.specs.declared.edges.EdgeRecord.{EdgeRecord}
use Rattle.network.specs.Network.{start, numbered, alone, merges, run, replay, trace, count_of, marked, mark_of, size_in, network_by, merges_in_range}
use Rattle.edges.proofs.RecordLaws.{gathered_all, records_nil}

-- one region's records join it to itself
own_none : (rs : List EdgeRecord) → All (λ r. r.one ≡ r.two) rs → keep greater_first rs ≡ []
unfolding keep greater_first
own_none [] t = refl
own_none (r ∷ rs) t = rw (le-ltb r.two r.one (omega (arith, t.0))) (own_none rs t.1)

first_kept : (a : ℕ) (ps : List Pair) → All (λ x. x.two ≡ a) ps → All (λ x. x.one ≡ x.two) (keep (first_is a) ps)
unfolding keep first_is
first_kept a [] t = tt
first_kept a (x ∷ xs) t = go (eqb x.one a) refl (first_kept a xs t.1)
  where
    go : (b : Bool) → eqb x.one a ≡ b → All (λ x. x.one ≡ x.two) (keep (first_is a) xs) → All (λ x. x.one ≡ x.two) (cond b (x ∷ keep (first_is a) xs) (keep (first_is a) xs))
    go true e ih = (eqb-true x.one a e ∙ sym t.0, ih)
    go false e ih = ih

second_kept : (a : ℕ) (ps : List Pair) → All (λ x. x.two ≡ a) (keep (second_is a) ps)
unfolding keep second_is
second_kept a [] = tt
second_kept a (x ∷ xs) = go (eqb x.two a) refl (second_kept a xs)
  where
    go : (b : Bool) → eqb x.two a ≡ b → All (λ x. x.two ≡ a) (keep (second_is a) xs) → All (λ x. x.two ≡ a) (cond b (x ∷ keep (second_is a) xs) (keep (second_is a) xs))
    go true e ih = (eqb-true x.two a e, ih)
    go false e ih = ih

all_nil : {A : Type 0} (P : A → Type 0) (l : List A) → All P l → All P (l ++ [])
all_nil P [] t = tt
all_nil P (x ∷ l) t = (t.0, all_nil P l t.1)

-- below two regions
pub used_few : (n : ℕ) (ps : List Pair) → n < 2 → used n ps ≡ []
unfolding used records records_of each upto
used_few zero ps h = unfold keep in refl
used_few (suc zero) ps h =
    let l : List EdgeRecord = gathered (keep (first_is 1) (keep (second_is 1) ps)) in
    let t : All (λ r. r.one ≡ r.two) l = gathered_all (λ a b. a ≡ b) _ (first_kept 1 _ (second_kept 1 ps)) in
    own_none ((l ++ []) ++ []) (all_nil (λ r. r.one ≡ r.two) (l ++ []) (all_nil (λ r. r.one ≡ r.two) l t))
used_few (suc (suc n)) ps h = absurd (omega arith)

-- no pairs
rows_nil : (n : ℕ) (l : List ℕ) → each (λ b. records_of n []) l ≡ []
unfolding each
rows_nil n [] = refl
rows_nil n (x ∷ l) = ap (λ (r : List EdgeRecord). r ++ each (λ b. records_of n []) l) (records_nil n) ∙ rows_nil n l

pub used_none : (n : ℕ) → used n [] ≡ []
unfolding used records keep
used_none n = rw (rows_nil n (upto n 1)) refl

-- regions that are all alone have count 0
count_alone : (k : ℕ) (ns : List ℕ) (a : ℕ) → count_of (alone k ns) a ≡ pos 0
unfolding alone count_of
count_alone k [] a = refl
count_alone k (n ∷ ns) a = go (eqb a k) (count_alone (suc k) ns a)
  where
    go : (b : Bool) → count_of (alone (suc k) ns) a ≡ pos 0 → cond b (pos 0) (count_of (alone (suc k) ns) a) ≡ pos 0
    go true ih = refl
    go false ih = ih

-- a network without edges
-- where nothing merges no region is marked
pub no_mark : (a : ℕ) → mark_of [] a ≡ 0
unfolding mark_of marked
no_mark a = go (not (eqb a 0))
  where
    go : (b : Bool) → ◌≡◌ {A = ℕ} (cond (b && false) 1 0) 0
    go true = refl
    go false = refl

module _ (two_nyquist : Float) (s : Shape) (k : ℕ) (L : List ℕ) (vel : List Float) (h : used k (pairs s L vel) ≡ []) where
  pub no_merges : merges (network_by two_nyquist s k L vel) ≡ []
  unfolding network_by merges start numbered
  no_merges = rw h (unfold run in refl)

  pub no_refusal : merges_in_range (network_by two_nyquist s k L vel) ≡ true
  unfolding merges_in_range
  no_refusal = rw no_merges (unfold trace all in refl)

  pub no_counts : (a : ℕ) → count_of (replay (network_by two_nyquist s k L vel) (merges (network_by two_nyquist s k L vel))).regions a ≡ pos 0
  no_counts a = rw no_merges (still a)
    where
      still : (a : ℕ) → count_of (replay (network_by two_nyquist s k L vel) []).regions a ≡ pos 0
      still a = unfold replay network_by start in count_alone 1 (map (size_in L) (upto k 1)) a

  pub no_marks : (a : ℕ) → mark_of (trace (network_by two_nyquist s k L vel) (merges (network_by two_nyquist s k L vel))) a ≡ 0
  no_marks a = rw no_merges (unfold trace in no_mark a)
