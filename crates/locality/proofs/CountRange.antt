-- A sweep whose merges are in range has no count beyond 2,000. Assumes nothing.
use Prim.Native.Nat.{ℕ, suc, ◌≤◌}
use native.Mathlib.Omega.{arith}
use mathlib.Core.Path.{◌≡◌, sym, ◌∙◌}
use mathlib.Core.Bool.{Bool, true, false, cond}
use mathlib.Core.List.{List, [], ◌∷◌, map}
use mathlib.Core.Option.{Option, none, some}
use lib.Dec.{eqb}
use lib.IntN.{ℤ, pos, negsuc, nat_abs, neg_ℤ, ◌+ℤ◌, ◌-ℤ◌}
use lib.ListN.{length, get_or}
use lib.Ieee.{Float}
use borrow.Author.Tests.{leb-true, ltb-true, le-leb, lt-ltb}
use Rattle.lists.specs.Seq.{upto, all, All}
use Rattle.lists.proofs.AllLaws.{and_left, and_right}
use Rattle.memory.specs.Size.{gates_of_largest}
use Rattle.arithmetic.specs.Intervals.{two_nyquist}
use Rattle.arithmetic.proofs.NearHalf.{abs_neg}
use Rattle.labels.specs.Label.{Found}
use Rattle.labels.proofs.RegionLaws.{labels_long}
use Rattle.edges.specs.Edges.{pairs, used}
use Rattle.network.specs.Network.{Region, State, Edge, Plan, bounded, gates_of, gather, raised, at, quot, plan, move, merge, step, step_to, merges, replay, trace, event, event_of, in_range, count_of, alone, size_in, start, network_by, merges_in_range}
use Rattle.sweep.specs.Sweep.{Sweep, Unfolded, regions_of, network_of, final, early, mean_of, ended, offset_of, gate_count, finished, unfolded_by, unfolded}
use Rattle.sweep.proofs.EarlyEnd.{range_same}
use Rattle.sweep.specs.Inside.Mean.{sum_from}
use Rattle.sweep.proofs.MeanLaws.{gates_is, last_sizes}
use Rattle.sweep.proofs.MergeLaws.{sizes_few}
use Rattle.locality.proofs.Echo.{region_count}
use Rattle.locality.proofs.GateCounts.{gate_counts}
use Rattle.locality.proofs.MeanRange.{Near, abs_add, mean_within}

-- ---- the test of a bound

-- a number that passes is at most k large
bounded_abs : (k : ℕ) (z : ℤ) → bounded k z ≡ true → nat_abs z ≤ k
unfolding bounded
bounded_abs k (pos n) h = leb-true n k h
bounded_abs k (negsuc n) h = omega (arith, ltb-true n k h)

-- a number at most k large passes
abs_bounded : (k : ℕ) (z : ℤ) → nat_abs z ≤ k → bounded k z ≡ true
unfolding bounded
abs_bounded k (pos n) h = le-leb n k h
abs_bounded k (negsuc n) h = lt-ltb n k (omega arith)

-- ---- the regions' counts after the last merge

-- counts stay within 1,000 where the moved regions' do
move_near : (p : Plan) (rs : List Region) → All Near rs → all (bounded 1000) (raised p.gain rs p.moved) ≡ true → All Near (map (move p) rs)
unfolding raised gather all move
move_near p [] t h = tt
move_near p (r ∷ rs) t h = go (eqb p.moved r.node) h (move_near p rs t.1)
  where
    rest : List ℤ
    rest = gather (λ r. r.count +ℤ p.gain) rs p.moved

    go : (b : Bool) → all (bounded 1000) (cond b ((r.count +ℤ p.gain) ∷ rest) rest) ≡ true → (all (bounded 1000) rest ≡ true → All Near (map (move p) rs))
        → (nat_abs (cond b (r.count +ℤ p.gain) r.count) ≤ 1000) × All Near (map (move p) rs)
    go true h ih = (bounded_abs 1000 (r.count +ℤ p.gain) (and_left (bounded 1000 (r.count +ℤ p.gain)) (all (bounded 1000) rest) h), ih (and_right (bounded 1000 (r.count +ℤ p.gain)) (all (bounded 1000) rest) h))
    go false h ih = (t.0, ih h)

-- so they do over a merge in range
step_near : (n : State) (i : ℕ) → All Near n.regions → in_range (event n i) ≡ true → All Near (step n i).regions
unfolding step step_to merge event event_of in_range
step_near n i t h = go (at n.edges i) h
  where
    go : (o : Option Edge) → in_range (event_of n.regions i o) ≡ true → All Near (step_to o n).regions
    go none h = t
    go (some e) h =
        let p : Plan = plan n.regions e in
        move_near p n.regions t (and_right (bounded 1000 (quot e.link.diff e.link.weight)) (all (bounded 1000) (raised p.gain n.regions p.moved)) h)

-- and over a list of merges in range
replay_near : (l : List ℕ) (n : State) → All Near n.regions → all in_range (trace n l) ≡ true → All Near (replay n l).regions
unfolding replay trace all
replay_near [] n t h = t
replay_near (i ∷ l) n t h =
    let here = and_left (in_range (event n i)) (all in_range (trace (step n i) l)) h in
    replay_near l (step n i) (step_near n i t here) (and_right (in_range (event n i)) (all in_range (trace (step n i) l)) h)

-- before the first merge they are 0
alone_near : (k : ℕ) (ns : List ℕ) → All Near (alone k ns)
unfolding alone
alone_near k [] = tt
alone_near k (m ∷ ns) = (omega arith, alone_near (suc k) ns)

-- then the count of any label is within 1,000; without a region it is 0
count_near : (rs : List Region) → All Near rs → (a : ℕ) → nat_abs (count_of rs a) ≤ 1000
unfolding count_of
count_near [] t a = omega arith
count_near (r ∷ rs) t a = go (eqb a r.label) (count_near rs t.1 a)
  where
    go : (b : Bool) → nat_abs (count_of rs a) ≤ 1000 → nat_abs (cond b r.count (count_of rs a)) ≤ 1000
    go true h = t.0
    go false h = h

-- ---- a sweep

module _ (s : Sweep) (limits : List Float) where
  abbrev found : Found
  found = regions_of s limits

  -- the regions after the last merge
  abbrev last : List Region
  last = (final (network_of s found)).regions

  -- regions hold no more gates than there are
  last_gates : gates_of last ≤ length s.mask
  unfolding final network_of network_by regions_of
  last_gates = omega (arith, sum, sizes_few L 1 k, labels_long s.shape.gates s.vel s.mask limits)
    where
      L : List ℕ
      L = found.labels

      k : ℕ
      k = found.number

      sum : gates_of last ≡ sum_from (size_in L) 1 k
      sum = gates_is last k 1 (size_in L) (last_sizes (two_nyquist s.nyquist) (used k (pairs s.shape L s.vel)) k (size_in L) (merges (network_of s found)))

  module _ (range : (unfolded s limits).merges_in_range ≡ true) where
    -- every region's count after the last merge is within 1,000
    last_near : All Near last
    unfolding unfolded final network_of network_by start merges_in_range
    last_near = replay_near (merges (network_of s found)) (network_of s found) (alone_near 1 (map (size_in found.labels) (upto found.number 1))) (sym (range_same s found) ∙ range)

    -- so is the count of a gate's region
    region_near : (g : ℕ) → nat_abs (region_count s limits g) ≤ 1000
    unfolding region_count
    region_near g = count_near last last_near (get_or found.labels g 0)

    -- and what centring takes away
    offset_near : length s.mask ≤ gates_of_largest → nat_abs (unfolded s limits).offset ≤ 1000
    unfolding unfolded unfolded_by ended finished offset_of
    offset_near few = go (early s found)
      where
        by : Bool → Unfolded
        by b = elim b [ true ↦ ended s found | false ↦ finished s found (network_of s found) ]

        centred : (b : Bool) → nat_abs (cond b (mean_of last) (pos 0)) ≤ 1000
        centred true = mean_within last last_near (omega (arith, last_gates))
        centred false = omega arith

        go : (b : Bool) → nat_abs (by b).offset ≤ 1000
        go true = omega arith
        go false = centred (eqb s.centred 1)

-- a sweep whose merges are in range has no count beyond 2,000
pub counts_within : (s : Sweep) (limits : List Float) → length s.mask ≤ gates_of_largest → (unfolded s limits).merges_in_range ≡ true → (g : ℕ) → bounded 2000 (get_or (unfolded s limits).counts g (pos 0)) ≡ true
unfolding gate_count
counts_within s limits few range g = rw (gate_counts s limits g) (go (eqb (get_or s.mask g 0) 1))
  where
    count : ℤ
    count = region_count s limits g

    offset : ℤ
    offset = (unfolded s limits).offset

    go : (b : Bool) → bounded 2000 (cond b (count -ℤ offset) (pos 0)) ≡ true
    go true = abs_bounded 2000 (count -ℤ offset) (omega (arith, abs_add count (neg_ℤ offset), abs_neg offset, region_near s limits range g, offset_near s limits range few))
    go false = abs_bounded 2000 (pos 0) (omega arith)
