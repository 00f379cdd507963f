-- Small sweeps and their edge records, computed: a pair is bridged where its look took more than one step, whatever lay between. Assumes nothing.
use Rattle.std.specs.Prelude.{ℕ, ◌≡◌, refl, List, [], ◌∷◌, map, ℤ, pos, negsuc}
use Rattle.std.specs.Float.{binary32}
use Rattle.std.specs.Float.Ieee.{of_int}
use Rattle.lists.specs.Seq.{keep}
use Rattle.edges.specs.Edges.{used}
use Rattle.network.specs.Network.{State, step}
use Rattle.sweep.specs.Evaluating.{evaluating}
use Rattle.sweep.specs.Sweep.{Sweep, regions_of, pairs_of, network_of}
use Rattle.sweep.specs.Questions.{own_limits}

-- rays of so many gates at Nyquist 10, splits 3 and skips 1
abbrev sized : ℕ → ℕ → ℕ → List ℤ → List ℕ → Sweep
sized wrap r g vs m = record {
  shape = record { rays = r; gates = g; skip_between_rays = 1; skip_along_ray = 1; wrap = wrap };
  splits = 3;
  centred = 0;
  nyquist = of_int binary32 (pos 10);
  vel = map (of_int binary32) vs;
  mask = m;
}

-- the edge records of a sweep: first label, second label, pairs, bridged pairs
abbrev records_in : Sweep → List (List ℕ)
records_in s = let f = regions_of s (own_limits s) in map (λ r. r.one ∷ r.two ∷ r.count ∷ r.bridged ∷ []) (used f.number (pairs_of s f))

-- one ray, no wrap: 9, -9
abbrev beside : Sweep
beside = sized 0 1 2 (pos 9 ∷ negsuc 8 ∷ []) (1 ∷ 1 ∷ [])

-- 9, masked, -9
abbrev over_masked : Sweep
over_masked = sized 0 1 3 (pos 9 ∷ pos 0 ∷ negsuc 8 ∷ []) (1 ∷ 0 ∷ 1 ∷ [])

-- 9, 10, -9: the gate between is valid, and in no interval
abbrev over_unlabelled : Sweep
over_unlabelled = sized 0 1 3 (pos 9 ∷ pos 10 ∷ negsuc 8 ∷ []) (1 ∷ 1 ∷ 1 ∷ [])

-- two rays: 9, -9, -9 and 9, masked, -9
abbrev one_of_two : Sweep
one_of_two = sized 0 2 3 (pos 9 ∷ negsuc 8 ∷ negsuc 8 ∷ pos 9 ∷ pos 0 ∷ negsuc 8 ∷ []) (1 ∷ 1 ∷ 1 ∷ 1 ∷ 0 ∷ 1 ∷ [])

-- three rays of one gate, with wrap: 9, masked, -9; the first gate sees the last to either side, one way over the masked one
abbrev either_way : Sweep
either_way = sized 1 3 1 (pos 9 ∷ pos 0 ∷ negsuc 8 ∷ []) (1 ∷ 0 ∷ 1 ∷ [])

-- two rays: 9, 9, masked, -9 and 0, 0, -9, -9
abbrev three : Sweep
three = sized 0 2 4 (pos 9 ∷ pos 9 ∷ pos 0 ∷ negsuc 8 ∷ pos 0 ∷ pos 0 ∷ negsuc 8 ∷ negsuc 8 ∷ []) (1 ∷ 1 ∷ 0 ∷ 1 ∷ 1 ∷ 1 ∷ 1 ∷ 1 ∷ [])

pub records_hold : map records_in (beside ∷ over_masked ∷ over_unlabelled ∷ one_of_two ∷ either_way ∷ three ∷ [])
    ≡ ((2 ∷ 1 ∷ 1 ∷ 0 ∷ []) ∷ [])
    ∷ ((2 ∷ 1 ∷ 1 ∷ 1 ∷ []) ∷ [])
    ∷ ((2 ∷ 1 ∷ 1 ∷ 1 ∷ []) ∷ [])
    ∷ ((2 ∷ 1 ∷ 2 ∷ 1 ∷ []) ∷ [])
    ∷ ((2 ∷ 1 ∷ 2 ∷ 1 ∷ []) ∷ [])
    ∷ ((2 ∷ 1 ∷ 1 ∷ 0 ∷ []) ∷ (3 ∷ 1 ∷ 1 ∷ 1 ∷ []) ∷ (3 ∷ 2 ∷ 2 ∷ 0 ∷ []) ∷ [])
    ∷ []
unfolding evaluating
records_hold = refl

-- the live edges of a network: first node, second node, weight, bridged pairs
abbrev live_in : State → List (List ℕ)
live_in t = map (λ e. e.first ∷ e.second ∷ e.link.weight ∷ e.link.bridged ∷ []) (keep (λ e. e.live) t.edges)

-- regions 3 and 2 merge first; their edges to region 1 become one, of weight 2, with one bridged pair
pub combined_holds : live_in (step (network_of three (regions_of three (own_limits three))) 2) ≡ (2 ∷ 1 ∷ 2 ∷ 1 ∷ []) ∷ []
unfolding evaluating
combined_holds = refl
