-- The theorems of specs/Theorems: bridged pairs stay within the weights, and no merge looks at them. Assumes nothing.
use Prim.Native.Nat.{ℕ, zero, suc, ◌≤◌}
use native.Mathlib.Omega.{arith}
use mathlib.Core.Path.{◌≡◌, refl, sym, ap, ◌∙◌}
use mathlib.Core.Bool.{Bool, true, false, ◌&&◌, cond}
use mathlib.Core.List.{List, [], ◌∷◌, map}
use mathlib.Core.Option
use mathlib.Core.Option.{Option, none, some}
use lib.Dec.{leb, eqb}
use lib.Ieee.{Float}
use lib.ListN.{length, length-map}
use Rattle.lists.specs.Seq.{All}
use Rattle.lists.proofs.AllLaws.{all_keep}
use Rattle.edges.specs.Edges.{pairs, records, greater_first, used}
use Rattle.edges.specs.declared.edges.EdgeRecord.{EdgeRecord}
use Rattle.edges.proofs.Bridged.{bridged_few}
use Rattle.network.specs.Network.{Edge, Region, State, Plan, Link, at, plan_for, plan, kill, adjust, turn_if, turn, find, absorb, absent, hand, combine, prepare, join_all, merge_edges, move, merge}
use Rattle.network.specs.Network.{step_to, step, better, choose, follow, run, merges, replay, event_of, event, trace, edge_of, numbered, start, network_by}
use Rattle.network.specs.Theorems.{BridgedWithin, plain, plain_net, BridgedIdle}
use Rattle.network.proofs.Lists.{map_swap, cond_map}

-- ---- within the weights

abbrev Within : Edge → Type 0
Within e = e.link.bridged ≤ e.link.weight

-- what is found keeps within its weight
abbrev FoundWithin : Option Link → Type 0
FoundWithin none = Unit {0}
FoundWithin (some g) = g.bridged ≤ g.weight

prepare_within : (p : Plan) (e : Edge) → Within e → Within (prepare p e)
unfolding prepare turn turn_if adjust kill
prepare_within p e h = h

find_within : (es : List Edge) (x c : ℕ) → All Within es → FoundWithin (find es x c)
unfolding find
find_within [] x c h = tt
find_within (e ∷ es) x c h = go (e.live && eqb x e.first && eqb c e.second) (find_within es x c h.1)
  where
    go : (b : Bool) → FoundWithin (find es x c) → FoundWithin (cond b (some e.link) (find es x c))
    go true k = h.0
    go false k = k

combine_within : (es : List Edge) (b m : ℕ) (e : Edge) → All Within es → Within e → Within (combine es b m e)
unfolding combine absorb hand
combine_within es b m e h k = go (eqb b e.first) (eqb m e.first) (find es m e.second) (find_within es m e.second h)
  where
    go : (x y : Bool) (o : Option Link) → FoundWithin o → Within (cond x (absorb o e) (cond y (hand b (find es b e.second) e) e))
    go true y none f = k
    go true y (some g) f = omega (arith, k, f)
    go false true o f = k
    go false false o f = k

edges_within : (p : Plan) (es : List Edge) → All Within es → All Within (merge_edges p es)
unfolding merge_edges join_all
edges_within p es h =
    let fs : List Edge = map (prepare p) es in
    let k : All Within fs = all_mapped (prepare p) (prepare_within p) es h in
    all_mapped (combine fs p.base p.moved) (λ e. combine_within fs p.base p.moved e k) fs k
  where
    all_mapped : (f : Edge → Edge) → ((e : Edge) → Within e → Within (f e)) → (l : List Edge) → All Within l → All Within (map f l)
    all_mapped f g [] t = tt
    all_mapped f g (e ∷ l) t = (g e t.0, all_mapped f g l t.1)

step_within : (s : State) (i : ℕ) → All Within s.edges → All Within (step s i).edges
unfolding step step_to merge
step_within s i h = go (at s.edges i)
  where
    go : (o : Option Edge) → All Within (step_to o s).edges
    go none = h
    go (some e) = edges_within (plan s.regions e) s.edges h

replay_within : (l : List ℕ) (s : State) → All Within s.edges → All Within (replay s l).edges
unfolding replay
replay_within [] s h = h
replay_within (i ∷ l) s h = replay_within l (step s i) (step_within s i h)

numbered_within : (w : Float) (k : ℕ) (rs : List EdgeRecord) → All (λ r. r.bridged ≤ r.count) rs → All Within (numbered w k rs)
unfolding numbered edge_of
numbered_within w k [] h = tt
numbered_within w k (r ∷ rs) h = (h.0, numbered_within w (suc k) rs h.1)

pub bridged_within : BridgedWithin
unfolding network_by start used
bridged_within w s k L vel l = replay_within l (network_by w s k L vel) (numbered_within w 0 (used k (pairs s L vel)) (all_keep (λ r. r.bridged ≤ r.count) greater_first (records k (pairs s L vel)) (bridged_few k (pairs s L vel))))

-- ---- no merge looks at them

-- what is found of a network whose bridged pairs are forgotten
unfoldable plain_link : Link → Link
plain_link g = record { weight = g.weight; diff = g.diff; bridged = 0 }

choose_plain : (es : List Edge) → choose (map plain es) ≡ Option.map plain (choose es)
unfolding choose better plain
choose_plain [] = refl
choose_plain (e ∷ es) = rw (choose_plain es) (go (choose es))
  where
    go : (o : Option Edge) → better (plain e) (Option.map plain o) ≡ Option.map plain (better e o)
    go none = sym (cond_map (Option.map plain) e.live (some e) none)
    go (some f) = sym (cond_map (Option.map plain) (e.live && leb f.link.weight e.link.weight) (some e) (some f))

at_plain : (es : List Edge) (i : ℕ) → at (map plain es) i ≡ Option.map plain (at es i)
unfolding at plain
at_plain [] i = refl
at_plain (e ∷ es) i = rw (at_plain es i) (sym (cond_map (Option.map plain) (e.live && eqb i e.num) (some e) (at es i)))

find_plain : (es : List Edge) (x c : ℕ) → find (map plain es) x c ≡ Option.map plain_link (find es x c)
unfolding find plain plain_link
find_plain [] x c = refl
find_plain (e ∷ es) x c = rw (find_plain es x c) (sym (cond_map (Option.map plain_link) (e.live && eqb x e.first && eqb c e.second) (some e.link) (find es x c)))

prepare_plain : (p : Plan) (e : Edge) → prepare p (plain e) ≡ plain (prepare p e)
unfolding prepare turn turn_if adjust kill plain
prepare_plain p e = refl

combine_plain : (es : List Edge) (b m : ℕ) (e : Edge) → combine (map plain es) b m (plain e) ≡ plain (combine es b m e)
unfolding combine absorb hand absent plain plain_link
combine_plain es b m e =
    rw (find_plain es m e.second, find_plain es b e.second) (go (eqb b e.first) (eqb m e.first) (find es m e.second) (find es b e.second))
  where
    go : (x y : Bool) (g h : Option Link) → cond x (absorb (Option.map plain_link g) (plain e)) (cond y (hand b (Option.map plain_link h) (plain e)) (plain e)) ≡ plain (cond x (absorb g e) (cond y (hand b h e) e))
    go true y none h = refl
    go true y (some g) h = refl
    go false true g none = refl
    go false true g (some h) = refl
    go false false g h = refl

edges_plain : (p : Plan) (es : List Edge) → merge_edges p (map plain es) ≡ map plain (merge_edges p es)
unfolding merge_edges join_all
edges_plain p es =
    let fs : List Edge = map (prepare p) es in
    ap (λ (l : List Edge). map (combine l p.base p.moved) l) (map_swap plain (prepare p) (prepare p) (prepare_plain p) es)
    ∙ map_swap plain (combine fs p.base p.moved) (combine (map plain fs) p.base p.moved) (combine_plain fs p.base p.moved) fs

plan_plain : (rs : List Region) (e : Edge) → plan rs (plain e) ≡ plan rs e
unfolding plan plan_for plain
plan_plain rs e = refl

step_plain : (s : State) (i : ℕ) → step (plain_net s) i ≡ plain_net (step s i)
unfolding step step_to merge plain_net
step_plain s i = ap (λ (o : Option Edge). step_to o (plain_net s)) (at_plain s.edges i) ∙ go (at s.edges i)
  where
    go : (o : Option Edge) → step_to (Option.map plain o) (plain_net s) ≡ plain_net (step_to o s)
    go none = refl
    go (some e) = ap (λ (p : Plan). merge p (plain_net s)) (plan_plain s.regions e) ∙ (λ j. record { edges = edges_plain (plan s.regions e) s.edges j; regions = map (move (plan s.regions e)) s.regions })

event_plain : (s : State) (i : ℕ) → event (plain_net s) i ≡ event s i
unfolding event event_of plan plan_for plain plain_net
event_plain s i = rw (at_plain s.edges i) (go (at s.edges i))
  where
    go : (o : Option Edge) → event_of s.regions i (Option.map plain o) ≡ event_of s.regions i o
    go none = refl
    go (some e) = refl

run_plain : (n : ℕ) (s : State) → run n (plain_net s) ≡ run n s
unfolding run follow plain_net
run_plain zero s = refl
run_plain (suc n) s = ap (λ (o : Option Edge). follow o (plain_net s) (run n)) (choose_plain s.edges) ∙ go (choose s.edges) (run_plain n)
  where
    go : (o : Option Edge) → ((t : State) → run n (plain_net t) ≡ run n t) → follow (Option.map plain o) (plain_net s) (run n) ≡ follow o s (run n)
    go none ih = refl
    go (some e) ih = unfold plain in rw (step_plain s e.num, ih (step s e.num)) refl

merges_plain : (s : State) → merges (plain_net s) ≡ merges s
unfolding merges plain_net
merges_plain s = ap (λ (n : ℕ). run n (plain_net s)) (length-map s.edges plain) ∙ run_plain (length s.edges) s

trace_plain : (l : List ℕ) (s : State) → trace (plain_net s) l ≡ trace s l
unfolding trace
trace_plain [] s = refl
trace_plain (i ∷ l) s = rw (event_plain s i, step_plain s i, trace_plain l (step s i)) refl

replay_plain : (l : List ℕ) (s : State) → replay (plain_net s) l ≡ plain_net (replay s l)
unfolding replay
replay_plain [] s = refl
replay_plain (i ∷ l) s = ap (λ (t : State). replay t l) (step_plain s i) ∙ replay_plain l (step s i)

pub bridged_idle : BridgedIdle
bridged_idle s t e = record {
  merges = sym (merges_plain s) ∙ ap merges e ∙ merges_plain t;
  trace = λ l. sym (trace_plain l s) ∙ ap (λ (x : State). trace x l) e ∙ trace_plain l t;
  regions = λ l. unfold plain_net in sym (ap (λ (x : State). x.regions) (replay_plain l s)) ∙ ap (λ (x : State). (replay x l).regions) e ∙ ap (λ (x : State). x.regions) (replay_plain l t);
}
