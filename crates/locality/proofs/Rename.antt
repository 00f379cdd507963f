-- Renaming: a network whose labels and edge numbers are renamed one to one makes the renamed merges.
-- Assumes nothing.
use Prim.Native.Nat.{ℕ, zero, suc}
use mathlib.Core.Path.{◌≡◌, refl, sym, ap, ◌∙◌}
use mathlib.Core.Bool.{Bool, true, false, ◌&&◌, cond}
use mathlib.Core.List.{List, [], ◌∷◌, map}
use mathlib.Core.Option
use mathlib.Core.Option.{Option, none, some}
use lib.Dec.{ltb, leb, eqb}
use lib.ListN.{length, length-map}
use lib.IntN.{ℤ}
use Rattle.lists.proofs.SeqLaws.{eqb_renamed}
use Rattle.network.proofs.Lists.{map_swap, cond_map}
use Rattle.network.specs.Network.{Edge, Region, State, Plan, Link, Event, size_of, gather, members, raised, at, plan_for, plan, kill, adjust, turn_if, turn, find, absorb, hand, combine, prepare, join_all, merge_edges, move, merge, step_to, step, better, choose, follow, run, merges, event_of, event, trace, replay}

module _ (ρ σ : ℕ → ℕ) where
  unfoldable pub ren_e : Edge → Edge
  ren_e e = record { num = σ e.num; live = e.live; first = ρ e.first; second = ρ e.second; link = e.link }

  unfoldable pub ren_r : Region → Region
  ren_r r = record { label = ρ r.label; size = r.size; node = ρ r.node; count = r.count }

  unfoldable pub ren_s : State → State
  ren_s s = record { edges = map ren_e s.edges; regions = map ren_r s.regions }

  unfoldable ren_p : Plan → Plan
  ren_p pl = record { edge = σ pl.edge; base = ρ pl.base; moved = ρ pl.moved; gain = pl.gain }

  unfoldable pub ren_v : Event → Event
  ren_v v = record { edge = σ v.edge; live = v.live; number = v.number; doubtful = v.doubtful; gain = v.gain; base = map ρ v.base; moved = map ρ v.moved; counts = v.counts }

  choose_ren : (es : List Edge) → choose (map ren_e es) ≡ Option.map ren_e (choose es)
  unfolding choose better ren_e
  choose_ren [] = refl
  choose_ren (e ∷ es) = rw (choose_ren es) (go (choose es))
    where
      go : (o : Option Edge) → better (ren_e e) (Option.map ren_e o) ≡ Option.map ren_e (better e o)
      go none = sym (cond_map (Option.map ren_e) e.live (some e) none)
      go (some f) = sym (cond_map (Option.map ren_e) (e.live && leb f.link.weight e.link.weight) (some e) (some f))

  module _ (ρ_inj : (a b : ℕ) → ρ a ≡ ρ b → a ≡ b) (σ_inj : (a b : ℕ) → σ a ≡ σ b → a ≡ b) where
    size_ren : (rs : List Region) (a : ℕ) → size_of (map ren_r rs) (ρ a) ≡ size_of rs a
    unfolding size_of ren_r
    size_ren [] a = refl
    size_ren (r ∷ rs) a = rw (eqb_renamed ρ ρ_inj a r.node, size_ren rs a) refl

    members_ren : (rs : List Region) (a : ℕ) → members (map ren_r rs) (ρ a) ≡ map ρ (members rs a)
    unfolding members gather ren_r
    members_ren [] a = refl
    members_ren (r ∷ rs) a = rw (eqb_renamed ρ ρ_inj a r.node, members_ren rs a) (sym (cond_map (map ρ) (eqb a r.node) (r.label ∷ members rs a) (members rs a)))

    raised_ren : (k : ℤ) (rs : List Region) (a : ℕ) → raised k (map ren_r rs) (ρ a) ≡ raised k rs a
    unfolding raised gather ren_r
    raised_ren k [] a = refl
    raised_ren k (r ∷ rs) a = rw (eqb_renamed ρ ρ_inj a r.node, raised_ren k rs a) refl

    at_ren : (es : List Edge) (i : ℕ) → at (map ren_e es) (σ i) ≡ Option.map ren_e (at es i)
    unfolding at ren_e
    at_ren [] i = refl
    at_ren (e ∷ es) i = rw (eqb_renamed σ σ_inj i e.num, at_ren es i) (sym (cond_map (Option.map ren_e) (e.live && eqb i e.num) (some e) (at es i)))

    find_ren : (es : List Edge) (x c : ℕ) → find (map ren_e es) (ρ x) (ρ c) ≡ find es x c
    unfolding find ren_e
    find_ren [] x c = refl
    find_ren (e ∷ es) x c = rw (eqb_renamed ρ ρ_inj x e.first, eqb_renamed ρ ρ_inj c e.second, find_ren es x c) refl

    plan_ren : (rs : List Region) (e : Edge) → plan (map ren_r rs) (ren_e e) ≡ ren_p (plan rs e)
    unfolding plan plan_for ren_e ren_p
    plan_ren rs e = rw (size_ren rs e.second, size_ren rs e.first) (go (ltb (size_of rs e.second) (size_of rs e.first)))
      where
        go : (b : Bool) → plan_for b (ren_e e) ≡ ren_p (plan_for b e)
        go true = refl
        go false = refl

    kill_ren : (i : ℕ) (e : Edge) → kill (σ i) (ren_e e) ≡ ren_e (kill i e)
    unfolding kill ren_e
    kill_ren i e = rw (eqb_renamed σ σ_inj i e.num) refl

    adjust_ren : (m : ℕ) (k : ℤ) (e : Edge) → adjust (ρ m) k (ren_e e) ≡ ren_e (adjust m k e)
    unfolding adjust ren_e
    adjust_ren m k e = rw (eqb_renamed ρ ρ_inj m e.first, eqb_renamed ρ ρ_inj m e.second) refl

    turn_ren : (x : ℕ) (e : Edge) → turn (ρ x) (ren_e e) ≡ ren_e (turn x e)
    unfolding turn turn_if ren_e
    turn_ren x e = rw (eqb_renamed ρ ρ_inj x e.second) (go (eqb x e.second))
      where
        go : (b : Bool) → turn_if b (ren_e e) ≡ ren_e (turn_if b e)
        go true = refl
        go false = refl

    prepare_ren : (pl : Plan) (e : Edge) → prepare (ren_p pl) (ren_e e) ≡ ren_e (prepare pl e)
    unfolding prepare ren_p
    prepare_ren pl e = rw (kill_ren, adjust_ren, turn_ren pl.base, turn_ren pl.moved) refl

    combine_ren : (es : List Edge) (b m : ℕ) (e : Edge) → combine (map ren_e es) (ρ b) (ρ m) (ren_e e) ≡ ren_e (combine es b m e)
    unfolding combine absorb hand ren_e
    combine_ren es b m e =
        rw (eqb_renamed ρ ρ_inj b e.first, eqb_renamed ρ ρ_inj m e.first, find_ren es m e.second, find_ren es b e.second)
        (go (eqb b e.first) (eqb m e.first) (find es m e.second) (find es b e.second))
      where
        go : (x y : Bool) (g h : Option Link) → cond x (absorb g (ren_e e)) (cond y (hand (ρ b) h (ren_e e)) (ren_e e)) ≡ ren_e (cond x (absorb g e) (cond y (hand b h e) e))
        go true y none h = refl
        go true y (some g) h = refl
        go false true g h = refl
        go false false g h = refl

    edges_ren : (pl : Plan) (es : List Edge) → merge_edges (ren_p pl) (map ren_e es) ≡ map ren_e (merge_edges pl es)
    unfolding merge_edges join_all ren_p
    edges_ren pl es =
        let fs : List Edge = map (prepare pl) es in
        ap (λ (l : List Edge). map (combine l (ρ pl.base) (ρ pl.moved)) l) (map_swap ren_e (prepare pl) (prepare (ren_p pl)) (prepare_ren pl) es)
        ∙ map_swap ren_e (combine fs pl.base pl.moved) (combine (map ren_e fs) (ρ pl.base) (ρ pl.moved)) (combine_ren fs pl.base pl.moved) fs

    move_ren : (pl : Plan) (r : Region) → move (ren_p pl) (ren_r r) ≡ ren_r (move pl r)
    unfolding move ren_p ren_r
    move_ren pl r = rw (eqb_renamed ρ ρ_inj pl.moved r.node, cond_map ρ (eqb pl.moved r.node) pl.base r.node) refl

    merge_ren : (pl : Plan) (s : State) → merge (ren_p pl) (ren_s s) ≡ ren_s (merge pl s)
    unfolding merge ren_s
    merge_ren pl s = λ i. record { edges = edges_ren pl s.edges i; regions = map_swap ren_r (move pl) (move (ren_p pl)) (move_ren pl) s.regions i }

    pub step_ren : (s : State) (i : ℕ) → step (ren_s s) (σ i) ≡ ren_s (step s i)
    unfolding step step_to ren_s
    step_ren s i = ap (λ (o : Option Edge). step_to o (ren_s s)) (at_ren s.edges i) ∙ go (at s.edges i)
      where
        go : (o : Option Edge) → step_to (Option.map ren_e o) (ren_s s) ≡ ren_s (step_to o s)
        go none = refl
        go (some e) = ap (λ (pl : Plan). merge pl (ren_s s)) (plan_ren s.regions e) ∙ merge_ren (plan s.regions e) s

    pub event_ren : (s : State) (i : ℕ) → event (ren_s s) (σ i) ≡ ren_v (event s i)
    unfolding event event_of ren_s ren_v
    event_ren s i = rw (at_ren s.edges i) (go (at s.edges i))
      where
        go : (o : Option Edge) → event_of (map ren_r s.regions) (σ i) (Option.map ren_e o) ≡ ren_v (event_of s.regions i o)
        go none = refl
        go (some e) = unfold ren_p ren_e in rw (plan_ren s.regions e, members_ren s.regions (plan s.regions e).base, members_ren s.regions (plan s.regions e).moved, raised_ren (plan s.regions e).gain s.regions (plan s.regions e).moved) refl

    pub run_ren : (n : ℕ) (s : State) → run n (ren_s s) ≡ map σ (run n s)
    unfolding run follow ren_s
    run_ren zero s = refl
    run_ren (suc n) s = ap (λ (o : Option Edge). follow o (ren_s s) (run n)) (choose_ren s.edges) ∙ go (choose s.edges) (run_ren n)
      where
        go : (o : Option Edge) → ((t : State) → run n (ren_s t) ≡ map σ (run n t)) → follow (Option.map ren_e o) (ren_s s) (run n) ≡ map σ (follow o s (run n))
        go none ih = refl
        go (some e) ih = unfold ren_e in rw (step_ren s e.num, ih (step s e.num)) refl

    pub merges_ren : (s : State) → merges (ren_s s) ≡ map σ (merges s)
    unfolding merges ren_s
    merges_ren s = ap (λ (n : ℕ). run n (ren_s s)) (length-map s.edges ren_e) ∙ run_ren (length s.edges) s

    pub replay_ren : (l : List ℕ) (s : State) → replay (ren_s s) (map σ l) ≡ ren_s (replay s l)
    unfolding replay
    replay_ren [] s = refl
    replay_ren (i ∷ l) s = ap (λ (t : State). replay t (map σ l)) (step_ren s i) ∙ replay_ren l (step s i)

    pub trace_ren : (l : List ℕ) (s : State) → trace (ren_s s) (map σ l) ≡ map ren_v (trace s l)
    unfolding trace
    trace_ren [] s = refl
    trace_ren (i ∷ l) s = rw (event_ren s i, step_ren s i, trace_ren l (step s i)) refl
