-- Merge lists: where no edge joins the two sides, every order of the merges that keeps each side's own order gives the run's state.
-- Assumes nothing.
use Prim.Native.Nat.{ℕ}
use mathlib.Core.Path.{◌≡◌, refl, sym, ap, ◌∙◌}
use mathlib.Core.Bool.{Bool, not}
use mathlib.Core.List.{List, [], ◌∷◌, map}
use mathlib.Core.Option.{Option, none, some}
use lib.ListN.{length}
use Rattle.lists.specs.Seq.{keep, All}
use Rattle.lists.proofs.AllLaws.{all_keep, all_both}
use Rattle.network.specs.Network.{Edge, Region, State, Plan, plan, at, combine, prepare, join_all, merge_edges, move, merge, step_to, step, choose, merges, trace, replay}
use Rattle.network.proofs.Lists.{keep_both}
use Rattle.network.proofs.Restrict.{edge_in, region_in, restrict, OkE, OkR, Closed, prepare_num, combine_num, event_in, replay_in, trace_in}
use Rattle.network.proofs.Ends.{alive_length, run_ends, run_live, FoundLive}

unfoldable pub other : (ℕ → Bool) → ℕ → Bool
other q i = not (q i)

abbrev nums : State → List ℕ
nums s = map (λ (e : Edge). e.num) s.edges

abbrev labels : State → List ℕ
labels s = map (λ (r : Region). r.label) s.regions

map_kept : {A : Type 0} (k : A → ℕ) (g : A → A) → ((a : A) → k (g a) ≡ k a) → (l : List A) → map k (map g l) ≡ map k l
map_kept k g h [] = refl
map_kept k g h (x ∷ xs) = rw (h x, map_kept k g h xs) refl

step_nums : (s : State) (i : ℕ) → nums (step s i) ≡ nums s
unfolding step step_to merge merge_edges join_all
step_nums s i = go (at s.edges i)
  where
    key : Edge → ℕ
    key e = e.num

    go : (o : Option Edge) → nums (step_to o s) ≡ nums s
    go none = refl
    go (some e) =
        let pl : Plan = plan s.regions e in
        let fs : List Edge = map (prepare pl) s.edges in
        map_kept key (combine fs pl.base pl.moved) (combine_num fs pl.base pl.moved) fs ∙ map_kept key (prepare pl) (prepare_num pl) s.edges

step_labels : (s : State) (i : ℕ) → labels (step s i) ≡ labels s
unfolding step step_to merge move
step_labels s i = go (at s.edges i)
  where
    go : (o : Option Edge) → labels (step_to o s) ≡ labels s
    go none = refl
    go (some e) = map_kept (λ (r : Region). r.label) (move (plan s.regions e)) (λ r. refl) s.regions

replay_nums : (l : List ℕ) (s : State) → nums (replay s l) ≡ nums s
unfolding replay
replay_nums [] s = refl
replay_nums (i ∷ l) s = replay_nums l (step s i) ∙ step_nums s i

replay_labels : (l : List ℕ) (s : State) → labels (replay s l) ≡ labels s
unfolding replay
replay_labels [] s = refl
replay_labels (i ∷ l) s = replay_labels l (step s i) ∙ step_labels s i

module _ (p q : ℕ → Bool) where
  not_edges : (es : List Edge) → All (OkE p q) es → All (OkE (other p) (other q)) es
  unfolding other
  not_edges [] t = tt
  not_edges (e ∷ es) t = ((ap not t.0.0, ap not t.0.1), not_edges es t.1)

  not_regions : (rs : List Region) → All (OkR p q) rs → All (OkR (other p) (other q)) rs
  unfolding other
  not_regions [] t = tt
  not_regions (r ∷ rs) t = (ap not t.0, not_regions rs t.1)

  pub closed_other : (s : State) → Closed p q s → Closed (other p) (other q) s
  closed_other s c = record { edges_ok = not_edges s.edges c.edges_ok; regions_ok = not_regions s.regions c.regions_ok }

  -- Two lists with the same entries on each side, each side in the same order.
  pub record SameSides (l m : List ℕ) : Type 0 where
    pub this_side : keep q l ≡ keep q m
    pub other_side : keep (other q) l ≡ keep (other q) m

  restrict_same : (l m : List ℕ) → keep q l ≡ keep q m → (s : State) → Closed p q s → restrict p q (replay s l) ≡ restrict p q (replay s m)
  restrict_same l m h s c = replay_in p q l s c ∙ ap (replay (restrict p q s)) h ∙ sym (replay_in p q m s c)

  trace_same : (l m : List ℕ) → keep q l ≡ keep q m → (s : State) → Closed p q s → keep (event_in p q) (trace s l) ≡ keep (event_in p q) (trace s m)
  trace_same l m h s c = trace_in p q l s c ∙ ap (trace (restrict p q s)) h ∙ sym (trace_in p q m s c)

module _ (p q : ℕ → Bool) where
  -- The state after a merge list depends only on its two sides.
  replay_same : (l m : List ℕ) → SameSides p q l m → (s : State) → Closed p q s → replay s l ≡ replay s m
  unfolding restrict edge_in region_in other
  replay_same l m h s c =
      let here : restrict p q (replay s l) ≡ restrict p q (replay s m) = restrict_same p q l m h.this_side s c in
      let there : restrict (other p) (other q) (replay s l) ≡ restrict (other p) (other q) (replay s m) = restrict_same (other p) (other q) l m h.other_side s (closed_other p q s c) in
      let es : (replay s l).edges ≡ (replay s m).edges = keep_both (λ e. e.num) q (replay s l).edges (replay s m).edges (replay_nums l s ∙ sym (replay_nums m s)) (ap (λ (t : State). t.edges) here) (ap (λ (t : State). t.edges) there) in
      let rs : (replay s l).regions ≡ (replay s m).regions = keep_both (λ r. r.label) p (replay s l).regions (replay s m).regions (replay_labels l s ∙ sym (replay_labels m s)) (ap (λ (t : State). t.regions) here) (ap (λ (t : State). t.regions) there) in
      λ i. record { edges = es i; regions = rs i }

-- A merge list does what the run does: every entry finds its edge live, with the run's base, moved node and number; the last state is the run's, and has no live edge.
pub record Agrees (p q : ℕ → Bool) (s : State) (l : List ℕ) : Type 0 where
  pub all_live : All FoundLive (trace s l)
  pub this_events : keep (event_in p q) (trace s l) ≡ keep (event_in p q) (trace s (merges s))
  pub other_events : keep (event_in (other p) (other q)) (trace s l) ≡ keep (event_in (other p) (other q)) (trace s (merges s))
  pub same_state : replay s l ≡ replay s (merges s)
  pub none_live : choose (replay s l).edges ≡ none

pub lists_agree : (p q : ℕ → Bool) (s : State) → Closed p q s → (l : List ℕ) → SameSides p q l (merges s) → Agrees p q s l
unfolding merges event_in other
lists_agree p q s c l h =
    let m : List ℕ = merges s in
    let ev : keep (event_in p q) (trace s l) ≡ keep (event_in p q) (trace s m) = trace_same p q l m h.this_side s c in
    let ev' : keep (event_in (other p) (other q)) (trace s l) ≡ keep (event_in (other p) (other q)) (trace s m) = trace_same (other p) (other q) l m h.other_side s (closed_other p q s c) in
    let st : replay s l ≡ replay s m = replay_same p q l m h s c in
    let live : All FoundLive (trace s m) = run_live (length s.edges) s in
    record {
      all_live = all_both FoundLive (event_in p q) (trace s l) (rw ev (all_keep FoundLive (event_in p q) (trace s m) live)) (rw ev' (all_keep FoundLive (event_in (other p) (other q)) (trace s m) live));
      this_events = ev;
      other_events = ev';
      same_state = st;
      none_live = ap (λ (t : State). choose t.edges) st ∙ run_ends (length s.edges) s (alive_length s.edges);
    }
