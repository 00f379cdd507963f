-- For an echo apart from the rest every merge list does what the sweep's own run does. Assumes nothing.
use Prim.Native.Nat.{ℕ, ◌<◌}
use native.Mathlib.Omega.{arith}
use mathlib.Core.Path.{◌≡◌, refl, sym, ap, ◌∙◌}
use mathlib.Core.Bool.{Bool, true, false, cond, not, ◌&&◌, ◌||◌}
use mathlib.Core.Logic.{inl, inr}
use mathlib.Core.List.{List, [], ◌∷◌, map}
use mathlib.Core.Option.{none, some, none-ne-some, Option}
use lib.ListN.{length, get_or}
use lib.Ieee.{Float}
use lib.Dec.{eqb, leb}
use borrow.Author.Tests.{eqb-true, ne_eqb}
use Rattle.lists.specs.Seq.{upto, all, keep, All, Member}
use Rattle.arithmetic.specs.Intervals.{two_nyquist}
use Rattle.lists.proofs.SeqLaws.{eqb_refl}
use Rattle.labels.specs.Label.{Found}
use Rattle.locality.proofs.Spot.{flag}
use Rattle.locality.proofs.RootsEcho.{at, at_less}
use Rattle.lists.proofs.AllLaws.{all_both, all_weaker, all_true, all_false}
use Rattle.edges.specs.declared.edges.EdgeRecord.{EdgeRecord}
use Rattle.edges.specs.Edges.{used, pairs}
use Rattle.network.specs.Network.{State, Event, merges, mark_of, replay, trace, choose, Edge, step, better, event, network_by}
use Rattle.network.proofs.Ends.{FoundLive}
use Rattle.network.proofs.Restrict.{event_in, event_edge}
use Rattle.locality.proofs.Locality.{other, SameSides, Agrees}
use Rattle.locality.proofs.EdgesEcho.{used_all, record_in}
use Rattle.locality.proofs.PairsEcho.{flag_side, pairs_sides}
use Rattle.locality.proofs.StartEcho.{edge_side, every_merge_list}
use Rattle.locality.proofs.Once.{Distinct, merges_once}
use Rattle.sweep.specs.Sweep.{Sweep, regions_of, pairs_of, sizes, network_of, final, unfolded}
use Rattle.locality.specs.Demand3.{lies_in, both_in, echoes, MergeList, turn_at, count_at, mark_at, Does}
use Rattle.locality.proofs.Echo.{ApartBy, only, flags, labels_follow}
use Rattle.locality.proofs.GateCounts.{call_merges, off_counts}
use Rattle.locality.proofs.MarksEcho.{sides_mark}
use Rattle.locality.proofs.GateMarks.{gate_marks}

-- a gate's region lies on the gate's side, where gates of one label do
lies : (E p : ℕ → Bool) (labels : List ℕ) → ((g : ℕ) → 0 < at labels g → p (at labels g) ≡ E g) → (g : ℕ) → 0 < at labels g → lies_in E labels (at labels g) ≡ E g
unfolding lies_in
lies E p labels side g h = go (E g) refl
  where
    test : ℕ → Bool
    test i = not (eqb (at labels i) (at labels g)) || E i

    each : E g ≡ true → (i : ℕ) (b : Bool) → eqb (at labels i) (at labels g) ≡ b → (not b || E i) ≡ true
    each e i true w =
        let v : at labels i ≡ at labels g = eqb-true (at labels i) (at labels g) w in
        sym (side i (omega arith)) ∙ ap p v ∙ side g h ∙ e
    each e i false w = refl

    go : (e : Bool) → E g ≡ e → all test (upto (length labels) 0) ≡ e
    go true e = all_true test (upto (length labels) 0) (λ i. each e i (eqb (at labels i) (at labels g)) refl)
    go false e = all_false test (length labels) 0 g (omega arith) (omega (arith, at_less labels g h)) (rw (eqb_refl (at labels g)) e)

-- ---- the turn at an edge

-- an event's edge is in the list
later : (l : List ℕ) (n : State) (v : Event) (i : ℕ) → All (λ j. i ≡ j → ⊥) l → Member v (trace n l) → i ≡ v.edge → ⊥
unfolding trace
later [] n v i t a h = a
later (j ∷ l) n v i t (inl e) h = t.0 (h ∙ ap (λ (x : Event). x.edge) (sym e) ∙ event_edge (λ m. true) (λ m. true) n j)
later (j ∷ l) n v i t (inr a) h = later l (step n j) v i t.1 a h

-- an event of a trace whose edges are distinct is the turn at its edge
mem_turn : (l : List ℕ) (n : State) (v : Event) → Distinct l → Member v (trace n l) → turn_at (trace n l) v.edge ≡ some v
unfolding trace turn_at
mem_turn [] n v t a = absurd a
mem_turn (j ∷ l) n v t (inl e) = rw e (rw (eqb_refl v.edge) refl)
mem_turn (j ∷ l) n v t (inr a) =
    let w : eqb v.edge (event n j).edge ≡ false = ne_eqb v.edge (event n j).edge (λ h. later l (step n j) v j t.0 a (sym (h ∙ event_edge (λ m. true) (λ m. true) n j))) in
    rw w (mem_turn l (step n j) v t.1 a)

-- where each event of a trace is its edge's turn in a run, the trace is the turns of its edges
turns : (vs : List Event) (l : List ℕ) (n : State) → All (λ v. turn_at vs v.edge ≡ some v) (trace n l) → map some (trace n l) ≡ map (turn_at vs) l
unfolding trace
turns vs [] n t = refl
turns vs (i ∷ l) n t =
    let here : some (event n i) ≡ turn_at vs i = sym t.0 ∙ ap (turn_at vs) (event_edge (λ m. true) (λ m. true) n i) in
    rw (here, turns vs l (step n i) t.1) refl

mem_keep : (f : Event → Bool) (l m : List Event) → ((v : Event) → Member v l → Member v m) → All (λ v. Member v m) (keep f l)
unfolding keep
mem_keep f [] m h = tt
mem_keep f (x ∷ l) m h = go (f x) (mem_keep f l m (λ v w. h v (inr w)))
  where
    go : (b : Bool) → All (λ v. Member v m) (keep f l) → All (λ v. Member v m) (cond b (x ∷ keep f l) (keep f l))
    go true t = (h x (inl refl), t)
    go false t = t

-- ---- the other parts, in the statement's words

all_live : (vs : List Event) → All FoundLive vs → all (λ v. v.live) vs ≡ true
unfolding all
all_live [] t = refl
all_live (v ∷ vs) t = rw t.0 (all_live vs t.1)

-- where there is none to choose no edge is live
none_live : (es : List Edge) → choose es ≡ none → keep (λ e. e.live) es ≡ []
unfolding choose better keep
none_live [] h = refl
none_live (e ∷ es) h = go (choose es) refl h (none_live es)
  where
    one : (b : Bool) → e.live ≡ b → cond b (some e) none ≡ none → keep (λ e. e.live) es ≡ [] → keep (λ e. e.live) (e ∷ es) ≡ []
    one true w h ih = absurd (none-ne-some e (sym h))
    one false w h ih = rw w ih

    more : (f : Edge) (b : Bool) → cond b (some e) (some f) ≡ none → ⊥
    more f true h = none-ne-some e (sym h)
    more f false h = none-ne-some f (sym h)

    go : (o : Option Edge) → choose es ≡ o → better e o ≡ none → (choose es ≡ none → keep (λ e. e.live) es ≡ []) → keep (λ e. e.live) (e ∷ es) ≡ []
    go none w h ih = one e.live refl h (ih w)
    go (some f) w h ih = absurd (more f (e.live && leb f.link.weight e.link.weight) h)

-- ---- every merge list

module _ (E : ℕ → Bool) (s : Sweep) (limits : List Float) (A : ApartBy E s limits) where
  abbrev f : Found
  f = regions_of s limits

  abbrev rs : List EdgeRecord
  rs = used f.number (pairs_of s f)

  abbrev p : ℕ → Bool
  p = lies_in E f.labels

  abbrev q : ℕ → Bool
  q = edge_side p rs

  label_side : (g : ℕ) → 0 < at f.labels g → p (at f.labels g) ≡ E g
  label_side g h = lies E (flag (flags E s limits)) f.labels (flag_side E s.shape (flags E s limits) f (regions_of (only E s) limits) (labels_follow E s limits A) A) g h

  agrees : (l : List ℕ) → SameSides p q l (merges (network_of s f)) → Agrees p q (network_of s f) l
  unfolding network_of network_by pairs_of sizes
  agrees l h = every_merge_list p (two_nyquist s.nyquist) (used f.number (pairs s.shape f.labels s.vel)) (sizes f)
      (used_all (λ a b. p a ≡ p b) f.number (pairs s.shape f.labels s.vel) (pairs_sides E s.shape f.labels s.vel p A label_side)) l h

  -- the events of the run itself
  abbrev own : List Event
  own = trace (network_of s f) (merges (network_of s f))

  among : (l : List ℕ) → Agrees p q (network_of s f) l → All (λ v. Member v own) (trace (network_of s f) l)
  unfolding event_in other
  among l a = all_both (λ v. Member v own) (event_in p q) (trace (network_of s f) l)
      (rw a.this_events (mem_keep (event_in p q) own own (λ v w. w)))
      (rw a.other_events (mem_keep (event_in (other p) (other q)) own own (λ v w. w)))

  alike : (l : List ℕ) → Agrees p q (network_of s f) l → map some (trace (network_of s f) l) ≡ map (turn_at own) l
  alike l a = turns own l (network_of s f)
      (all_weaker (λ v. Member v own) (λ v. turn_at own v.edge ≡ some v) (λ v w. mem_turn (merges (network_of s f)) (network_of s f) v (merges_once (network_of s f)) w) (trace (network_of s f) l) (among l a))

  marks_same : (l : List ℕ) → Agrees p q (network_of s f) l → (g : ℕ) → mark_at s limits (trace (network_of s f) l) g ≡ get_or (unfolded s limits).doubtful g 0
  unfolding mark_at event_in other
  marks_same l a g =
      sides_mark (event_in p q) (trace (network_of s f) l) own a.this_events a.other_events (at f.labels g)
      ∙ sym (gate_marks s limits g ∙ ap (λ (k : List ℕ). mark_of (trace (network_of s f) k) (at f.labels g)) (call_merges s limits))

  sides : (l : List ℕ) → MergeList E s limits l → SameSides p q l (merges (network_of s f))
  unfolding echoes both_in edge_side record_in other
  sides l m = record { this_side = m.echo ∙ ap (keep q) (call_merges s limits); other_side = m.rest ∙ ap (keep (other q)) (call_merges s limits) }

  -- one claim over all merge lists
  pub every_list : (l : List ℕ) → MergeList E s limits l → Does s limits l
  every_list l m =
      let a : Agrees p q (network_of s f) l = agrees l (sides l m) in
      record {
        live = all_live (trace (network_of s f) l) a.all_live;
        alike = rw (call_merges s limits) (alike l a);
        ended = none_live (replay (network_of s f) l).edges a.none_live;
        counts = λ g. ap (λ (n : State). count_at s limits n g) a.same_state ∙ (unfold final in off_counts s limits g);
        marks = marks_same l a;
      }
