-- The tables hold a region 0 that no edge meets, for the gates without a region: without it the run of the tables is that of the
-- definition's network. Assumes nothing.
use Prim.Native.Nat.{ℕ, zero, suc, ◌+◌, ◌≤◌, ◌<◌}
use native.Mathlib.Omega.{arith}
use native.Mathlib.Numerals.{add-one}
use mathlib.Core.Path.{◌≡◌, refl, sym, ap, ◌∙◌, subst}
use mathlib.Core.Bool.{Bool, true, false, not, ◌&&◌, cond}
use mathlib.Core.List.{List, [], ◌∷◌, map}
use mathlib.Core.Option.{Option, none, some}
use lib.Dec.{eqb}
use lib.IntN.{pos}
use lib.ListN.{length, get_or}
use lib.Ieee.{Float}
use borrow.Author.Tests.{ne_eqb, eqb-true}
use Rattle.lists.proofs.AllLaws.{keep_all, all_upto}
use Rattle.lists.proofs.SeqLaws.{map-upto-length, keep_every}
use Rattle.lists.specs.Seq.{All, upto, keep, all}
use Rattle.edges.specs.Edges.{used}
use Rattle.edges.specs.declared.edges.Pair.{Pair}
use Rattle.network.specs.Network.{Region, State, Event, alone, start, size_in, merges, run, trace, replay, in_range, count_of, marked, mark_of}
use Rattle.network.specs.Book.{Entry, book}
use Rattle.network.specs.Inside.Log.{Entries, log_in}
use Rattle.merge.specs.Inside.Tables.{Tables, view}
use Rattle.merge.specs.Inside.Table.{count, mark, first, second}
use Rattle.merge.specs.Inside.Steps.{unbias}
use Rattle.network.specs.Inside.Net.{edge_of, region_of}
use Rattle.network.specs.Inside.Settle.{Done, settle, outcome, ran_of}
use Rattle.network.specs.Inside.TurnIs.{gates_in, RunLeaves, RanIs}
use Rattle.network.specs.Inside.Begin.{raw_region, raw_net, AllIs}
use Rattle.std.proofs.Common.{Result, Ok}
use Rattle.merge.specs.declared.merge.MergeRefused.{MergeRefused}
use Rattle.network.proofs.Restrict.{edge_in, region_in, restrict, OkE, OkR, Closed, event_in, trace_in, book_in}
use Rattle.network.proofs.Own.{merges_in, final_in}
use Rattle.network.proofs.Settles.{run_most, settle_run}
use Rattle.network.proofs.Joint.{Filled, good, first_of, second_of, edges_are, region, regions_are}

-- the count of region l
count_upto : (f : ℕ → Region) (k n l : ℕ) → ((i : ℕ) → (f i).label ≡ i) → k ≤ l → l < k + n → count_of (map f (upto n k)) l ≡ (f l).count
unfolding count_of upto
count_upto f k zero l h a b = absurd (omega arith)
count_upto f k (suc n) l h a b = go (eqb l (f k).label) refl (λ c. count_upto f (suc k) n l h c (omega arith))
  where
    go : (t : Bool) → eqb l (f k).label ≡ t → (suc k ≤ l → count_of (map f (upto n (suc k))) l ≡ (f l).count) → cond t (f k).count (count_of (map f (upto n (suc k))) l) ≡ (f l).count
    go true e ih = ap (λ (i : ℕ). (f i).count) (sym (eqb-true l (f k).label e ∙ h k))
    go false e ih = ih (omega (arith, borrow.Author.Tests.eqb-false l (f k).label e, h k))

-- ---- on the side of region 0 lies nothing else

abbrev some_label : ℕ → Bool
some_label l = not (eqb l 0)

abbrev any_edge : ℕ → Bool
any_edge i = true

label_ok : (l : ℕ) → 0 < l → not (eqb l 0) ≡ true
label_ok l h = ap (λ (b : Bool). not b) (ne_eqb l 0 (λ e. omega arith))

module _ (two_nyquist : Float) (k m : ℕ) (L : List ℕ) (ps : List Pair) (s : Tables) (F : Filled two_nyquist k m L (used k ps) s) where
  tables : State
  tables = raw_net m (k + 1) s

  unfoldable pub network : State
  network = start two_nyquist (used k ps) (map (size_in L) (upto k 1))

  edges_ok : All (OkE some_label any_edge) (map (edge_of s) (upto m 0))
  edges_ok = all_upto (OkE some_label any_edge) (edge_of s) 0 m (λ j a b.
      let h : j < m = omega arith in
      let g = good two_nyquist k m L ps s F j h in
      unfold edge_of in (label_ok (get_or (s.at first) j 0) (omega (arith, first_of two_nyquist k m L ps s F j h, g.low, g.less)), label_ok (get_or (s.at second) j 0) (omega (arith, second_of two_nyquist k m L ps s F j h, g.low))))

  closed : Closed some_label any_edge tables
  unfolding tables raw_net
  closed = record {
    edges_ok = edges_ok;
    regions_ok = all_upto (OkR some_label any_edge) (raw_region s) 0 (k + 1) (λ i a b. unfold raw_region in refl);
  }

  regions_from_lem : (i n : ℕ) → map (region two_nyquist k m L ps s F) (upto n i) ≡ alone i (map (size_in L) (upto n i))
  unfolding upto alone region
  regions_from_lem i zero = refl
  regions_from_lem i (suc n) = ap (λ (l : List Region). record { label = i; size = size_in L i; node = i; count = pos 0 } ∷ l) (regions_from_lem (suc i) n)

  restricted : restrict some_label any_edge tables ≡ network
  unfolding restrict tables raw_net network start
  restricted = λ i. record { edges = es i; regions = rs i }
    where
      es : keep (edge_in some_label any_edge) (map (edge_of s) (upto m 0)) ≡ Rattle.network.specs.Network.numbered two_nyquist 0 (used k ps)
      es = keep_every (edge_in some_label any_edge) (map (edge_of s) (upto m 0)) (λ e. unfold edge_in in refl) ∙ edges_are two_nyquist k m L ps s F

      named : (i : ℕ) → 1 ≤ i → region_in some_label any_edge (region two_nyquist k m L ps s F i) ≡ true
      named i h = unfold region_in region in label_ok i h

      without_0 : keep (region_in some_label any_edge) (map (region two_nyquist k m L ps s F) (upto (suc k) 0)) ≡ keep (region_in some_label any_edge) (map (region two_nyquist k m L ps s F) (upto k 1))
      without_0 = unfold upto keep region region_in in refl

      rs : keep (region_in some_label any_edge) (map (raw_region s) (upto (k + 1) 0)) ≡ alone 1 (map (size_in L) (upto k 1))
      rs =
          ap (keep (region_in some_label any_edge)) (regions_are two_nyquist k m L ps s F ∙ ap (λ (x : ℕ). map (region two_nyquist k m L ps s F) (upto x 0)) (add-one k))
          ∙ without_0
          ∙ keep_all (region_in some_label any_edge) (map (region two_nyquist k m L ps s F) (upto k 1)) (all_upto (λ r. region_in some_label any_edge r ≡ true) (region two_nyquist k m L ps s F) 1 k (λ i a b. named i a))
          ∙ regions_from_lem 1 k

  -- ---- so the two runs are one

  merges_are : merges tables ≡ merges network
  merges_are = sym (keep_every any_edge (merges tables) (λ i. refl)) ∙ merges_in some_label any_edge tables closed ∙ ap merges restricted

  trace_is : trace tables (merges tables) ≡ trace network (merges network)
  trace_is =
      sym (keep_every (event_in some_label any_edge) (trace tables (merges tables)) (λ v. unfold event_in in refl))
      ∙ trace_in some_label any_edge (merges tables) tables closed
      ∙ ap (trace (restrict some_label any_edge tables)) (keep_every any_edge (merges tables) (λ i. refl) ∙ merges_are)
      ∙ ap (λ (t : State). trace t (merges network)) restricted

  final_is : restrict some_label any_edge (replay tables (merges tables)) ≡ replay network (merges network)
  final_is = final_in some_label any_edge tables closed ∙ ap (λ (t : State). replay t (merges t)) restricted

  none_0 : (rs : List Region) → count_of (keep (region_in some_label any_edge) rs) 0 ≡ pos 0
  unfolding count_of keep region_in
  none_0 [] = refl
  none_0 (r ∷ rs) = go (eqb r.label 0) refl (none_0 rs)
    where
      go : (b : Bool) → eqb r.label 0 ≡ b → count_of (keep (λ r. not (eqb r.label 0)) rs) 0 ≡ pos 0 → count_of (cond (not b) (r ∷ keep (λ r. not (eqb r.label 0)) rs) (keep (λ r. not (eqb r.label 0)) rs)) 0 ≡ pos 0
      go true e ih = ih
      go false e ih = rw (ne_eqb 0 r.label (λ z. borrow.Author.Tests.eqb-false r.label 0 e (sym z))) ih

  -- no region has label 0
  pub no_region_0 : count_of (replay network (merges network)).regions 0 ≡ pos 0
  no_region_0 = ap (λ (t : State). count_of t.regions 0) (sym final_is) ∙ side
    where
      side : count_of (restrict some_label any_edge (replay tables (merges tables))).regions 0 ≡ pos 0
      side = unfold restrict in none_0 (replay tables (merges tables)).regions

  edge_number_lem : length tables.edges ≡ m
  edge_number_lem = unfold tables raw_net in map-upto-length (edge_of s) m 0

  run_is : trace tables (run m tables) ≡ trace network (merges network)
  unfolding merges
  run_is = ap (λ (x : ℕ). trace tables (run x tables)) (sym edge_number_lem) ∙ trace_is

  pub few_edges : length (merges network) ≤ m
  unfolding merges
  few_edges = omega (arith, ap length merges_are, run_most (length tables.edges) tables, edge_number_lem)

  book_is : book tables (run m tables) ≡ book network (merges network)
  unfolding merges
  book_is =
      ap (λ (x : ℕ). book tables (run x tables)) (sym edge_number_lem)
      ∙ book_in some_label any_edge (λ i. refl) (merges tables) tables closed
      ∙ ap (λ (t : State). book t (merges tables)) restricted
      ∙ ap (book network) merges_are

  -- the tables' run, said of the definition's network
  unfoldable ending : Bool → Option Done
  ending b = cond b (some (record { last = replay tables (merges tables); merges = length (merges network) })) none

  settle_is : settle m tables 0 ≡ ending (all in_range (trace network (merges network)))
  unfolding outcome ending merges
  settle_is =
      settle_run m tables 0
      ∙ ap (λ (x : ℕ). outcome tables (run x tables) 0) (sym edge_number_lem)
      ∙ ap (λ (t : List Event). cond (all in_range t) (some (record { last = replay tables (merges tables); merges = 0 + length (merges tables) })) none) trace_is
      ∙ ap (λ (x : ℕ). cond (all in_range (trace network (merges network))) (some (record { last = replay tables (merges tables); merges = x })) none) (omega (arith, ap length merges_are))

  -- ---- what the run of the tables leaves

  pub record Left (w : List ℕ) (d : List Float) : Type 0 where
    pub counts : (l : ℕ) → 1 ≤ l → l ≤ k → unbias (get_or ((view m (k + 1) w d).at count) l 0) ≡ count_of (replay network (merges network)).regions l
    pub most : (l : ℕ) → l ≤ k → get_or ((view m (k + 1) w d).at count) l 0 ≤ 2000
    pub marks : (l : ℕ) → 1 ≤ l → l ≤ k → get_or ((view m (k + 1) w d).at mark) l 0 ≡ mark_of (trace network (merges network)) l
    pub entries : Entries (log_in (view m (k + 1) w d)) (length (merges network)) (book network (merges network))

  module _ (w : List ℕ) (d : List Float) (r : Result ℕ MergeRefused) (h : AllIs m (k + 1) s w d r) where
    ran : (b : Bool) → all in_range (trace network (merges network)) ≡ b → RanIs m (k + 1) (gates_in s) (trace network (merges network)) (book network (merges network)) (ending b) w d r
    unfolding AllIs tables
    ran b e = subst (λ (o : Option Done). RanIs m (k + 1) (gates_in s) (trace network (merges network)) (book network (merges network)) o w d r) (settle_is ∙ ap ending e)
        (subst (λ (bs : List Entry). RanIs m (k + 1) (gates_in s) (trace network (merges network)) bs (settle m tables 0) w d r) book_is
        (subst (λ (vs : List Event). RanIs m (k + 1) (gates_in s) vs (book tables (run m tables)) (settle m tables 0) w d r) run_is h))

    pub answer : r ≡ ran_of (outcome network (merges network) 0)
    unfolding AllIs tables outcome
    answer = h.answer ∙ ap ran_of settle_is ∙ go (all in_range (trace network (merges network)))
      where
        go : (b : Bool) → ran_of (ending b) ≡ ran_of (cond b (some (record { last = replay network (merges network); merges = 0 + length (merges network) })) none)
        go true = unfold ending ran_of in ap Ok (omega arith)
        go false = unfold ending ran_of in refl

    named : (node : ℕ → ℕ) (i : ℕ) → 1 ≤ i → region_in some_label any_edge (region_of (gates_in s) node (view m (k + 1) w d) i) ≡ true
    unfolding region_in region_of
    named node i a = label_ok i a

    without : (node : ℕ → ℕ) → keep (region_in some_label any_edge) (map (region_of (gates_in s) node (view m (k + 1) w d)) (upto (suc k) 0)) ≡ keep (region_in some_label any_edge) (map (region_of (gates_in s) node (view m (k + 1) w d)) (upto k 1))
    unfolding upto keep region_in region_of
    without node = refl

    last_regions : (node : ℕ → ℕ) → (replay tables (merges tables)).regions ≡ map (region_of (gates_in s) node (view m (k + 1) w d)) (upto (k + 1) 0)
        → (replay network (merges network)).regions ≡ map (region_of (gates_in s) node (view m (k + 1) w d)) (upto k 1)
    last_regions node e =
        sym (ap (λ (t : State). t.regions) final_is)
        ∙ side
        ∙ without node
        ∙ keep_all (region_in some_label any_edge) (map (region_of (gates_in s) node (view m (k + 1) w d)) (upto k 1)) (all_upto (λ r. region_in some_label any_edge r ≡ true) (region_of (gates_in s) node (view m (k + 1) w d)) 1 k (λ i a b. named node i a))
      where
        side : (restrict some_label any_edge (replay tables (merges tables))).regions ≡ keep (region_in some_label any_edge) (map (region_of (gates_in s) node (view m (k + 1) w d)) (upto (suc k) 0))
        side = unfold restrict in ap (keep (region_in some_label any_edge)) (e ∙ ap (λ (x : ℕ). map (region_of (gates_in s) node (view m (k + 1) w d)) (upto x 0)) (add-one k))

    count_of_lem : (node : ℕ → ℕ) (l : ℕ) → (region_of (gates_in s) node (view m (k + 1) w d) l).count ≡ unbias (get_or ((view m (k + 1) w d).at count) l 0)
    unfolding region_of
    count_of_lem node l = refl

    mark_of_lem : (l : ℕ) → 1 ≤ l → cond (marked (trace network (merges network)) l) 1 0 ≡ mark_of (trace network (merges network)) l
    unfolding mark_of
    mark_of_lem l a = ap (λ (b : Bool). cond (b && marked (trace network (merges network)) l) 1 0) (sym (label_ok l a))

    pub left : all in_range (trace network (merges network)) ≡ true → Left w d
    unfolding RunLeaves ending
    left e =
        let R = (ran true e).leaves in
        record {
          counts = λ l a b.
              sym (ap (λ (x : List Region). count_of x l) (last_regions R.node R.regions)
              ∙ count_upto (region_of (gates_in s) R.node (view m (k + 1) w d)) 1 k l (λ i. unfold region_of in refl) a (omega arith)
              ∙ count_of_lem R.node l);
          most = λ l b. R.most l (omega arith);
          marks = λ l a b. R.marks l (omega arith) ∙ mark_of_lem l a;
          entries = R.entries;
        }
