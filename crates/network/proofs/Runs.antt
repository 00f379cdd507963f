-- `run` over plain values: the merges, the counts and the marks that they leave. Assumes nothing.
use mathlib.Core.Path.{◌≡◌, refl, sym, ap, ◌∙◌, subst}
use mathlib.Core.Logic.{◌⊎◌, inl, inr}
use mathlib.Core.Bool.{Bool, true, false, ◌||◌, cond}
use mathlib.Core.List.{List, [], ◌∷◌, ◌++◌, map, append_assoc, append-nil}
use mathlib.Core.Option.{Option, none, some}
use Prim.Native.Nat.{ℕ, zero, suc, ◌+◌, ◌-◌, ◌≤◌, ◌<◌}
use native.Mathlib.Omega.{arith}
use lib.Ieee.{Float}
use lib.ListN.{length, get_or}
use Rattle.network.specs.Network.{Edge, State, Event, event, step, choose, in_range, marks, marked, follow, run, trace}
use Rattle.merge.specs.Inside.Tables.{Tables, view, HoldsTables}
use Rattle.merge.specs.Inside.Table.{count, mark}
use Rattle.network.specs.Book.{Entry, entry, book}
use Rattle.network.specs.Inside.Log.{Entries, log_in}
use Rattle.network.proofs.LogIs.{entries_none, entries_more}
use Rattle.network.specs.Inside.Net.{region_of}
use Rattle.network.specs.Inside.Rep.{Rep}
use Rattle.network.specs.Inside.Settle.{Done, onward, settle, refused, ran_of, merged_by, turned_by}
use Rattle.network.specs.Inside.TurnIs.{Marking, MergeLeaves, TurnLeaves, TurnIs, gates_in, first_of, Unmarked, EndLeaves, RunLeaves, RanIs, RunIs}
use Rattle.network.specs.declared.network.Turned.{Turned}
use Rattle.network.specs.declared.network.Turned.TheVariants.{Merged, Ended}
use Rattle.std.proofs.Common.{Result, Ok, Err}
use Rattle.merge.specs.declared.merge.MergeRefused.{MergeRefused}
use Rattle.lists.specs.Seq.{upto}

-- a turn from the tables s by the cases of its answer
unfoldable TurnCase : ℕ → ℕ → (ℕ → ℕ) → ℕ → Tables → State → List ℕ → List Float → Result Turned MergeRefused → Type 0
TurnCase m n gates k s t w d (Ok Merged) = (e : Edge) × (choose t.edges ≡ some e) × (in_range (event t e.num) ≡ true) × MergeLeaves m n gates k s t e.num w d
TurnCase m n gates k s t w d (Ok Ended) = (choose t.edges ≡ none) × (view m n w d ≡ s)
TurnCase m n gates k s t w d (Err r) = (e : Edge) × (choose t.edges ≡ some e) × (in_range (event t e.num) ≡ false)

turn_case : (m n : ℕ) (gates : ℕ → ℕ) (k : ℕ) (s : Tables) (t : State) (w : List ℕ) (d : List Float) (r : Result Turned MergeRefused) → TurnIs m n gates k s t w d r → TurnCase m n gates k s t w d r
unfolding TurnCase TurnLeaves turned_by merged_by
turn_case m n gates k s t w d r h = go (choose t.edges) refl h.answer h.leaves
  where
    test : (e : Edge) (b : Bool) → choose t.edges ≡ some e → in_range (event t e.num) ≡ b → r ≡ cond b (Ok Merged) refused → (b ≡ true → MergeLeaves m n gates k s t e.num w d) → TurnCase m n gates k s t w d r
    test e true c i a l = subst (TurnCase m n gates k s t w d) (sym a) (e, c, i, l refl)
    test e false c i a l = subst (TurnCase m n gates k s t w d) (sym a) (e, c, i)

    go : (o : Option Edge) → choose t.edges ≡ o → r ≡ turned_by t o → TurnLeaves m n gates k s t o w d → TurnCase m n gates k s t w d r
    go none c a l = subst (TurnCase m n gates k s t w d) (sym a) (c, l)
    go (some e) c a l = test e (in_range (event t e.num)) c refl a l

-- the events of a run with f turns left
abbrev later : ℕ → State → List Event
later f t = trace t (run f t)

-- the entries of a run with f turns left
abbrev entries_later : ℕ → State → List Entry
entries_later f t = book t (run f t)

-- whether region x is marked in the end, from the tables s of the network t
abbrev AtEnd : ℕ → Tables → State → ℕ → ℕ
AtEnd f s t x = cond (marked (later f t) x) 1 (get_or (s.at mark) x 0)

pub record Running (m n : ℕ) (w₀ : List ℕ) (d₀ : List Float) (w : List ℕ) (d : List Float) (k : ℕ) : Type 0 where
  pub room : HoldsTables m n w d
  pub net : State
  pub rep : Rep m n (gates_in (view m n w₀ d₀)) k (view m n w d) net
  pub left : settle (m - k) net k ≡ settle m (first_of m n (view m n w₀ d₀)) 0
  pub marks : (x : ℕ) → x < n → AtEnd (m - k) (view m n w d) net x ≡ cond (marked (later m (first_of m n (view m n w₀ d₀))) x) 1 0
  pub done : List Entry
  pub entries : Entries (log_in (view m n w d)) k done
  pub book : done ++ entries_later (m - k) net ≡ entries_later m (first_of m n (view m n w₀ d₀))
  pub most : k ≤ m
  pub same_w : length w ≡ length w₀
  pub same_d : length d ≡ length d₀

pub run_start : (m n : ℕ) (w : List ℕ) (d : List Float) → HoldsTables m n w d → Rep m n (gates_in (view m n w d)) 0 (view m n w d) (first_of m n (view m n w d)) → Unmarked n (view m n w d) → Running m n w d w d 0
run_start m n w d r R u = let z : m - 0 ≡ m = omega arith in
    record {
      room = r;
      net = first_of m n (view m n w d);
      rep = R;
      left = ap (λ (x : ℕ). settle x (first_of m n (view m n w d)) 0) z;
      marks = λ x h. ap (λ (f : ℕ). AtEnd f (view m n w d) (first_of m n (view m n w d)) x) z ∙ ap (λ (y : ℕ). cond (marked (later m (first_of m n (view m n w d))) x) 1 y) (u x h);
      done = [];
      entries = entries_none (log_in (view m n w d));
      book = ap (λ (f : ℕ). entries_later f (first_of m n (view m n w d))) z;
      most = omega arith;
      same_w = refl;
      same_d = refl;
    }

-- a merge more
at_end_step : (f : ℕ) (s u : Tables) (t : State) (e : Edge) (n x : ℕ) → x < n → choose t.edges ≡ some e → Marking n (event t e.num) s u → AtEnd f u (step t e.num) x ≡ AtEnd (suc f) s t x
unfolding run follow trace marked
at_end_step f s u t e n x h c k = rw (c, k x h) (go (marks (event t e.num) x) (marked (later f (step t e.num)) x))
  where
    go : (a b : Bool) → cond b 1 (cond a 1 (get_or (s.at mark) x 0)) ≡ cond (a || b) 1 (get_or (s.at mark) x 0)
    go true true = refl
    go true false = refl
    go false b = refl

-- no merge more
at_end_last : (f : ℕ) (s : Tables) (t : State) (x : ℕ) → (f ≡ 0) ⊎ (choose t.edges ≡ none) → AtEnd f s t x ≡ get_or (s.at mark) x 0
unfolding run follow trace marked
at_end_last zero s t x h = refl
at_end_last (suc f) s t x (inl h) = absurd (omega arith)
at_end_last (suc f) s t x (inr h) = rw h refl

-- the entries when a merge more is done, and when none is
entries_step : (f : ℕ) (vs : List Entry) (t : State) (e : Edge) → choose t.edges ≡ some e → (vs ++ (entry t e.num ∷ [])) ++ entries_later f (step t e.num) ≡ vs ++ entries_later (suc f) t
unfolding run follow book
entries_step f vs t e c = append_assoc vs (entry t e.num ∷ []) (entries_later f (step t e.num)) ∙ (rw c refl)

entries_last : (f : ℕ) (vs : List Entry) (t : State) → (f ≡ 0) ⊎ (choose t.edges ≡ none) → vs ++ entries_later f t ≡ vs
unfolding run follow book
entries_last zero vs t h = append-nil vs
entries_last (suc f) vs t (inl h) = absurd (omega arith)
entries_last (suc f) vs t (inr h) = rw h (append-nil vs)

module _ (m n : ℕ) (w₀ : List ℕ) (d₀ : List Float) (w : List ℕ) (d : List Float) (k : ℕ) (I : Running m n w₀ d₀ w d k) where
  abbrev gates : ℕ → ℕ
  gates = gates_in (view m n w₀ d₀)

  abbrev t₀ : State
  t₀ = first_of m n (view m n w₀ d₀)

  finished : settle m t₀ 0 ≡ some (record { last = I.net; merges = k }) → ((m - k ≡ 0) ⊎ (choose I.net.edges ≡ none)) → (w' : List ℕ) (d' : List Float) → view m n w' d' ≡ view m n w d → RunIs m n gates t₀ w' d' (Ok k)
  unfolding RunLeaves ran_of
  finished e o w' d' q = subst (λ (o : Option Done). RanIs m n gates (later m t₀) (entries_later m t₀) o w' d' (Ok k)) (sym e) (record { answer = refl; leaves = left })
    where
      left : EndLeaves m n gates (later m t₀) (entries_later m t₀) (record { last = I.net; merges = k }) w' d'
      left = record {
        node = I.rep.node;
        regions = subst (λ (u : Tables). I.net.regions ≡ map (region_of gates I.rep.node u) (upto n 0)) (sym q) I.rep.regions;
        most = λ j h. subst (λ (u : Tables). get_or (u.at count) j 0 ≤ 2000) (sym q) (omega (arith, I.rep.sound.within count j h));
        marks = λ j h. ap (λ (u : Tables). get_or (u.at mark) j 0) q ∙ sym (at_end_last (m - k) (view m n w d) I.net j o) ∙ I.marks j h;
        entries = subst (λ (u : Tables). Entries (log_in u) k (entries_later m t₀)) (sym q) (subst (Entries (log_in (view m n w d)) k) (sym (entries_last (m - k) I.done I.net o) ∙ I.book) I.entries);
      }

  pub run_out : m ≤ k → RunIs m n gates t₀ w d (Ok k)
  unfolding settle
  run_out h = let z : m - k ≡ 0 = omega arith in finished (sym I.left ∙ ap (λ (x : ℕ). settle x I.net k) z) (inl z) w d refl

  module _ (lt : k < m) (w' : List ℕ) (d' : List Float) (lw : length w' ≡ length w) (ld : length d' ≡ length d) where
    abbrev s : Tables
    s = view m n w d

    more : m - k ≡ suc (m - (k + 1))
    more = omega arith

    step_is : settle m t₀ 0 ≡ onward (choose I.net.edges) I.net k (settle (m - (k + 1)))
    unfolding settle
    step_is = sym I.left ∙ ap (λ (x : ℕ). settle x I.net k) more

    pub run_merged : (r : Result Turned MergeRefused) → r ≡ Ok Merged → TurnIs m n gates k s I.net w' d' r → Running m n w₀ d₀ w' d' (k + 1)
    unfolding TurnCase onward
    run_merged r e h =
        let u : (f : Edge) × (choose I.net.edges ≡ some f) × (in_range (event I.net f.num) ≡ true) × MergeLeaves m n gates k s I.net f.num w' d' = subst (TurnCase m n gates k s I.net w' d') e (turn_case m n gates k s I.net w' d' r h) in
        let z : k + 1 ≡ suc k = omega arith in
        record {
          room = record { words = omega (arith, I.room.words); diffs = omega (arith, I.room.diffs); small = I.room.small; tree = u.3.tree };
          net = step I.net u.0.num;
          rep = u.3.rep;
          left = ap (settle (m - (k + 1)) (step I.net u.0.num)) z
              ∙ sym (step_is ∙ ap (λ (o : Option Edge). onward o I.net k (settle (m - (k + 1)))) u.1 ∙ ap (λ (x : Bool). cond x (settle (m - (k + 1)) (step I.net u.0.num) (suc k)) none) u.2);
          marks = λ x h. at_end_step (m - (k + 1)) s (view m n w' d') I.net u.0 n x h u.1 u.3.marking ∙ ap (λ (f : ℕ). AtEnd f s I.net x) (sym more) ∙ I.marks x h;
          done = I.done ++ (entry I.net u.0.num ∷ []);
          entries = entries_more s (view m n w' d') k I.done (entry I.net u.0.num) I.entries u.3.logging;
          book = entries_step (m - (k + 1)) I.done I.net u.0 u.1 ∙ ap (λ (f : ℕ). I.done ++ entries_later f I.net) (sym more) ∙ I.book;
          most = omega arith;
          same_w = lw ∙ I.same_w;
          same_d = ld ∙ I.same_d;
        }

    pub run_refused : (r : Result Turned MergeRefused) → r ≡ refused → TurnIs m n gates k s I.net w' d' r → RunIs m n gates t₀ w' d' refused
    unfolding TurnCase onward RunLeaves ran_of
    run_refused r e h =
        let u : (f : Edge) × (choose I.net.edges ≡ some f) × (in_range (event I.net f.num) ≡ false) = subst (TurnCase m n gates k s I.net w' d') e (turn_case m n gates k s I.net w' d' r h) in
        let no : settle m t₀ 0 ≡ none = step_is ∙ ap (λ (o : Option Edge). onward o I.net k (settle (m - (k + 1)))) u.1 ∙ ap (λ (x : Bool). cond x (settle (m - (k + 1)) (step I.net u.0.num) (suc k)) none) u.2 in
        subst (λ (o : Option Done). RanIs m n gates (later m t₀) (entries_later m t₀) o w' d' refused) (sym no) (record { answer = refl; leaves = tt })

    pub run_ended : (r : Result Turned MergeRefused) → r ≡ Ok Ended → TurnIs m n gates k s I.net w' d' r → RunIs m n gates t₀ w' d' (Ok k)
    unfolding TurnCase onward
    run_ended r e h =
        let u : (choose I.net.edges ≡ none) × (view m n w' d' ≡ s) = subst (TurnCase m n gates k s I.net w' d') e (turn_case m n gates k s I.net w' d' r h) in
        finished (step_is ∙ ap (λ (o : Option Edge). onward o I.net k (settle (m - (k + 1)))) u.0) (inr u.0) w' d' u.1
