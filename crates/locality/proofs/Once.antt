-- The run takes no edge twice, so an edge of the run has one turn. Assumes nothing.
use Prim.Native.Nat.{ℕ, zero, suc}
use mathlib.Core.Path.{◌≡◌, refl, sym, ap, ◌∙◌}
use mathlib.Core.Bool.{Bool, true, false, not, ◌&&◌, cond, true≢false}
use mathlib.Core.List.{List, [], ◌∷◌, map}
use mathlib.Core.Option.{Option, none, some, none-ne-some}
use lib.ListN.{length}
use lib.Dec.{eqb}
use Rattle.lists.proofs.AllLaws.{and_left, and_right}
use Rattle.network.specs.Network.{Edge, State, Plan, at, plan, plan_for, combine, prepare, join_all, merge_edges, merge, step_to, step, choose, follow, run, merges}
use Rattle.network.proofs.Lists.{at_num}
use Rattle.network.proofs.Restrict.{prepare_num, combine_num}
use Rattle.network.proofs.Ends.{prepare_live, combine_live, choose_at}
use Rattle.lists.specs.Seq.{All}

-- no two entries are equal
abbrev pub Distinct : List ℕ → Type 0
Distinct [] = Unit {0}
Distinct (i ∷ l) = All (λ j. i ≡ j → ⊥) l × Distinct l

both : (b c : Bool) → b ≡ true → c ≡ true → (b && c) ≡ true
both b c h k = rw (h, k) refl

-- where no live edge has number i, none has after a map that keeps numbers and revives nothing
gone_map : (i : ℕ) (g : Edge → Edge) → ((e : Edge) → (g e).num ≡ e.num) → ((e : Edge) → (g e).live ≡ true → e.live ≡ true) → (es : List Edge) → at es i ≡ none → at (map g es) i ≡ none
unfolding at
gone_map i g n l [] h = refl
gone_map i g n l (e ∷ es) h = go (e.live && eqb i e.num) refl h ((g e).live && eqb i (g e).num) refl (gone_map i g n l es)
  where
    go : (b : Bool) → (e.live && eqb i e.num) ≡ b → cond b (some e) (at es i) ≡ none → (c : Bool) → ((g e).live && eqb i (g e).num) ≡ c → (at es i ≡ none → at (map g es) i ≡ none) → cond c (some (g e)) (at (map g es) i) ≡ none
    go true r h c q ih = absurd (none-ne-some e (sym h))
    go false r h false q ih = ih h
    go false r h true q ih = absurd (true≢false (sym (both e.live (eqb i e.num) (l e (and_left (g e).live _ q)) (ap (eqb i) (sym (n e)) ∙ and_right (g e).live _ q)) ∙ r))

-- the chosen number is gone
gone_kill : (pl : Plan) (es : List Edge) → at (map (prepare pl) es) pl.edge ≡ none
unfolding at
gone_kill pl [] = refl
gone_kill pl (e ∷ es) =
    let t : ((prepare pl e).live && eqb pl.edge (prepare pl e).num) ≡ false = rw (prepare_live pl e, prepare_num pl e) (dead e.live (eqb pl.edge e.num)) in
    rw t (gone_kill pl es)
  where
    dead : (a b : Bool) → ((a && not b) && b) ≡ false
    dead true true = refl
    dead true false = refl
    dead false b = refl

step_gone : (s : State) (i j : ℕ) → at s.edges i ≡ none → at (step s j).edges i ≡ none
unfolding step step_to merge merge_edges join_all
step_gone s i j h = go (at s.edges j)
  where
    go : (o : Option Edge) → at (step_to o s).edges i ≡ none
    go none = h
    go (some e) =
        let pl : Plan = plan s.regions e in
        let fs : List Edge = map (prepare pl) s.edges in
        gone_map i (combine fs pl.base pl.moved) (combine_num fs pl.base pl.moved) (combine_live fs pl.base pl.moved) fs
        (gone_map i (prepare pl) (prepare_num pl) (λ e r. and_left e.live _ (sym (prepare_live pl e) ∙ r)) s.edges h)

step_kills : (s : State) (i : ℕ) (e : Edge) → at s.edges i ≡ some e → at (step s i).edges i ≡ none
unfolding step step_to merge merge_edges join_all plan plan_for
step_kills s i e h =
    let pl : Plan = plan s.regions e in
    let fs : List Edge = map (prepare pl) s.edges in
    let k : at fs i ≡ none = ap (at fs) (sym (at_num i s.edges e h)) ∙ gone_kill pl s.edges in
    rw h (gone_map i (combine fs pl.base pl.moved) (combine_num fs pl.base pl.moved) (combine_live fs pl.base pl.moved) fs k)

run_avoids : (n : ℕ) (s : State) (i : ℕ) → at s.edges i ≡ none → All (λ j. i ≡ j → ⊥) (run n s)
unfolding run follow
run_avoids zero s i h = tt
run_avoids (suc n) s i h = go (choose s.edges) refl (run_avoids n)
  where
    go : (o : Option Edge) → choose s.edges ≡ o → ((t : State) (i : ℕ) → at t.edges i ≡ none → All (λ j. i ≡ j → ⊥) (run n t)) → All (λ j. i ≡ j → ⊥) (follow o s (run n))
    go none c ih = tt
    go (some e) c ih =
        let w : (f : Edge) × (at s.edges e.num ≡ some f) = choose_at s.edges e c in
        ((λ q. none-ne-some w.0 (sym h ∙ ap (at s.edges) q ∙ w.1)), ih (step s e.num) i (step_gone s i e.num h))

run_once : (n : ℕ) (s : State) → Distinct (run n s)
unfolding run follow
run_once zero s = tt
run_once (suc n) s = go (choose s.edges) refl (run_once n)
  where
    go : (o : Option Edge) → choose s.edges ≡ o → ((t : State) → Distinct (run n t)) → Distinct (follow o s (run n))
    go none c ih = tt
    go (some e) c ih =
        let w : (f : Edge) × (at s.edges e.num ≡ some f) = choose_at s.edges e c in
        (run_avoids n (step s e.num) e.num (step_kills s e.num w.0 w.1), ih (step s e.num))

-- no edge is merged twice
pub merges_once : (s : State) → Distinct (merges s)
unfolding merges
merges_once s = run_once (length s.edges) s
