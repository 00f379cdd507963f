-- The run ends: every step that finds its edge live leaves fewer live edges, so the run's last state has none, and it finds each edge live.
-- Assumes nothing.
use Prim.Native.Nat.{ℕ, zero, suc, ◌+◌, ◌≤◌, ◌<◌}
use native.Mathlib.Omega.{arith}
use mathlib.Core.Path.{◌≡◌, refl, sym, ap, ◌∙◌}
use mathlib.Core.Bool.{Bool, true, false, not, ◌&&◌, cond, true≢false}
use mathlib.Core.List.{List, [], ◌∷◌, map}
use mathlib.Core.Option.{Option, none, some, none-ne-some, some-injective}
use lib.Dec.{leb, eqb}
use lib.ListN.{length}
use Rattle.lists.proofs.SeqLaws.{eqb_refl}
use Rattle.lists.proofs.AllLaws.{and_left}
use Rattle.network.specs.Network.{Edge, State, Plan, Link, Event, at, plan, plan_for, kill, adjust, turn_if, turn, find, absorb, absent, hand, combine, prepare, join_all, merge_edges, merge, step_to, step, better, choose, follow, run, event_of, event, trace, replay}
use Rattle.network.proofs.Lists.{at_num}
use Rattle.lists.specs.Seq.{All}

unfoldable pub alive : List Edge → ℕ
alive [] = 0
alive (e ∷ es) = cond e.live 1 0 + alive es

pub alive_length : (es : List Edge) → alive es ≤ length es
unfolding alive
alive_length [] = omega arith
alive_length (e ∷ es) = go e.live (alive_length es)
  where
    go : (b : Bool) → alive es ≤ length es → cond b 1 0 + alive es ≤ suc (length es)
    go true h = omega arith
    go false h = omega arith

alive_map : (g : Edge → Edge) → ((e : Edge) → (g e).live ≡ true → e.live ≡ true) → (es : List Edge) → alive (map g es) ≤ alive es
unfolding alive
alive_map g h [] = omega arith
alive_map g h (e ∷ es) = go (g e).live e.live (h e) (alive_map g h es)
  where
    go : (b c : Bool) → (b ≡ true → c ≡ true) → alive (map g es) ≤ alive es → cond b 1 0 + alive (map g es) ≤ cond c 1 0 + alive es
    go true true r ih = omega arith
    go false true r ih = omega arith
    go false false r ih = omega arith
    go true false r ih = absurd (true≢false (sym (r refl)))

pub prepare_live : (pl : Plan) (e : Edge) → (prepare pl e).live ≡ (e.live && not (eqb pl.edge e.num))
unfolding prepare turn turn_if adjust kill
prepare_live pl e = refl

prepare_le : (pl : Plan) (es : List Edge) → alive (map (prepare pl) es) ≤ alive es
prepare_le pl es = alive_map (prepare pl) (λ e h. and_left e.live _ (sym (prepare_live pl e) ∙ h)) es

prepare_less : (pl : Plan) (es : List Edge) (e : Edge) → at es pl.edge ≡ some e → alive (map (prepare pl) es) < alive es
unfolding alive at
prepare_less pl [] e h = absurd (none-ne-some e h)
prepare_less pl (f ∷ es) e h = rw prepare_live (go f.live (eqb pl.edge f.num) h (prepare_less pl es e))
  where
    go : (b c : Bool) → cond (b && c) (some f) (at es pl.edge) ≡ some e → (at es pl.edge ≡ some e → alive (map (prepare pl) es) < alive es)
        → cond (b && not c) 1 0 + alive (map (prepare pl) es) < cond b 1 0 + alive es
    go true true h ih = omega (arith, prepare_le pl es)
    go true false h ih = omega (arith, ih h)
    go false c h ih = omega (arith, ih h)

pub combine_live : (es : List Edge) (b m : ℕ) (e : Edge) → (combine es b m e).live ≡ true → e.live ≡ true
unfolding combine absorb hand
combine_live es b m e = go (eqb b e.first) (eqb m e.first) (find es m e.second) (find es b e.second)
  where
    go : (x y : Bool) (g h : Option Link) → (cond x (absorb g e) (cond y (hand b h e) e)).live ≡ true → e.live ≡ true
    go true y none h r = r
    go true y (some g) h r = r
    go false true g h r = and_left e.live (absent h) r
    go false false g h r = r

step_less : (s : State) (i : ℕ) (e : Edge) → at s.edges i ≡ some e → alive (step s i).edges < alive s.edges
unfolding step step_to merge merge_edges join_all plan plan_for
step_less s i e h = rw h (omega (arith, alive_map (combine fs pl.base pl.moved) (combine_live fs pl.base pl.moved) fs, prepare_less pl s.edges e (ap (at s.edges) (at_num i s.edges e h) ∙ h)))
  where
    pl : Plan
    pl = plan s.regions e

    fs : List Edge
    fs = map (prepare pl) s.edges

-- What is chosen is found live
pub choose_at : (es : List Edge) (e : Edge) → choose es ≡ some e → (f : Edge) × (at es e.num ≡ some f)
unfolding choose better at
choose_at [] e h = absurd (none-ne-some e h)
choose_at (f ∷ es) e h = go (choose es) refl h (choose_at es)
  where
    here : (g : Edge) → f.live ≡ true → f ≡ g → (x : Edge) × (cond (f.live && eqb g.num f.num) (some f) (at es g.num) ≡ some x)
    here g l w = (f, rw (← w, l, eqb_refl f.num) refl)

    none_case : (b : Bool) → f.live ≡ b → cond b (some f) none ≡ some e → (x : Edge) × (cond (f.live && eqb e.num f.num) (some f) (at es e.num) ≡ some x)
    none_case true l r = here e l (some-injective f e r)
    none_case false l r = absurd (none-ne-some e r)

    later : (b : Bool) → (x : Edge) × (at es e.num ≡ some x) → (x : Edge) × (cond b (some f) (at es e.num) ≡ some x)
    later true w = (f, refl)
    later false w = w

    some_case : (g : Edge) (b : Bool) → (f.live && leb g.link.weight f.link.weight) ≡ b → cond b (some f) (some g) ≡ some e → (g ≡ e → (x : Edge) × (at es e.num ≡ some x))
        → (x : Edge) × (cond (f.live && eqb e.num f.num) (some f) (at es e.num) ≡ some x)
    some_case g true l r ih = here e (and_left f.live _ l) (some-injective f e r)
    some_case g false l r ih = later (f.live && eqb e.num f.num) (ih (some-injective g e r))

    go : (o : Option Edge) → choose es ≡ o → better f o ≡ some e → ((g : Edge) → choose es ≡ some g → (x : Edge) × (at es g.num ≡ some x))
        → (x : Edge) × (cond (f.live && eqb e.num f.num) (some f) (at es e.num) ≡ some x)
    go none c r ih = none_case f.live refl r
    go (some g) c r ih = some_case g (f.live && leb g.link.weight f.link.weight) refl r (λ w. ih e (c ∙ ap some w))

pub choose_less : (s : State) (e : Edge) → choose s.edges ≡ some e → alive (step s e.num).edges < alive s.edges
choose_less s e h = let w : (f : Edge) × (at s.edges e.num ≡ some f) = choose_at s.edges e h in step_less s e.num w.0 w.1

pub no_choice : (s : State) → alive s.edges ≤ 0 → choose s.edges ≡ none
no_choice s h = go (choose s.edges) refl
  where
    go : (o : Option Edge) → choose s.edges ≡ o → o ≡ none
    go none c = refl
    go (some e) c = absurd (omega (arith, choose_less s e c))

-- The run's last state has no live edge
pub run_ends : (n : ℕ) (s : State) → alive s.edges ≤ n → choose (replay s (run n s)).edges ≡ none
unfolding run replay follow
run_ends zero s h = no_choice s h
run_ends (suc n) s h = go (choose s.edges) refl (run_ends n)
  where
    go : (o : Option Edge) → choose s.edges ≡ o → ((t : State) → alive t.edges ≤ n → choose (replay t (run n t)).edges ≡ none) → choose (replay s (follow o s (run n))).edges ≡ none
    go none c ih = c
    go (some e) c ih = ih (step s e.num) (omega (arith, choose_less s e c))

abbrev pub FoundLive : Event → Type 0
FoundLive v = v.live ≡ true

-- Each step of the run finds its edge live
pub run_live : (n : ℕ) (s : State) → All FoundLive (trace s (run n s))
unfolding run trace follow
run_live zero s = tt
run_live (suc n) s = go (choose s.edges) refl (run_live n)
  where
    found : (i : ℕ) (f : Edge) → at s.edges i ≡ some f → (event s i).live ≡ true
    found i f h = unfold event event_of in rw h refl

    go : (o : Option Edge) → choose s.edges ≡ o → ((t : State) → All FoundLive (trace t (run n t))) → All FoundLive (trace s (follow o s (run n)))
    go none c ih = tt
    go (some e) c ih = let w : (f : Edge) × (at s.edges e.num ≡ some f) = choose_at s.edges e c in (found e.num w.0 w.1, ih (step s e.num))
