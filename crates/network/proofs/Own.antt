-- The run's merges on one side are the merges of the restricted network's own run.
-- Assumes nothing.
use Prim.Native.Nat.{ℕ, zero, suc, ◌≤◌, ◌<◌}
use native.Mathlib.Omega.{arith}
use mathlib.Core.Path.{◌≡◌, refl, sym, ap, ◌∙◌}
use mathlib.Core.Bool.{Bool, true, false, ◌&&◌, cond}
use mathlib.Core.List.{List, [], ◌∷◌}
use mathlib.Core.Option.{Option, none, some, none-ne-some}
use lib.Dec.{leb}
use lib.ListN.{length}
use borrow.Author.Tests.{leb-true, leb-false}
use Rattle.lists.specs.Seq.{keep}
use Rattle.network.specs.Network.{Edge, State, step, better, choose, follow, run, merges, replay}
use Rattle.network.proofs.Restrict.{edge_in, restrict, Closed, closed_step, step_in, step_out, replay_in}
use Rattle.network.proofs.Ends.{alive, alive_length, choose_less, no_choice}

run_none : (n : ℕ) (s : State) → choose s.edges ≡ none → run n s ≡ []
unfolding run follow
run_none zero s h = refl
run_none (suc n) s h = rw h refl

module _ (p q : ℕ → Bool) where
  -- The choice on the side beside the choice among all: both none; the same; none against one on the other side; or one that is no heavier than one on the other side.
  data Chosen : Option Edge → Option Edge → Type 0 where
    both_none : Chosen none none
    inside : {e : Edge} → edge_in p q e ≡ true → Chosen (some e) (some e)
    alone : {f : Edge} → edge_in p q f ≡ false → Chosen none (some f)
    beaten : (e f : Edge) → edge_in p q f ≡ false → e.link.weight ≤ f.link.weight → Chosen (some e) (some f)

  better_in : (e : Edge) → edge_in p q e ≡ true → {x y : Option Edge} → Chosen x y → Chosen (better e x) (better e y)
  unfolding better
  better_in e h both_none = go e.live
    where
      go : (b : Bool) → Chosen (cond b (some e) none) (cond b (some e) none)
      go true = inside h
      go false = both_none
  better_in e h (inside {e = f} k) = go (e.live && leb f.link.weight e.link.weight)
    where
      go : (b : Bool) → Chosen (cond b (some e) (some f)) (cond b (some e) (some f))
      go true = inside h
      go false = inside k
  better_in e h (alone {f} k) = go e.live (leb f.link.weight e.link.weight) refl
    where
      go : (b c : Bool) → leb f.link.weight e.link.weight ≡ c → Chosen (cond b (some e) none) (cond (b && c) (some e) (some f))
      go true true r = inside h
      go true false r = beaten e f k (omega (arith, leb-false f.link.weight e.link.weight r))
      go false c r = alone k
  better_in e h (beaten g f k w) = go e.live (leb g.link.weight e.link.weight) (leb f.link.weight e.link.weight) refl refl
    where
      go : (b c d : Bool) → leb g.link.weight e.link.weight ≡ c → leb f.link.weight e.link.weight ≡ d → Chosen (cond (b && c) (some e) (some g)) (cond (b && d) (some e) (some f))
      go true true true r t = inside h
      go true true false r t = beaten e f k (omega (arith, leb-false f.link.weight e.link.weight t))
      go true false true r t = absurd (omega (arith, leb-false g.link.weight e.link.weight r, leb-true f.link.weight e.link.weight t))
      go true false false r t = beaten g f k w
      go false c d r t = beaten g f k w

  better_out : (e : Edge) → edge_in p q e ≡ false → {x y : Option Edge} → Chosen x y → Chosen x (better e y)
  unfolding better
  better_out e h both_none = go e.live
    where
      go : (b : Bool) → Chosen none (cond b (some e) none)
      go true = alone h
      go false = both_none
  better_out e h (inside {e = f} k) = go e.live (leb f.link.weight e.link.weight) refl
    where
      go : (b c : Bool) → leb f.link.weight e.link.weight ≡ c → Chosen (some f) (cond (b && c) (some e) (some f))
      go true true r = beaten f e h (leb-true f.link.weight e.link.weight r)
      go true false r = inside k
      go false c r = inside k
  better_out e h (alone {f} k) = go (e.live && leb f.link.weight e.link.weight)
    where
      go : (b : Bool) → Chosen none (cond b (some e) (some f))
      go true = alone h
      go false = alone k
  better_out e h (beaten g f k w) = go e.live (leb f.link.weight e.link.weight) refl
    where
      go : (b c : Bool) → leb f.link.weight e.link.weight ≡ c → Chosen (some g) (cond (b && c) (some e) (some f))
      go true true r = beaten g e h (omega (arith, leb-true f.link.weight e.link.weight r))
      go true false r = beaten g f k w
      go false c r = beaten g f k w

  chosen : (es : List Edge) → Chosen (choose (keep (edge_in p q) es)) (choose es)
  unfolding choose keep
  chosen [] = both_none
  chosen (e ∷ es) = go (edge_in p q e) refl (chosen es)
    where
      go : (b : Bool) → edge_in p q e ≡ b → Chosen (choose (keep (edge_in p q) es)) (choose es)
          → Chosen (choose (cond b (e ∷ keep (edge_in p q) es) (keep (edge_in p q) es))) (better e (choose es))
      go true h c = better_in e h c
      go false h c = better_out e h c

  none_in : {x y : Option Edge} → Chosen x y → y ≡ none → x ≡ none
  none_in both_none h = refl
  none_in (inside {e} k) h = h
  none_in (alone k) h = refl
  none_in (beaten e f k w) h = absurd (none-ne-some f (sym h))

  -- What the induction knows of the runs with fuel n
  abbrev Known : ℕ → Type 0
  Known n = (k : ℕ) (t : State) → Closed p q t → alive t.edges ≤ n → alive (restrict p q t).edges ≤ k → keep q (run n t) ≡ run k (restrict p q t)

  run_inside : (n k : ℕ) (s : State) → Closed p q s → alive s.edges ≤ suc n → alive (restrict p q s).edges ≤ k → (e : Edge)
      → choose (restrict p q s).edges ≡ some e → choose s.edges ≡ some e → q e.num ≡ true → Known n → keep q (e.num ∷ run n (step s e.num)) ≡ run k (restrict p q s)
  unfolding run follow keep
  run_inside n zero s c h w e a b i ih = absurd (omega (arith, choose_less (restrict p q s) e a))
  run_inside n (suc k) s c h w e a b i ih =
      let less : alive (restrict p q (step s e.num)).edges < alive (restrict p q s).edges = rw (step_in p q s c e.num i) (choose_less (restrict p q s) e a) in
      let rest : keep q (run n (step s e.num)) ≡ run k (restrict p q (step s e.num)) = ih k (step s e.num) (closed_step p q s c e.num) (omega (arith, choose_less s e b)) (omega arith) in
      rw (i, a, rest, step_in p q s c e.num i) refl

  run_outside : (n k : ℕ) (s : State) → Closed p q s → alive s.edges ≤ suc n → alive (restrict p q s).edges ≤ k → (e : Edge)
      → choose s.edges ≡ some e → q e.num ≡ false → Known n → keep q (e.num ∷ run n (step s e.num)) ≡ run k (restrict p q s)
  unfolding keep
  run_outside n k s c h w e b i ih =
      let stays : restrict p q (step s e.num) ≡ restrict p q s = step_out p q s c e.num i in
      rw i (ih k (step s e.num) (closed_step p q s c e.num) (omega (arith, choose_less s e b)) (rw stays w) ∙ ap (run k) stays)

  run_step : (n k : ℕ) (s : State) → Closed p q s → alive s.edges ≤ suc n → alive (restrict p q s).edges ≤ k → Known n → (x y : Option Edge)
      → choose (restrict p q s).edges ≡ x → choose s.edges ≡ y → Chosen x y → keep q (follow y s (run n)) ≡ run k (restrict p q s)
  unfolding follow keep edge_in
  run_step n k s c h w ih x y a b both_none = sym (run_none k (restrict p q s) a)
  run_step n k s c h w ih x y a b (inside {e} i) = run_inside n k s c h w e a b i ih
  run_step n k s c h w ih x y a b (alone {f} i) = run_outside n k s c h w f b i ih
  run_step n k s c h w ih x y a b (beaten e f i v) = run_outside n k s c h w f b i ih

  run_in : (n k : ℕ) (s : State) → Closed p q s → alive s.edges ≤ n → alive (restrict p q s).edges ≤ k → keep q (run n s) ≡ run k (restrict p q s)
  unfolding run keep restrict
  run_in zero k s c h w = sym (run_none k (restrict p q s) (none_in (chosen s.edges) (no_choice s h)))
  run_in (suc n) k s c h w = run_step n k s c h w (λ k t. run_in n k t) (choose (restrict p q s).edges) (choose s.edges) refl refl (chosen s.edges)

  pub merges_in : (s : State) → Closed p q s → keep q (merges s) ≡ merges (restrict p q s)
  unfolding merges
  merges_in s c = run_in (length s.edges) (length (restrict p q s).edges) s c (alive_length s.edges) (alive_length (restrict p q s).edges)

  -- The run's last state, seen from the side, is that of the side's own run
  pub final_in : (s : State) → Closed p q s → restrict p q (replay s (merges s)) ≡ replay (restrict p q s) (merges (restrict p q s))
  final_in s c = replay_in p q (merges s) s c ∙ ap (replay (restrict p q s)) (merges_in s c)
