-- The run that stops at a refusal, in terms of the network's merges, their events and their replay. Assumes nothing.
use mathlib.Core.Path.{◌≡◌, refl, ap, ◌∙◌}
use mathlib.Core.Bool.{Bool, true, false, ◌&&◌, cond}
use mathlib.Core.List.{◌∷◌}
use mathlib.Core.Option.{Option, none, some}
use Prim.Native.Nat.{ℕ, zero, suc, ◌+◌, ◌≤◌}
use native.Mathlib.Omega.{arith}
use lib.ListN.{length}
use Rattle.network.specs.Network.{Edge, State, event, step, choose, follow, run, merges, merges_in_range, trace, replay, in_range}
use Rattle.network.specs.Inside.Settle.{onward, settle, outcome, refused, ran_of}
use Rattle.std.proofs.Common.{Result, Ok}
use Rattle.merge.specs.declared.merge.MergeRefused.{MergeRefused}
use Rattle.lists.specs.Seq.{all}

pub settle_run : (f : ℕ) (t : State) (k : ℕ) → settle f t k ≡ outcome t (run f t) k
unfolding settle outcome run trace replay all onward follow
settle_run zero t k = let z : k ≡ k + 0 = omega arith in ap (λ (x : ℕ). some (record { last = t; merges = x })) z
settle_run (suc f) t k = go (choose t.edges) (settle_run f)
  where
    go : (o : Option Edge) → ((u : State) (i : ℕ) → settle f u i ≡ outcome u (run f u) i)
        → onward o t k (settle f) ≡ cond (all in_range (trace t (follow o t (run f)))) (some (record { last = replay t (follow o t (run f)); merges = k + length (follow o t (run f)) })) none
    go none ih = let z : k ≡ k + 0 = omega arith in ap (λ (x : ℕ). some (record { last = t; merges = x })) z
    go (some e) ih = test (in_range (event t e.num)) (ih (step t e.num) (suc k))
      where
        u : State
        u = step t e.num

        test : (b : Bool) → settle f u (suc k) ≡ outcome u (run f u) (suc k)
            → cond b (settle f u (suc k)) none ≡ cond (b && all in_range (trace u (run f u))) (some (record { last = replay u (run f u); merges = k + length (e.num ∷ run f u) })) none
        test false h = refl
        test true h = let z : suc k + length (run f u) ≡ k + suc (length (run f u)) = omega arith in
            h ∙ ap (λ (x : ℕ). cond (all in_range (trace u (run f u))) (some (record { last = replay u (run f u); merges = x })) none) z

-- there are no more merges than turns
pub run_most : (m : ℕ) (s : State) → length (run m s) ≤ m
unfolding run
run_most zero s = omega arith
run_most (suc m) s = go (choose s.edges) (run_most m)
  where
    next : (e : Edge) → length (run m (step s e.num)) ≤ m → length (follow (some e) s (run m)) ≤ suc m
    next e h = unfold follow in omega arith

    none_chosen : length (follow none s (run m)) ≤ suc m
    none_chosen = unfold follow in omega arith

    go : (o : Option Edge) → ((u : State) → length (run m u) ≤ m) → length (follow o s (run m)) ≤ suc m
    go none h = none_chosen
    go (some e) h = next e (h (step s e.num))

-- the answer by question 9
module _ (t : State) where
  abbrev by_test : Bool → Result ℕ MergeRefused
  by_test b = ran_of (cond b (some (record { last = replay t (merges t); merges = 0 + length (merges t) })) none)

  pub ran_no : merges_in_range t ≡ false → ran_of (outcome t (merges t) 0) ≡ refused
  unfolding merges_in_range outcome ran_of
  ran_no = ap by_test

  pub ran_yes : merges_in_range t ≡ true → ran_of (outcome t (merges t) 0) ≡ Ok (length (merges t))
  unfolding merges_in_range outcome ran_of
  ran_yes h = let z : 0 + length (merges t) ≡ length (merges t) = omega arith in ap by_test h ∙ ap Ok z
