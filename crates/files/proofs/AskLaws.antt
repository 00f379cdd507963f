-- Questions in a row: what a code that asks one list after another cites, and tests of every question. Assumes nothing.
use Prim.Native.Nat.{ℕ, zero, suc, ◌+◌, ◌≤◌, ◌<◌}
use native.Mathlib.Omega.{arith}
use mathlib.Core.Path.{◌≡◌, refl, sym, ap, subst}
use mathlib.Core.Bool.{true, ◌&&◌}
use mathlib.Core.List.{List, [], ◌∷◌, ◌++◌}
use mathlib.Core.Logic.{⊎_elim}
use mathlib.Core.Option.{Option, none, some}
use lib.Dec.{ltb}
use Rattle.lists.specs.Seq.{All, all, each, upto}
use Rattle.lists.proofs.AllLaws.{and_left, and_right, all_append}
use Rattle.lists.proofs.SegLaws.{eq_or_ne}
use Rattle.sweep.specs.Questions.{Question}
use Rattle.sweep.specs.Entry.{answer_of}

-- every question gets a yes
abbrev pub Yes : List Question → Type 0
Yes qs = All (λ q. q.yes ≡ true) qs

-- no question has number 0
abbrev pub Named : List Question → Type 0
Named qs = all (λ q. ltb 0 q.number) qs ≡ true

pub named_append : (qs rs : List Question) → Named qs → Named rs → Named (qs ++ rs)
unfolding all
named_append [] rs a b = b
named_append (q ∷ qs) rs a b =
    (λ i. and_left (ltb 0 q.number) (all (λ q. ltb 0 q.number) qs) a i && named_append qs rs (and_right (ltb 0 q.number) (all (λ q. ltb 0 q.number) qs) a) b i)

pub named_each : (f : ℕ → List Question) (l : List ℕ) → ((i : ℕ) → Named (f i)) → Named (each f l)
unfolding all each
named_each f [] h = refl
named_each f (x ∷ xs) h = named_append (f x) (each f xs) (h x) (named_each f xs h)

-- a yes to each of two lists, and to each of many
pub yes_left : (qs rs : List Question) → Yes (qs ++ rs) → Yes qs
yes_left [] rs h = tt
yes_left (q ∷ qs) rs h = (h.0, yes_left qs rs h.1)

pub yes_right : (qs rs : List Question) → Yes (qs ++ rs) → Yes rs
yes_right [] rs h = h
yes_right (q ∷ qs) rs h = yes_right qs rs h.1

pub yes_append : (qs rs : List Question) → Yes qs → Yes rs → Yes (qs ++ rs)
yes_append qs rs = all_append (λ q. q.yes ≡ true) qs rs

pub yes_each : (f : ℕ → List Question) (n a : ℕ) → ((i : ℕ) → a ≤ i → i < a + n → Yes (f i)) → Yes (each f (upto n a))
unfolding each upto
yes_each f zero a h = tt
yes_each f (suc n) a h = yes_append (f a) (each f (upto n (suc a))) (h a (omega arith) (omega arith)) (yes_each f n (suc a) (λ i p q. h i (omega arith) (omega arith)))

pub each_yes : (f : ℕ → List Question) (n a i : ℕ) → a ≤ i → i < a + n → Yes (each f (upto n a)) → Yes (f i)
unfolding each upto
each_yes f zero a i p q h = absurd (omega arith)
each_yes f (suc n) a i p q h =
    ⊎_elim
    (λ e. subst (λ (z : ℕ). Yes (f z)) e (yes_left (f a) (each f (upto n (suc a))) h))
    (λ e. each_yes f n (suc a) i (omega arith) (omega arith) (yes_right (f a) (each f (upto n (suc a))) h))
    (eq_or_ne a i)
