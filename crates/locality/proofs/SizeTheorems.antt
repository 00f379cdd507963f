-- Each entry answers 1 exactly if the sweep is larger than the largest: the statements of Theorems and RegionMap on sizes, proved. Assumes nothing.
use Prim.Native.Nat.{ℕ}
use native.Mathlib.Omega.{arith}
use mathlib.Core.Path.{◌≡◌, refl, sym, ap, ◌∙◌}
use mathlib.Core.Logic.{◌⊎◌, inl, inr}
use mathlib.Core.Bool.{Bool, true, false, ◌&&◌}
use mathlib.Core.List.{List, [], ◌∷◌, ◌++◌}
use mathlib.Core.Option.{Option, none, some}
use lib.Dec.{leb, ltb}
use borrow.Author.Tests.{leb-false, lt-leb, ltb-true}
use Rattle.memory.specs.Size.{largest}
use Rattle.lists.specs.Seq.{all}
use Rattle.sweep.specs.Questions.{Question, ask, first_no, size_in_range, seven, seven_of, first_missed}
use Rattle.sweep.specs.Call.{lengths}
use Rattle.sweep.specs.Entry.{answer_of}
use Rattle.sweep.specs.Velocity.{after_lengths, asked_velocity}
use Rattle.map.specs.Map.{asked_map}
use Rattle.sweep.proofs.QuestionLaws.{or_else, on, no, list_after, no_meets}
use Rattle.channels.specs.Call.{lent_to, shared_few, call_two}
use Rattle.channels.specs.Theorems.{horizontal_by, vertical_by}
use Rattle.channels.proofs.Theorems.{two_answer_is}
use Rattle.window.specs.Window.{words_of, lengths_of, sizes_in_range, arrival_long, window_fits, same_size, asked_by, call_window}
use Rattle.window.proofs.Theorems.{window_answer_is}
use Rattle.test_sweep.specs.Call.{asked_test, call_test}
use Rattle.test_sweep.proofs.CallLaws.{test_answer_is}
use Rattle.locality.specs.Theorems.{Larger, OneIsSize, SweepSize, VelocitySize, TestSize, WindowSize, TwoSize}
use Rattle.locality.specs.RegionMap.{MapSize}
use Rattle.locality.proofs.EntryTheorems.{answer_is}
use Rattle.locality.proofs.VelocityTheorems.{velocity_answer_is}
use Rattle.locality.proofs.MapTheorems.{map_answer_is}

-- no question of a number past 1 answers 1
others : (qs : List Question) → all (λ q. ltb 1 q.number) qs ≡ true → answer_of (first_no qs) ≡ 1 → ⊥
others qs past = go (first_no qs) refl
  where
    go : (o : Option ℕ) → first_no qs ≡ o → answer_of o ≡ 1 → ⊥
    go none f h = omega arith
    go (some j) f h = omega (arith, ltb-true 1 j (no_meets (ltb 1) qs j past f))

module _ (rays gates : ℕ) where
  size_no : Larger rays gates → size_in_range rays gates ≡ false
  unfolding size_in_range
  size_no (inl h) = rw (lt-leb rays largest.rays h) refl
  size_no (inr h) = go (leb rays largest.rays)
    where
      go : (b : Bool) → (b && leb gates largest.gates) ≡ false
      go true = lt-leb gates largest.gates h
      go false = refl

  no_size : size_in_range rays gates ≡ false → Larger rays gates
  unfolding size_in_range
  no_size h = go (leb rays largest.rays) refl h
    where
      go : (b : Bool) → leb rays largest.rays ≡ b → (b && leb gates largest.gates) ≡ false → Larger rays gates
      go true e h = inr (leb-false gates largest.gates h)
      go false e h = inl (leb-false rays largest.rays e)

  -- question 1 and then others, each of a number past 1
  one_of : (qs : List Question) → all (λ q. ltb 1 q.number) qs ≡ true → (k : ℕ) → k ≡ answer_of (first_no (ask 1 (size_in_range rays gates) ∷ qs)) → OneIsSize rays gates k
  one_of qs past k e = record { refused = λ h. e ∙ ap answer_of (no (ask 1 (size_in_range rays gates)) qs (size_no h)); larger = λ h. go (size_in_range rays gates) refl (sym e ∙ h) }
    where
      go : (b : Bool) → size_in_range rays gates ≡ b → answer_of (first_no (ask 1 (size_in_range rays gates) ∷ qs)) ≡ 1 → Larger rays gates
      go true f h = absurd (others qs past (sym (ap answer_of (on (ask 1 (size_in_range rays gates)) qs f)) ∙ h))
      go false f h = no_size f

pub one_is_size : SweepSize
unfolding first_missed seven all
one_is_size s m a c = one_of s.shape.rays s.shape.gates _ refl a.number (answer_is s m a c)

pub velocity_one_is_size : VelocitySize
unfolding asked_velocity all
velocity_one_is_size u out a c = one_of u.rays u.gates _ refl a.number (velocity_answer_is u out a c)

pub map_one_is_size : MapSize
unfolding asked_map seven all
map_one_is_size s m a c = one_of s.shape.rays s.shape.gates _ refl a.number (map_answer_is s m a c)

pub test_one_is_size : TestSize
unfolding asked_test all
test_one_is_size rays gates word m = one_of rays gates _ refl (call_test rays gates word m).number (test_answer_is rays gates word m)

-- question 1 of the window's entry is put to both sizes
pub window_one_is_size : WindowSize
unfolding asked_by sizes_in_range all
window_one_is_size u w = record { refused = refused; larger = λ h. go (size_in_range u.rays u.gates) (size_in_range (words_of w).rays (words_of w).gates) refl refl (sym number ∙ h) }
  where
    later : List Question
    later = ask 2 (arrival_long u && window_fits (words_of w) (lengths_of w)) ∷ (after_lengths u ++ (ask 14 (same_size u (words_of w)) ∷ []))

    number : (call_window u w).number ≡ answer_of (first_no (ask 1 (size_in_range u.rays u.gates && size_in_range (words_of w).rays (words_of w).gates) ∷ later))
    number = window_answer_is u w

    refused : Larger u.rays u.gates ⊎ Larger (words_of w).rays (words_of w).gates → (call_window u w).number ≡ 1
    refused (inl h) = number ∙ ap answer_of (no _ _ (rw (size_no u.rays u.gates h) refl))
    refused (inr h) = number ∙ ap answer_of (no _ _ (second (size_in_range u.rays u.gates) (size_no (words_of w).rays (words_of w).gates h)))
      where
        second : (b : Bool) {c : Bool} → c ≡ false → (b && c) ≡ false
        second true e = e
        second false e = refl

    go : (b c : Bool) → size_in_range u.rays u.gates ≡ b → size_in_range (words_of w).rays (words_of w).gates ≡ c
        → answer_of (first_no (ask 1 (size_in_range u.rays u.gates && size_in_range (words_of w).rays (words_of w).gates) ∷ later)) ≡ 1
        → Larger u.rays u.gates ⊎ Larger (words_of w).rays (words_of w).gates
    go true true e f h = absurd (others later refl (sym (ap answer_of (on _ _ (rw (e, f) refl))) ∙ h))
    go true false e f h = inr (no_size (words_of w).rays (words_of w).gates f)
    go false c e f h = inl (no_size u.rays u.gates e)

-- question 1 is put to each channel: where both have one size, the second time it adds nothing
put_twice : (b c : Bool) → b ≡ c → (qs rs : List Question) → first_no (ask 1 b ∷ (qs ++ (ask 1 c ∷ rs))) ≡ first_no (ask 1 b ∷ (qs ++ rs))
put_twice true c e qs rs =
    on (ask 1 true) (qs ++ (ask 1 c ∷ rs)) refl ∙ list_after qs (ask 1 c ∷ rs)
    ∙ ap (or_else (first_no qs)) (on (ask 1 c) rs (sym e)) ∙ sym (list_after qs rs) ∙ sym (on (ask 1 true) (qs ++ rs) refl)
put_twice false c e qs rs = no (ask 1 false) (qs ++ (ask 1 c ∷ rs)) refl ∙ sym (no (ask 1 false) (qs ++ rs) refl)

-- the questions after the first
abbrev rest : List Question → List Question
rest [] = []
rest (q ∷ qs) = qs

pub two_one_is_size : TwoSize
unfolding seven all
two_one_is_size h v m r g =
    let hs : List Question = rest (seven_of h (lengths (lent_to m.horizontal m))) in
    let vs : List Question = rest (seven_of v (lengths (lent_to m.vertical m))) ++ (ask 8 (shared_few h v) ∷ ask 9 (horizontal_by h v).merges_in_range ∷ ask 9 (vertical_by h v).merges_in_range ∷ []) in
    one_of h.shape.rays h.shape.gates (hs ++ vs) refl (call_two h v m).number
    (two_answer_is h v m ∙ ap answer_of (put_twice (size_in_range h.shape.rays h.shape.gates) (size_in_range v.shape.rays v.shape.gates) (λ i. size_in_range (r i) (g i)) hs vs))
