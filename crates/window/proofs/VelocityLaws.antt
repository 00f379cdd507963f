-- A window beside the second entry: it takes what that entry takes, and writes the same winds. Assumes nothing.
use Prim.Native.Nat.{ℕ, suc, ◌+◌, ◌*◌, ◌≤◌}
use native.Mathlib.Omega.{arith}
use native.Mathlib.Nat.{mul-le-mul, suc-mul}
use mathlib.Core.Path.{◌≡◌, refl, sym, ap, ◌∙◌}
use mathlib.Core.Bool.{true, ◌&&◌}
use mathlib.Core.Option.{Option, none, some}
use mathlib.Core.List.{List, [], ◌∷◌, ◌++◌}
use lib.ListN.{length}
use lib.Ieee.{Float}
use borrow.Author.Tests.{eq-eqb}
use Rattle.lists.specs.Seq.{All}
use Rattle.lists.specs.Inside.Seg.{seg}
use Rattle.lists.proofs.SeqLaws.{tab_length}
use Rattle.lists.proofs.SegLaws.{seg-put_same}
use Rattle.sweep.specs.Entry.{answer_of}
use Rattle.sweep.specs.Questions.{ask, size_in_range, lengths_fit}
use Rattle.sweep.specs.Velocity.{Counted, VelocityAnswer, velocities, own_long, after_lengths, asked_velocity, call_velocity}
use Rattle.sweep.proofs.QuestionLaws.{none_all, all_none}
use Rattle.sweep.proofs.VelocityLaws.{all_long, none_missed}
use Rattle.window.specs.Window.{Window, words_of, lengths_of, gates_of, sizes_in_range, arrival_long, window_fits, same_size, size_and_lengths, asked_by, asked_window, winds_with}
use Rattle.window.proofs.TakeLaws.{sized_all, same_product}

module _ (u : Counted) (out : List Float) where
  -- the second entry's answer by its questions
  abbrev ends : Option ℕ → VelocityAnswer
  ends none = record { number = 0; unfolded = velocities u }
  ends (some k) = record { number = k; unfolded = out }

  call_ends : call_velocity u out ≡ ends (asked_velocity u (length out))
  unfolding call_velocity
  call_ends = refl

  number_is : (o : Option ℕ) → (ends o).number ≡ answer_of o
  number_is none = refl
  number_is (some k) = refl

  module _ (zero : (call_velocity u out).number ≡ 0) where
    all_passed : asked_velocity u (length out) ≡ none
    all_passed = none_missed u (length out) (call_velocity u out).number (ap (λ (a : VelocityAnswer). a.number) call_ends ∙ number_is (asked_velocity u (length out))) zero

    pub velocities_left : (call_velocity u out).unfolded ≡ velocities u
    velocities_left = ap (λ (a : VelocityAnswer). a.unfolded) (call_ends ∙ ap ends all_passed)

    yes : All (λ q. q.yes ≡ true) (ask 1 (size_in_range u.rays u.gates) ∷ ask 2 (lengths_fit (u.rays * u.gates) u.vel u.mask (own_long u (length out))) ∷ after_lengths u)
    unfolding asked_velocity
    yes = none_all (ask 1 (size_in_range u.rays u.gates) ∷ ask 2 (lengths_fit (u.rays * u.gates) u.vel u.mask (own_long u (length out))) ∷ after_lengths u) all_passed

    long_yes : arrival_long u ≡ true
    unfolding arrival_long lengths_fit gates_of
    long_yes =
        let l = all_long u (length out) all_passed in
        let n = u.rays * u.gates in
        rw (eq-eqb (length u.vel) n l.vel, eq-eqb (length u.mask) n l.mask, eq-eqb (length u.counts) n l.counts, eq-eqb (length u.labels) n l.labels) refl

    -- a window of the same size takes it
    pub window_asked : (w : Window) → window_fits (words_of w) (lengths_of w) ≡ true → u.rays ≡ (words_of w).rays → u.gates ≡ (words_of w).gates → asked_window u w ≡ none
    unfolding asked_by sizes_in_range same_size
    window_asked w fits r g =
        let sizes : sizes_in_range u (words_of w) ≡ true = (λ i. size_in_range u.rays u.gates && size_in_range (sym r i) (sym g i)) ∙ rw yes.0 refl in
        let lengths : (arrival_long u && window_fits (words_of w) (lengths_of w)) ≡ true = rw (long_yes, fits) refl in
        let same : same_size u (words_of w) ≡ true = rw (eq-eqb u.rays (words_of w).rays r, eq-eqb u.gates (words_of w).gates g) refl in
        all_none (size_and_lengths u (words_of w) (lengths_of w) ++ (after_lengths u ++ (ask 14 (same_size u (words_of w)) ∷ []))) (sizes, (lengths, (yes.1.1.0, (yes.1.1.1.0, (yes.1.1.1.1.0, (yes.1.1.1.1.1.0, (same, tt)))))))

velocities_long : (u : Counted) → length (velocities u) ≡ gates_of u
unfolding velocities gates_of
velocities_long u = tab_length _ (u.rays * u.gates)

-- what an accepted arrival leaves at the next place
pub winds_there : (u : Counted) (w : Window) → asked_window u w ≡ none → seg (winds_with u w) ((words_of w).next * gates_of u) (gates_of u) ≡ velocities u
unfolding winds_with
winds_there u w asked =
    let z = sized_all u w asked in
    let long = velocities_long u in
    ap (seg (winds_with u w) ((words_of w).next * gates_of u)) (sym long)
    ∙ seg-put_same w.winds ((words_of w).next * gates_of u) (velocities u) (room (z.winds ∙ ap (λ (n : ℕ). 8 * n) (sym (same_product u w asked))) (mul-le-mul z.next (self (gates_of u))))
  where
    self : (n : ℕ) → n ≤ n
    self n = omega arith

    room : length w.winds ≡ 8 * gates_of u → suc (words_of w).next * gates_of u ≤ 8 * gates_of u → (words_of w).next * gates_of u + length (velocities u) ≤ length w.winds
    room e h = omega (arith, suc-mul (words_of w).next (gates_of u), velocities_long u)
