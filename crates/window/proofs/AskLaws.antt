-- The questions of the window's call: the code's own two parts of questions 1 and 2, the number at each first no, and what a yes to each gives. Assumes nothing.
use Prim.Native.Nat.{ℕ, ◌*◌, ◌≤◌, ◌<◌}
use mathlib.Core.Path.{◌≡◌, refl, sym, ap, ◌∙◌}
use mathlib.Core.Bool.{Bool, true, false, ◌&&◌}
use mathlib.Core.List.{List, [], ◌∷◌, ◌++◌}
use mathlib.Core.Option.{none, some}
use lib.Dec.{eqb, leb, ltb}
use lib.ListN.{length}
use borrow.Author.Tests.{eqb-true, leb-true, ltb-true}
use Rattle.lists.specs.Seq.{all}
use Rattle.lists.proofs.AllLaws.{and_left, and_right, and_three}
use Rattle.memory.specs.Size.{gates_of_largest}
use Rattle.sweep.specs.Questions.{Question, ask, first_no, size_in_range, lengths_fit}
use Rattle.sweep.specs.Entry.{answer_of}
use Rattle.sweep.specs.Velocity.{Counted, after_lengths}
use Rattle.sweep.proofs.QuestionLaws.{on, no, goes_on, stops, zero_none, all_yes}
use Rattle.sweep.proofs.PassedLaws.{size_product, long_are, two_are}
use Rattle.window.specs.declared.questions.Words.{Words}
use Rattle.window.specs.declared.questions.Lent.{Lent}
use Rattle.window.specs.Window.{gates_of, sizes_in_range, arrival_long, window_fits, same_size, size_and_lengths, asked_by}

module _ (u : Counted) (w : Words) (l : Lent) where
  -- ---- questions 1 and 2, put one by one

  pub size_no : size_in_range u.rays u.gates ≡ false → some 1 ≡ first_no (size_and_lengths u w l)
  unfolding sizes_in_range
  size_no e = sym (no _ _ (rw e refl))

  module _ (y : size_in_range u.rays u.gates ≡ true) where
    pub window_size_no : size_in_range w.rays w.gates ≡ false → some 1 ≡ first_no (size_and_lengths u w l)
    unfolding sizes_in_range
    window_size_no e = sym (no _ _ (rw (y, e) refl))

    module _ (z : size_in_range w.rays w.gates ≡ true) where
      sizes_yes : first_no (size_and_lengths u w l) ≡ first_no (ask 2 (arrival_long u && window_fits w l) ∷ [])
      unfolding sizes_in_range
      sizes_yes = on _ _ (rw (y, z) refl)

      pub long_no : arrival_long u ≡ false → some 2 ≡ first_no (size_and_lengths u w l)
      long_no e = sym (sizes_yes ∙ no _ _ (rw e refl))

      module _ (a : arrival_long u ≡ true) where
        pub fits_no : window_fits w l ≡ false → some 2 ≡ first_no (size_and_lengths u w l)
        fits_no e = sym (sizes_yes ∙ no _ _ (rw (a, e) refl))

        pub both_yes : window_fits w l ≡ true → none ≡ first_no (size_and_lengths u w l)
        unfolding first_no
        both_yes e = sym (sizes_yes ∙ on (ask 2 (arrival_long u && window_fits w l)) [] (rw (a, e) refl))

  -- the two parts of question 2 as the code has them, n and m being its products
  pub arrival_is : (r own : Bool) (n : ℕ) → r ≡ lengths_fit n u.vel u.mask own → own ≡ (eqb (length u.counts) n && eqb (length u.labels) n) → n ≡ u.rays * u.gates → r ≡ arrival_long u
  unfolding arrival_long gates_of
  arrival_is r own n e f g = e ∙ ap (lengths_fit n u.vel u.mask) f ∙ rw g refl

  pub window_is : (r : Bool) (m : ℕ)
      → r ≡ (eqb l.words 4 && eqb l.winds (8 * m) && eqb l.shown (8 * m) && eqb l.picture m && eqb l.marks m && leb w.held 8 && ltb w.next 8)
      → m ≡ w.rays * w.gates → r ≡ window_fits w l
  unfolding window_fits
  window_is r m e f = e ∙ rw f refl

  -- ---- all questions

  -- those after the first two, and those after 10
  abbrev later : List Question
  later = after_lengths u ++ (ask 14 (same_size u w) ∷ [])

  -- a no to question 1 or 2
  pub missed_early : (k : ℕ) → first_no (size_and_lengths u w l) ≡ some k → asked_by u w l ≡ some k
  unfolding asked_by
  missed_early = stops (size_and_lengths u w l) later

  -- no question has the number 0
  pub asked_none : (k : ℕ) → k ≡ answer_of (asked_by u w l) → k ≡ 0 → asked_by u w l ≡ none
  unfolding asked_by all
  asked_none k e h = zero_none _ refl (sym e ∙ h)

  module _ (e : first_no (size_and_lengths u w l) ≡ none) where
    early_yes : asked_by u w l ≡ first_no later
    unfolding asked_by
    early_yes = goes_on (size_and_lengths u w l) later e

    -- a no to question 3, 5, 7 or 10
    pub missed_after : (k : ℕ) → first_no (after_lengths u) ≡ some k → asked_by u w l ≡ some k
    missed_after k f = early_yes ∙ stops (after_lengths u) (ask 14 (same_size u w) ∷ []) k f

    module _ (f : first_no (after_lengths u) ≡ none) where
      after_yes : asked_by u w l ≡ first_no (ask 14 (same_size u w) ∷ [])
      after_yes = early_yes ∙ goes_on (after_lengths u) (ask 14 (same_size u w) ∷ []) f

      pub missed_14 : same_size u w ≡ false → some 14 ≡ asked_by u w l
      missed_14 q = sym (after_yes ∙ no _ _ q)

      pub missed_none : same_size u w ≡ true → none ≡ asked_by u w l
      unfolding first_no
      missed_none q = sym (after_yes ∙ on (ask 14 (same_size u w)) [] q)

  -- ---- what a yes to questions 1 and 2 gives

  pub record Sized : Type 0 where
    pub small : gates_of u ≤ gates_of_largest
    pub vel : length u.vel ≡ gates_of u
    pub mask : length u.mask ≡ gates_of u
    pub counts : length u.counts ≡ gates_of u
    pub labels : length u.labels ≡ gates_of u
    pub words : l.words ≡ 4
    pub winds : l.winds ≡ 8 * (w.rays * w.gates)
    pub shown : l.shown ≡ 8 * (w.rays * w.gates)
    pub picture : l.picture ≡ w.rays * w.gates
    pub marks : l.marks ≡ w.rays * w.gates
    pub held : w.held ≤ 8
    pub next : w.next < 8

  and_seven : (a b c d e f g : Bool) → (a && b && c && d && e && f && g) ≡ true
      → (a ≡ true) × (b ≡ true) × (c ≡ true) × (d ≡ true) × (e ≡ true) × (f ≡ true) × (g ≡ true)
  and_seven a b c d e f g h =
      let l5 = and_left (a && b && c && d && e) f (and_left (a && b && c && d && e && f) g h) in
      let l3 = and_left (a && b && c) d (and_left (a && b && c && d) e l5) in
      let t = and_three a b c l3 in
      (t.0, t.1, t.2, and_right (a && b && c) d (and_left (a && b && c && d) e l5), and_right (a && b && c && d) e l5, and_right (a && b && c && d && e) f (and_left (a && b && c && d && e && f) g h), and_right (a && b && c && d && e && f) g h)

  pub gates_are : gates_of u ≡ u.rays * u.gates
  unfolding gates_of
  gates_are = refl

  pub sized : first_no (size_and_lengths u w l) ≡ none → Sized
  unfolding sizes_in_range arrival_long window_fits
  sized h =
      let m = w.rays * w.gates in
      let n = gates_of u in
      let one = all_yes _ _ h in
      let two = (all_yes _ _ one.1).0 in
      let long = long_are n u.vel u.mask (eqb (length u.counts) n && eqb (length u.labels) n) (and_left (arrival_long u) (window_fits w l) two) in
      let own = two_are (length u.counts) n (length u.labels) n long.2 in
      let fit = and_seven (eqb l.words 4) (eqb l.winds (8 * m)) (eqb l.shown (8 * m)) (eqb l.picture m) (eqb l.marks m) (leb w.held 8) (ltb w.next 8) (and_right (arrival_long u) (window_fits w l) two) in
      record {
        small = size_product u.rays u.gates n gates_are (and_left (size_in_range u.rays u.gates) (size_in_range w.rays w.gates) one.0);
        vel = long.0;
        mask = long.1;
        counts = own.0;
        labels = own.1;
        words = eqb-true l.words 4 fit.0;
        winds = eqb-true l.winds (8 * m) fit.1;
        shown = eqb-true l.shown (8 * m) fit.2;
        picture = eqb-true l.picture m fit.3;
        marks = eqb-true l.marks m fit.4;
        held = leb-true w.held 8 fit.5;
        next = ltb-true w.next 8 fit.6;
      }
