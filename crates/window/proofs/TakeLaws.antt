-- What the proof of `take_in` cites: what a yes to every question gives in the code's terms, and the window that the parts make. Assumes nothing.
use Prim.Native.Nat.{ℕ, suc, ◌+◌, ◌*◌, ◌≤◌, ◌<◌}
use native.Mathlib.Omega.{arith}
use native.Mathlib.Nat.{mul-le-mul, suc-mul}
use mathlib.Core.Path.{◌≡◌, sym, ap, ◌∙◌}
use mathlib.Core.Bool.{true, cond}
use mathlib.Core.Option.{none}
use mathlib.Core.List.{List, [], ◌∷◌, ◌++◌}
use lib.Dec.{eqb}
use lib.ListN.{length, get_or, set}
use lib.IntN.{pos}
use lib.Ieee.{Float, nan}
use borrow.Author.Tests.{eqb-true}
use Rattle.lists.specs.Seq.{tabulate}
use Rattle.lists.specs.Inside.Seg.{put}
use Rattle.lists.proofs.SegLaws.{length-put}
use Rattle.lists.proofs.AllLaws.{and_left, and_right}
use Rattle.memory.specs.Size.{gates_of_largest}
use Rattle.sweep.specs.Questions.{ask, first_no}
use Rattle.sweep.specs.Velocity.{Counted, shows_wind, unfolded_at, velocities, after_lengths}
use Rattle.sweep.proofs.QuestionLaws.{first_yes, rest_yes, all_yes}
use Rattle.window.specs.Median.{median, mark}
use Rattle.window.specs.Window.{Window, window_of, words_of, lengths_of, after, more, oldest, winds_from, gates_of, same_size, size_and_lengths, asked_by, asked_window, shows_at, shown_bytes, winds_with, shown_with, winds_now, added}
use Rattle.window.specs.Inside.Drawing.{Held}
use Rattle.window.proofs.AskLaws.{Sized, sized}
use Rattle.window.proofs.RingNumbers.{after_below, more_few, oldest_below}

-- ---- a yes to every question

module _ (u : Counted) (w : Window) (asked : asked_window u w ≡ none) where
  pub sized_all : Sized u (words_of w) (lengths_of w)
  unfolding asked_by
  sized_all = sized u (words_of w) (lengths_of w) (first_yes (size_and_lengths u (words_of w) (lengths_of w)) (after_lengths u ++ (ask 14 (same_size u (words_of w)) ∷ [])) asked)

  later_yes : first_no (after_lengths u ++ (ask 14 (same_size u (words_of w)) ∷ [])) ≡ none
  unfolding asked_by
  later_yes = rest_yes (size_and_lengths u (words_of w) (lengths_of w)) (after_lengths u ++ (ask 14 (same_size u (words_of w)) ∷ [])) asked

  -- questions 3, 5, 7 and 10
  pub after_yes : first_no (after_lengths u) ≡ none
  after_yes = first_yes (after_lengths u) (ask 14 (same_size u (words_of w)) ∷ []) later_yes

  same_size_lem : same_size u (words_of w) ≡ true
  same_size_lem = (all_yes _ _ (rest_yes (after_lengths u) (ask 14 (same_size u (words_of w)) ∷ []) later_yes)).0

  -- rays and gates are the window's, and so their product
  pub same_product : gates_of u ≡ (words_of w).rays * (words_of w).gates
  unfolding same_size gates_of
  same_product =
      let r = eqb-true u.rays (words_of w).rays (and_left (eqb u.rays (words_of w).rays) (eqb u.gates (words_of w).gates) same_size_lem) in
      let g = eqb-true u.gates (words_of w).gates (and_right (eqb u.rays (words_of w).rays) (eqb u.gates (words_of w).gates) same_size_lem) in
      λ i. r i * g i

-- the same facts with the velocities' length for the gates
pub record Ready (u : Counted) (w : Window) : Type 0 where
  pub small : length u.vel ≤ gates_of_largest
  pub gates : length u.vel ≡ gates_of u
  pub mask : length u.mask ≡ length u.vel
  pub counts : length u.counts ≡ length u.vel
  pub labels : length u.labels ≡ length u.vel
  pub words : length w.words ≡ 4
  pub winds : length w.winds ≡ 8 * length u.vel
  pub shown : length w.shown ≡ 8 * length u.vel
  pub picture : length w.picture ≡ length u.vel
  pub marks : length w.marks ≡ length u.vel
  pub room : (words_of w).next * length u.vel + length u.vel ≤ 8 * length u.vel
  pub held : (words_of w).held ≤ 8
  pub next : (words_of w).next < 8

module _ (u : Counted) (w : Window) (asked : asked_window u w ≡ none) where
  pub ready : Ready u w
  ready =
      let z = sized_all u w asked in
      let p = same_product u w asked in
      let n : length u.vel ≡ gates_of u = z.vel in
      let m = z.vel ∙ p in
      record {
        small = omega (arith, z.small, n);
        gates = n;
        mask = z.mask ∙ sym n;
        counts = z.counts ∙ sym n;
        labels = z.labels ∙ sym n;
        words = z.words;
        winds = z.winds ∙ ap (λ (x : ℕ). 8 * x) (sym m);
        shown = z.shown ∙ ap (λ (x : ℕ). 8 * x) (sym m);
        picture = z.picture ∙ sym m;
        marks = z.marks ∙ sym m;
        held = z.held;
        next = z.next;
        room = within (mul-le-mul z.next (self (length u.vel)));
      }
    where
      self : (n : ℕ) → n ≤ n
      self n = omega arith

      within : suc (words_of w).next * length u.vel ≤ 8 * length u.vel → (words_of w).next * length u.vel + length u.vel ≤ 8 * length u.vel
      within h = omega (arith, suc-mul (words_of w).next (length u.vel))

  -- what is written
  module _ (h x first : ℕ) (ws : List Float) (bs : List ℕ) (eh : h ≡ more (words_of w).held) (ex : x ≡ after (words_of w).next) (ef : first ≡ oldest x h)
      (ew : ws ≡ put w.winds ((words_of w).next * length u.vel) (tabulate (length u.vel) (λ g. unfolded_at u.nyquist (get_or u.vel g nan) (get_or u.mask g 0) (get_or u.counts g (pos 0)) (get_or u.labels g 0))))
      (eb : bs ≡ put w.shown ((words_of w).next * length u.vel) (tabulate (length u.mask) (λ g. cond (shows_wind (get_or u.mask g 0) (get_or u.labels g 0)) 1 0))) where
    few_held : h ≤ 8
    few_held = omega (arith, eh, more_few (words_of w).held ready.held)

    next_below : x < 8
    next_below = omega (arith, ex, after_below (words_of w).next ready.next)

    pub held_now : Held ws bs (length u.vel) first h
    held_now = record {
      winds = ap length ew ∙ length-put w.winds _ _ ∙ ready.winds;
      shown = ap length eb ∙ length-put w.shown _ _ ∙ ready.shown;
      small = ready.small;
      place = omega (arith, ef, oldest_below x h next_below few_held);
      few = few_held;
    }

    winds_are : ws ≡ winds_with u w
    unfolding winds_with velocities gates_of
    winds_are =
        ew
        ∙ ap (λ (n : ℕ). put w.winds ((words_of w).next * n) (tabulate n (λ g. unfolded_at u.nyquist (get_or u.vel g nan) (get_or u.mask g 0) (get_or u.counts g (pos 0)) (get_or u.labels g 0)))) ready.gates

    shown_are : bs ≡ shown_with u w
    unfolding shown_with shown_bytes shows_at
    shown_are =
        eb
        ∙ ap (λ (n : ℕ). put w.shown ((words_of w).next * length u.vel) (tabulate n (λ g. cond (shows_at u g) 1 0))) ready.mask
        ∙ ap (λ (n : ℕ). put w.shown ((words_of w).next * n) (tabulate n (λ g. cond (shows_at u g) 1 0))) ready.gates

    winds_now_lem : (λ (g : ℕ). winds_from ws bs (length u.vel) g first h) ≡ winds_now u w
    unfolding winds_now
    winds_now_lem =
        (λ i. λ (g : ℕ). winds_from (winds_are i) (shown_are i) (ready.gates i) g (ef i) h)
        ∙ (λ i. λ (g : ℕ). winds_from (winds_with u w) (shown_with u w) (gates_of u) g (oldest (ex i) (eh i)) (eh i))

    pub taken_in : (ps : List Float) (ms : List ℕ)
        → ps ≡ tabulate (length u.vel) (λ g. median (winds_from ws bs (length u.vel) g first h))
        → ms ≡ tabulate (length u.vel) (λ g. mark (winds_from ws bs (length u.vel) g first h))
        → window_of (set (set w.words 2 h) 3 x) ws bs ps ms ≡ added u w
    unfolding added
    taken_in ps ms ep em =
        let fp : ps ≡ tabulate (gates_of u) (λ g. median (winds_now u w g)) = ep ∙ (λ i. tabulate (ready.gates i) (λ g. median (winds_now_lem i g))) in
        let fm : ms ≡ tabulate (gates_of u) (λ g. mark (winds_now u w g)) = em ∙ (λ i. tabulate (ready.gates i) (λ g. mark (winds_now_lem i g))) in
        λ i. window_of (set (set w.words 2 (eh i)) 3 (ex i)) (winds_are i) (shown_are i) (fp i) (fm i)
