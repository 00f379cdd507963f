-- The ring of eight places: where the sweeps of the last arrivals lie, and what an arrival changes. Assumes nothing.
use Prim.Native.Nat.{ℕ, zero, suc, ◌+◌, ◌-◌, ◌*◌, ◌/◌, ◌%◌, ◌≤◌, ◌<◌}
use native.Mathlib.Nat.{mod-lt, div-add-mod', mul-le-mul, suc-mul}
use native.Mathlib.Omega.{arith}
use mathlib.Core.Path.{◌≡◌, refl, sym, ap, ◌∙◌}
use mathlib.Core.Bool.{Bool, true, false, cond}
use mathlib.Core.Logic.{⊎_elim}
use mathlib.Core.List.{List, [], ◌∷◌, ◌++◌}
use lib.Dec.{eqb}
use lib.ListN.{length, get_or, set, drop, length-append, length-set, drop_of_length-le}
use lib.Seq.{drop-append-le, get_or-set_same, get_or-set_other}
use lib.IntN.{pos}
use lib.Ieee.{Float, nan}
use Rattle.lists.specs.Seq.{tabulate}
use Rattle.lists.specs.Inside.Seg.{put}
use Rattle.lists.proofs.SeqLaws.{tab_at, tab_length, tab_same}
use Rattle.lists.proofs.SegLaws.{lt_or_le, eq_or_ne, get_or-put_in, get_or-put_out}
use Rattle.sweep.specs.Velocity.{Counted, unfolded_at, velocities}
use Rattle.sweep.proofs.VelocityLaws.{shown_at}
use Rattle.window.specs.Median.{median, mark}
use Rattle.window.specs.Window.{Window, words_of, after, more, oldest, before, winds_from, gates_of, shows_at, shown_bytes, winds_with, shown_with, winds_now, added}
use Rattle.window.specs.Sequence.{wind_at, winds_in, picture_of, marks_of, last_eight}
use Rattle.window.proofs.MedianLaws.{place_in}
use Rattle.window.proofs.RingNumbers.{after_last, after_other, more_last, more_other, oldest_low, oldest_high}

-- ---- remainders by eight

eight : (t : ℕ) → t / 8 * 8 + t % 8 ≡ t
eight t = div-add-mod' t 8

below : (t : ℕ) → t % 8 < 8
below t = mod-lt t (omega arith)

-- the place after that of arrival t is that of arrival t + 1
after_mod : (t : ℕ) → after (t % 8) ≡ (t + 1) % 8
after_mod t =
    ⊎_elim (λ e. after_last (t % 8) e ∙ last (t / 8) (t % 8) ((t + 1) / 8) ((t + 1) % 8) e (eight t) (eight (t + 1)) (below (t + 1)))
    (λ e. after_other (t % 8) e ∙ other (t / 8) (t % 8) ((t + 1) / 8) ((t + 1) % 8) e (below t) (eight t) (eight (t + 1)) (below (t + 1)))
    (eq_or_ne (t % 8) 7)
  where
    last : (q r q' r' : ℕ) → r ≡ 7 → q * 8 + r ≡ t → q' * 8 + r' ≡ t + 1 → r' < 8 → 0 ≡ r'
    last q r q' r' e a b h = omega arith

    other : (q r q' r' : ℕ) → (r ≡ 7 → ⊥) → r < 8 → q * 8 + r ≡ t → q' * 8 + r' ≡ t + 1 → r' < 8 → r + 1 ≡ r'
    other q r q' r' e l a b h = omega arith

-- fewer than eight arrivals apart, the places are different
apart : (t k : ℕ) → 0 < k → k ≤ 7 → t % 8 ≡ (t + k) % 8 → ⊥
apart t k h l e = go (t / 8) (t % 8) ((t + k) / 8) ((t + k) % 8) (eight t) (eight (t + k)) e
  where
    go : (q r q' r' : ℕ) → q * 8 + r ≡ t → q' * 8 + r' ≡ t + k → r ≡ r' → ⊥
    go q r q' r' a b e = omega arith

-- the place of the oldest of h sweeps after t + h arrivals
oldest_mod : (t h : ℕ) → h ≤ 8 → oldest ((t + h) % 8) h ≡ t % 8
oldest_mod t h l =
    ⊎_elim (λ e. oldest_high ((t + h) % 8) h e ∙ high (t / 8) (t % 8) ((t + h) / 8) ((t + h) % 8) e (eight t) (eight (t + h)) (below t))
    (λ e. oldest_low ((t + h) % 8) h e ∙ low (t / 8) (t % 8) ((t + h) / 8) ((t + h) % 8) e (eight t) (eight (t + h)) (below t) (below (t + h)))
    (lt_or_le ((t + h) % 8) h)
  where
    high : (q r q' r' : ℕ) → r' < h → q * 8 + r ≡ t → q' * 8 + r' ≡ t + h → r < 8 → r' + 8 - h ≡ r
    high q r q' r' e a b k = omega arith

    low : (q r q' r' : ℕ) → h ≤ r' → q * 8 + r ≡ t → q' * 8 + r' ≡ t + h → r < 8 → r' < 8 → r' - h ≡ r
    low q r q' r' e a b k m = omega arith

-- ---- lists of winds

before_append : (b : ℕ) (v : Float) (x y : List Float) → before b v (x ++ y) ≡ before b v x ++ y
unfolding before
before_append b v x y = go (eqb b 1)
  where
    go : (c : Bool) → cond c (v ∷ (x ++ y)) (x ++ y) ≡ cond c (v ∷ x) x ++ y
    go true = refl
    go false = refl

winds_append : (l m : List Counted) (g : ℕ) → winds_in (l ++ m) g ≡ winds_in l g ++ winds_in m g
unfolding winds_in
winds_append [] m g = refl
winds_append (u ∷ l) m g = go (shows_at u g) (winds_append l m g)
  where
    go : (b : Bool) → winds_in (l ++ m) g ≡ winds_in l g ++ winds_in m g
        → cond b (wind_at u g ∷ winds_in (l ++ m) g) (winds_in (l ++ m) g) ≡ cond b (wind_at u g ∷ winds_in l g) (winds_in l g) ++ winds_in m g
    go true e = ap (λ (x : List Float). wind_at u g ∷ x) e
    go false e = e

nothing : (ws : List Float) (bs : List ℕ) (n g p : ℕ) → winds_from ws bs n g p 0 ≡ winds_in [] g
unfolding winds_from winds_in
nothing ws bs n g p = refl

-- ---- what an arrival changes

module _ (u : Counted) where
  -- gate g's wind as it is written, and its byte
  abbrev written : ℕ → Float
  written g = unfolded_at u.nyquist (get_or u.vel g nan) (get_or u.mask g 0) (get_or u.counts g (pos 0)) (get_or u.labels g 0)

  abbrev byte : ℕ → ℕ
  byte g = cond (shows_at u g) 1 0

  velocities_are : velocities u ≡ tabulate (gates_of u) written
  unfolding velocities gates_of
  velocities_are = refl

  -- where the gate shows a wind, that is its wind
  written_is : (g : ℕ) → shows_at u g ≡ true → written g ≡ wind_at u g
  unfolding shows_at wind_at
  written_is g h = shown_at u.nyquist (get_or u.vel g nan) (get_or u.mask g 0) (get_or u.counts g (pos 0)) (get_or u.labels g 0) h

  before_one : (g : ℕ) → before (byte g) (written g) [] ≡ winds_in (u ∷ []) g
  unfolding before winds_in
  before_one g = go (shows_at u g) refl
    where
      go : (b : Bool) → shows_at u g ≡ b → cond (eqb (cond b 1 0) 1) (written g ∷ []) [] ≡ cond b (wind_at u g ∷ []) []
      go true h = ap (λ (x : Float). x ∷ []) (written_is g h)
      go false h = refl

module _ (u : Counted) (w : Window) where
  -- an index at another place
  elsewhere : (p g : ℕ) → (p ≡ (words_of w).next → ⊥) → g < gates_of u → (words_of w).next * gates_of u ≤ p * gates_of u + g → p * gates_of u + g < (words_of w).next * gates_of u + gates_of u → ⊥
  elsewhere p g e h x y =
      ⊎_elim (λ l. under (suc-mul p (gates_of u)) (mul-le-mul l (self (gates_of u))))
      (λ l. over (suc-mul (words_of w).next (gates_of u)) (mul-le-mul (above l) (self (gates_of u))))
      (lt_or_le p (words_of w).next)
    where
      self : (n : ℕ) → n ≤ n
      self n = omega arith

      above : (words_of w).next ≤ p → suc (words_of w).next ≤ p
      above l = omega arith

      under : suc p * gates_of u ≡ p * gates_of u + gates_of u → suc p * gates_of u ≤ (words_of w).next * gates_of u → ⊥
      under e l = omega arith

      over : suc (words_of w).next * gates_of u ≡ (words_of w).next * gates_of u + gates_of u → suc (words_of w).next * gates_of u ≤ p * gates_of u → ⊥
      over e l = omega arith

  -- what lies there stays
  pub old_wind : (p g : ℕ) → (p ≡ (words_of w).next → ⊥) → g < gates_of u → get_or (winds_with u w) (p * gates_of u + g) nan ≡ get_or w.winds (p * gates_of u + g) nan
  unfolding winds_with
  old_wind p g e h =
      get_or-put_out w.winds ((words_of w).next * gates_of u) (velocities u) (p * gates_of u + g) nan
      (λ x y. elsewhere p g e h x (omega (arith, ap length (velocities_are u), tab_length (written u) (gates_of u))))

  pub old_byte : (p g : ℕ) → (p ≡ (words_of w).next → ⊥) → g < gates_of u → get_or (shown_with u w) (p * gates_of u + g) 0 ≡ get_or w.shown (p * gates_of u + g) 0
  unfolding shown_with shown_bytes
  old_byte p g e h =
      get_or-put_out w.shown ((words_of w).next * gates_of u) (tabulate (gates_of u) (byte u)) (p * gates_of u + g) 0 (λ x y. elsewhere p g e h x (omega (arith, tab_length (byte u) (gates_of u))))

  module _ (place : (words_of w).next < 8) (winds : length w.winds ≡ 8 * gates_of u) (shown : length w.shown ≡ 8 * gates_of u) where
    -- at its own place
    new_wind : (g : ℕ) → g < gates_of u → get_or (winds_with u w) ((words_of w).next * gates_of u + g) nan ≡ written u g
    unfolding winds_with
    new_wind g h =
        ap (λ (l : List Float). get_or l ((words_of w).next * gates_of u + g) nan) (ap (put w.winds ((words_of w).next * gates_of u)) (velocities_are u))
        ∙ get_or-put_in w.winds ((words_of w).next * gates_of u) (tabulate (gates_of u) (written u)) g nan (omega (arith, tab_length (written u) (gates_of u)))
        (omega (arith, place_in (words_of w).next g (gates_of u) place h))
        ∙ tab_at (written u) (gates_of u) g nan h

    new_byte : (g : ℕ) → g < gates_of u → get_or (shown_with u w) ((words_of w).next * gates_of u + g) 0 ≡ byte u g
    unfolding shown_with shown_bytes
    new_byte g h =
        get_or-put_in w.shown ((words_of w).next * gates_of u) (tabulate (gates_of u) (byte u)) g 0 (omega (arith, tab_length (byte u) (gates_of u))) (omega (arith, place_in (words_of w).next g (gates_of u) place h))
        ∙ tab_at (byte u) (gates_of u) g 0 h

    -- the sweeps from that of arrival t on, with this one after them
    winds_more : (k t g : ℕ) → (words_of w).next ≡ (t + k) % 8 → k ≤ 7 → g < gates_of u
        → winds_from (winds_with u w) (shown_with u w) (gates_of u) g (t % 8) (suc k) ≡ winds_from w.winds w.shown (gates_of u) g (t % 8) k ++ winds_in (u ∷ []) g
    unfolding winds_from
    winds_more zero t g e l h =
        let p : (words_of w).next ≡ t % 8 = e ∙ ap (λ (m : ℕ). m % 8) (omega arith) in
        ap (λ (q : ℕ). before (get_or (shown_with u w) (q * gates_of u + g) 0) (get_or (winds_with u w) (q * gates_of u + g) nan) []) (sym p)
        ∙ ap (λ (b : ℕ). before b (get_or (winds_with u w) ((words_of w).next * gates_of u + g) nan) []) (new_byte g h)
        ∙ ap (λ (v : Float). before (byte u g) v []) (new_wind g h)
        ∙ before_one u g
    winds_more (suc k) t g e l h =
        let q : t % 8 ≡ (words_of w).next → ⊥ = λ x. apart t (suc k) (omega arith) l (x ∙ e) in
        let i = t % 8 * gates_of u + g in
        let f : (words_of w).next ≡ (t + 1 + k) % 8 = e ∙ ap (λ (m : ℕ). m % 8) (omega arith) in
        let b = get_or w.shown i 0 in
        let v = get_or w.winds i nan in
        ap (λ (x : ℕ). before x (get_or (winds_with u w) i nan) (winds_from (winds_with u w) (shown_with u w) (gates_of u) g (after (t % 8)) (suc k))) (old_byte (t % 8) g q h)
        ∙ ap (λ (x : Float). before b x (winds_from (winds_with u w) (shown_with u w) (gates_of u) g (after (t % 8)) (suc k))) (old_wind (t % 8) g q h)
        ∙ ap (λ (x : ℕ). before b v (winds_from (winds_with u w) (shown_with u w) (gates_of u) g x (suc k))) (after_mod t)
        ∙ ap (before b v) (winds_more k (t + 1) g f (omega arith) h)
        ∙ before_append b v (winds_from w.winds w.shown (gates_of u) g ((t + 1) % 8) k) (winds_in (u ∷ []) g)
        ∙ ap (λ (x : ℕ). before b v (winds_from w.winds w.shown (gates_of u) g x k) ++ winds_in (u ∷ []) g) (sym (after_mod t))

-- ---- the ring holds the last eight

-- the window's memory holds the last eight of these arrivals, that of arrival t at place t modulo 8
pub record Ring (n : ℕ) (w : Window) (l : List Counted) : Type 0 where
  pub number : (words_of w).held ≡ length l - (length l - 8)
  pub place : (words_of w).next ≡ length l % 8
  pub winds : (t g : ℕ) → t ≤ length l → length l ≤ t + 8 → g < n → winds_from w.winds w.shown n g (t % 8) (length l - t) ≡ winds_in (drop t l) g

module _ (u : Counted) (w : Window) (l : List Counted) (words : length w.words ≡ 4) (winds : length w.winds ≡ 8 * gates_of u) (shown : length w.shown ≡ 8 * gates_of u) (r : Ring (gates_of u) w l) where
  one_more : length (l ++ (u ∷ [])) ≡ length l + 1
  one_more = length-append l (u ∷ [])

  at_place : (words_of w).next < 8
  at_place = omega (arith, r.place, below (length l))

  held_more : more (words_of w).held ≡ length l + 1 - (length l + 1 - 8)
  held_more =
      ⊎_elim (λ e. omega (arith, more_last (words_of w).held e, r.number)) (λ e. omega (arith, more_other (words_of w).held e, r.number)) (eq_or_ne (words_of w).held 8)

  place_more : after (words_of w).next ≡ (length l + 1) % 8
  place_more = ap after r.place ∙ after_mod (length l)

  -- the winds of the last arrivals after this one
  winds_now_lem : (t g : ℕ) → t ≤ length l + 1 → length l + 1 ≤ t + 8 → g < gates_of u
      → winds_from (winds_with u w) (shown_with u w) (gates_of u) g (t % 8) (length l + 1 - t) ≡ winds_in (drop t (l ++ (u ∷ []))) g
  winds_now_lem t g h k m = ⊎_elim (λ e. old (omega arith)) (λ e. new (omega arith)) (lt_or_le t (length l + 1))
    where
      old : t ≤ length l → winds_from (winds_with u w) (shown_with u w) (gates_of u) g (t % 8) (length l + 1 - t) ≡ winds_in (drop t (l ++ (u ∷ []))) g
      old q =
          let s : length l + 1 - t ≡ suc (length l - t) = omega arith in
          let e : length l ≡ t + (length l - t) = omega arith in
          ap (winds_from (winds_with u w) (shown_with u w) (gates_of u) g (t % 8)) s
          ∙ winds_more u w at_place winds shown (length l - t) t g (r.place ∙ ap (λ (x : ℕ). x % 8) e) (omega arith) m
          ∙ ap (λ (x : List Float). x ++ winds_in (u ∷ []) g) (r.winds t g q (omega arith) m)
          ∙ sym (winds_append (drop t l) (u ∷ []) g)
          ∙ ap (λ (x : List Counted). winds_in x g) (sym (drop-append-le t l (u ∷ []) q))

      new : t ≡ length l + 1 → winds_from (winds_with u w) (shown_with u w) (gates_of u) g (t % 8) (length l + 1 - t) ≡ winds_in (drop t (l ++ (u ∷ []))) g
      new q =
          let z : length l + 1 - t ≡ 0 = omega arith in
          let past : length (l ++ (u ∷ [])) ≤ t = omega (arith, one_more) in
          ap (winds_from (winds_with u w) (shown_with u w) (gates_of u) g (t % 8)) z
          ∙ nothing (winds_with u w) (shown_with u w) (gates_of u) g (t % 8)
          ∙ ap (λ (x : List Counted). winds_in x g) (sym (drop_of_length-le (l ++ (u ∷ [])) past))

  pub ring_more : Ring (gates_of u) (added u w) (l ++ (u ∷ []))
  unfolding added
  ring_more =
      let h = more (words_of w).held in
      let p = after (words_of w).next in
      record {
        number = get_or-set_other (set w.words 2 h) 3 2 p 0 (λ e. omega arith) ∙ get_or-set_same w.words 2 h 0 (omega arith) ∙ held_more ∙ rw one_more refl;
        place = get_or-set_same (set w.words 2 h) 3 p 0 (omega (arith, length-set w.words 2 h)) ∙ place_more ∙ rw one_more refl;
        winds = λ t g h k m. rw one_more (winds_now_lem t g (omega (arith, one_more)) (omega (arith, one_more)) m);
      }

  -- what the picture is drawn from
  drawn_from : (g : ℕ) → g < gates_of u → winds_now u w g ≡ winds_in (last_eight (l ++ (u ∷ []))) g
  unfolding winds_now last_eight
  drawn_from g m =
      let T = length l + 1 in
      let t = T - 8 in
      let e : T ≡ t + (T - t) = omega arith in
      ap (λ (h : ℕ). winds_from (winds_with u w) (shown_with u w) (gates_of u) g (oldest (after (words_of w).next) h) h) held_more
      ∙ ap (λ (p : ℕ). winds_from (winds_with u w) (shown_with u w) (gates_of u) g (oldest p (T - t)) (T - t)) (place_more ∙ ap (λ (x : ℕ). x % 8) e)
      ∙ ap (λ (p : ℕ). winds_from (winds_with u w) (shown_with u w) (gates_of u) g p (T - t)) (oldest_mod t (T - t) (omega arith))
      ∙ winds_now_lem t g (omega arith) (omega arith) m
      ∙ ap (λ (x : ℕ). winds_in (drop (x - 8) (l ++ (u ∷ []))) g) (sym one_more)

  pub picture_drawn : (added u w).picture ≡ picture_of (gates_of u) (last_eight (l ++ (u ∷ [])))
  unfolding added picture_of
  picture_drawn = tab_same (λ g. median (winds_now u w g)) (λ g. median (winds_in (last_eight (l ++ (u ∷ []))) g)) (gates_of u) (λ g h. ap median (drawn_from g h))

  pub marks_drawn : (added u w).marks ≡ marks_of (gates_of u) (last_eight (l ++ (u ∷ [])))
  unfolding added marks_of
  marks_drawn = tab_same (λ g. mark (winds_now u w g)) (λ g. mark (winds_in (last_eight (l ++ (u ∷ []))) g)) (gates_of u) (λ g h. ap mark (drawn_from g h))
