-- U11: the window of the last sweeps, and the call that adds one. An arrival is what the second entry takes (`Counted`).
use Rattle.std.specs.Prelude.{ℕ, zero, suc, ◌+◌, ◌-◌, ◌*◌, Bool, cond, ◌&&◌, List, [], ◌∷◌, ◌++◌, eqb, leb, ltb, length, get_or, set, Float}
use Rattle.std.proofs.Math.Option.{Option, none, some}
use Rattle.std.specs.Float.{nan}
use Rattle.lists.specs.Seq.{tabulate}
use Rattle.lists.specs.Inside.Seg.{put}
use Rattle.sweep.specs.Questions.{Question, ask, first_no, size_in_range, lengths_fit}
use Rattle.sweep.specs.Velocity.{Counted, shows_wind, velocities, after_lengths}
use Rattle.window.specs.declared.questions.Words.{Words}
use Rattle.window.specs.declared.questions.Lent.{Lent}
use Rattle.window.specs.Median.{median, mark}

-- ---- what is lent

-- four words, eight places of winds and of bytes that say whether a wind is shown, the picture and its marks
pub record Window : Type 0 where
  pub words : List ℕ
  pub winds : List Float
  pub shown : List ℕ
  pub picture : List Float
  pub marks : List ℕ

-- the same, of what the slices hold
abbrev pub window_of : List ℕ → List Float → List ℕ → List Float → List ℕ → Window
window_of words winds shown picture marks = record { words = words; winds = winds; shown = shown; picture = picture; marks = marks }

-- the four words: rays, gates per ray, sweeps held, next place; one that is missing counts as 0
abbrev pub words_in : List ℕ → Words
words_in l = record { rays = get_or l 0 0; gates = get_or l 1 0; held = get_or l 2 0; next = get_or l 3 0 }

abbrev pub words_of : Window → Words
words_of w = words_in w.words

-- how long the slices are
abbrev pub lengths_of : Window → Lent
lengths_of w = record { words = length w.words; winds = length w.winds; shown = length w.shown; picture = length w.picture; marks = length w.marks }

-- ---- the ring of eight places

-- the place after p
unfoldable pub after : ℕ → ℕ
after p = cond (eqb p 7) 0 (p + 1)

-- how many sweeps are held after an arrival
unfoldable pub more : ℕ → ℕ
more h = cond (eqb h 8) 8 (h + 1)

-- the place of the oldest of h sweeps, p being the next place
unfoldable pub oldest : ℕ → ℕ → ℕ
oldest p h = cond (leb h p) (p - h) (p + 8 - h)

-- a wind before others, where the gate's byte is 1
unfoldable pub before : ℕ → Float → List Float → List Float
before b v vs = cond (eqb b 1) (v ∷ vs) vs

-- the winds that gate g of n shows in k sweeps from place p on
unfoldable pub winds_from : List Float → List ℕ → ℕ → ℕ → ℕ → ℕ → List Float
winds_from ws bs n g p zero = []
winds_from ws bs n g p (suc k) = before (get_or bs (p * n + g) 0) (get_or ws (p * n + g) nan) (winds_from ws bs n g (after p) k)

-- ---- the questions

-- the gates of an arrival
unfoldable pub gates_of : Counted → ℕ
gates_of u = u.rays * u.gates

-- question 1, of the arrival's size and of the window's
unfoldable pub sizes_in_range : Counted → Words → Bool
sizes_in_range u w = size_in_range u.rays u.gates && size_in_range w.rays w.gates

-- question 2, of the arrival's four slices
unfoldable pub arrival_long : Counted → Bool
arrival_long u = lengths_fit (gates_of u) u.vel u.mask (eqb (length u.counts) (gates_of u) && eqb (length u.labels) (gates_of u))

-- question 2, of the window: its slices at its own size, at most eight sweeps held, and a place that there is
unfoldable pub window_fits : Words → Lent → Bool
window_fits w l =
    let n = w.rays * w.gates in
    eqb l.words 4 && eqb l.winds (8 * n) && eqb l.shown (8 * n) && eqb l.picture n && eqb l.marks n && leb w.held 8 && ltb w.next 8

-- question 14: rays and gates are the window's
unfoldable pub same_size : Counted → Words → Bool
same_size u w = eqb u.rays w.rays && eqb u.gates w.gates

-- questions 1 and 2
abbrev pub size_and_lengths : Counted → Words → Lent → List Question
size_and_lengths u w l = ask 1 (sizes_in_range u w) ∷ ask 2 (arrival_long u && window_fits w l) ∷ []

-- all questions in their order: 1, 2, 3, 5, 7, 10 and 14
unfoldable pub asked_by : Counted → Words → Lent → Option ℕ
asked_by u w l = first_no (size_and_lengths u w l ++ (after_lengths u ++ (ask 14 (same_size u w) ∷ [])))

-- the first that gets a no
abbrev pub asked_window : Counted → Window → Option ℕ
asked_window u w = asked_by u (words_of w) (lengths_of w)

-- ---- the call

-- whether gate g of an arrival shows a wind
unfoldable pub shows_at : Counted → ℕ → Bool
shows_at u g = shows_wind (get_or u.mask g 0) (get_or u.labels g 0)

-- the byte of each gate: 1 where it shows a wind, else 0
unfoldable pub shown_bytes : Counted → List ℕ
shown_bytes u = tabulate (gates_of u) (λ g. cond (shows_at u g) 1 0)

-- the window's winds with an arrival's at the next place
unfoldable pub winds_with : Counted → Window → List Float
winds_with u w = put w.winds ((words_of w).next * gates_of u) (velocities u)

-- and its bytes
unfoldable pub shown_with : Counted → Window → List ℕ
shown_with u w = put w.shown ((words_of w).next * gates_of u) (shown_bytes u)

-- the winds that gate g shows with an arrival, the oldest sweep's first
unfoldable pub winds_now : Counted → Window → ℕ → List Float
winds_now u w g =
    let h = more (words_of w).held in
    winds_from (winds_with u w) (shown_with u w) (gates_of u) g (oldest (after (words_of w).next) h) h

-- the window after an accepted arrival
unfoldable pub added : Counted → Window → Window
added u w = record {
  words = set (set w.words 2 (more (words_of w).held)) 3 (after (words_of w).next);
  winds = winds_with u w;
  shown = shown_with u w;
  picture = tabulate (gates_of u) (λ g. median (winds_now u w g));
  marks = tabulate (gates_of u) (λ g. mark (winds_now u w g));
}

-- an answer number and the window afterwards
pub record WindowAnswer : Type 0 where
  pub number : ℕ
  pub window : Window

-- the same, of what the slices hold
abbrev pub window_answer_by : ℕ → List ℕ → List Float → List ℕ → List Float → List ℕ → WindowAnswer
window_answer_by r words winds shown picture marks = record { number = r; window = window_of words winds shown picture marks }

-- the call: a refusal leaves all that was lent
unfoldable pub call_window : Counted → Window → WindowAnswer
call_window u w = elim (asked_window u w) [ none ↦ record { number = 0; window = added u w } | some k ↦ record { number = k; window = w } ]
