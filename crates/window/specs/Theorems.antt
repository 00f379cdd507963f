-- U11: what a caller of `jivakkol_window_add` may rely on. An arrival u is what the second entry takes; w is all memory of the window. `proofs/Theorems` proves
-- each. Statements only.
--
-- In words. Take a window of any size and write into it that no sweep is held and that place 0 is next; whatever else lies in its memory does not matter.
-- Let only these calls write it. Then make any calls, one after another, some accepted and some refused. After each accepted arrival the picture shows
-- what one would work out afresh from the last eight accepted arrivals, or from all of them while there are fewer (`afresh`), and it goes on to
-- show that over any refused calls (`still_afresh`). At each gate that is: of the winds that the gate shows in these arrivals one that is their median
-- (`picture_shows`), or, where it shows none, 0 with mark 1 (`picture_empty`).
use Rattle.std.specs.Prelude.{ℕ, ◌+◌, ◌*◌, ◌<◌, ◌≡◌, true, List, [], ◌∷◌, ◌++◌, length, get_or, pos, Float}
use Rattle.std.specs.Float.{nan}
use Rattle.lists.specs.Inside.Seg.{seg}
use Rattle.arithmetic.specs.Rounding.{real}
use Rattle.sweep.specs.Entry.{answer_of}
use Rattle.sweep.specs.Velocity.{Counted, call_velocity}
use Rattle.window.specs.Median.{Middle}
use Rattle.window.specs.Window.{Window, words_of, lengths_of, window_fits, asked_window, gates_of, call_window}
use Rattle.window.specs.Sequence.{Empty, window_gates, after_calls, accepted, last_eight, winds_in, picture_of, marks_of}

-- ---- one call

-- `window_answer_is`: the answer is the number of the first question that gets a no, or 0
abbrev pub WindowAnswerIs : Type 0
WindowAnswerIs = (u : Counted) (w : Window) → (call_window u w).number ≡ answer_of (asked_window u w)

-- `window_refusal_keeps`: a refusal leaves window, picture and marks as they were
abbrev pub WindowRefusalKeeps : Type 0
WindowRefusalKeeps = (u : Counted) (w : Window) → 0 < (call_window u w).number → (call_window u w).window ≡ w

-- what an arrival leaves at the next place is what the second entry writes
pub record TakesIn (u : Counted) (w : Window) (out : List Float) : Type 0 where
  pub number : (call_window u w).number ≡ 0
  pub winds : seg (call_window u w).window.winds ((words_of w).next * gates_of u) (gates_of u) ≡ (call_velocity u out).unfolded

-- `window_takes`: what the second entry accepts, a window of the same size accepts, and it writes the same winds; so fold counts and labels that the sweep entry
-- and the region map left for one sweep are never refused (`never_refused` of locality: Wind)
abbrev pub WindowTakes : Type 0
WindowTakes =
    (u : Counted) (w : Window) (out : List Float) → (call_velocity u out).number ≡ 0 → window_fits (words_of w) (lengths_of w) ≡ true
    → u.rays ≡ (words_of w).rays → u.gates ≡ (words_of w).gates → TakesIn u w out

-- gate g at place p
abbrev pub gate_at : Counted → ℕ → ℕ → ℕ
gate_at u p g = p * gates_of u + g

-- a wind and its byte are as they were
pub record Stays (w v : Window) (i : ℕ) : Type 0 where
  pub wind : get_or v.winds i nan ≡ get_or w.winds i nan
  pub byte : get_or v.shown i 0 ≡ get_or w.shown i 0

-- `places_stay`: an accepted arrival moves no sweep: what lies at any place but the next stays
abbrev pub PlacesStay : Type 0
PlacesStay =
    (u : Counted) (w : Window) (p g : ℕ) → (call_window u w).number ≡ 0 → (p ≡ (words_of w).next → ⊥) → g < gates_of u → Stays w (call_window u w).window (gate_at u p g)

-- ---- any calls

-- window v shows what is worked out afresh from the last eight of these arrivals, or from all while fewer; n is its gates
pub record Shows (n : ℕ) (v : Window) (us : List Counted) : Type 0 where
  pub picture : v.picture ≡ picture_of n (last_eight us)
  pub marks : v.marks ≡ marks_of n (last_eight us)

-- `afresh`: from an empty window, after any calls, an accepted arrival leaves the picture of the last eight accepted, itself the last
abbrev pub Afresh : Type 0
Afresh =
    (w : Window) → Empty w → (calls : List Counted) (u : Counted) → (call_window u (after_calls w calls)).number ≡ 0
    → Shows (window_gates w) (call_window u (after_calls w calls)).window (accepted w calls ++ (u ∷ []))

-- `still_afresh`: after any calls, once one was accepted
abbrev pub StillAfresh : Type 0
StillAfresh = (w : Window) → Empty w → (calls : List Counted) → 0 < length (accepted w calls) → Shows (window_gates w) (after_calls w calls) (accepted w calls)

-- ---- a gate of the picture

-- what window v shows at gate g
pub record ShownAs (v : Window) (g : ℕ) (wind : Float) (mark : ℕ) : Type 0 where
  pub picture : get_or v.picture g nan ≡ wind
  pub marks : get_or v.marks g 0 ≡ mark

-- `picture_shows`: where the gate shows winds in the last eight accepted arrivals, the picture has their median, and the mark is 0
abbrev pub PictureShows : Type 0
PictureShows =
    (w : Window) → Empty w → (calls : List Counted) → 0 < length (accepted w calls) → (g : ℕ) → g < window_gates w
    → 0 < length (winds_in (last_eight (accepted w calls)) g)
    → (x : Float) × Middle x (winds_in (last_eight (accepted w calls)) g) × ShownAs (after_calls w calls) g x 0

-- `picture_empty`: where it shows none, the picture has 0, and the mark is 1
abbrev pub PictureEmpty : Type 0
PictureEmpty =
    (w : Window) → Empty w → (calls : List Counted) → 0 < length (accepted w calls) → (g : ℕ) → g < window_gates w
    → length (winds_in (last_eight (accepted w calls)) g) ≡ 0 → ShownAs (after_calls w calls) g (real (pos 0)) 1
