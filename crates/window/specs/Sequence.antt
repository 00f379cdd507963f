-- U11: calls one after another on one window, and the picture of the last eight accepted arrivals worked out afresh.
use Rattle.std.specs.Prelude.{ℕ, ◌-◌, ◌*◌, ◌≡◌, cond, List, [], ◌∷◌, eqb, length, get_or, drop, pos, Float}
use Rattle.std.specs.Float.{nan}
use Rattle.lists.specs.Seq.{tabulate}
use Rattle.sweep.specs.Velocity.{Counted, wind}
use Rattle.window.specs.Median.{median, mark}
use Rattle.window.specs.Window.{Window, words_of, shows_at, call_window}

-- the gates of a window
abbrev pub window_gates : Window → ℕ
window_gates w = (words_of w).rays * (words_of w).gates

-- an empty window, whatever its memory holds
pub record Empty (w : Window) : Type 0 where
  pub none_held : (words_of w).held ≡ 0
  pub first_place : (words_of w).next ≡ 0

-- the window after these calls, each made on what the one before left
unfoldable pub after_calls : Window → List Counted → Window
after_calls w [] = w
after_calls w (u ∷ us) = after_calls (call_window u w).window us

-- those of these arrivals that were accepted: answered 0
unfoldable pub accepted : Window → List Counted → List Counted
accepted w [] = []
accepted w (u ∷ us) = let rest = accepted (call_window u w).window us in cond (eqb (call_window u w).number 0) (u ∷ rest) rest

-- the last eight of them; all while fewer
unfoldable pub last_eight : List Counted → List Counted
last_eight us = drop (length us - 8) us

-- the wind of gate g of an arrival: velocity + count × 2 × Nyquist
unfoldable pub wind_at : Counted → ℕ → Float
wind_at u g = wind u.nyquist (get_or u.vel g nan) (get_or u.counts g (pos 0))

-- the winds that gate g shows in these arrivals: of those alone in which it is valid and labelled
unfoldable pub winds_in : List Counted → ℕ → List Float
winds_in [] g = []
winds_in (u ∷ us) g = let rest = winds_in us g in cond (shows_at u g) (wind_at u g ∷ rest) rest

-- the picture of these arrivals, of n gates each: at each gate the median of the winds that it shows
unfoldable pub picture_of : ℕ → List Counted → List Float
picture_of n us = tabulate n (λ g. median (winds_in us g))

-- and its marks
unfoldable pub marks_of : ℕ → List Counted → List ℕ
marks_of n us = tabulate n (λ g. mark (winds_in us g))
