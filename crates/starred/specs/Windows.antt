-- The window of the last sweeps: medians, a series of calls with its pictures and marks, and single calls, each computed.
use Rattle.std.specs.Prelude.{ℕ, ◌*◌, ◌≡◌, refl, List, [], ◌∷◌, ◌++◌, map, ℤ, pos, negsuc, take, replicate}
use Rattle.std.specs.Float.{nan, binary32}
use Rattle.std.specs.Float.Ieee.{of_int}
use Rattle.lists.specs.Seq.{upto}
use Rattle.arithmetic.specs.Rounding.{real}
use Rattle.sweep.specs.Velocity.{Counted, counted}
use Rattle.window.specs.Median.{median}
use Rattle.window.specs.Window.{Window, window_of, call_window}
use Rattle.window.specs.Sequence.{after_calls}
use Rattle.window.specs.Evaluating.{evaluating}

-- ---- medians: of none 0, of an even number the lower of the two middle ones

medians : map (λ vs. median (map real vs)) (
    []
    ∷ (pos 7 ∷ [])
    ∷ (pos 9 ∷ pos 3 ∷ [])
    ∷ (pos 9 ∷ negsuc 8 ∷ pos 3 ∷ [])
    ∷ (pos 4 ∷ pos 4 ∷ pos 1 ∷ pos 8 ∷ [])
    ∷ (negsuc 0 ∷ negsuc 4 ∷ negsuc 2 ∷ negsuc 3 ∷ negsuc 1 ∷ negsuc 5 ∷ [])
    ∷ (pos 8 ∷ pos 1 ∷ pos 7 ∷ pos 2 ∷ pos 6 ∷ pos 3 ∷ pos 5 ∷ pos 4 ∷ [])
    ∷ []
    ) ≡ map real (pos 0 ∷ pos 7 ∷ pos 3 ∷ pos 3 ∷ pos 4 ∷ negsuc 3 ∷ pos 4 ∷ [])
unfolding evaluating
medians = refl

-- ---- a series of calls on one window of one gate

-- an arrival of one gate: Nyquist, velocity, mask byte, fold count, label
abbrev one : ℤ → ℤ → ℕ → ℤ → ℕ → Counted
one n v m c l = counted 1 1 (of_int binary32 n) (of_int binary32 v ∷ []) (m ∷ []) (c ∷ []) (l ∷ [])

-- the same at Nyquist 10, valid and in a region, not folded
abbrev wind : ℤ → Counted
wind v = one (pos 10) v 1 (pos 0) 1

-- a window of so many rays and gates, empty; its memory holds anything
abbrev window : ℕ → ℕ → Window
window rays gates = let n = rays * gates in window_of (rays ∷ gates ∷ 0 ∷ 0 ∷ []) (replicate (8 * n) nan) (replicate (8 * n) 1) (replicate n nan) (replicate n 9)

abbrev calls : List Counted
calls =
    -- no wind: masked; none: in no region; refused by 10
    one (pos 10) (pos 9) 0 (pos 3) 1
    ∷ one (pos 10) (pos 9) 1 (pos 9999) 0
    ∷ one (pos 10) (pos 9) 1 (pos 2001) 1
    -- 9; 9 - 20 at Nyquist 10; 9 + 24 at Nyquist 12
    ∷ wind (pos 9)
    ∷ one (pos 10) (pos 9) 1 (negsuc 0) 5
    ∷ one (pos 12) (pos 9) 1 (pos 1) 7
    -- 1 to 5, so that the two without a wind leave; a refusal by 3; then 6, and the 9 leaves, 7, and the -11 leaves
    ∷ wind (pos 1) ∷ wind (pos 2) ∷ wind (pos 3) ∷ wind (pos 4) ∷ wind (pos 5)
    ∷ one (pos 10) (pos 9) 2 (pos 0) 1
    ∷ wind (pos 6) ∷ wind (pos 7) ∷ []

-- the picture after each call
pictures : map (λ k. (after_calls (window 1 1) (take k calls)).picture) (upto 14 1)
    ≡ map (λ z. real z ∷ []) (
    pos 0 ∷ pos 0 ∷ pos 0 ∷ pos 9 ∷ negsuc 10 ∷ pos 9 ∷ pos 1 ∷ pos 2 ∷ pos 2 ∷ pos 3 ∷ pos 3 ∷ pos 3 ∷ pos 3 ∷ pos 4 ∷ []
    )
unfolding evaluating
pictures = refl

-- its mark: 1 until a wind is shown
marks : map (λ k. (after_calls (window 1 1) (take k calls)).marks) (upto 4 1) ≡ (1 ∷ []) ∷ (1 ∷ []) ∷ (1 ∷ []) ∷ (0 ∷ []) ∷ []
unfolding evaluating
marks = refl

-- the four words, sweeps held and next place the last two, after calls 1 to 3 and 12 to 14: a refusal leaves them
places : map (λ k. (after_calls (window 1 1) (take k calls)).words) (upto 3 1 ++ upto 3 12)
    ≡ (1 ∷ 1 ∷ 1 ∷ 1 ∷ []) ∷ (1 ∷ 1 ∷ 2 ∷ 2 ∷ []) ∷ (1 ∷ 1 ∷ 2 ∷ 2 ∷ [])
    ∷ (1 ∷ 1 ∷ 8 ∷ 2 ∷ []) ∷ (1 ∷ 1 ∷ 8 ∷ 3 ∷ []) ∷ (1 ∷ 1 ∷ 8 ∷ 4 ∷ []) ∷ []
unfolding evaluating
places = refl

-- ---- single calls, by their numbers

-- an arrival of so many rays and gates, each gate 9 in region 1
abbrev nines : ℕ → ℕ → Counted
nines rays gates =
    let n = rays * gates in
    counted rays gates (of_int binary32 (pos 10)) (replicate n (of_int binary32 (pos 9))) (replicate n 1) (replicate n (pos 0)) (replicate n 1)

-- a window of one gate whose four words are these
abbrev words : List ℕ → Window
words ws = window_of ws (replicate 8 nan) (replicate 8 1) (nan ∷ []) (9 ∷ [])

numbers : ◌≡◌ {A = List ℕ} (
    (call_window (nines 2 3) (window 2 3)).number
    -- 14: 2 × 3 into 3 × 2, and sizes without gates
    ∷ (call_window (nines 2 3) (window 3 2)).number
    ∷ (call_window (nines 0 5) (window 0 5)).number
    ∷ (call_window (nines 0 5) (window 0 4)).number
    ∷ (call_window (nines 0 5) (window 5 0)).number
    -- 1: the window's size; 2: nine held, place 8, three words, a window of another size than its memory
    ∷ (call_window (nines 1 1) (words (721 ∷ 0 ∷ 0 ∷ 0 ∷ []))).number
    ∷ (call_window (nines 1 1) (words (1 ∷ 1 ∷ 9 ∷ 0 ∷ []))).number
    ∷ (call_window (nines 1 1) (words (1 ∷ 1 ∷ 8 ∷ 8 ∷ []))).number
    ∷ (call_window (nines 1 1) (words (1 ∷ 1 ∷ 0 ∷ []))).number
    ∷ (call_window (nines 1 1) (words (1 ∷ 2 ∷ 0 ∷ 0 ∷ []))).number
    -- 10 comes before 14, and 1 of the window before 2 of the arrival
    ∷ (call_window (one (pos 10) (pos 9) 1 (pos 2001) 1) (window 1 2)).number
    ∷ (call_window (counted 1 1 (of_int binary32 (pos 10)) [] [] [] []) (words (0 ∷ 1201 ∷ 0 ∷ 0 ∷ []))).number
    ∷ []
    ) (0 ∷ 14 ∷ 0 ∷ 14 ∷ 14 ∷ 1 ∷ 2 ∷ 2 ∷ 2 ∷ 2 ∷ 10 ∷ 1 ∷ [])
unfolding evaluating
numbers = refl
