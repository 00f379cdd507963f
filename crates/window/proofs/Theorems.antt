-- The theorems of specs/Theorems. Assumes nothing.
use Prim.Native.Nat.{ℕ, ◌*◌, ◌<◌}
use native.Mathlib.Omega.{arith}
use mathlib.Core.Path.{◌≡◌, refl, sym, ap, ◌∙◌, subst}
use mathlib.Core.Option.{Option, none, some}
use mathlib.Core.List.{[], ◌∷◌, ◌++◌}
use lib.ListN.{length, length-append}
use Rattle.lists.specs.Inside.Seg.{seg}
use Rattle.sweep.specs.Entry.{answer_of}
use Rattle.window.specs.Window.{WindowAnswer, words_of, gates_of, asked_window, added, call_window}
use Rattle.window.specs.Median.{median}
use Rattle.window.specs.Sequence.{window_gates, after_calls, accepted, last_eight, winds_in}
use Rattle.window.specs.Theorems.{WindowAnswerIs, WindowRefusalKeeps, WindowTakes, Stays, gate_at, PlacesStay, Afresh, StillAfresh, PictureShows, PictureEmpty}
use Rattle.window.proofs.CallLaws.{call_none, call_some}
use Rattle.window.proofs.VelocityLaws.{velocities_left, window_asked, winds_there}
use Rattle.window.proofs.RingLaws.{old_wind, old_byte}
use Rattle.window.proofs.SequenceLaws.{Follows, follows_call, follows_all}
use Rattle.window.proofs.MedianLaws.{mark_some}
use Rattle.window.proofs.MedianMeaning.{median_middle}
use Rattle.window.proofs.PictureLaws.{numbers, no_median, shown_as}

-- ---- one call

pub window_answer_is : WindowAnswerIs
window_answer_is u w = go (asked_window u w) refl
  where
    go : (o : Option ℕ) → asked_window u w ≡ o → (call_window u w).number ≡ answer_of (asked_window u w)
    go none e = ap (λ (a : WindowAnswer). a.number) (call_none u w e) ∙ sym (ap answer_of e)
    go (some k) e = ap (λ (a : WindowAnswer). a.number) (call_some u w k e) ∙ sym (ap answer_of e)

pub window_refusal_keeps : WindowRefusalKeeps
window_refusal_keeps u w p = go (asked_window u w) refl
  where
    go : (o : Option ℕ) → asked_window u w ≡ o → (call_window u w).window ≡ w
    go none e = absurd (omega (arith, p, ap (λ (a : WindowAnswer). a.number) (call_none u w e)))
    go (some k) e = ap (λ (a : WindowAnswer). a.window) (call_some u w k e)

pub window_takes : WindowTakes
unfolding added
window_takes u w out z f r g =
    let asked = window_asked u out z w f r g in
    let c = call_none u w asked in
    record {
      number = ap (λ (a : WindowAnswer). a.number) c;
      winds = ap (λ (a : WindowAnswer). seg a.window.winds ((words_of w).next * gates_of u) (gates_of u)) c ∙ winds_there u w asked ∙ sym (velocities_left u out z);
    }

pub places_stay : PlacesStay
unfolding added
places_stay u w p g z h m = go (asked_window u w) refl
  where
    kept : Stays w (added u w) (gate_at u p g)
    kept = record { wind = old_wind u w p g h m; byte = old_byte u w p g h m }

    go : (o : Option ℕ) → asked_window u w ≡ o → Stays w (call_window u w).window (gate_at u p g)
    go none e = subst (λ (a : WindowAnswer). Stays w a.window (gate_at u p g)) (sym (call_none u w e)) kept
    go (some k) e = subst (λ (a : WindowAnswer). Stays w a.window (gate_at u p g)) (sym (call_some u w k e)) (record { wind = refl; byte = refl })

-- ---- any calls

pub still_afresh : StillAfresh
still_afresh w e calls h = (follows_all w e calls).shows h

pub afresh : Afresh
afresh w e calls u h = s.shows some_more
  where
    s : Follows (window_gates w) (call_window u (after_calls w calls)).window (accepted w calls ++ (u ∷ []))
    s = rw h at (follows_call (window_gates w) u (after_calls w calls) (accepted w calls) (follows_all w e calls))

    some_more : 0 < length (accepted w calls ++ (u ∷ []))
    some_more = omega (arith, length-append (accepted w calls) (u ∷ []))

-- ---- a gate of the picture

pub picture_shows : PictureShows
picture_shows w e calls h g m s =
    let vs = winds_in (last_eight (accepted w calls)) g in
    (median vs, median_middle vs s (numbers w calls g m), shown_as w calls (still_afresh w e calls h) g m (median vs) 0 refl (mark_some vs s))

pub picture_empty : PictureEmpty
picture_empty w e calls h g m z =
    let n = no_median (winds_in (last_eight (accepted w calls)) g) z in
    shown_as w calls (still_afresh w e calls h) g m _ 1 n.0 n.1
