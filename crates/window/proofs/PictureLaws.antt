-- A gate of the picture after any calls: the winds of accepted arrivals are numbers, and what the picture has there. Assumes nothing.
use Prim.Native.Nat.{ℕ, zero, suc, ◌-◌, ◌<◌}
use native.Mathlib.Omega.{arith}
use mathlib.Core.Path.{◌≡◌, refl, sym, ap, ◌∙◌, subst}
use mathlib.Core.Bool.{Bool, true, false, cond}
use mathlib.Core.Option.{Option, none, some}
use mathlib.Core.List.{List, [], ◌∷◌}
use lib.ListN.{length, get_or, drop}
use lib.IntN.{pos}
use lib.Ieee.{Float, nan}
use borrow.Author.Tests.{ne_eqb}
use Rattle.lists.specs.Seq.{All}
use Rattle.lists.proofs.SeqLaws.{tab_at}
use Rattle.lists.proofs.AllLaws.{all_append}
use Rattle.arithmetic.specs.Rounding.{real}
use Rattle.sweep.specs.Velocity.{Counted}
use Rattle.sweep.proofs.QuestionLaws.{all_yes}
use Rattle.window.specs.Median.{placed, middle, median, mark, Number}
use Rattle.window.specs.Window.{Window, shows_at, asked_window, call_window}
use Rattle.window.specs.Sequence.{window_gates, wind_at, winds_in, picture_of, marks_of, last_eight, after_calls, accepted}
use Rattle.window.specs.Theorems.{Shows, ShownAs}
use Rattle.window.proofs.TakeLaws.{sized_all, same_product, after_yes}
use Rattle.window.proofs.CallLaws.{call_none, call_some}
use Rattle.window.proofs.Numbers.{Sound, wind_number}
use Rattle.window.proofs.SequenceLaws.{taken, never_0, size_kept, accepted_more}

-- ---- the winds of accepted arrivals are numbers

sound : (n : ℕ) (u : Counted) (w : Window) → window_gates w ≡ n → asked_window u w ≡ none → Sound n u
sound n u w e h =
    let z = sized_all u w h in
    let p = same_product u w h ∙ e in
    let five = all_yes _ _ (all_yes _ _ (after_yes u w h)).1 in
    let seven = all_yes _ _ five.1 in
    record { gates = p; vel = z.vel ∙ p; mask = z.mask ∙ p; nyquist = five.0; speeds = seven.0; counts = (all_yes _ _ seven.1).0 }

-- one call
sound_call : (n : ℕ) (u : Counted) (w : Window) → window_gates w ≡ n → All (Sound n) (taken u w) × (window_gates (call_window u w).window ≡ n)
sound_call n u w e = go (asked_window u w) refl
  where
    go : (o : Option ℕ) → asked_window u w ≡ o → All (Sound n) (taken u w) × (window_gates (call_window u w).window ≡ n)
    go none h = rw (call_none u w h) ((sound n u w e h, tt), size_kept u w ∙ e)
    go (some zero) h = absurd (never_0 u w h)
    go (some (suc k)) h = rw (call_some u w (suc k) h, ne_eqb (suc k) 0 (λ x. omega arith)) (tt, e)

sound_calls : (n : ℕ) (us : List Counted) (w : Window) → window_gates w ≡ n → All (Sound n) (accepted w us)
unfolding accepted
sound_calls n [] w e = tt
sound_calls n (u ∷ us) w e =
    let q = sound_call n u w e in
    subst (All (Sound n)) (sym (accepted_more u w us)) (all_append (Sound n) (taken u w) (accepted (call_window u w).window us) q.0 (sound_calls n us (call_window u w).window q.1))

all_drop : (P : Counted → Type 0) (k : ℕ) (l : List Counted) → All P l → All P (drop k l)
all_drop P zero l a = a
all_drop P (suc k) [] a = tt
all_drop P (suc k) (x ∷ l) a = all_drop P k l a.1

numbers_in : (n : ℕ) (l : List Counted) (g : ℕ) → g < n → All (Sound n) l → All Number (winds_in l g)
unfolding winds_in
numbers_in n [] g h a = tt
numbers_in n (u ∷ l) g h a = go (shows_at u g) (wind_number n u g a.0 h) (numbers_in n l g h a.1)
  where
    go : (b : Bool) → (b ≡ true → Number (wind_at u g)) → All Number (winds_in l g) → All Number (cond b (wind_at u g ∷ winds_in l g) (winds_in l g))
    go true f r = (f refl, r)
    go false f r = r

pub numbers : (w : Window) (calls : List Counted) (g : ℕ) → g < window_gates w → All Number (winds_in (last_eight (accepted w calls)) g)
unfolding last_eight
numbers w calls g h =
    numbers_in (window_gates w) (drop (length (accepted w calls) - 8) (accepted w calls)) g h
    (all_drop (Sound (window_gates w)) (length (accepted w calls) - 8) (accepted w calls) (sound_calls (window_gates w) calls w refl))

-- ---- a gate of the picture

pub no_median : (vs : List Float) → length vs ≡ 0 → (median vs ≡ real (pos 0)) × (mark vs ≡ 1)
unfolding median placed middle mark
no_median [] h = (refl, refl)
no_median (v ∷ vs) h = absurd (omega arith)

pub shown_as : (w : Window) (calls : List Counted) → Shows (window_gates w) (after_calls w calls) (accepted w calls) → (g : ℕ) → g < window_gates w
    → (x : Float) (m : ℕ) → median (winds_in (last_eight (accepted w calls)) g) ≡ x → mark (winds_in (last_eight (accepted w calls)) g) ≡ m → ShownAs (after_calls w calls) g x m
unfolding picture_of marks_of
shown_as w calls s g h x m ex em = record {
  picture = ap (λ (l : List Float). get_or l g nan) s.picture ∙ tab_at (λ k. median (winds_in (last_eight (accepted w calls)) k)) (window_gates w) g nan h ∙ ex;
  marks = ap (λ (l : List ℕ). get_or l g 0) s.marks ∙ tab_at (λ k. mark (winds_in (last_eight (accepted w calls)) k)) (window_gates w) g 0 h ∙ em;
}
