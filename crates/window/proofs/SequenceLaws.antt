-- Calls one after another: what a window shows after calls of which those in a list were accepted. Assumes nothing.
use Prim.Native.Nat.{ℕ, zero, suc, ◌-◌, ◌*◌, ◌%◌, ◌<◌}
use native.Mathlib.Omega.{arith}
use mathlib.Core.Path.{◌≡◌, refl, sym, ap, ◌∙◌, subst}
use mathlib.Core.Bool.{Bool, true, false, cond}
use mathlib.Core.Option.{Option, none, some}
use mathlib.Core.List.{List, [], ◌∷◌, ◌++◌, append-nil, append_assoc}
use lib.Dec.{eqb}
use lib.ListN.{length, get_or, set, drop}
use lib.Seq.{get_or-set_other}
use borrow.Author.Tests.{ne_eqb}
use Rattle.sweep.specs.Entry.{answer_of}
use Rattle.sweep.specs.Velocity.{Counted}
use Rattle.window.specs.Window.{Window, words_of, lengths_of, more, after, winds_from, gates_of, asked_window, added, call_window}
use Rattle.window.specs.Sequence.{window_gates, Empty, after_calls, accepted, last_eight, winds_in, picture_of, marks_of}
use Rattle.window.specs.Theorems.{Shows}
use Rattle.window.proofs.AskLaws.{asked_none}
use Rattle.window.proofs.TakeLaws.{sized_all, same_product}
use Rattle.window.proofs.CallLaws.{call_none, call_some}
use Rattle.window.proofs.RingLaws.{Ring, ring_more, picture_drawn, marks_drawn}

-- the window after calls of which those in l were accepted: n gates, the ring, and what it shows once there is an accepted arrival
pub record Follows (n : ℕ) (w : Window) (l : List Counted) : Type 0 where
  pub size : window_gates w ≡ n
  pub ring : Ring n w l
  pub shows : 0 < length l → Shows n w l

-- the arrival, where the call accepts it
abbrev pub taken : Counted → Window → List Counted
taken u w = cond (eqb (call_window u w).number 0) (u ∷ []) []

-- ---- one call

-- no question has the number 0
pub never_0 : (u : Counted) (w : Window) → asked_window u w ≡ some 0 → ⊥
never_0 u w e =
    let p = asked_none u (words_of w) (lengths_of w) 0 (sym (ap answer_of e)) refl in
    let z : ◌≡◌ {A = ℕ} 0 1 = cc in
    omega arith

-- an arrival leaves the window's size
pub size_kept : (u : Counted) (w : Window) → window_gates (added u w) ≡ window_gates w
unfolding added
size_kept u w =
    let h = more (words_of w).held in
    let p = after (words_of w).next in
    let ws = set w.words 2 h in
    let r : get_or (set ws 3 p) 0 0 ≡ (words_of w).rays = get_or-set_other ws 3 0 p 0 (λ e. omega arith) ∙ get_or-set_other w.words 2 0 h 0 (λ e. omega arith) in
    let g : get_or (set ws 3 p) 1 0 ≡ (words_of w).gates = get_or-set_other ws 3 1 p 0 (λ e. omega arith) ∙ get_or-set_other w.words 2 1 h 0 (λ e. omega arith) in
    λ i. r i * g i

-- an accepted arrival
follows_more : (n : ℕ) (u : Counted) (w : Window) (l : List Counted) → asked_window u w ≡ none → gates_of u ≡ n → Follows n w l → Follows n (added u w) (l ++ (u ∷ []))
follows_more n u w l e h s =
    let z = sized_all u w e in
    let q = same_product u w e in
    let ws : length w.winds ≡ 8 * gates_of u = z.winds ∙ ap (λ (x : ℕ). 8 * x) (sym q) in
    let bs : length w.shown ≡ 8 * gates_of u = z.shown ∙ ap (λ (x : ℕ). 8 * x) (sym q) in
    let r : Ring (gates_of u) w l = subst (λ (x : ℕ). Ring x w l) (sym h) s.ring in
    record {
      size = size_kept u w ∙ s.size;
      ring = subst (λ (x : ℕ). Ring x (added u w) (l ++ (u ∷ []))) h (ring_more u w l z.words ws bs r);
      shows = λ _. record {
        picture = picture_drawn u w l z.words ws bs r ∙ ap (λ (x : ℕ). picture_of x (last_eight (l ++ (u ∷ [])))) h;
        marks = marks_drawn u w l z.words ws bs r ∙ ap (λ (x : ℕ). marks_of x (last_eight (l ++ (u ∷ [])))) h;
      };
    }

-- any call
pub follows_call : (n : ℕ) (u : Counted) (w : Window) (l : List Counted) → Follows n w l → Follows n (call_window u w).window (l ++ taken u w)
follows_call n u w l s = go (asked_window u w) refl
  where
    go : (o : Option ℕ) → asked_window u w ≡ o → Follows n (call_window u w).window (l ++ taken u w)
    go none e = rw (call_none u w e) (follows_more n u w l e (same_product u w e ∙ s.size) s)
    go (some zero) e = absurd (never_0 u w e)
    go (some (suc k)) e = rw (call_some u w (suc k) e, ne_eqb (suc k) 0 (λ x. omega arith), append-nil l) s

-- ---- any calls

pub accepted_more : (u : Counted) (w : Window) (us : List Counted) → accepted w (u ∷ us) ≡ taken u w ++ accepted (call_window u w).window us
unfolding accepted
accepted_more u w us = go (eqb (call_window u w).number 0)
  where
    go : (b : Bool) → cond b (u ∷ accepted (call_window u w).window us) (accepted (call_window u w).window us) ≡ cond b (u ∷ []) [] ++ accepted (call_window u w).window us
    go true = refl
    go false = refl

follows_calls : (n : ℕ) (us : List Counted) (w : Window) (l : List Counted) → Follows n w l → Follows n (after_calls w us) (l ++ accepted w us)
unfolding after_calls accepted
follows_calls n [] w l s = rw (append-nil l) s
follows_calls n (u ∷ us) w l s =
    subst (λ (m : List Counted). Follows n (after_calls (call_window u w).window us) m)
    (append_assoc l (taken u w) (accepted (call_window u w).window us) ∙ ap (λ (m : List Counted). l ++ m) (sym (accepted_more u w us)))
    (follows_calls n us (call_window u w).window (l ++ taken u w) (follows_call n u w l s))

-- an empty window follows no arrival
follows_none : (w : Window) → Empty w → Follows (window_gates w) w []
unfolding winds_from winds_in
follows_none w e = record {
  size = refl;
  ring = record { number = e.none_held; place = e.first_place; winds = λ t g h k m. nothing t (omega arith) g };
  shows = λ h. absurd (omega arith);
}
  where
    nothing : (t : ℕ) → t ≡ 0 → (g : ℕ) → winds_from w.winds w.shown (window_gates w) g (t % 8) (0 - t) ≡ winds_in (drop t []) g
    nothing t z g = rw z refl

pub follows_all : (w : Window) → Empty w → (us : List Counted) → Follows (window_gates w) (after_calls w us) (accepted w us)
follows_all w e us = follows_calls (window_gates w) us w [] (follows_none w e)
