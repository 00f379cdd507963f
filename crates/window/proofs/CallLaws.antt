-- The call as its code makes it, ws being the window's words as the code read them; and one call by what the questions say. Assumes nothing.
use Prim.Native.Nat.{ℕ}
use mathlib.Core.Path.{◌≡◌, refl, sym, ap, ◌∙◌}
use mathlib.Core.Option.{Option, none, some}
use Rattle.sweep.specs.Velocity.{Counted}
use Rattle.window.specs.declared.questions.Words.{Words}
use Rattle.window.specs.Window.{Window, WindowAnswer, words_of, lengths_of, asked_by, asked_window, added, call_window}

module _ (u : Counted) (w : Window) where
  pub call_none : asked_window u w ≡ none → call_window u w ≡ record { number = 0; window = added u w }
  unfolding call_window
  call_none e = rw (e, call_window) refl

  pub call_some : (k : ℕ) → asked_window u w ≡ some k → call_window u w ≡ record { number = k; window = w }
  unfolding call_window
  call_some k e = rw (e, call_window) refl

  module _ (r : Option ℕ) (ws : Words) (read : ws ≡ words_of w) (e : r ≡ asked_by u ws (lengths_of w)) where
    asked : r ≡ asked_window u w
    asked = e ∙ ap (λ (x : Words). asked_by u x (lengths_of w)) read

    pub call_missed : (k : ℕ) → r ≡ some k → ◌≡◌ {A = WindowAnswer} (record { number = k; window = w }) (call_window u w)
    call_missed k h = sym (call_some k (sym asked ∙ h))

    pub call_asked : r ≡ none → asked_window u w ≡ none
    call_asked h = sym asked ∙ h

  pub call_taken : (v : Window) → asked_window u w ≡ none → v ≡ added u w → ◌≡◌ {A = WindowAnswer} (record { number = 0; window = v }) (call_window u w)
  call_taken v h e = (λ i. record { number = 0; window = e i }) ∙ sym (call_none h)
